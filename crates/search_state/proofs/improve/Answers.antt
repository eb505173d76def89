use mathlib.Core.Path.{refl}
use Rattle.search_state.proofs.Steps.{improve_is}
use Rattle.search_state.proofs.improve.Goals as goal

pub returns : goal.returns
returns c =
    improve_is c.args.lay c.args.stamp c.args.s c.args.v c.args.how c.args.work.now c.args.labels.now c.args.label_distances.now c.args.h c.requires.ready c.requires.s_bound _ _ _ _ _ _ c.mark-count.ensures refl c.store_label.ensures.labels_new c.store_label.ensures.label_distances_new (rw c.rest_at.ensures at c.best_after-best.ensures)
