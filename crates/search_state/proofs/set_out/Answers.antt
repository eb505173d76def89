use Rattle.search_state.proofs.Starts.{start_late, start_early}
use Rattle.search_state.proofs.set_out.Goals as goal

pub returns-then-work-s : goal.returns-then-work-s
returns-then-work-s c =
    start_late c.args.lay c.args.start c.args.stop c.args.duration c.args.distance c.args.work.now c.args.labels.now c.args.label_distances.now c.args.h c.requires.starting c.requires.stop_bound _ c.if-work-s.true (rw c.rest_at.ensures at c.best_after-best.ensures)

pub returns : goal.returns
returns c =
    start_early c.args.lay c.args.start c.args.stop c.args.duration c.args.distance c.args.work.now c.args.labels.now c.args.label_distances.now c.args.h c.requires.starting c.requires.stop_bound _ _ _ _ _ c.if-work-s.false (rw c.rest_at.ensures at c.best_after-best.ensures) c.enter.ensures c.record_of.ensures c.store_label.ensures.labels_new c.store_label.ensures.label_distances_new
