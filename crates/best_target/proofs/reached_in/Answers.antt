use Rattle.label.specs.Table.{loaded}
use Rattle.model.specs.Search.{reached_by}
use mathlib.Core.Path.{ap, ◌∙◌}
use native.Mathlib.Omega.{arith}
use Rattle.best_target.proofs.reached_in.Goals as goal

pub reached_by-requires : goal.reached_by-requires
reached_by-requires c =
    omega (arith, ap reached_by (c.load_label.ensures ∙ ap (loaded c.args.labels.now c.args.label_distances.now) c.record_of.ensures), c.requires.labels_ok.small c.args.stop c.args.row c.requires.stop_bound c.requires.row_bound)

pub returns : goal.returns
returns c =
    c.reached_by.ensures ∙ ap reached_by (c.load_label.ensures ∙ ap (loaded c.args.labels.now c.args.label_distances.now) c.record_of.ensures)
