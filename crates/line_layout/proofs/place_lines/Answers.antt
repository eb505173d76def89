use Rattle.line_layout.specs.declared.LineRun.{LineRun}
use Rattle.line_layout.specs.Layout.{placed, trips_in}
use Rattle.line_layout.proofs.Placing.{length_tab, positions_again, positions_none}
use lib.ListN.{length}
use Rattle.loops.specs.Count.{tab}
use mathlib.Core.Path.{◌∙◌, ap}
use Rattle.line_layout.proofs.place_lines.Goals as goal

pub loop-l-init : goal.loop-l-init
loop-l-init c = positions_none _ _ c.requires.positions_is

pub place_run-requires-clause-positions_length : goal.place_run-requires-clause-positions_length
place_run-requires-clause-positions_length c = ap length c.loop-l.invariant ∙ length_tab _ _

pub loop-l-preserved : goal.loop-l-preserved
loop-l-preserved c =
    positions_again _ _ _ c.loop-l.invariant (c.place_run.ensures ∙ ap (λ (r : LineRun). tab (placed (trips_in c.args.entries.now r) c.loop-l.positions) c.args.c.trips) c.line_run.ensures.value)
