use Rattle.line_layout.specs.Layout.{placed, run, trips_in}
use lib.ListN.{length}
use Rattle.loops.specs.Count.{tab}
use mathlib.Core.Path.{◌≡◌}
use Rattle.line_layout.proofs.place_run.Given as goal

abbrev pub invariant-loop-p : goal.invariant-loop-p
invariant-loop-p l = l.positions ≡ tab (placed (trips_in l.entries (run l.r.first l.p)) l.initial.positions) (length l.initial.positions)
