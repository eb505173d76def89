use Rattle.best_target.proofs.Laws.{row_ahead}
use Rattle.best_target.specs.Totals.{Labelled, target_of}
use Rattle.arc_flags.specs.Flags.{egress_rows}
use Rattle.model.specs.Search.{Arrivals, row_target}
use Rattle.model.specs.Tables.{Tables, Query, never}
use lib.ListN.{length}
use Prim.Native.Nat.{◌/◌}
use mathlib.Core.Path.{◌≡◌}
use Rattle.best_target.proofs.row_target.Given as goal

abbrev pub invariant-loop-i : goal.invariant-loop-i
invariant-loop-i l =
    (l.i-end ≡ length l.egress / 2) × ((T : Tables) (Q : Query) (a : Arrivals) → Labelled a l.stops l.labels l.label_distances → row_target T Q a l.row (egress_rows l.egress) (never, never) ≡ row_ahead T Q a l.row l.egress l.i-end l.i (target_of l.best))
