use Rattle.best_target.proofs.Laws.{best_ahead}
use Rattle.best_target.specs.Totals.{EarliestAre, target_of}
use Rattle.arc_flags.specs.Flags.{egress_rows}
use Rattle.model.specs.Search.{Arrivals, best_target}
use Rattle.model.specs.Tables.{Tables, Query, never}
use lib.ListN.{length}
use Prim.Native.Nat.{◌/◌}
use mathlib.Core.Path.{◌≡◌}
use Rattle.best_target.proofs.best_target.Given as goal

abbrev pub invariant-loop-i : goal.invariant-loop-i
invariant-loop-i l =
    (l.i-end ≡ length l.egress / 2) × ((T : Tables) (Q : Query) (a : Arrivals) → EarliestAre a l.stops l.work → best_target T Q a (egress_rows l.egress) (never, never) ≡ best_ahead T Q a l.egress l.i-end l.i (target_of l.best))
