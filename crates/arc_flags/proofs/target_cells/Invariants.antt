use Rattle.arc_flags.proofs.Laws.{ahead}
use Rattle.arc_flags.specs.Flags.{egress_rows}
use Rattle.model.specs.Search.{target_cells}
use Rattle.model.specs.Tables.{Tables, Query}
use lib.ListN.{length, get_or}
use Prim.Native.Nat.{ℕ, ◌+◌, ◌*◌, ◌/◌, ◌<◌}
use mathlib.Core.Path.{◌≡◌}
use Rattle.arc_flags.proofs.target_cells.Given as goal

abbrev pub invariant-loop-i : goal.invariant-loop-i
invariant-loop-i l =
    (l.i-end ≡ length l.egress / 2) × ((k : ℕ) → k < l.i-end → l.from + get_or l.egress (k * 2) 0 < length l.tables) × (l.from < 4294967296)
    × ((T : Tables) (Q : Query) → ((s : ℕ) → T.timetable.cell s ≡ get_or l.tables (l.from + s) 0) → T.cells ≡ l.cells → Q.egress ≡ egress_rows l.egress → target_cells T Q ≡ ahead T l.egress l.i-end l.i l.set)
