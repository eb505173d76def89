use Rattle.loops.specs.Count as counting
use Rattle.arc_flags.specs.Skipping.{Aimed, row_skipped}
use Rattle.model.specs.Tables.{Tables, Query}
use mathlib.Core.Bool.{Bool}
use mathlib.Core.Path.{◌≡◌}
use Prim.Native.Nat.{ℕ, ◌+◌, ◌<◌, ◌≤◌}
use lib.ListN.{length, get_or}
use Rattle.arc_flags.proofs.count_skipped.Given as goal

abbrev pub invariant-loop-k : goal.invariant-loop-k
invariant-loop-k l =
    ((l.skipped ≤ l.k) × (length l.counts ≡ length l.initial.counts))
    × ((T : Tables) (Q : Query) → Aimed T Q l.patterns l.count l.target → let f : ℕ → Bool = λ i. row_skipped T Q l.transfers (l.from + i) in (l.skipped ≡ counting.count f l.k) × ((j : ℕ) → j < l.k → get_or l.counts j 0 ≡ counting.count f j))
