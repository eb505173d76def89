use Rattle.event_transfers.specs.Packed.{Stretch}
use lib.ListN.{get_or, length}
use mathlib.Core.Path.{◌≡◌}
use Prim.Native.Nat.{ℕ, ◌+◌, ◌<◌, ◌≤◌}
use Rattle.event_transfers.proofs.line_ends.Given as goal

abbrev pub invariant-loop-i : goal.invariant-loop-i
invariant-loop-i l = (length l.ends ≡ length l.initial.ends) × (l.i + l.left ≤ length l.work) × (l.i < length l.work → Stretch l.work l.i l.left) × ((j : ℕ) → l.i ≤ j → j < length l.work → Stretch l.work j (get_or l.ends j 0))
