use Rattle.event_transfers.specs.Packed.{targets}
use lib.ListN.{drop, length}
use Prim.Native.Nat.{ℕ, ◌+◌, ◌-◌, ◌≤◌}
use Rattle.event_transfers.proofs.lines_after.Given as goal

abbrev pub invariant-loop-k : goal.invariant-loop-k
invariant-loop-k l = (l.k ≤ length l.run) × (l.n ≤ l.k) × ((ti : ℕ) → length (targets l.run ti l.w) ≤ l.n + length (targets (drop l.k l.run) ti l.w))

abbrev pub decreases-loop-k : goal.decreases-loop-k
decreases-loop-k l = length l.run - l.k
