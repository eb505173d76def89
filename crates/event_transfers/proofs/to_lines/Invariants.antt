use Rattle.event_transfers.specs.Packed.{laid, lay, targets}
use lib.ListN.{drop, length}
use mathlib.Core.Path.{◌≡◌}
use Prim.Native.Nat.{◌-◌, ◌≤◌}
use Rattle.event_transfers.proofs.to_lines.Given as goal

abbrev pub invariant-loop-k : goal.invariant-loop-k
invariant-loop-k l = (l.k ≤ length l.run) × (length l.area ≡ length l.initial.area) × (lay l.time (targets l.run l.ti l.w) (laid l.n l.initial.area) ≡ lay l.time (targets (drop l.k l.run) l.ti l.w) (laid l.m l.area))

abbrev pub decreases-loop-k : goal.decreases-loop-k
decreases-loop-k l = length l.run - l.k
