use Rattle.door.specs.Door.{time_limit}
use lib.Dec.{leb, ltb}
use Rattle.loops.specs.Iter.{every_in}
use Rattle.query_door.specs.Door.{column_at, transfer_ranges}
use mathlib.Core.Path.{◌≡◌}
use Prim.Native.Nat.{◌+◌, ◌≤◌}
use mathlib.Core.Bool.{◌&&◌}
use Rattle.query_door.proofs.transfer_ranges.Given as goal

abbrev pub invariant-loop-k : goal.invariant-loop-k
invariant-loop-k l = (l.k ≤ l.transfer_rows) × (transfer_ranges l.transfers l.transfer_rows ≡ leb l.bits 1048575 && every_in (λ i. ltb (column_at l.transfers 2 4 i) (time_limit + 1)) l.k l.transfer_rows)
