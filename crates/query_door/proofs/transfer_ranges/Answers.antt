use Rattle.door.specs.Door.{time_limit}
use Rattle.query_door.proofs.Once.{time_kept}
use lib.Dec.{leb, ltb}
use Rattle.loops.proofs.Iter.{every_keep, every_kept}
use Rattle.query_door.specs.Door.{column_at, column_below, transfer_ranges}
use native.Mathlib.Omega.{arith}
use mathlib.Core.Path.{refl}
use Prim.Native.Nat.{◌+◌}
use Rattle.query_door.proofs.transfer_ranges.Goals as goal

pub loop-k-init : goal.loop-k-init
unfolding transfer_ranges column_below
loop-k-init c = (omega arith, refl)

pub loop-k-preserved : goal.loop-k-preserved
loop-k-preserved c =
    let l = c.loop-k in (omega arith, every_keep (λ i. ltb (column_at c.args.transfers.now 2 4 i) (time_limit + 1)) l.k c.args.transfer_rows (leb l.bits 1048575) l.invariant.1 (time_kept l.bits _ (column_at c.args.transfers.now 2 4 l.k) refl) (omega arith))

pub returns : goal.returns
returns c =
    let l = c.loop-k in every_kept (λ i. ltb (column_at c.args.transfers.now 2 4 i) (time_limit + 1)) l.k c.args.transfer_rows (leb l.bits 1048575) l.invariant.1 (omega arith)
