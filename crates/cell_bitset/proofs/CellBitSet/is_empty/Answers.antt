use Prim.Native.Nat.{ℕ}
use mathlib.Core.Path.{refl}
use borrow.Author.Rules.{rules}
use native.Mathlib.Omega.{arith}
use lib.ListN.{get_or}
use Rattle.loops.proofs.Iter.{range_again, range_left}
use Rattle.cell_bitset.proofs.Laws.{none_gathered}
use mir.Val.{Fits}
use mir.Syntax.{w8}
use Rattle.cell_bitset.proofs.CellBitSet.is_empty.Goals as goal

pub loop-at-init : goal.loop-at-init
loop-at-init c = (omega arith, refl)

pub loop-at-preserved : goal.loop-at-preserved
loop-at-preserved c = (omega arith, range_again _ _ _ c.loop-at.invariant.1 refl (omega arith))

pub returns : goal.returns
returns c =
    let self = c.args.self in
    let small : (k : ℕ) → Fits w8 (get_or self.bytes k 0) = λ k. search rules in
    none_gathered self c.reserved_bytes-end.result c.loop-at.found (range_left _ _ _ c.loop-at.invariant.1 (omega arith)) c.reserved_bytes-end.ensures (λ k. (small k).fits)
