use Prim.Native.Nat.{◌<◌}
use mathlib.Core.Path.{sym, refl, ap, ap₂, ◌∙◌}
use borrow.Author.Rules.{rules}
use native.Mathlib.Omega.{arith}
use lib.ListN.{get_or, set}
use lib.Bits.{bit_or, or_zero_r}
use Rattle.cell_bitset.proofs.Fill.{filled_again, filled_done, byte-in, byte_out}
use Rattle.cell_bitset.proofs.merged.Goals as goal

pub loop-i-init : goal.loop-i-init
loop-i-init c = (omega arith, record { long = search rules; below = λ k h. absurd (omega arith); above = λ k h. refl })

pub loop-i-preserved : goal.loop-i-preserved
loop-i-preserved c =
    let old = c.args.bytes in
    let from = c.args.from in
    let i = c.loop-i.i in
    let h : i < c.args.n = omega arith in (
      omega arith,
      filled_again _ _ _ _ _ c.loop-i.invariant.1
          (ap (set c.loop-i.bytes i) (ap₂ bit_or (c.loop-i.invariant.1.above i (omega arith)) (sym (byte-in _ from i h))))
          (omega arith),
    )

pub returns : goal.returns
returns c =
    let old = c.args.bytes in
    filled_done _ _ _ _ c.loop-i.invariant.1
    (λ k x u. sym (ap (bit_or (get_or old k 0)) (byte_out _ c.args.from k (omega arith)) ∙ or_zero_r (get_or old k 0)))
