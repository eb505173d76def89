use mathlib.Core.Path.{sym, refl, ap}
use borrow.Author.Rules.{rules}
use native.Mathlib.Omega.{arith}
use lib.ListN.{set}
use Rattle.cell_bitset.proofs.Fill.{filled_again, filled_done, byte-in, byte_out}
use Rattle.cell_bitset.proofs.cleared.Goals as goal

pub loop-i-init : goal.loop-i-init
loop-i-init c = (omega arith, record { long = search rules; below = λ k h. sym (byte-in _ c.args.bytes k h); above = λ k h. refl })

pub loop-i-preserved : goal.loop-i-preserved
loop-i-preserved c =
    (omega arith, filled_again _ _ _ _ _ c.loop-i.invariant.1 (ap (set c.loop-i.bytes c.loop-i.i) (sym (byte_out _ c.args.bytes _ c.loop-i.invariant.0))) (omega arith))

pub returns : goal.returns
returns c = filled_done _ _ _ _ c.loop-i.invariant.1 (λ k x u. absurd (omega arith))
