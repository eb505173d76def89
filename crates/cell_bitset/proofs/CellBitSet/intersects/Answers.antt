use Prim.Native.Nat.{ℕ, min}
use mathlib.Core.Path.{◌≡◌, ◌∙◌}
use native.Mathlib.Omega.{arith}
use borrow.Author.Rules.{rules}
use mir.Val.{Fits}
use mir.Syntax.{w8}
use lib.ListN.{get_or}
use Rattle.cell_bitset.specs.CellSet.{reserved_of}
use Rattle.cell_bitset.proofs.Laws.{meets_shorter}
use Rattle.cell_bitset.proofs.CellBitSet.intersects.Goals as goal

pub returns : goal.returns
returns c =
    let self = c.args.self in let other = c.args.other in let small : (k : ℕ) → Fits w8 (get_or self.bytes k 0) = λ k. search rules in let n : c.min.result ≡ min (reserved_of self) (reserved_of other) = omega (arith, c.min.ensures, c.reserved_bytes-a.ensures, c.reserved_bytes-b.ensures) in c.share_bit.ensures ∙ meets_shorter self other _ n (λ k. (small k).fits)
