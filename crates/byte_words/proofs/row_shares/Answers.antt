use Prim.Native.Nat.{ℕ, ◌+◌, ◌*◌}
use mathlib.Core.Path.{ap, ◌∙◌}
use mathlib.Core.Bool.{not}
use mathlib.Core.List.{List}
use native.Mathlib.Omega.{arith}
use lib.Dec.{eqb}
use lib.ListN.{get_or}
use lib.Bits.{bit_and, bit_or}
use Rattle.loops.proofs.Iter.{range_again, range_left}
use Rattle.loops.proofs.Count.{get_d_tab}
use Rattle.byte_words.specs.ByteWord.{byte_in, eight_of, both_have}
use borrow.Author.Rules.{rules}
use Rattle.byte_words.proofs.Words.{fits_bytes, word_and, word_shift, words_taken}
use Rattle.byte_words.proofs.row_shares.Goals as goal

pub loop-w-preserved : goal.loop-w-preserved
loop-w-preserved c =
    range_again _ _ _ c.loop-w.invariant (ap (λ (x : ℕ). bit_or c.loop-w.shared (bit_and x (get_or c.args.words c.loop-w.w 0))) (c.word_at.ensures ∙ word_shift (byte_in c.args.bytes.now) c.args.at (c.loop-w.w * 8) 8)) (omega arith)

pub returns : goal.returns
returns c =
    let l = c.args.bytes.now in let at = c.args.at in let words = c.args.words in λ g q e. let f : ℕ → ℕ = λ i. byte_in l (at + i) in words_taken (λ k. bit_and (eight_of f k) (get_or words k 0)) (both_have f g) 8 _ (range_left _ _ _ c.loop-w.invariant (omega arith)) (λ w u. ap (λ (x : ℕ). not (eqb (bit_and (eight_of f w) x) 0)) (ap (λ (m : List ℕ). get_or m w 0) e ∙ get_d_tab (eight_of g) 8 w 0 u) ∙ word_and f g (record { small = λ k. (fits_bytes l (λ j. search rules)).small (at + k) }) q (w * 8) 8)
