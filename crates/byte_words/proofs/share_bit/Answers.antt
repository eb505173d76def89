use Prim.Native.Nat.{ℕ, ◌*◌, ◌-◌, ◌%◌, ◌^◌}
use mathlib.Core.Path.{ap, ap₂, sym, ◌∙◌}
use mathlib.Core.Bool.{not}
use native.Mathlib.Omega.{arith}
use borrow.Author.Rules.{rules}
use borrow.Author.Tests.{le-leb}
use lib.Dec.{eqb}
use lib.Bits.{bit_and}
use Rattle.byte_words.specs.ByteWord.{byte_in}
use Rattle.byte_words.proofs.Words.{fits_bytes, words_and, word_and_cut, word_yes, word_again, word_left}
use Rattle.byte_words.proofs.share_bit.Goals as goal

pub returns-then-n-from-ge8 : goal.returns-then-n-from-ge8
returns-then-n-from-ge8 c =
    le-leb _ _ c.if-n-from-ge8.true ∙ word_yes _ c.loop-from.from _ _ c.loop-from.invariant.2 (words_and c.args.a c.args.b c.loop-from.from (fits_bytes c.args.a (λ k. search rules)) (fits_bytes c.args.b (λ k. search rules)) c.word_at.ensures c.word_at-in-loop-from.ensures) c.if-shared-ne0.true (omega (arith, c.if-n-from-ge8.true))

pub returns-else-n-from-ge8 : goal.returns-else-n-from-ge8
returns-else-n-from-ge8 c =
    let k = c.args.n - c.loop-from.from in ap (λ (x : ℕ). not (eqb x 0)) (c.first_bytes.ensures ∙ ap₂ (λ (x y : ℕ). bit_and x y % 2 ^ (k * 8)) c.word_at.ensures c.word_at-in-loop-from.ensures) ∙ word_and_cut (byte_in c.args.a) (byte_in c.args.b) (fits_bytes c.args.a (λ k. search rules)) (fits_bytes c.args.b (λ k. search rules)) c.loop-from.from k c.if-n-from-ge8.false ∙ sym c.loop-from.invariant.2

pub loop-from-preserved : goal.loop-from-preserved
loop-from-preserved c =
    (omega (arith, c.loop-from.invariant.1), omega (arith, c.loop-from.invariant.1), word_again _ c.loop-from.from _ _ c.loop-from.invariant.2 (words_and c.args.a c.args.b c.loop-from.from (fits_bytes c.args.a (λ k. search rules)) (fits_bytes c.args.b (λ k. search rules)) c.word_at.ensures c.word_at-in-loop-from.ensures) c.if-shared-ne0.false (omega arith))

pub returns : goal.returns
returns c = word_left _ c.loop-from.from _ c.loop-from.invariant.2 (omega arith)
