use Prim.Native.Nat.{◌*◌}
use Rattle.std.proofs.Common.{rules}
use borrow.Author.Tests.{tests}
use mathlib.Core.Path.{◌≡◌, ap, sym, ◌∙◌}
use mathlib.Core.Bool.{not}
use lib.Dec.{eqb}
use lib.Bits.{bit_or}
use Rattle.std.specs.List.{fold}
use Rattle.std.proofs.lemmas.Iterator.{YieldsList-from_slice}
use Rattle.std.proofs.lemmas.Iterator.Consumers.{fold_from_yields_List}
use Rattle.byte_words.specs.ByteWord.{eight_of, has_bit}
use Rattle.byte_words.proofs.Words.{not_not, word_some, words_taken, fold_taken}
use Rattle.byte_words.proofs.no_bit.Goals as goal

pub returns : goal.returns
returns c = λ g e.
    let all : c.fold.result ≡ fold bit_or 0 c.args.words = fold_from_yields_List _ bit_or 0 _ c.fold.ensures.ran (YieldsList-from_slice c.args.words (cc)) (λ a x b q k. search (rules, tests)) in
    sym (not_not (eqb c.fold.result 0))
    ∙ ap not (words_taken (eight_of g) (has_bit g) 8 _ (all ∙ ap (fold bit_or 0) e ∙ fold_taken (eight_of g) 0 8 0) (λ w u. word_some g (w * 8) 8))
