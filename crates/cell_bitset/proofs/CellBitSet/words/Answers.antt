use mathlib.Core.Path.{ap, ◌∙◌}
use mathlib.Core.List.{List}
use Prim.Native.Nat.{ℕ}
use Rattle.byte_words.specs.ByteWord.{byte_in, words_of}
use Rattle.byte_words.proofs.Words.{words_tab}
use Rattle.cell_bitset.specs.CellSet.{byte_upto}
use Rattle.cell_bitset.proofs.CellBitSet.words.Goals as goal

pub returns : goal.returns
returns c =
    c.words_of.ensures ∙ ap (λ (l : List ℕ). words_of (byte_in l)) c.cleared.ensures ∙ words_tab (byte_upto c.reserved_bytes-n.result c.args.self.bytes) ∙ ap (λ (n : ℕ). words_of (byte_upto n c.args.self.bytes)) c.reserved_bytes-n.ensures
