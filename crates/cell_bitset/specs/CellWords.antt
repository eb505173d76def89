-- A cell set by its words. Definitions only.
-- Inner: nobody has to believe this.
use Rattle.std.specs.Prelude.{ℕ, List}
use Rattle.byte_words.specs.ByteWord.{words_of}
use Rattle.cell_bitset.specs.declared.CellBitSet.{CellBitSet}
use Rattle.cell_bitset.specs.CellSet.{byte_of}

-- the eight words of a set's bytes, 0 past the reserved ones
abbrev pub cell_words : CellBitSet → List ℕ
cell_words s = words_of (byte_of s)
