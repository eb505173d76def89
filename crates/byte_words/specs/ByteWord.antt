-- Bytes as words: n bytes as one number, the first counting least (little-endian order); bits that two rows of bytes share. Definitions only.
-- Inner: nobody has to believe this.
use Rattle.std.specs.Prelude.{ℕ, zero, suc, ◌+◌, ◌*◌, ◌<◌, Bool, not, List, get_or, eqb}
use Rattle.std.specs.Int.Bits.{bit_and}
use Rattle.loops.specs.Count.{tab}

-- byte i of a slice, 0 past its end
abbrev pub byte_in : List ℕ → ℕ → ℕ
byte_in l i = get_or l i 0

-- numbers that are bytes
pub record Bytes (f : ℕ → ℕ) : Type 0 where
  pub small : (k : ℕ) → f k < 256

-- the number of the n bytes f i, f (i + 1), ..
unfoldable pub word_of : (ℕ → ℕ) → ℕ → ℕ → ℕ
word_of f i zero = 0
word_of f i (suc n) = f i + 256 * word_of f (suc i) n

-- word w of the bytes f 0, f 1, ..: eight of them
abbrev pub eight_of : (ℕ → ℕ) → ℕ → ℕ
eight_of f w = word_of f (w * 8) 8

-- the eight words of 64 bytes
abbrev pub words_of : (ℕ → ℕ) → List ℕ
words_of f = tab (eight_of f) 8

-- has byte k a bit? Do bytes k of two rows share one?
abbrev pub has_bit : (ℕ → ℕ) → ℕ → Bool
has_bit f k = not (eqb (f k) 0)

abbrev pub both_have : (ℕ → ℕ) → (ℕ → ℕ) → ℕ → Bool
both_have f g k = has_bit (λ i. bit_and (f i) (g i)) k
