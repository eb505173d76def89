-- Words of bytes, as computed rows.
use Prim.Native.Nat.{◌+◌, ◌*◌}
use mathlib.Core.Path.{◌≡◌, refl}
use Rattle.byte_words.specs.ByteWord.{word_of}

-- the bytes 1, 2, .., 8: hexadecimal 0807060504030201
pub one_to_eight : word_of (λ i. i + 1) 0 8 ≡ 578437695752307201
unfolding word_of
one_to_eight = refl

-- eight bytes of 255: the greatest word
pub greatest : word_of (λ i. 255) 0 8 ≡ 18446744073709551615
unfolding word_of
greatest = refl

-- of two bytes 128 in the last: the highest bit
pub highest_bit : word_of (λ i. i * 128) 0 2 ≡ 32768
unfolding word_of
highest_bit = refl
