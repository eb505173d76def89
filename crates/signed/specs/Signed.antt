-- Signed seconds: the bits of an i32 in a u32, and the integer that they mean. Definitions only.
use Rattle.std.specs.Prelude.{ℕ, ℤ, pos, negsuc}
use Rattle.std.specs.Int.{w32}
use Rattle.std.proofs.Common.{to_z, of_z}

-- the integer that 32 bits mean
abbrev pub of_bits : ℕ → ℤ
of_bits n = to_z w32 n

-- the 32 bits of an integer
abbrev pub bits_of : ℤ → ℕ
bits_of z = of_z w32 z

-- no lower than 0
abbrev pub floored : ℤ → ℕ
floored (pos n) = n
floored (negsuc n) = 0
