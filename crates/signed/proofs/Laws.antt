-- What 32 bits mean, below 2 ^ 31 (no sign) and from there on (a sign), in numbers without sign.
use Prim.Native.Nat.{ℕ, suc, ◌+◌, ◌-◌, ◌<◌, ◌≤◌}
use mathlib.Core.Path.{◌≡◌, refl, ap, ◌∙◌}
use mathlib.Core.Bool.{Bool, true, false, cond}
use native.Mathlib.Omega.{arith}
use lib.Dec.{ltb}
use lib.IntN.{ℤ, pos, negsuc, nat_abs, sub_ℕ, ◌+ℤ◌}
use mir.Val.{sel}
use borrow.Author.Tests.{lt-ltb, le-ltb, ltb-true}
use Rattle.signed.specs.Signed.{of_bits, bits_of, floored}

pub of_low : (b : ℕ) → b < 2147483648 → of_bits b ≡ pos b
of_low b h = ap (λ (t : Bool). sel t (pos b) (negsuc (4294967296 - suc b))) (lt-ltb b 2147483648 h)

pub of_high : (b : ℕ) → 2147483648 ≤ b → of_bits b ≡ negsuc (4294967296 - suc b)
of_high b h = ap (λ (t : Bool). sel t (pos b) (negsuc (4294967296 - suc b))) (le-ltb b 2147483648 h)

pub size_low : (b : ℕ) → b < 2147483648 → nat_abs (of_bits b) ≡ b
size_low b h = ap nat_abs (of_low b h)

pub size_high : (b : ℕ) → 2147483648 ≤ b → nat_abs (of_bits b) ≡ suc (4294967296 - suc b)
size_high b h = ap nat_abs (of_high b h)

pub floored_sub : (a b : ℕ) → floored (sub_ℕ a b) ≡ a - b
floored_sub a b = go (ltb a b) refl
  where
    go : (t : Bool) → ltb a b ≡ t → floored (cond t (negsuc (b - suc a)) (pos (a - b))) ≡ a - b
    go true e = let l : a < b = ltb-true a b e in omega arith
    go false e = refl

-- a time moved on, and moved back
pub moved_low : (t b : ℕ) → b < 2147483648 → floored (pos t +ℤ of_bits b) ≡ t + b
moved_low t b h = ap (λ (z : ℤ). floored (pos t +ℤ z)) (of_low b h)

pub moved_high : (t b : ℕ) → 2147483648 ≤ b → floored (pos t +ℤ of_bits b) ≡ t - suc (4294967296 - suc b)
moved_high t b h = ap (λ (z : ℤ). floored (pos t +ℤ z)) (of_high b h) ∙ floored_sub t (suc (4294967296 - suc b))

-- the bits of a difference mean it
pub of_sub : (a b : ℕ) → a < 2147483648 → b < 2147483648 → of_bits (bits_of (sub_ℕ a b)) ≡ sub_ℕ a b
of_sub a b u v = go (ltb a b) refl
  where
    go : (t : Bool) → ltb a b ≡ t → of_bits (bits_of (cond t (negsuc (b - suc a)) (pos (a - b)))) ≡ cond t (negsuc (b - suc a)) (pos (a - b))
    go true e = let l : a < b = ltb-true a b e in of_high (4294967296 - suc (b - suc a)) (omega arith) ∙ ap negsuc (omega arith)
    go false e = of_low (a - b) (omega arith)
