-- What a loop keeps of the numbers that it passed, their greatest or all their bits, tested at its end: as if each number were tested.
use Prim.Native.Nat.{ℕ, max, ◌+◌, ◌^◌, ◌<◌, ◌≤◌}
use mathlib.Core.Path.{◌≡◌, refl, sym, subst}
use mathlib.Core.Bool.{Bool, true, false, ◌&&◌}
use native.Mathlib.Omega.{arith}
use lib.Dec.{leb}
use lib.Bits.{bit_or, or_lt, or_add_and, and_le_l, and_le_r}
use borrow.Author.Tests.{le-leb, lt-leb, leb-true, leb-false}

pub max_most : (a b n : ℕ) → leb (max a b) n ≡ leb a n && leb b n
max_most a b n = go (leb a n) refl (leb b n) refl
  where
    go : (x : Bool) → leb a n ≡ x → (y : Bool) → leb b n ≡ y → leb (max a b) n ≡ x && y
    go true p true q = le-leb (max a b) n (omega (arith, leb-true a n p, leb-true b n q))
    go true p false q = lt-leb (max a b) n (omega (arith, leb-false b n q))
    go false p y q = lt-leb (max a b) n (omega (arith, leb-false a n p))

-- the bits of two numbers together, where n is all bits below some one
pub or_most : (k a b n : ℕ) → n + 1 ≡ 2 ^ k → leb (bit_or a b) n ≡ leb a n && leb b n
or_most k a b n e = go (leb a n) refl (leb b n) refl
  where
    below : (x : ℕ) → x ≤ n → x < 2 ^ k
    below x h = subst (λ (m : ℕ). x < m) e (omega arith)

    back : (x : ℕ) → x < 2 ^ k → x ≤ n
    back x h = let u : x < n + 1 = subst (λ (m : ℕ). x < m) (sym e) h in omega arith

    go : (x : Bool) → leb a n ≡ x → (y : Bool) → leb b n ≡ y → leb (bit_or a b) n ≡ x && y
    go true p true q = le-leb (bit_or a b) n (back (bit_or a b) (or_lt k a b (below a (leb-true a n p)) (below b (leb-true b n q))))
    go true p false q = lt-leb (bit_or a b) n (omega (arith, leb-false b n q, or_add_and a b, and_le_l a b))
    go false p y q = lt-leb (bit_or a b) n (omega (arith, leb-false a n p, or_add_and a b, and_le_r a b))
