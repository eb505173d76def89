-- Lists of one value, and what stands where in a part that is filled. Assumes nothing.
use Prim.Native.Nat.{ℕ, ◌<◌, zero, suc}
use mathlib.Core.Path.{◌≡◌, refl, ap₂}
use mathlib.Core.List.{List, [], ◌∷◌}
use native.Mathlib.Omega.{arith}
use lib.ListN.{length, get_or, replicate}
use mathlib.Core.Bool.{Bool, true, false}
use lib.Dec.{eqb}
use borrow.Author.Tests.{eqb-true, eqb-false}

-- by whether two numbers are equal
pub same_or : (i j : ℕ) {A : Type 0} → (i ≡ j → A) → ((i ≡ j → ⊥) → A) → A
same_or i j {A} x y = go (eqb i j) refl
  where
    go : (t : Bool) → eqb i j ≡ t → A
    go true e = x (eqb-true i j e)
    go false e = y (eqb-false i j e)

-- a list of one value
pub all_same : {A : Type 0} (l : List A) (n : ℕ) (v d : A) → length l ≡ n → ((k : ℕ) → k < n → get_or l k d ≡ v) → l ≡ replicate n v
all_same [] zero v d e h = refl
all_same [] (suc n) v d e h = absurd (omega arith)
all_same (x ∷ l) zero v d e h = absurd (omega arith)
all_same (x ∷ l) (suc n) v d e h = ap₂ (λ y r. y ∷ r) (h 0 (omega arith)) (all_same l n v d (omega arith) (λ k u. h (suc k) (omega arith)))

-- a number of a list of zeros
pub zero_at : (n i : ℕ) → get_or (replicate {A = ℕ} n 0) i 0 ≡ 0
zero_at zero i = refl
zero_at (suc n) zero = refl
zero_at (suc n) (suc i) = zero_at n i
