-- Laws of `last_in`: what it finds, and what finding it says.
use Prim.Native.Nat.{ℕ, zero, suc, ◌<◌, ◌≤◌}
use mathlib.Core.Path.{◌≡◌, refl, ◌∙◌, sym, ap}
use mathlib.Core.Bool.{Bool, true, false, cond}
use mathlib.Core.Logic.{⊎_elim}
use native.Mathlib.Nat.{eq-or-lt_of_le}
use native.Mathlib.Omega.{arith}
use Rattle.loops.specs.Iter.{hit, miss}
use Rattle.line_layout.specs.Layout.{last_in}

-- one number on
pub last_yes : (f : ℕ → Bool) (n : ℕ) → f n ≡ true → last_in f (suc n) ≡ hit n
unfolding last_in
last_yes f n e = ap (λ (b : Bool). cond b (hit n) (last_in f n)) e

pub last_no : (f : ℕ → Bool) (n : ℕ) → f n ≡ false → last_in f (suc n) ≡ last_in f n
unfolding last_in
last_no f n e = ap (λ (b : Bool). cond b (hit n) (last_in f n)) e

-- k is found where it passes and none after it does; nothing where none passes
pub last_is : (f : ℕ → Bool) (n k : ℕ) → k < n → f k ≡ true → ((j : ℕ) → k < j → j < n → f j ≡ false) → last_in f n ≡ hit k
last_is f zero k u e h = absurd (omega arith)
last_is f (suc n) k u e h = let q : k ≤ n = omega arith in ⊎_elim
    (λ (z : k ≡ n). last_yes f n (ap f (sym z) ∙ e) ∙ ap hit (sym z))
    (λ (z : k < n). last_no f n (h n z (omega arith)) ∙ last_is f n k z e (λ j a b. h j a (omega arith)))
    (eq-or-lt_of_le q)

pub last_none : (f : ℕ → Bool) (n : ℕ) → ((j : ℕ) → j < n → f j ≡ false) → last_in f n ≡ miss
unfolding last_in
last_none f zero h = refl
last_none f (suc n) h = last_no f n (h n (omega arith)) ∙ last_none f n (λ j u. h j (omega arith))

-- what is found, and what finding nothing says
pub record Last (f : ℕ → Bool) (n k : ℕ) : Type 0 where
  pub below : k < n
  pub passes : f k ≡ true
  pub after : (j : ℕ) → k < j → j < n → f j ≡ false

pub last_found : (f : ℕ → Bool) (n k : ℕ) → last_in f n ≡ hit k → Last f n k
unfolding last_in
last_found f zero k h = let z : ◌≡◌ {A = ℕ} 0 1 = cc in absurd (omega arith)
last_found f (suc n) k h = go (f n) refl (last_found f n k)
  where
    go : (b : Bool) → f n ≡ b → (last_in f n ≡ hit k → Last f n k) → Last f (suc n) k
    go true e sooner =
        let z : hit n ≡ hit k = sym (last_yes f n e) ∙ h in
        let y : n ≡ k = cc in
        record { below = omega arith; passes = ap f (sym y) ∙ e; after = λ j a b. absurd (omega arith) }
    go false e sooner =
        let l = sooner (sym (last_no f n e) ∙ h) in
        record { below = omega (arith, l.below); passes = l.passes; after = λ j a b. let q : j ≤ n = omega arith in ⊎_elim (λ (z : j ≡ n). ap f z ∙ e) (λ (z : j < n). l.after j a z) (eq-or-lt_of_le q) }

pub last_missed : (f : ℕ → Bool) (n j : ℕ) → last_in f n ≡ miss → j < n → f j ≡ false
unfolding last_in
last_missed f zero j h u = absurd (omega arith)
last_missed f (suc n) j h u = go (f n) refl (last_missed f n j)
  where
    go : (b : Bool) → f n ≡ b → (last_in f n ≡ miss → j < n → f j ≡ false) → f j ≡ false
    go true e sooner = let z : hit n ≡ miss = sym (last_yes f n e) ∙ h in let y : ◌≡◌ {A = ℕ} 0 1 = cc in absurd (omega arith)
    go false e sooner = let q : j ≤ n = omega arith in ⊎_elim (λ (z : j ≡ n). ap f z ∙ e) (λ (z : j < n). sooner (sym (last_no f n e) ∙ h) z) (eq-or-lt_of_le q)
