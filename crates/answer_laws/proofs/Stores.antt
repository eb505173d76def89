-- Stores in lists; tests.
use Prim.Native.Nat.{ℕ, zero, suc, ◌+◌, ◌≤◌, ◌<◌, zero-le}
use mathlib.Core.Path.{◌≡◌, refl, ap, ◌∙◌}
use mathlib.Core.Logic.{◌⊎◌, inl, inr, ⊎_elim}
use mathlib.Core.Bool.{Bool, true, false, cond, not}
use mathlib.Core.List.Memᴰ
use mathlib.Core.List.{List, [], ◌∷◌, Memᴰ}
use native.Mathlib.Nat.{le_refl}
use native.Mathlib.Omega.{arith}
use lib.ListN.{length, get_or, set, replicate}
use Rattle.loops.specs.Count.{tab_from}
use Rattle.sorts.specs.Orders.{keep}
use Rattle.model.proofs.Base.{no_both}

-- what stands at x after a store at i: the new value, at i, or what stood there
pub set_cases {ℓ} : {A : Type ℓ} (l : List A) (i : ℕ) (v : A) (x : ℕ) (d : A)
    → ((x ≡ i) × (get_or (set l i v) x d ≡ v)) ⊎ (get_or (set l i v) x d ≡ get_or l x d)
set_cases [] i v x d = inr refl
set_cases (y ∷ l) zero v zero d = inl (refl, refl)
set_cases (y ∷ l) zero v (suc x) d = inr refl
set_cases (y ∷ l) (suc i) v zero d = inr refl
set_cases (y ∷ l) (suc i) v (suc x) d = ⊎_elim (λ p. inl (ap suc p.0, p.1)) (λ p. inr p) (set_cases l i v x d)

-- a store inside the list is read back
pub set_there {ℓ} : {A : Type ℓ} (l : List A) (i : ℕ) (v d : A) → i < length l → get_or (set l i v) i d ≡ v
set_there [] i v d h = absurd (omega arith)
set_there (x ∷ l) zero v d h = refl
set_there (x ∷ l) (suc i) v d h = set_there l i v d (omega arith)

-- a store is no higher than its value, and one that is no higher raises nothing
pub set_hit : (l : List ℕ) (i v : ℕ) → get_or (set l i v) i 0 ≤ v
set_hit [] i v = zero-le
set_hit (y ∷ l) zero v = le_refl _
set_hit (y ∷ l) (suc i) v = set_hit l i v

pub set_le : (l : List ℕ) (i v x : ℕ) → v ≤ get_or l i 0 → get_or (set l i v) x 0 ≤ get_or l x 0
set_le [] i v x h = le_refl _
set_le (y ∷ l) zero v zero h = h
set_le (y ∷ l) zero v (suc x) h = le_refl _
set_le (y ∷ l) (suc i) v zero h = le_refl _
set_le (y ∷ l) (suc i) v (suc x) h = set_le l i v x h

-- what is read is inside the list, or the default
pub lt_get_d : (l : List ℕ) (i v : ℕ) → v < get_or l i 0 → i < length l
lt_get_d [] i v h = absurd (omega arith)
lt_get_d (x ∷ l) zero v h = omega arith
lt_get_d (x ∷ l) (suc i) v h = let z = lt_get_d l i v h in omega arith

-- every entry of a list of one value
pub get_d_replicate {ℓ} : {A : Type ℓ} (n k : ℕ) (x : A) → get_or (replicate n x) k x ≡ x
get_d_replicate zero k x = refl
get_d_replicate (suc n) zero x = refl
get_d_replicate (suc n) (suc k) x = get_d_replicate n k x

pub get_d_replicate_in {ℓ} : {A : Type ℓ} (n k : ℕ) (x d : A) → k < n → get_or (replicate n x) k d ≡ x
get_d_replicate_in zero k x d h = absurd (omega arith)
get_d_replicate_in (suc n) zero x d h = refl
get_d_replicate_in (suc n) (suc k) x d h = get_d_replicate_in n k x d (omega arith)

-- what is kept passes and was there; the numbers up to n
pub keep_in : {A : Type 0} (p : A → Bool) (x : A) (l : List A) → Memᴰ x (keep p l) → (p x ≡ true) × Memᴰ x l
unfolding keep
keep_in p x [] m = absurd (Memᴰ.not-nil m)
keep_in p x (y ∷ l) m = go (p y) refl m (keep_in p x l)
  where
    go : (b : Bool) → p y ≡ b → Memᴰ x (cond b (y ∷ keep p l) (keep p l)) → (Memᴰ x (keep p l) → (p x ≡ true) × Memᴰ x l)
        → (p x ≡ true) × Memᴰ x (y ∷ l)
    go true e m f = ⊎_elim (λ q. (ap p q ∙ e, Memᴰ.head q)) (λ n. ((f n).0, Memᴰ.tail (f n).1)) (Memᴰ.cases_cons m)
    go false e m f = ((f m).0, Memᴰ.tail (f m).1)

pub upto_in : (i n x : ℕ) → Memᴰ x (tab_from (λ k. k) i n) → x < i + n
unfolding tab_from
upto_in i zero x m = absurd (Memᴰ.not-nil m)
upto_in i (suc n) x m = ⊎_elim (λ q. omega (arith, q)) (λ k. omega (arith, upto_in (suc i) n x k)) (Memᴰ.cases_cons m)

-- tests
pub not-false : (a : Bool) → not a ≡ false → a ≡ true
not-false true e = refl
not-false false e = absurd (no_both refl e)
