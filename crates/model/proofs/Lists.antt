-- Members of sorted, kept and counted lists.
use Prim.Native.Nat.{ℕ, zero, suc, ◌+◌, ◌<◌}
use mathlib.Core.Path.{◌≡◌, refl, ap, ◌∙◌}
use mathlib.Core.Logic.{◌⊎◌, inl, inr, ⊎_elim}
use mathlib.Core.Bool.{Bool, true, false, cond}
use mathlib.Core.List.Memᴰ
use mathlib.Core.List.{List, [], ◌∷◌, Memᴰ}
use native.Mathlib.Omega.{arith}
use lib.Dec.{leb}
use Rattle.loops.specs.Count.{tab_from, upto}
use Rattle.sorts.specs.Sort.{insert_by, sort_by}
use Rattle.sorts.specs.Orders.{keep}
use Rattle.model.proofs.Base.{no_both}

module _ {A : Type 0} (key : A → ℕ) where
  insert_has : (x : A) (l : List A) (a : A) → (a ≡ x) ⊎ Memᴰ a l → Memᴰ a (insert_by key x l)
  unfolding insert_by
  insert_has x [] a (inl e) = Memᴰ.head e
  insert_has x [] a (inr m) = absurd (Memᴰ.not-nil m)
  insert_has x (y ∷ l) a h = go (leb (key x) (key y)) h (insert_has x l a)
    where
      go : (b : Bool) → (a ≡ x) ⊎ Memᴰ a (y ∷ l) → ((a ≡ x) ⊎ Memᴰ a l → Memᴰ a (insert_by key x l)) → Memᴰ a (cond b (x ∷ y ∷ l) (y ∷ insert_by key x l))
      go true (inl e) ih = Memᴰ.head e
      go true (inr m) ih = Memᴰ.tail m
      go false (inl e) ih = Memᴰ.tail (ih (inl e))
      go false (inr m) ih = ⊎_elim (λ e. Memᴰ.head e) (λ m. Memᴰ.tail (ih (inr m))) (Memᴰ.cases_cons m)

  pub sort_has : (l : List A) (a : A) → Memᴰ a l → Memᴰ a (sort_by key l)
  unfolding sort_by
  sort_has [] a m = absurd (Memᴰ.not-nil m)
  sort_has (x ∷ l) a m = insert_has x (sort_by key l) a (⊎_elim (λ e. inl e) (λ i. inr (sort_has l a i)) (Memᴰ.cases_cons m))

module _ {A : Type 0} (p : A → Bool) where
  pub keep_has : (l : List A) (a : A) → Memᴰ a l → p a ≡ true → Memᴰ a (keep p l)
  unfolding keep
  keep_has [] a m h = absurd (Memᴰ.not-nil m)
  keep_has (x ∷ l) a m h = go (p x) refl (keep_has l a)
    where
      go : (b : Bool) → p x ≡ b → (Memᴰ a l → p a ≡ true → Memᴰ a (keep p l)) → Memᴰ a (cond b (x ∷ keep p l) (keep p l))
      go true e ih = ⊎_elim (λ q. Memᴰ.head q) (λ i. Memᴰ.tail (ih i h)) (Memᴰ.cases_cons m)
      go false e ih = ⊎_elim (λ q. absurd (no_both h (ap p q ∙ e))) (λ i. ih i h) (Memᴰ.cases_cons m)

  pub keep_only : (l : List A) (a : A) → Memᴰ a (keep p l) → (Memᴰ a l) × (p a ≡ true)
  unfolding keep
  keep_only [] a m = absurd (Memᴰ.not-nil m)
  keep_only (x ∷ l) a m = go (p x) refl m (keep_only l a)
    where
      go : (b : Bool) → p x ≡ b → Memᴰ a (cond b (x ∷ keep p l) (keep p l)) → (Memᴰ a (keep p l) → (Memᴰ a l) × (p a ≡ true)) → (Memᴰ a (x ∷ l)) × (p a ≡ true)
      go true e m ih = ⊎_elim (λ q. (Memᴰ.head q, ap p q ∙ e)) (λ i. let r = ih i in (Memᴰ.tail r.0, r.1)) (Memᴰ.cases_cons m)
      go false e m ih = let r = ih m in (Memᴰ.tail r.0, r.1)

from_only : (i n a : ℕ) → Memᴰ a (tab_from (λ j. j) i n) → a < i + n
unfolding tab_from
from_only i zero a m = absurd (Memᴰ.not-nil m)
from_only i (suc n) a m = ⊎_elim (λ (e : a ≡ i). omega arith) (λ k. omega (arith, from_only (suc i) n a k)) (Memᴰ.cases_cons m)

pub upto_only : (n a : ℕ) → Memᴰ a (upto n) → a < n
upto_only n a m = omega (arith, from_only 0 n a m)
