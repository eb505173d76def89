-- Laws of a search by halving, one for each need of its loop, and what it finds among keys that do not fall.
use Prim.Native.Nat.{ℕ, ◌+◌, ◌-◌, ◌<◌, ◌≤◌}
use mathlib.Core.Path.{◌≡◌, refl, ap, ◌∙◌, sym}
use mathlib.Core.Bool.{Bool, true, false}
use mathlib.Core.Logic.{◌⊎◌, inl, inr, ⊎_elim}
use native.Mathlib.Nat.{eq-or-lt_of_le}
use native.Mathlib.Omega.{arith}
use lib.Dec.{ltb, leb, eqb}
use borrow.Author.Tests.{ltb-true, ltb-false, leb-true, leb-false, le-leb, eq-eqb, ne_eqb}
use Rattle.loops.specs.Iter.{first_in, Hit, hit, miss}
use Rattle.loops.specs.Order.{Stays, KeysRise, Halved}
use Rattle.loops.proofs.Iter.{first_found, first_before, first_bound, first_none}

-- no test is both passed and failed
pub clash : {b : Bool} → b ≡ true → b ≡ false → ⊥
clash {b} p q = let z : ◌≡◌ {A = ℕ} 0 1 = cc in omega arith

pub halved_start : (f : ℕ → Bool) (n : ℕ) → Halved f n 0 n
halved_start f n = record { order = omega arith; inside = omega arith; below = λ k l. absurd (omega arith); above = λ k l u. absurd (omega arith) }

-- the test fails in the middle: the interval begins after it
pub halved_up : (f : ℕ → Bool) (n lo hi mid : ℕ) → Stays f n → Halved f n lo hi → f mid ≡ false → mid < hi → Halved f n (mid + 1) hi
halved_up f n lo hi mid s h e u =
    record { order = omega arith; inside = h.inside; below = λ k l. go k (omega arith) (f k) refl; above = h.above }
  where
    go : (k : ℕ) → k ≤ mid → (b : Bool) → f k ≡ b → f k ≡ false
    go k l true q = absurd (clash (s.stays k mid l (omega (arith, h.inside)) q) e)
    go k l false q = q

-- it passes there: the interval ends before it
pub halved_down : (f : ℕ → Bool) (n lo hi mid : ℕ) → Stays f n → Halved f n lo hi → f mid ≡ true → lo ≤ mid → mid < hi → Halved f n lo mid
halved_down f n lo hi mid s h e l u =
    record { order = l; inside = omega (arith, h.inside); below = h.below; above = λ k a b. s.stays mid k a b e }

pub split : (a b : ℕ) → (a < b) ⊎ (b ≤ a)
split a b = pick (ltb a b) refl
  where
    pick : (t : Bool) → ltb a b ≡ t → (a < b) ⊎ (b ≤ a)
    pick true q = inl (ltb-true a b q)
    pick false q = inr (ltb-false a b q)

-- a search finds k exactly where k passes and none before it does, and nothing where none passes
pub first_is : (f : ℕ → Bool) (n k : ℕ) → f k ≡ true → ((j : ℕ) → j < k → f j ≡ false) → k < n → first_in f 0 n ≡ hit k
first_is f n k e b u = go (first_in f 0 n) refl
  where
    go : (x : Hit) → first_in f 0 n ≡ x → x ≡ hit k
    go (hit j) q =
        ⊎_elim
        (λ (l : j < k). absurd (clash (first_found f 0 (n - 0) j q) (b j l)))
        (λ (l : k ≤ j). ⊎_elim (λ (z : k ≡ j). ap hit (sym z)) (λ (z : k < j). absurd (clash e (first_before f 0 (n - 0) j k q (omega arith) z))) (eq-or-lt_of_le l))
        (split j k)
    go miss q = absurd (clash e (first_none f 0 (n - 0) k q (omega arith) (omega arith)))

pub first_isnt : (f : ℕ → Bool) (n : ℕ) → ((j : ℕ) → j < n → f j ≡ false) → first_in f 0 n ≡ miss
first_isnt f n b = go (first_in f 0 n) refl
  where
    go : (x : Hit) → first_in f 0 n ≡ x → x ≡ miss
    go (hit j) q = absurd (clash (first_found f 0 (n - 0) j q) (b j (omega (arith, first_bound f 0 (n - 0) j q))))
    go miss q = refl

-- the number that a search finds is one of those searched
pub hit_below : (f : ℕ → Bool) (n k : ℕ) → first_in f 0 n ≡ hit k → k < n
hit_below f n k e = omega (arith, first_bound f 0 (n - 0) k e)

-- searches by tests that agree find the same
pub first_ext : (f g : ℕ → Bool) (n : ℕ) → ((k : ℕ) → f k ≡ g k) → first_in f 0 n ≡ first_in g 0 n
first_ext f g n e = go (first_in g 0 n) refl
  where
    go : (x : Hit) → first_in g 0 n ≡ x → first_in f 0 n ≡ x
    go (hit k) q =
        first_is f n k (e k ∙ first_found g 0 (n - 0) k q) (λ j l. e j ∙ first_before g 0 (n - 0) k j q (omega arith) l) (hit_below g n k q)
    go miss q = first_isnt f n (λ j l. e j ∙ first_none g 0 (n - 0) j q (omega arith) (omega arith))

pub halved_ext : (f g : ℕ → Bool) (n lo hi : ℕ) → ((k : ℕ) → f k ≡ g k) → Halved f n lo hi → Halved g n lo hi
halved_ext f g n lo hi e h =
    record { order = h.order; inside = h.inside; below = λ k l. sym (e k) ∙ h.below k l; above = λ k a b. sym (e k) ∙ h.above k a b }

pub stays_ext : (f g : ℕ → Bool) (n : ℕ) → ((k : ℕ) → f k ≡ g k) → Stays f n → Stays g n
stays_ext f g n e s = record { stays = λ i j l u h. sym (e j) ∙ s.stays i j l u (e i ∙ h) }

-- nothing is left between
pub halved_end : (f : ℕ → Bool) (n lo hi : ℕ) → Halved f n lo hi → hi ≤ lo → Halved f n lo lo
halved_end f n lo hi h l =
    record { order = omega arith; inside = omega (arith, h.order, h.inside); below = h.below; above = λ k a b. h.above k (omega arith) b }

-- Among keys that do not fall, the first key t is the first that is not below t, if that one is t.
module _ (key : ℕ → ℕ) (t n : ℕ) (r : KeysRise key n) where
  pub keys_stay : Stays (λ i. leb t (key i)) n
  keys_stay = record { stays = λ i j l u e. le-leb t (key j) (omega (arith, leb-true t (key i) e, r.rising i j l u)) }

  pub found_below : (lo hi : ℕ) → Halved (λ i. leb t (key i)) n lo hi → (j : ℕ) → j < lo → eqb (key j) t ≡ false
  found_below lo hi h j l = ne_eqb (key j) t (λ e. omega (arith, leb-false t (key j) (h.below j l), e))

  pub same_found : (lo hi : ℕ) → Halved (λ i. leb t (key i)) n lo hi → lo < n → key lo ≡ t → first_in (λ i. eqb (key i) t) 0 n ≡ hit lo
  same_found lo hi h l e = first_is (λ i. eqb (key i) t) n lo (eq-eqb (key lo) t e) (found_below lo hi h) l

  pub same_past : (lo hi : ℕ) → Halved (λ i. leb t (key i)) n lo hi → n ≤ lo → first_in (λ i. eqb (key i) t) 0 n ≡ miss
  same_past lo hi h l = first_isnt (λ i. eqb (key i) t) n (λ j u. found_below lo hi h j (omega arith))

  pub same_other : (lo hi : ℕ) → Halved (λ i. leb t (key i)) n lo hi → hi ≤ lo → lo < n → (key lo ≡ t → ⊥) → first_in (λ i. eqb (key i) t) 0 n ≡ miss
  same_other lo hi h d l x = first_isnt (λ i. eqb (key i) t) n (λ j u. ⊎_elim (λ (q : j < lo). found_below lo hi h j q) (λ (q : lo ≤ j). ne_eqb (key j) t (λ e. x (omega (arith, leb-true t (key lo) (h.above lo d l), r.rising lo j q u, e)))) (split j lo))
