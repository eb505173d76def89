-- A loop over a trip's stop times that passes over closed ones and ends at the first one not before the best total: both loops of
-- scan_trip_forward, turn by turn. Assumes nothing.
use Prim.Native.Nat.{ℕ, suc, ◌+◌, ◌-◌, ◌≤◌, ◌<◌}
use mathlib.Core.Path.{◌≡◌, sym, ap, ◌∙◌}
use mathlib.Core.Bool.{Bool, true, false}
use native.Mathlib.Omega.{arith}
use native.Mathlib.Numerals.{add-one}
use lib.Dec.{ltb}
use borrow.Author.Tests.{lt-ltb, le-ltb}
use Rattle.model.specs.Search.{Arrivals}

-- one turn: by whether the stop time is closed, and its arrival is before the best total
abbrev pub turn : Bool → Bool → Arrivals → Arrivals → Arrivals → Arrivals
turn x y next stay on = elim x [ true ↦ next | false ↦ elim y [ false ↦ stay | true ↦ on ] ]

-- F k p: the loop over k stop times from offset p on
module _ (F : ℕ → ℕ → Arrivals → Arrivals) (closed : ℕ → Bool) (at : ℕ → ℕ) (step : ℕ → Arrivals → Arrivals)
    (none : (p : ℕ) (a : Arrivals) → F 0 p a ≡ a)
    (one : (k p : ℕ) (a : Arrivals) → F (suc k) p a ≡ turn (closed p) (ltb (at p) a.best) (F k (suc p) a) a (F k (suc p) (step p a))) where
  turn_one : (n p : ℕ) (a : Arrivals) → p < n
      → F (n - p) p a ≡ turn (closed p) (ltb (at p) a.best) (F (n - (p + 1)) (p + 1) a) a (F (n - (p + 1)) (p + 1) (step p a))
  turn_one n p a h =
      let e : n - p ≡ suc (n - (p + 1)) = omega arith in
      ap (λ (k : ℕ). F k p a) e ∙ one (n - (p + 1)) p a
      ∙ ap (λ (q : ℕ). turn (closed p) (ltb (at p) a.best) (F (n - (p + 1)) q a) a (F (n - (p + 1)) q (step p a))) (sym (add-one p))

  module _ (n p : ℕ) (a : Arrivals) (h : p < n) (b : Bool) (eb : b ≡ closed p) where
    by_shut : (c : Bool) → b ≡ c → F (n - p) p a ≡ turn c (ltb (at p) a.best) (F (n - (p + 1)) (p + 1) a) a (F (n - (p + 1)) (p + 1) (step p a))
    by_shut c e = turn_one n p a h ∙ ap (λ (x : Bool). turn x (ltb (at p) a.best) (F (n - (p + 1)) (p + 1) a) a (F (n - (p + 1)) (p + 1) (step p a))) (sym eb ∙ e)

    by_best : (v : ℕ) (c : Bool) → b ≡ false → v ≡ at p → ltb v a.best ≡ c
        → F (n - p) p a ≡ turn false c (F (n - (p + 1)) (p + 1) a) a (F (n - (p + 1)) (p + 1) (step p a))
    by_best v c e ev t =
        by_shut false e
        ∙ ap (λ (x : Bool). turn false x (F (n - (p + 1)) (p + 1) a) a (F (n - (p + 1)) (p + 1) (step p a))) (ap (λ (z : ℕ). ltb z a.best) (sym ev) ∙ t)

    pub turn_shut : b ≡ true → F (n - (p + 1)) (p + 1) a ≡ F (n - p) p a
    turn_shut e = sym (by_shut true e)

    pub turn_cut : (v : ℕ) → b ≡ false → v ≡ at p → a.best ≤ v → a ≡ F (n - p) p a
    turn_cut v e ev l = sym (by_best v false e ev (le-ltb v a.best l))

    pub turn_go : (v : ℕ) → b ≡ false → v ≡ at p → v < a.best → F (n - (p + 1)) (p + 1) (step p a) ≡ F (n - p) p a
    turn_go v e ev l = sym (by_best v true e ev (lt-ltb v a.best l))

  pub turn_end : (n p : ℕ) (a : Arrivals) → n ≤ p → a ≡ F (n - p) p a
  turn_end n p a h = let e : n - p ≡ 0 = omega arith in sym (ap (λ (k : ℕ). F k p a) e ∙ none p a)
