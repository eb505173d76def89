-- Laws of the largest of a table's numbers, and of the margin.
use Prim.Native.Nat.{ℕ, zero, suc, ◌+◌, ◌-◌, ◌<◌, ◌≤◌, min, max}
use mathlib.Core.Path.{◌≡◌, refl, ap, ◌∙◌}
use mathlib.Core.Bool.{Bool, true, false, cond}
use mathlib.Core.Logic.{◌⊎◌, inl, inr, ⊎_elim}
use native.Mathlib.Nat.{eq-or-lt_of_le}
use native.Mathlib.Omega.{arith}
use Rattle.loops.specs.Iter.{iter}
use Rattle.loops.proofs.Iter.{range_done}
use Rattle.loops.proofs.Search.{split}
use Rattle.stop_delay.specs.Times.{departure_given, arrival_given, size_of}
use Rattle.delay_rows.specs.Delays.{DelayTables, or_larger, largest, given_size, largest_delay, margin}
use Rattle.delay_lookup.specs.Sane.{Delays}

grows : (f : ℕ → ℕ) (i n s : ℕ) → s ≤ iter (or_larger f) i n s
unfolding iter
grows f i zero s = omega arith
grows f i (suc n) s = omega (arith, grows f (suc i) n (max s (f i)))

covers : (f : ℕ → ℕ) (i n s k : ℕ) → i ≤ k → k < i + n → f k ≤ iter (or_larger f) i n s
unfolding iter
covers f i zero s k l u = absurd (omega arith)
covers f i (suc n) s k l u =
    ⊎_elim (λ (e : i ≡ k). omega (arith, ap f e, grows f (suc i) n (max s (f i))))
    (λ (e : i < k). covers f (suc i) n (max s (f i)) k e (omega arith))
    (eq-or-lt_of_le l)

-- each is at most the largest
pub largest_covers : (f : ℕ → ℕ) (n k : ℕ) → k < n → f k ≤ largest f n
largest_covers f n k u = covers f 0 (n - 0) 0 k (omega arith) (omega arith)

-- x is the number of one of the n
pub record OneOf (f : ℕ → ℕ) (n x : ℕ) : Type 0 where
  pub at : ℕ
  pub below : at < n
  pub is : x ≡ f at

max_or : (a b : ℕ) → (max a b ≡ a) ⊎ (max a b ≡ b)
max_or a b = ⊎_elim (λ (l : a < b). inr (omega arith)) (λ (l : b ≤ a). inl (omega arith)) (split a b)

one_of : (f : ℕ → ℕ) (i n s : ℕ) → (iter (or_larger f) i n s ≡ s) ⊎ OneOf f (i + n) (iter (or_larger f) i n s)
unfolding iter
one_of f i zero s = inl refl
one_of f i (suc n) s =
    ⊎_elim
    (λ (e : iter (or_larger f) (suc i) n (max s (f i)) ≡ max s (f i)). ⊎_elim (λ (d : max s (f i) ≡ s). inl (e ∙ d)) (λ (d : max s (f i) ≡ f i). inr (record { at = i; below = omega arith; is = e ∙ d })) (max_or s (f i)))
    (λ (o : OneOf f (suc i + n) (iter (or_larger f) (suc i) n (max s (f i)))). inr (record { at = o.at; below = omega (arith, o.below); is = o.is }))
    (one_of f (suc i) n (max s (f i)))

-- the largest is 0 or one of them
pub largest_is : (f : ℕ → ℕ) (n : ℕ) → (largest f n ≡ 0) ⊎ OneOf f n (largest f n)
largest_is f n = ⊎_elim inl (λ (o : OneOf f (0 + (n - 0)) (largest f n)). inr (record { at = o.at; below = omega (arith, o.below); is = o.is })) (one_of f 0 (n - 0) 0)

-- The margin is at most the cap; each trip delay's and each given stop delay's size is at most the margin, or the margin is the cap
reaches : (x most cap : ℕ) → x ≤ most → (x ≤ min cap most) ⊎ (min cap most ≡ cap)
reaches x most cap l = ⊎_elim (λ (u : cap < most). inr (omega arith)) (λ (u : most ≤ cap). inl (omega arith)) (split cap most)

-- x is at most the margin of these tables, or that margin is the cap
abbrev pub Covered : DelayTables → ℕ → ℕ → Type 0
Covered D cap x = (x ≤ margin D cap) ⊎ (margin D cap ≡ cap)

module _ (D : DelayTables) where
  abbrev trip_size : ℕ → ℕ
  trip_size i = size_of (D.delay i).delay

  abbrev stop_size : ℕ → ℕ
  stop_size j = given_size (D.stop_row j)

  pub margin-cap : (cap : ℕ) → margin D cap ≤ cap
  margin-cap cap = omega arith

  pub margin_trip : (cap i : ℕ) → i < D.delays → Covered D cap (size_of (D.delay i).delay)
  margin_trip cap i u = reaches (trip_size i) (largest_delay D) cap (omega (arith, largest_covers trip_size D.delays i u))

  pub margin_departure : (cap j : ℕ) → j < D.stop_rows → departure_given (D.stop_row j).flags ≡ true → Covered D cap (size_of (D.stop_row j).departure_delay)
  margin_departure cap j u g =
      reaches (size_of (D.stop_row j).departure_delay) (largest_delay D) cap
      (omega (arith, largest_covers stop_size D.stop_rows j u, ap (λ (b : Bool). cond b (size_of (D.stop_row j).departure_delay) 0) g))

  pub margin_arrival : (cap j : ℕ) → j < D.stop_rows → arrival_given (D.stop_row j).flags ≡ true → Covered D cap (size_of (D.stop_row j).arrival_delay)
  margin_arrival cap j u g =
      reaches (size_of (D.stop_row j).arrival_delay) (largest_delay D) cap
      (omega (arith, largest_covers stop_size D.stop_rows j u, ap (λ (b : Bool). cond b (size_of (D.stop_row j).arrival_delay) 0) g))

-- .. and it is the cap, 0, or one of those sizes
pub data MarginIs (D : DelayTables) (m cap : ℕ) : Type 0 where
  capped : m ≡ cap → MarginIs D m cap
  none : m ≡ 0 → MarginIs D m cap
  of_trip : (i : ℕ) → i < D.delays → m ≡ size_of (D.delay i).delay → MarginIs D m cap
  of_departure : (j : ℕ) → j < D.stop_rows → departure_given (D.stop_row j).flags ≡ true → m ≡ size_of (D.stop_row j).departure_delay → MarginIs D m cap
  of_arrival : (j : ℕ) → j < D.stop_rows → arrival_given (D.stop_row j).flags ≡ true → m ≡ size_of (D.stop_row j).arrival_delay → MarginIs D m cap

-- the size of a stop row is 0 or that of a delay that is given
given_is : (a b : Bool) (x y : ℕ) → let z = max (cond a x 0) (cond b y 0) in (z ≡ 0) ⊎ (((a ≡ true) × (z ≡ x)) ⊎ ((b ≡ true) × (z ≡ y)))
given_is true true x y = ⊎_elim (λ e. inr (inl (refl, e))) (λ e. inr (inr (refl, e))) (max_or x y)
given_is true false x y = inr (inl (refl, omega arith))
given_is false true x y = inr (inr (refl, omega arith))
given_is false false x y = inl (omega arith)

module _ (D : DelayTables) (m cap : ℕ) where
  of_stop : (j : ℕ) → j < D.stop_rows → m ≡ stop_size D j → MarginIs D m cap
  of_stop j u e =
      ⊎_elim (λ z. none (e ∙ z)) (⊎_elim (λ z. of_departure j u z.0 (e ∙ z.1)) (λ z. of_arrival j u z.0 (e ∙ z.1)))
      (given_is (departure_given (D.stop_row j).flags) (arrival_given (D.stop_row j).flags) (size_of (D.stop_row j).departure_delay) (size_of (D.stop_row j).arrival_delay))

  of_trips : m ≡ largest (trip_size D) D.delays → MarginIs D m cap
  of_trips e =
      ⊎_elim (λ z. none (e ∙ z)) (λ (o : OneOf (trip_size D) D.delays (largest (trip_size D) D.delays)). of_trip o.at o.below (e ∙ o.is))
      (largest_is (trip_size D) D.delays)

  of_stops : m ≡ largest (stop_size D) D.stop_rows → MarginIs D m cap
  of_stops e =
      ⊎_elim (λ z. none (e ∙ z)) (λ (o : OneOf (stop_size D) D.stop_rows (largest (stop_size D) D.stop_rows)). of_stop o.at o.below (e ∙ o.is))
      (largest_is (stop_size D) D.stop_rows)

pub margin_is : (D : DelayTables) (cap : ℕ) → MarginIs D (margin D cap) cap
margin_is D cap =
    let m = margin D cap in
    ⊎_elim (λ (u : cap < largest_delay D). capped (omega arith))
    (λ (u : largest_delay D ≤ cap).
    ⊎_elim (λ e. of_trips D m cap (omega arith)) (λ e. of_stops D m cap (omega arith))
    (max_or (largest (trip_size D) D.delays) (largest (stop_size D) D.stop_rows)))
    (split cap (largest_delay D))

-- no delay row: no margin
pub no_margin : (trips : ℕ) (D : DelayTables) (cap : ℕ) → Delays trips D → D.delays ≡ 0 → margin D cap ≡ 0
no_margin trips D cap d e =
    let s : D.stop_rows ≤ 0 = ⊎_elim (λ (l : 0 < D.stop_rows). absurd (omega (arith, d.row 0 l))) (λ (l : D.stop_rows ≤ 0). l) (split 0 D.stop_rows) in
    omega (arith, range_done (or_larger (trip_size D)) 0 D.delays 0 (omega arith), range_done (or_larger (stop_size D)) 0 D.stop_rows 0 s)
