-- A round, and all rounds: every journey of at most as many rides is covered.
use Prim.Native.Nat.{ℕ, zero, suc, ◌+◌, ◌≤◌, ◌<◌, zero-le}
use mathlib.Core.Path.{◌≡◌, refl, sym, ap, subst}
use mathlib.Core.Logic.{◌⊎◌, inl, inr, ⊎_elim}
use mathlib.Core.Bool.{Bool, true, false}
use mathlib.Core.List.Memᴰ
use mathlib.Core.List.{[], Memᴰ}
use native.Mathlib.Nat.{le_refl, le_trans}
use native.Mathlib.Omega.{arith}
use lib.ListN.{get_or}
use Rattle.model.proofs.Base.{split_eq}
use Rattle.model.proofs.Net.{Net, Plain}
use Rattle.model.proofs.PlainSearch.{Core, St, at, change, walks, ride_st, walk_st, rounds}
use Rattle.model.proofs.Coverage.{Le, Cov, cov_le, cov_later, by_at, by_best}
use Rattle.model.proofs.Departures.{Kept, t_s, Even}
use Rattle.model.proofs.Stops.{Stops, stops_graph, stops_le, stops_handled, Closed, closed_le, closed_later, Handled}
use Rattle.model.proofs.Improvements.{Steps, steps_le, steps_pend, steps_att, steps_queue, Pend, Att, att_on}
use Rattle.model.proofs.Rides.{stops_steps, stops_stamp, stops_even}
use Rattle.model.proofs.Walks.{Walked, walked_le, Walks, walks_graph, walks_closed, walks_steps}

module _ (N : Net) where
  -- where a journey stands: has it just left a ride, how many rides, which stop, when
  pub data Reach : Bool → ℕ → ℕ → ℕ → Type 0 where
    j_access : {s d : ℕ} → Memᴰ (s, d) N.orig → Reach false zero s (N.start + d)
    j_ride : {b : Bool} {n x v : ℕ} (t o p : ℕ) → Reach b n x v → Memᴰ (t, o) (N.deps x) → N.ok_trip t ≡ true → N.pick t o ≡ true → v + change N n ≤ N.dep t o → o < p → p < N.len t → N.alight t p ≡ true → Reach true (suc n) (N.stop_at t p) (N.arr t p)
    j_walk : {n x v y d : ℕ} → Reach true n x v → Memᴰ (y, d) (N.edges x) → Reach false n y (v + d)

  -- before round r
  pub record Inv (r : ℕ) (s : St) : Type 0 where
    pub walked : (x : ℕ) → Walked N s.c x (at s.c x)
    pub pend : (x : ℕ) → Memᴰ x s.c.Q ⊎ Closed N s.c x (at s.c x + change N r)
    pub even : Even s.k
    pub trips : (t : ℕ) → t_s s.k t ≤ suc r
    pub marks : (x : ℕ) → get_or s.c.SS x 0 ≤ suc r
    pub inside : (x : ℕ) → Memᴰ x s.c.Q → x < N.n_s
    pub top : s.c.B ≤ N.MAX
    pub att : Att N s.c
    pub reach : (b : Bool) (m x v : ℕ) → m ≤ r → Reach b m x v → Cov s.c x v

  change_up : (r : ℕ) → change N r ≤ change N (suc r)
  unfolding change
  change_up zero = zero-le
  change_up (suc r) = le_refl _

  In : ℕ → ℕ → Type 0
  In x v = x < N.n_s

  module _ (P : Plain N) (r : ℕ) (s : St) (I : Inv r s) where
    stamp : ℕ
    stamp = suc (suc r)

    s₀ : St
    s₀ = record { c = record { lab = s.c.lab; E = s.c.E; B = s.c.B; SS = s.c.SS; Q = [] }; k = record { TS = s.k.TS; TO = s.k.TO; TD = s.k.TD; LB = []; log = s.k.log } }

    s₁ : St
    s₁ = ride_st N r s

    ran : Stops N r (suc (suc r)) s.c.Q s₀ s₁
    unfolding s₀ s₁
    ran = stops_graph N r (suc (suc r)) s.c.Q _

    kept : Kept N r (suc (suc r)) s₀
    unfolding s₀
    kept = record { even = record { to = I.even.to; td = I.even.td }; line = λ u o m. absurd (Memᴰ.not-nil m); trip = λ t e. absurd (omega (arith, I.trips t)); time = λ t e. absurd (omega (arith, I.trips t)); inside = λ t e. absurd (omega (arith, I.trips t)); boarded = λ t e. absurd (omega (arith, I.trips t)) }

    low : Le s₁.c s.c
    unfolding s₀
    low = let l = stops_le N r (suc (suc r)) ran in record { e = l.e; b = l.b }

    handled : (x : ℕ) → Memᴰ x s.c.Q → Handled N r s₀.c s₁.c x
    handled x m = stops_handled N r (suc (suc r)) P kept ran x m

    rode : Steps N (suc (suc r)) In s₀.c s₁.c
    unfolding s₀ In
    rode = stops_steps N P r (suc (suc r)) s₁.k.log (λ x v t o p j m w g h l a. P.stop_in t p l) I.inside (λ x h l. h) I.top (λ m i. i) ran

    pend₁ : Pend (suc (suc r)) [] s₀.c s₁.c
    unfolding s₀
    pend₁ = steps_pend N (suc (suc r)) [] s₀.c rode (record { moved = λ x. inl refl; marked = λ x e. absurd (omega (arith, I.marks x)); bound = λ x. omega (arith, I.marks x) })

    queue₁ : (x : ℕ) → Memᴰ x s₁.c.Q → x < N.n_s
    unfolding s₀ In
    queue₁ x m = ⊎_elim (λ i. absurd (Memᴰ.not-nil i)) (λ j. j.1) (steps_queue N (suc (suc r)) rode x m)

    -- each stop is closed at a value no later than its earliest before the round
    closed₁ : (x : ℕ) → (u : ℕ) × (at s₁.c x ≤ u) × (u ≤ at s.c x) × Closed N s₁.c x (u + change N r)
    unfolding s₀
    closed₁ x = ⊎_elim (λ m. let h = handled x m in (h.at_value, h.low, h.high, h.closed)) (λ c. (at s.c x, low.e x, le_refl _, closed_le low c)) (I.pend x)

    c₁ : Core
    c₁ = record { lab = s₁.c.lab; E = s₁.c.E; B = s₁.c.B; SS = s₁.c.SS; Q = [] }

    s₂ : St
    s₂ = walk_st N r s₁

    c₂ : Core
    c₂ = walks N (suc (suc r)) s₁.c.Q c₁

    went : Walks N (suc (suc r)) s₁.c.Q c₁ c₂
    unfolding c₂
    went = walks_graph N (suc (suc r)) s₁.c.Q c₁

    walked₂ : (x : ℕ) → Walked N c₂ x (at c₂ x)
    unfolding s₀ c₁
    walked₂ = walks_closed N (suc (suc r)) P (λ x. ⊎_elim (λ e. inr (subst (λ (z : ℕ). Walked N c₁ x z) (sym e) (walked_le (record { e = low.e; b = low.b }) (I.walked x)))) (λ m. ⊎_elim (λ i. inl i) (λ i. absurd (Memᴰ.not-nil i)) m) (pend₁.moved x)) went

    footed : Steps N (suc (suc r)) In c₁ c₂
    unfolding In
    footed = walks_steps N (suc (suc r)) (λ x v y d j m. P.edge_to x y d m) queue₁ went

    low₂ : Le c₂ s₁.c
    unfolding c₁
    low₂ = let l = steps_le N (suc (suc r)) footed in record { e = l.e; b = l.b }

    pend₂ : Pend (suc (suc r)) s₁.c.Q s₀.c c₂
    unfolding c₁
    pend₂ = steps_pend N (suc (suc r)) s₁.c.Q s₀.c footed (record {
      moved = λ x. ⊎_elim (λ e. inl e) (λ m. inr (⊎_elim (λ i. inr i) (λ i. absurd (Memᴰ.not-nil i)) m)) (pend₁.moved x);
      marked = λ x e. ⊎_elim (λ i. inr i) (λ i. absurd (Memᴰ.not-nil i)) (pend₁.marked x e);
      bound = pend₁.bound;
    })

    reach₂ : (b : Bool) (m x v : ℕ) → m ≤ suc r → Reach b m x v → Cov c₂ x v
    reach₂ b m x v h (j_access i) = cov_le low₂ (cov_le low (I.reach false zero _ _ zero-le (j_access i)))
    reach₂ b m x v h (j_ride {b = b'} {n = n} {x = y} {v = w} t o p g i k q d l z a) =
        ⊎_elim
        (λ (e : n ≡ r). cov_le low₂ (ride (I.reach b' n y w (omega arith) g) e))
        (λ (e : n < r). cov_le low₂ (cov_le low (I.reach true (suc n) _ _ e (j_ride t o p g i k q d l z a))))
        (split_eq (omega arith))
      where
        ride : Cov s.c y w → n ≡ r → Cov s₁.c (N.stop_at t p) (N.arr t p)
        ride (by_at f) e =
            let u = closed₁ y in
            let f' : change N n ≡ change N r = ap (change N) e in
            (u.3.ride t o i k q (omega (arith, u.2))).all p l z a
        ride (by_best f) e = cov_le low (by_best (le_trans f (le_trans (omega arith) (P.dep_arr t o p l z (record { at = y; listed = i; ok = k; pick = q }) a))))
    reach₂ b m x v h (j_walk {x = y} {v = w} {y = z} {d = d} g i) = foot (reach₂ true m y w h g)
      where
        foot : Cov c₂ y w → Cov c₂ z (w + d)
        foot (by_at f) = cov_later (omega arith) ((walked₂ y).edge z d i)
        foot (by_best f) = by_best (omega arith)

    pub round_inv : Inv (suc r) (walk_st N r (ride_st N r s))
    unfolding s₀ s₁ c₁ c₂ In
    round_inv =
        record {
          walked = λ x. record { edge = λ y d m. cov_le (record { e = λ z. le_refl _; b = le_refl _ }) ((walked₂ x).edge y d m) };
          pend = λ x. ⊎_elim
              (λ e. let u = closed₁ x in
              inr (closed_later (omega (arith, u.1, u.2, low₂.e x, change_up r)) (closed_le (record { e = low₂.e; b = low₂.b }) u.3)))
              (λ m. inl (⊎_elim (λ i. Memᴰ.append_left _ i) (λ i. Memᴰ.append_right c₂.Q i) m))
              (pend₂.moved x);
          even = stops_even N r (suc (suc r)) ran (record { to = I.even.to; td = I.even.td });
          trips = λ t. stops_stamp N r (suc (suc r)) ran (λ t. omega (arith, I.trips t)) t;
          marks = pend₂.bound;
          inside = λ x m. ⊎_elim (λ i. ⊎_elim (λ k. absurd (Memᴰ.not-nil k)) (λ j. j.1) (steps_queue N (suc (suc r)) footed x i)) (λ i. queue₁ x i) (Memᴰ.append_cases c₂.Q m);
          top = le_trans low₂.b (le_trans low.b I.top);
          att = att_on (λ x. le_refl _) (le_refl _) (steps_att N (suc (suc r)) footed (att_on (λ x. le_refl _) (le_refl _) (steps_att N (suc (suc r)) rode (att_on (λ x. le_refl _) (le_refl _) I.att))));
          reach = λ b m x v h j. cov_le (record { e = λ z. le_refl _; b = le_refl _ }) (reach₂ b m x v h j);
        }

  pub rounds_inv : Plain N → (n r : ℕ) (s : St) → Inv r s → Inv (n + r) (rounds N n r s)
  unfolding rounds
  rounds_inv P zero r s I = subst (λ (k : ℕ). Inv k s) (omega arith) I
  rounds_inv P (suc n) r s I = subst (λ (k : ℕ). Inv k (rounds N n (suc r) (walk_st N r (ride_st N r s)))) (omega arith) (rounds_inv P n (suc r) (walk_st N r (ride_st N r s)) (round_inv P r s I))
