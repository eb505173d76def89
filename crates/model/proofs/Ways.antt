-- Demand 3, second half: every earliest and every label is the arrival of a way.
use Prim.Native.Nat.{ℕ, zero, suc, ◌+◌, ◌*◌, ◌-◌, ◌≤◌, ◌<◌}
use mathlib.Core.Path.{◌≡◌, sym, subst, ◌∙◌}
use mathlib.Core.Logic.{⊎_elim}
use mathlib.Core.Bool.{true}
use mathlib.Core.List.Memᴰ
use mathlib.Core.List.{List, [], Memᴰ}
use native.Mathlib.Nat.{le_refl}
use native.Mathlib.Omega.{arith}
use lib.ListN.{get_or}
use Rattle.model.proofs.Base.{set_cases}
use Rattle.model.proofs.Net.{Net, Plain}
use Rattle.model.proofs.PlainSearch.{Core, St, at, change, imp, ride_st, walk_st, rounds, walks}
use Rattle.model.proofs.Stops.{stops_graph}
use Rattle.model.proofs.Improvements.{Steps, stay, step, steps_changed, steps_fell}
use Rattle.model.proofs.Rides.{stops_steps, stops_log}
use Rattle.model.proofs.Walks.{walks_graph, walks_steps}
use Rattle.model.proofs.Rounds.{Inv, round_inv}

module _ (N : Net) where
  -- a way to a stop, by when, and the round of its last ride; L has the scans (round, trip, offset)
  pub data Way (L : List (ℕ × ℕ × ℕ)) : ℕ → ℕ → ℕ → Type 0 where
    w_access : {s d : ℕ} → Memᴰ (s, d) N.orig → Way L s (N.start + d) zero
    w_ride : {x v q : ℕ} (r t o p : ℕ) → Way L x v q → q ≤ r → Memᴰ (r, t, o) L → Memᴰ (t, o) (N.deps x) → N.ok_trip t ≡ true → N.pick t o ≡ true → v + change N r ≤ N.dep t o → o < p → p < N.len t → N.alight t p ≡ true → Way L (N.stop_at t p) (N.arr t p) r
    w_walk : {x v q y d : ℕ} → Way L x v q → Memᴰ (y, d) (N.edges x) → Way L y (v + d) q

  pub record Good (L : List (ℕ × ℕ × ℕ)) (r x v : ℕ) : Type 0 where
    pub inside : x < N.n_s
    pub last : ℕ
    pub so_far : last ≤ r
    pub way : Way L x v last

  pub good_up : {L : List (ℕ × ℕ × ℕ)} {r x v : ℕ} → Good L r x v → Good L (suc r) x v
  good_up g = record { inside = g.inside; last = g.last; so_far = omega (arith, g.so_far); way = g.way }

  -- every label is good
  pub record Rows (J : ℕ → ℕ → Type 0) (c : Core) : Type 0 where
    pub row : (x i v : ℕ) → i < 13 → get_or c.lab (13 * x + i) 0 ≡ suc v → J x v

  suc_same : {a b x : ℕ} → x ≡ suc a → x ≡ suc b → a ≡ b
  suc_same p q = omega arith

  pub steps_rows : (stamp : ℕ) → stamp ≤ 13 → {J : ℕ → ℕ → Type 0} {c c' : Core} → Steps N stamp J c c' → Rows J c → Rows J c'
  unfolding imp
  steps_rows stamp b stay R = R
  steps_rows stamp b {J} (step {c = c} s v j h r) R =
      steps_rows stamp b r (record {
        row = λ x i u l e. ⊎_elim
            (λ p. subst (λ (y : ℕ). J y u) (omega (arith, p.0)) (subst (λ (y : ℕ). J s y) (suc_same p.1 e) j))
            (λ p. R.row x i u l (sym p ∙ e))
            (set_cases c.lab (13 * s + (stamp - 1)) (suc v) (13 * x + i) 0);
      })

  -- before round r: each earliest that is known is good, and so is each label
  pub record Ways (L : List (ℕ × ℕ × ℕ)) (r : ℕ) (c : Core) : Type 0 where
    pub known : (x : ℕ) → x < N.n_s → at c x < N.MAX → Good L r x (at c x)
    pub rows : Rows (Good L r) c

  module _ (P : Plain N) (L : List (ℕ × ℕ × ℕ)) (r : ℕ) (s : St) (I : Inv N r s) (W : Ways L r s.c) (few : suc (suc r) ≤ 13) (sub : (m : ℕ × ℕ × ℕ) → Memᴰ m (ride_st N r s).k.log → Memᴰ m L) where
    s₀ : St
    s₀ = record { c = record { lab = s.c.lab; E = s.c.E; B = s.c.B; SS = s.c.SS; Q = [] }; k = record { TS = s.k.TS; TO = s.k.TO; TD = s.k.TD; LB = []; log = s.k.log } }

    rode : Steps N (suc (suc r)) (Good L r) s₀.c (ride_st N r s).c
    unfolding s₀
    rode =
        stops_steps N P r (suc (suc r)) L
        (λ x v t o p g m w i h l a. record { inside = P.stop_in t p l; last = r; so_far = le_refl _; way = w_ride r t o p g.way g.so_far i m w.ok w.pick w.late h l a })
        I.inside W.known I.top sub (stops_graph N r (suc (suc r)) s.c.Q s₀)

    c₁ : Core
    c₁ = let t = ride_st N r s in record { lab = t.c.lab; E = t.c.E; B = t.c.B; SS = t.c.SS; Q = [] }

    footed : Steps N (suc (suc r)) (Good L r) c₁ (walks N (suc (suc r)) (ride_st N r s).c.Q c₁)
    unfolding s₀ c₁
    footed =
        walks_steps N (suc (suc r))
        (λ x v y d g m. record { inside = P.edge_to x y d m; last = g.last; so_far = g.so_far; way = w_walk g.way m })
        (λ x m. ⊎_elim
        (λ i. absurd (Memᴰ.not-nil i))
        (λ (f : at (ride_st N r s).c x < at s.c x). ⊎_elim (λ e. absurd (omega (arith, e))) (λ g. g) (steps_changed N (suc (suc r)) rode x))
        (steps_fell N (suc (suc r)) rode x m))
        (walks_graph N (suc (suc r)) (ride_st N r s).c.Q c₁)

    kept : {c c' : Core} → Steps N (suc (suc r)) (Good L r) c c' → ((x : ℕ) → x < N.n_s → at c x < N.MAX → Good L r x (at c x)) → (x : ℕ) → x < N.n_s → at c' x < N.MAX → Good L r x (at c' x)
    kept q K x h l = ⊎_elim (λ e. subst (λ (z : ℕ). Good L r x z) (sym e) (K x h (omega (arith, e)))) (λ g. g) (steps_changed N (suc (suc r)) q x)

    pub round_ways : Ways L (suc r) (walk_st N r (ride_st N r s)).c
    unfolding s₀ c₁
    round_ways =
        let R₁ : Rows (Good L r) (ride_st N r s).c = steps_rows (suc (suc r)) few rode (record { row = W.rows.row }) in
        let R₂ : Rows (Good L r) (walks N (suc (suc r)) (ride_st N r s).c.Q c₁) = steps_rows (suc (suc r)) few footed (record { row = R₁.row }) in
        record {
          known = λ x h l. good_up (kept footed (kept rode W.known) x h l);
          rows = record { row = λ x i v l e. good_up (R₂.row x i v l e) };
        }

  walk_log : (r : ℕ) (s : St) (m : ℕ × ℕ × ℕ) → Memᴰ m s.k.log → Memᴰ m (ride_st N r s).k.log
  walk_log r s m i = stops_log N r (suc (suc r)) (stops_graph N r (suc (suc r)) s.c.Q (record { c = record { lab = s.c.lab; E = s.c.E; B = s.c.B; SS = s.c.SS; Q = [] }; k = record { TS = s.k.TS; TO = s.k.TO; TD = s.k.TD; LB = []; log = s.k.log } })) m i

  rounds_log : (n r : ℕ) (s : St) (m : ℕ × ℕ × ℕ) → Memᴰ m s.k.log → Memᴰ m (rounds N n r s).k.log
  unfolding rounds
  rounds_log zero r s m i = i
  rounds_log (suc n) r s m i = rounds_log n (suc r) (walk_st N r (ride_st N r s)) m (walk_log r s m i)

  pub rounds_ways : Plain N → (L : List (ℕ × ℕ × ℕ)) (n r : ℕ) (s : St) → n + r ≤ 12 → Inv N r s → Ways L r s.c → ((m : ℕ × ℕ × ℕ) → Memᴰ m (rounds N n r s).k.log → Memᴰ m L) → Ways L (n + r) (rounds N n r s).c
  unfolding rounds
  rounds_ways P L zero r s b I W sub = subst (λ (k : ℕ). Ways L k s.c) (omega arith) W
  rounds_ways P L (suc n) r s b I W sub =
      subst (λ (k : ℕ). Ways L k (rounds N n (suc r) (walk_st N r (ride_st N r s))).c) (omega arith)
      (rounds_ways P L n (suc r) (walk_st N r (ride_st N r s)) (omega arith) (round_inv N P r s I) (round_ways P L r s I W (omega arith) (λ m i. sub m (rounds_log n (suc r) (walk_st N r (ride_st N r s)) m i))) sub)
