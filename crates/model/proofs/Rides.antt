-- The transit phase is a run of improvements, each with its reason; trip stamps never pass the round's.
use Prim.Native.Nat.{ℕ, ◌+◌, ◌≤◌, ◌<◌}
use mathlib.Core.Path.{◌≡◌, refl, sym, subst}
use mathlib.Core.Logic.{⊎_elim}
use mathlib.Core.Bool.{true}
use mathlib.Core.List.{List, Memᴰ}
use native.Mathlib.Nat.{le_refl, le_trans}
use native.Mathlib.Omega.{arith}
use lib.ListN.{length-set}
use Rattle.model.proofs.Base.{set_cases}
use Rattle.model.proofs.Net.{Net, Plain}
use Rattle.model.proofs.PlainSearch.{Core, St, at, ride, board, change}
use Rattle.model.proofs.Scan.{Scan, done, bar, cut, step, scan_graph}
use Rattle.model.proofs.Departures.{Deps, nil, skip, go, Take, t_s, Even}
use Rattle.model.proofs.Stops.{Stops}
use Rattle.model.proofs.Improvements.{Steps, stay, steps_trans, relax_steps, steps_le, steps_changed}

module _ (N : Net) (stamp : ℕ) {J : ℕ → ℕ → Type 0} where
  pub scan_steps : {t k off : ℕ} {c c' : Core} → ((p : ℕ) → off ≤ p → p < N.len t → N.alight t p ≡ true → J (N.stop_at t p) (N.arr t p)) → k + off ≡ N.len t → Scan N stamp t k off c c' → Steps N stamp J c c'
  scan_steps j e done = stay
  scan_steps j e (bar f r) = scan_steps (λ p h. j p (omega arith)) (omega arith) r
  scan_steps j e (cut g h) = stay
  scan_steps {t = t} j e (step {off = off} {c = c} g h r) = steps_trans N stamp (relax_steps N stamp _ _ c (j off (le_refl _) (omega arith) g)) (scan_steps (λ p h. j p (omega arith)) (omega arith) r)

  pub ride_steps : (t o : ℕ) (c : Core) → o < N.len t → ((p : ℕ) → o < p → p < N.len t → N.alight t p ≡ true → J (N.stop_at t p) (N.arr t p)) → Steps N stamp J c (ride N stamp t o c)
  unfolding ride
  ride_steps t o c l j = scan_steps j (omega arith) (scan_graph N stamp t _ _ c)

pub deps_log : (N : Net) (round stamp after : ℕ) {ds : List (ℕ × ℕ)} {s s' : St} → Deps N round stamp after ds s s' → (m : ℕ × ℕ × ℕ) → Memᴰ m s.k.log → Memᴰ m s'.k.log
unfolding board
deps_log N round stamp after nil m i = i
deps_log N round stamp after (Deps.cut h) m i = i
deps_log N round stamp after (skip w r) m i = deps_log N round stamp after r m i
deps_log N round stamp after (go w r) m i = deps_log N round stamp after r m (Memᴰ.tail i)

pub stops_log : (N : Net) (round stamp : ℕ) {xs : List ℕ} {s s' : St} → Stops N round stamp xs s s' → (m : ℕ × ℕ × ℕ) → Memᴰ m s.k.log → Memᴰ m s'.k.log
stops_log N round stamp Stops.nil m i = i
stops_log N round stamp (Stops.skip h r) m i = stops_log N round stamp r m i
stops_log N round stamp (Stops.go h d r) m i = stops_log N round stamp r m (deps_log N round stamp _ d m i)

pub deps_stamp : (N : Net) (round stamp after : ℕ) {ds : List (ℕ × ℕ)} {s s' : St} → Deps N round stamp after ds s s' → ((t : ℕ) → t_s s.k t ≤ stamp) → (t : ℕ) → t_s s'.k t ≤ stamp
unfolding board
deps_stamp N round stamp after nil h t = h t
deps_stamp N round stamp after (Deps.cut b) h t = h t
deps_stamp N round stamp after (skip w r) h t = deps_stamp N round stamp after r h t
deps_stamp N round stamp after (go {d = d} {s = s} w r) h t = deps_stamp N round stamp after r (λ u. ⊎_elim (λ p. omega (arith, p.1)) (λ p. omega (arith, p, h u)) (set_cases s.k.TS d.0 stamp u 0)) t

pub stops_stamp : (N : Net) (round stamp : ℕ) {xs : List ℕ} {s s' : St} → Stops N round stamp xs s s' → ((t : ℕ) → t_s s.k t ≤ stamp) → (t : ℕ) → t_s s'.k t ≤ stamp
stops_stamp N round stamp Stops.nil h t = h t
stops_stamp N round stamp (Stops.skip b r) h t = stops_stamp N round stamp r h t
stops_stamp N round stamp (Stops.go b d r) h t = stops_stamp N round stamp r (deps_stamp N round stamp _ d h) t

pub deps_even : (N : Net) (round stamp after : ℕ) {ds : List (ℕ × ℕ)} {s s' : St} → Deps N round stamp after ds s s' → Even s.k → Even s'.k
unfolding board
deps_even N round stamp after nil h = h
deps_even N round stamp after (Deps.cut b) h = h
deps_even N round stamp after (skip w r) h = deps_even N round stamp after r h
deps_even N round stamp after (go {d = d} {s = s} w r) h = deps_even N round stamp after r (record { to = simp length-set h.to; td = simp length-set h.td })

pub stops_even : (N : Net) (round stamp : ℕ) {xs : List ℕ} {s s' : St} → Stops N round stamp xs s s' → Even s.k → Even s'.k
stops_even N round stamp Stops.nil h = h
stops_even N round stamp (Stops.skip b r) h = stops_even N round stamp r h
stops_even N round stamp (Stops.go b d r) h = stops_even N round stamp r (deps_even N round stamp _ d h)

module _ (N : Net) (P : Plain N) (round stamp : ℕ) (L : List (ℕ × ℕ × ℕ)) {J : ℕ → ℕ → Type 0} where
  pub deps_steps : (after : ℕ) {ds : List (ℕ × ℕ)} {s s' : St} → ((t o : ℕ) → Memᴰ (t, o) ds → o < N.len t)
      → ((t o p : ℕ) → Memᴰ (t, o) ds → Take N round stamp after t o → Memᴰ (round, t, o) L → o < p → p < N.len t → N.alight t p ≡ true → J (N.stop_at t p) (N.arr t p))
      → ((m : ℕ × ℕ × ℕ) → Memᴰ m s'.k.log → Memᴰ m L) → Deps N round stamp after ds s s' → Steps N stamp J s.c s'.c
  unfolding board
  deps_steps after I j sub nil = stay
  deps_steps after I j sub (Deps.cut h) = stay
  deps_steps after I j sub (skip w r) = deps_steps after (λ t o m. I t o (Memᴰ.tail m)) (λ t o p m. j t o p (Memᴰ.tail m)) sub r
  deps_steps after I j sub (go {d = d} {s = s} w r) =
      steps_trans N stamp
      (ride_steps N stamp d.0 d.1 s.c (I d.0 d.1 (Memᴰ.head refl)) (λ p. j d.0 d.1 p (Memᴰ.head refl) w (sub (round, d.0, d.1) (deps_log N round stamp after r (round, d.0, d.1) (Memᴰ.head refl)))))
      (deps_steps after (λ t o m. I t o (Memᴰ.tail m)) (λ t o p m. j t o p (Memᴰ.tail m)) sub r)

  pub stops_steps : ((x v t o p : ℕ) → J x v → Memᴰ (t, o) (N.deps x) → Take N round stamp (v + change N round) t o → Memᴰ (round, t, o) L → o < p → p < N.len t → N.alight t p ≡ true → J (N.stop_at t p) (N.arr t p))
      → {xs : List ℕ} {s s' : St} → ((x : ℕ) → Memᴰ x xs → x < N.n_s) → ((x : ℕ) → x < N.n_s → at s.c x < N.MAX → J x (at s.c x)) → s.c.B ≤ N.MAX
      → ((m : ℕ × ℕ × ℕ) → Memᴰ m s'.k.log → Memᴰ m L) → Stops N round stamp xs s s' → Steps N stamp J s.c s'.c
  stops_steps law I W b sub Stops.nil = stay
  stops_steps law I W b sub (Stops.skip h r) = stops_steps law (λ x m. I x (Memᴰ.tail m)) W b sub r
  stops_steps law I W b sub (Stops.go {x = x} {s = s} {m = m} h d r) =
      let q : Steps N stamp J s.c m.c = deps_steps _ (P.listed x) (λ t o p i w g. law x (at s.c x) t o p (W x (I x (Memᴰ.head refl)) (omega arith)) i w g) (λ z i. sub z (stops_log N round stamp r z i)) d in
      steps_trans N stamp q
      (stops_steps law (λ y i. I y (Memᴰ.tail i))
      (λ y i l. ⊎_elim (λ e. subst (λ (z : ℕ). J y z) (sym e) (W y i (omega (arith, e)))) (λ j. j) (steps_changed N stamp q y))
      (le_trans (steps_le N stamp q).b b) sub r)
