-- The departures of one stop: after them every permitted departure not before the given time is ridden, or dominated.
use Prim.Native.Nat.{ℕ, ◌+◌, ◌≤◌, ◌<◌}
use mathlib.Core.Path.{◌≡◌, refl, sym, ap, subst, ◌∙◌}
use mathlib.Core.Logic.{◌⊎◌, inl, inr, ⊎_elim}
use mathlib.Core.Bool.{Bool, true, false, cond, ◌&&◌, ◌||◌, not}
use mathlib.Core.List.Memᴰ
use mathlib.Core.List.{List, [], ◌∷◌, Memᴰ}
use native.Mathlib.Nat.{le_trans}
use native.Mathlib.Omega.{arith}
use lib.ListN.{get_or, set, length, length-set}
use lib.Dec.{ltb, leb, eqb}
use borrow.Author.Tests.{ltb-true, ltb-false, leb-true, eqb-true, eqb-false, not-true, not-false}
use Rattle.model.proofs.Base.{split, no_both, or_true, or-false, and-true, and-false, set3}
use Rattle.model.proofs.Net.{Net, Boards, Plain, Sorted, more}
use Rattle.model.proofs.PlainSearch.{Core, Book, St, ride, board, blocked, passed, skips, departures}
use Rattle.model.proofs.Coverage.{Le, Le-refl, Le-trans, Cov, cov_le, cov_later, by_best}
use Rattle.model.proofs.Scan.{scan_graph, scan_le, scan_cov}

-- every later stop where trip t sets down, boarded at o, is covered
pub record Ridden (N : Net) (c : Core) (t o : ℕ) : Type 0 where
  pub all : (p : ℕ) → o < p → p < N.len t → N.alight t p ≡ true → Cov c (N.stop_at t p) (N.arr t p)

pub ridden_le : {N : Net} {c' c : Core} {t o : ℕ} → Le c' c → Ridden N c t o → Ridden N c' t o
ridden_le l r = record { all = λ p h m a. cov_le l (r.all p h m a) }

pub ridden_on : {N : Net} {c : Core} {t o o' : ℕ} → o ≤ o' → Ridden N c t o → Ridden N c t o'
ridden_on l r = record { all = λ p h m a. r.all p (omega arith) m a }

pub ridden_best : {N : Net} {c : Core} {t o : ℕ} → Plain N → Boards N t o → c.B ≤ N.dep t o → Ridden N c t o
ridden_best {t = t} {o = o} P k h = record { all = λ p l m a. by_best (le_trans h (P.dep_arr t o p l m k a)) }

pub ride_le : (N : Net) (stamp t o : ℕ) (c : Core) → Le (ride N stamp t o c) c
unfolding ride
ride_le N stamp t o c = scan_le N stamp t (scan_graph N stamp t _ _ c)

pub ride_ridden : (N : Net) → Plain N → (stamp t o : ℕ) (c : Core) → o < N.len t → Boards N t o → Ridden N (ride N stamp t o c) t o
unfolding ride
ride_ridden N P stamp t o c l w = record { all = λ p h m a. scan_cov N stamp t P w (scan_graph N stamp t _ _ c) (omega arith) (omega arith) p h m a }

-- of two trips of a line that prune, the earlier serves for the later
pub ridden_line : {N : Net} {c : Core} → Plain N → (t u o o' : ℕ) → N.prunes t ≡ true → N.prunes u ≡ true → N.line u ≡ N.line t → N.pos u < N.pos t → o' ≤ o → Ridden N c u o' → Ridden N c t o
ridden_line {N} {c} P t u o o' f g l p h r =
    record { all = λ q i m a. subst (λ (s : ℕ). Cov c s (N.arr t q)) (P.fifo_stop t u q l m) (cov_later (P.fifo_arr t u q f g l p m) (r.all q (omega arith) (subst (λ (n : ℕ). q < n) (sym (P.fifo_len t u l)) m) (P.fifo_alight t u q f g l m ∙ a))) }

abbrev pub t_s : Book → ℕ → ℕ
t_s k t = get_or k.TS t 0

abbrev pub t_o : Book → ℕ → ℕ
t_o k t = get_or k.TO t 0

abbrev pub t_d : Book → ℕ → ℕ
t_d k t = get_or k.TD t 0

-- the three boarding tables are equally long
pub record Even (k : Book) : Type 0 where
  pub to : length k.TO ≡ length k.TS
  pub td : length k.TD ≡ length k.TS

module _ (N : Net) (round stamp : ℕ) where
  -- what a stop's handling keeps: each boarding of this round is ridden, and those noted for pruning prune
  pub record Kept (s : St) : Type 0 where
    pub even : Even s.k
    pub line : (u o : ℕ) → Memᴰ (u, o) s.k.LB → (N.prunes u ≡ true) × Ridden N s.c u o
    pub trip : (t : ℕ) → t_s s.k t ≡ stamp → Ridden N s.c t (t_o s.k t)
    pub time : (t : ℕ) → t_s s.k t ≡ stamp → t_d s.k t ≡ N.dep t (t_o s.k t)
    pub inside : (t : ℕ) → t_s s.k t ≡ stamp → t_o s.k t < N.len t
    pub boarded : (t : ℕ) → t_s s.k t ≡ stamp → Boards N t (t_o s.k t)

  pub kept_board : Plain N → {s : St} → Kept s → (t o : ℕ) → o < N.len t → Boards N t o → Kept (record { c = ride N stamp t o s.c; k = board N round stamp t o s.k })
  unfolding board
  kept_board P {s} K t o l w =
      record {
        even = record { to = length-set s.k.TO t o ∙ K.even.to ∙ sym (length-set s.k.TS t stamp); td = length-set s.k.TD t (N.dep t o) ∙ K.even.td ∙ sym (length-set s.k.TS t stamp) };
        line = line (N.prunes t) refl;
        trip = λ u e. ⊎_elim
            (λ q. subst (λ (x : ℕ). Ridden N (ride N stamp t o s.c) u x) (sym q.2) (subst (λ (x : ℕ). Ridden N (ride N stamp t o s.c) x o) (sym q.0) (ride_ridden N P stamp t o s.c l w)))
            (λ q. subst (λ (x : ℕ). Ridden N (ride N stamp t o s.c) u x) (sym q.1) (ridden_le (ride_le N stamp t o s.c) (K.trip u (sym q.0 ∙ e))))
            (three u);
        time = λ u e. ⊎_elim
            (λ q. q.3 ∙ (ap (λ (x : ℕ). N.dep x o) (sym q.0) ∙ ap (N.dep u) (sym q.2)))
            (λ q. q.2 ∙ (K.time u (sym q.0 ∙ e) ∙ ap (N.dep u) (sym q.1)))
            (three u);
        inside = λ u e. ⊎_elim
            (λ q. subst (λ (x : ℕ). x < N.len u) (sym q.2) (subst (λ (x : ℕ). o < N.len x) (sym q.0) l))
            (λ q. subst (λ (x : ℕ). x < N.len u) (sym q.1) (K.inside u (sym q.0 ∙ e)))
            (three u);
        boarded = λ u e. ⊎_elim
            (λ q. subst (Boards N u) (sym q.2) (subst (λ (x : ℕ). Boards N x o) (sym q.0) w))
            (λ q. subst (Boards N u) (sym q.1) (K.boarded u (sym q.0 ∙ e)))
            (three u);
      }
    where
      old : (u p : ℕ) → Memᴰ (u, p) s.k.LB → (N.prunes u ≡ true) × Ridden N (ride N stamp t o s.c) u p
      old u p m = let k = K.line u p m in (k.0, ridden_le (ride_le N stamp t o s.c) k.1)

      line : (b : Bool) → N.prunes t ≡ b → (u p : ℕ) → Memᴰ (u, p) (cond b ((t, o) ∷ s.k.LB) s.k.LB) → (N.prunes u ≡ true) × Ridden N (ride N stamp t o s.c) u p
      line true f u p m = ⊎_elim (λ e. subst (λ (d : ℕ × ℕ). (N.prunes d.0 ≡ true) × Ridden N (ride N stamp t o s.c) d.0 d.1) (sym e) (f, ride_ridden N P stamp t o s.c l w)) (old u p) (Memᴰ.cases_cons m)
      line false f u p m = old u p m

      three : (u : ℕ) → ((u ≡ t) × (get_or (set s.k.TS t stamp) u 0 ≡ stamp) × (get_or (set s.k.TO t o) u 0 ≡ o) × (get_or (set s.k.TD t (N.dep t o)) u 0 ≡ N.dep t o))
          ⊎ ((get_or (set s.k.TS t stamp) u 0 ≡ get_or s.k.TS u 0) × (get_or (set s.k.TO t o) u 0 ≡ get_or s.k.TO u 0) × (get_or (set s.k.TD t (N.dep t o)) u 0 ≡ get_or s.k.TD u 0))
      three u = set3 s.k.TS s.k.TO s.k.TD K.even.to K.even.td t stamp o (N.dep t o) u

module _ (N : Net) (round stamp after : ℕ) where
  -- why a departure is passed over
  pub data Skip (s : St) (t o : ℕ) : Type 0 where
    s_trip : N.ok_trip t ≡ false → Skip s t o
    s_line : (u o' : ℕ) → N.prunes t ≡ true → Memᴰ (u, o') s.k.LB → N.line u ≡ N.line t → N.pos u < N.pos t → o' ≤ o → Skip s t o
    s_pick : N.pick t o ≡ false → Skip s t o
    s_early : N.dep t o < after → Skip s t o
    s_best : s.c.B ≤ N.dep t o → Skip s t o
    s_passed : t_s s.k t ≡ stamp → t_d s.k t ≤ N.dep t o → (N.dep t o ≡ t_d s.k t → t_o s.k t ≤ o) → Skip s t o

  pub record Take (t o : ℕ) : Type 0 where
    pub ok : N.ok_trip t ≡ true
    pub pick : N.pick t o ≡ true
    pub late : after ≤ N.dep t o

  boards : {x t o : ℕ} → Memᴰ (t, o) (N.deps x) → Take t o → Boards N t o
  boards {x = x} m w = record { at = x; listed = m; ok = w.ok; pick = w.pick }

  pub data Deps : List (ℕ × ℕ) → St → St → Type 0 where
    nil : {s : St} → Deps [] s s
    cut : {d : ℕ × ℕ} {ds : List (ℕ × ℕ)} {s : St} → s.c.B + N.margin ≤ N.sch d.0 d.1 → Deps (d ∷ ds) s s
    skip : {d : ℕ × ℕ} {ds : List (ℕ × ℕ)} {s s' : St} → Skip s d.0 d.1 → Deps ds s s' → Deps (d ∷ ds) s s'
    go : {d : ℕ × ℕ} {ds : List (ℕ × ℕ)} {s s' : St} → Take d.0 d.1 → Deps ds (record { c = ride N stamp d.0 d.1 s.c; k = board N round stamp d.0 d.1 s.k }) s' → Deps (d ∷ ds) s s'

  pub deps_le : {ds : List (ℕ × ℕ)} {s s' : St} → Deps ds s s' → Le s'.c s.c
  deps_le nil = Le-refl _
  deps_le (cut h) = Le-refl _
  deps_le (skip w r) = deps_le r
  deps_le (go {d = d} {s = s} w r) = Le-trans (deps_le r) (ride_le N stamp d.0 d.1 s.c)

  skip_ridden : Plain N → {s : St} → Kept N round stamp s → (t o : ℕ) → Skip s t o → Take t o → Boards N t o → Ridden N s.c t o
  skip_ridden P K t o (s_trip e) w b = absurd (no_both w.ok e)
  skip_ridden P K t o (s_line u o' f m e p h) w b = let k = K.line u o' m in ridden_line P t u o o' f k.0 e p h k.1
  skip_ridden P K t o (s_pick e) w b = absurd (no_both w.pick e)
  skip_ridden P K t o (s_early h) w b = absurd (omega (arith, w.late))
  skip_ridden P K t o (s_best h) w b = ridden_best P b h
  skip_ridden P {s} K t o (s_passed e h f) w b =
      ridden_on
      (⊎_elim
      (λ (q : o < t_o s.k t). f (omega (arith, P.dep_dep t o (t_o s.k t) (omega arith) b (K.boarded t e), K.time t e)))
      (λ q. q)
      (split o (t_o s.k t)))
      (K.trip t e)

  pub deps_kept : Plain N → {x : ℕ} {ds : List (ℕ × ℕ)} {s s' : St} → ((t o : ℕ) → Memᴰ (t, o) ds → Memᴰ (t, o) (N.deps x)) → Kept N round stamp s → Deps ds s s' → Kept N round stamp s'
  deps_kept P I K nil = K
  deps_kept P I K (cut h) = K
  deps_kept P I K (skip w r) = deps_kept P (λ t o m. I t o (Memᴰ.tail m)) K r
  deps_kept P {x} I K (go {d = d} w r) = deps_kept P (λ t o m. I t o (Memᴰ.tail m)) (kept_board N round stamp P K d.0 d.1 (P.listed x d.0 d.1 (I d.0 d.1 (Memᴰ.head refl))) (boards (I d.0 d.1 (Memᴰ.head refl)) w)) r

  pub deps_ridden : Plain N → {x : ℕ} {ds : List (ℕ × ℕ)} {s s' : St} → Sorted N ds → ((t o : ℕ) → Memᴰ (t, o) ds → Memᴰ (t, o) (N.deps x)) → Kept N round stamp s → Deps ds s s' → (t o : ℕ) → Memᴰ (t, o) ds → Take t o → Ridden N s'.c t o
  deps_ridden P S I K nil t o m w = absurd (Memᴰ.not-nil m)
  deps_ridden P {x} (more S₁ S) I K (cut {d = d} {s = s} h) t o m w =
      let b : s.c.B + N.margin ≤ N.sch t o = ⊎_elim (λ e. subst (λ (x : ℕ × ℕ). s.c.B + N.margin ≤ N.sch x.0 x.1) (sym e) h) (λ m'. le_trans h (S₁ t o m')) (Memᴰ.cases_cons m) in
      ridden_best P (boards (I t o m) w) (omega (arith, b, P.early t o (boards (I t o m) w)))
  deps_ridden P (more S₁ S) I K (skip {d = d} {s = s} z r) t o m w =
      ⊎_elim
      (λ e. ridden_le (deps_le r) (skip_ridden P K t o (subst (λ (x : ℕ × ℕ). Skip s x.0 x.1) (sym e) z) w (boards (I t o m) w)))
      (λ m'. deps_ridden P S (λ t o m. I t o (Memᴰ.tail m)) K r t o m' w)
      (Memᴰ.cases_cons m)
  deps_ridden P {x} (more S₁ S) I K (go {d = d} {s = s} {s' = s'} z r) t o m w =
      ⊎_elim
      (λ e. subst (λ (x : ℕ × ℕ). Ridden N s'.c x.0 x.1) (sym e) (ridden_le (deps_le r) (ride_ridden N P stamp d.0 d.1 s.c (P.listed x d.0 d.1 (I d.0 d.1 (Memᴰ.head refl))) (boards (I d.0 d.1 (Memᴰ.head refl)) z))))
      (λ m'. deps_ridden P S (λ t o m. I t o (Memᴰ.tail m)) (kept_board N round stamp P K d.0 d.1 (P.listed x d.0 d.1 (I d.0 d.1 (Memᴰ.head refl))) (boards (I d.0 d.1 (Memᴰ.head refl)) z)) r t o m' w)
      (Memᴰ.cases_cons m)

  -- the model goes by these steps
  blocked_by : (t o : ℕ) (bs : List (ℕ × ℕ)) → blocked N t o bs ≡ true → (b : ℕ × ℕ) × (Memᴰ b bs) × (N.line b.0 ≡ N.line t) × (N.pos b.0 < N.pos t) × (b.1 ≤ o)
  unfolding blocked
  blocked_by t o [] e = absurd (no_both e refl)
  blocked_by t o (b ∷ bs) e = here (or_true _ _ e) (blocked_by t o bs)
    where
      here : ((eqb (N.line b.0) (N.line t) && ltb (N.pos b.0) (N.pos t) && leb b.1 o) ≡ true) ⊎ (blocked N t o bs ≡ true) → (blocked N t o bs ≡ true → (b : ℕ × ℕ) × (Memᴰ b bs) × (N.line b.0 ≡ N.line t) × (N.pos b.0 < N.pos t) × (b.1 ≤ o))
          → (b' : ℕ × ℕ) × (Memᴰ b' (b ∷ bs)) × (N.line b'.0 ≡ N.line t) × (N.pos b'.0 < N.pos t) × (b'.1 ≤ o)
      here (inl h) ih =
          let p = and-true (eqb (N.line b.0) (N.line t) && ltb (N.pos b.0) (N.pos t)) (leb b.1 o) h in
          let q = and-true (eqb (N.line b.0) (N.line t)) (ltb (N.pos b.0) (N.pos t)) p.0 in
          (b, Memᴰ.head refl, eqb-true _ _ q.0, ltb-true _ _ q.1, leb-true _ _ p.1)
      here (inr h) ih = let r = ih h in (r.0, Memᴰ.tail r.1, r.2, r.3, r.4)

  passed_by : (t o : ℕ) (s : St) → passed N stamp t o s.k ≡ true → Skip s t o
  unfolding passed
  passed_by t o s e =
      let k = s.k in
      let p = and-true (eqb (t_s k t) stamp) (not (ltb (N.dep t o) (t_d k t) || (eqb (N.dep t o) (t_d k t) && ltb o (t_o k t)))) e in
      let q = or-false (ltb (N.dep t o) (t_d k t)) (eqb (N.dep t o) (t_d k t) && ltb o (t_o k t)) (not-true _ p.1) in
      s_passed (eqb-true _ _ p.0) (ltb-false _ _ q.0) (λ h. ⊎_elim (λ n. absurd (eqb-false _ _ n h)) (λ n. ltb-false _ _ n) (and-false _ _ q.1))

  skips_by : (t o : ℕ) (s : St) → skips N stamp after t o s ≡ true → Skip s t o
  unfolding skips
  skips_by t o s e =
      ⊎_elim
      (λ e₁. ⊎_elim
      (λ e₂. ⊎_elim
      (λ e₃. ⊎_elim
      (λ e₄. s_trip (not-true _ e₄))
      (λ e₄. let p = and-true _ _ e₄ in let b = blocked_by t o s.k.LB p.1 in s_line b.0.0 b.0.1 p.0 b.1 b.2 b.3 b.4)
      (or_true _ _ e₃))
      (λ e₃. s_pick (not-true _ e₃))
      (or_true _ _ e₂))
      (λ e₂. s_early (ltb-true _ _ e₂))
      (or_true _ _ e₁))
      (λ e₁. ⊎_elim (λ e₂. s_best (leb-true _ _ e₂)) (λ e₂. passed_by t o s e₂) (or_true _ _ e₁))
      (or_true _ _ e)

  pub takes_by : (t o : ℕ) (s : St) → skips N stamp after t o s ≡ false → Take t o
  unfolding skips
  takes_by t o s e =
      let e₁ = or-false _ _ e in
      let e₂ = or-false _ _ e₁.0 in
      let e₃ = or-false _ _ e₂.0 in
      let e₄ = or-false _ _ e₃.0 in
      record { ok = not-false _ e₄.0; pick = not-false _ e₃.1; late = ltb-false _ _ e₂.1 }

  pub deps_graph : (ds : List (ℕ × ℕ)) (s : St) → Deps ds s (departures N round stamp after ds s)
  unfolding departures
  deps_graph [] s = nil
  deps_graph (d ∷ ds) s = at_test (leb (s.c.B + N.margin) (N.sch d.0 d.1)) refl (skips N stamp after d.0 d.1 s) refl (deps_graph ds s) (deps_graph ds n)
    where
      n : St
      n = record { c = ride N stamp d.0 d.1 s.c; k = board N round stamp d.0 d.1 s.k }

      at_test : (x : Bool) → leb (s.c.B + N.margin) (N.sch d.0 d.1) ≡ x → (y : Bool) → skips N stamp after d.0 d.1 s ≡ y → Deps ds s (departures N round stamp after ds s) → Deps ds n (departures N round stamp after ds n)
          → Deps (d ∷ ds) s (elim x [ true ↦ s | false ↦ elim y [ true ↦ departures N round stamp after ds s | false ↦ departures N round stamp after ds n ] ])
      at_test true e y f p q = cut (leb-true _ _ e)
      at_test false e true f p q = skip (skips_by d.0 d.1 s f) p
      at_test false e false f p q = go (takes_by d.0 d.1 s f) q
