-- Demand 3, whole, of the model.
use Prim.Native.Nat.{ℕ, zero, suc, ◌+◌, ◌*◌, ◌≤◌, ◌<◌}
use mathlib.Core.Path.{◌≡◌, refl, sym, ap, subst, ◌∙◌}
use mathlib.Core.Logic.{◌⊎◌, inl, inr, ⊎_elim}
use mathlib.Core.Bool.{Bool, true, false, ◌&&◌}
use mathlib.Core.List.Memᴰ
use mathlib.Core.List.{List, [], ◌∷◌, ◌++◌, Memᴰ}
use native.Mathlib.Nat.{le_refl}
use native.Mathlib.Omega.{arith}
use lib.ListN.{get_or, set, replicate, get_or-replicate}
use lib.Dec.{ltb, leb, eqb}
use borrow.Author.Tests.{ltb-true, ltb-false, eqb-true}
use Rattle.model.proofs.Base.{set_cases, and-true}
use Rattle.model.proofs.Net.{Net, Plain}
use Rattle.model.proofs.PlainSearch.{Core, at, run, begin, rounds, access, arrive, target, row_best, cands, Answer, answer}
use Rattle.model.proofs.Rounds.{Reach}
use Rattle.model.proofs.Access.{Acc, begin_acc, begin_inv}
use Rattle.model.proofs.Optimal.{no_better}
use Rattle.model.proofs.Ways.{w_access, Good, Rows, Ways, rounds_ways}

module _ (N : Net) where
  access_rows : (L : List (ℕ × ℕ × ℕ)) → Plain N → (os : List (ℕ × ℕ)) → ((s d : ℕ) → Memᴰ (s, d) os → Memᴰ (s, d) N.orig) → (c : Core) → Rows N (Good N L 0) c → Rows N (Good N L 0) (access N os c)
  unfolding access arrive
  access_rows L P [] sub c R = R
  access_rows L P (o ∷ os) sub c R = access_rows L P os (λ s d m. sub s d (Memᴰ.tail m)) (arrive N o c) (one (ltb (N.start + o.1) (at c o.0)))
    where
      yes' : Core
      yes' = record { lab = set c.lab (13 * o.0 + 0) (suc (N.start + o.1)); E = set c.E o.0 (N.start + o.1); B = Rattle.model.proofs.PlainSearch.best N o.0 (N.start + o.1) c.B; SS = set c.SS o.0 1; Q = c.Q ++ (o.0 ∷ []) }

      no' : Core
      no' = record { lab = c.lab; E = c.E; B = Rattle.model.proofs.PlainSearch.best N o.0 (N.start + o.1) c.B; SS = c.SS; Q = c.Q }

      i₀ : o.0 < N.n_s
      i₀ = P.orig_in o.0 o.1 (sub o.0 o.1 (Memᴰ.head refl))

      g₀ : Good N L 0 o.0 (N.start + o.1)
      g₀ = record { inside = i₀; last = 0; so_far = le_refl _; way = w_access (sub o.0 o.1 (Memᴰ.head refl)) }

      one : (b : Bool) → Rows N (Good N L 0) (elim b [ true ↦ yes' | false ↦ no' ])
      one true = record {
        row = λ x i v l e. ⊎_elim
            (λ p. subst (λ (y : ℕ). Good N L 0 y v) (omega (arith, p.0)) (subst (λ (y : ℕ). Good N L 0 o.0 y) (omega (arith, p.1, e)) g₀))
            (λ p. R.row x i v l (sym p ∙ e))
            (set_cases c.lab (13 * o.0 + 0) (suc (N.start + o.1)) (13 * x + i) 0);
      }
      one false = record { row = R.row }

  zeros : (n i v : ℕ) → get_or (replicate n 0) i 0 ≡ suc v → ⊥
  zeros zero i v e = omega arith
  zeros (suc n) zero v e = omega arith
  zeros (suc n) (suc i) v e = zeros n i v e

  begin_ways : (L : List (ℕ × ℕ × ℕ)) → Plain N → (trips : ℕ) → Ways N L 0 (begin N trips).c
  begin_ways L P trips =
      record {
        known = λ x h l. ⊎_elim
            (λ e. absurd (omega (arith, e, get_or-replicate N.n_s x N.MAX 0 h)))
            (λ f. subst (λ (v : ℕ). Good N L 0 x v) (sym f.2) (record { inside = h; last = 0; so_far = le_refl _; way = w_access f.1 }))
            (A.changed x);
        rows = access_rows L P N.orig (λ s d m. m) _ (record { row = λ x i v l e. absurd (zeros (N.n_s * 13) (13 * x + i) v e) });
      }
    where
      A : Acc N N.orig (record { lab = replicate (N.n_s * 13) 0; E = replicate N.n_s N.MAX; B = N.MAX; SS = replicate N.n_s 0; Q = [] }) (begin N trips).c
      A = begin_acc N trips

  pub run_ways : Plain N → (trips n : ℕ) → n ≤ 12 → Ways N (run N trips n).k.log n (run N trips n).c
  unfolding run
  run_ways P trips n b = subst (λ (k : ℕ). Ways N (rounds N n 0 (begin N trips)).k.log k (rounds N n 0 (begin N trips)).c) (omega arith) (rounds_ways N P _ n 0 (begin N trips) (omega arith) (begin_inv N P trips) (begin_ways _ P trips) (λ m i. i))

  -- what the last loops pick
  target_low : (c : Core) (es : List (ℕ × ℕ)) (a : ℕ × ℕ) → a.0 ≤ N.MAX → ((target N c es a).0 ≤ a.0) × ((s d : ℕ) → Memᴰ (s, d) es → (target N c es a).0 ≤ at c s + d)
  unfolding target
  target_low c [] a h = (le_refl _, λ s d m. absurd (Memᴰ.not-nil m))
  target_low c (e ∷ es) a h = go (eqb (at c e.0) N.MAX) refl (ltb (at c e.0 + e.1) a.0) refl (target_low c es a h) (target_low c es (at c e.0 + e.1, e.0))
    where
      R : ℕ × ℕ → Type 0
      R t = (t.0 ≤ a.0) × ((s d : ℕ) → Memᴰ (s, d) (e ∷ es) → t.0 ≤ at c s + d)

      out : (t : ℕ × ℕ) → t.0 ≤ at c e.0 + e.1 → ((s d : ℕ) → Memᴰ (s, d) es → t.0 ≤ at c s + d) → (s d : ℕ) → Memᴰ (s, d) (e ∷ es) → t.0 ≤ at c s + d
      out t p q s d m = ⊎_elim (λ z. subst (λ (y : ℕ × ℕ). t.0 ≤ at c y.0 + y.1) (sym z) p) (λ i. q s d i) (Memᴰ.cases_cons m)

      go : (x : Bool) → eqb (at c e.0) N.MAX ≡ x → (y : Bool) → ltb (at c e.0 + e.1) a.0 ≡ y
          → ((target N c es a).0 ≤ a.0) × ((s d : ℕ) → Memᴰ (s, d) es → (target N c es a).0 ≤ at c s + d)
          → (at c e.0 + e.1 ≤ N.MAX → ((target N c es (at c e.0 + e.1, e.0)).0 ≤ at c e.0 + e.1) × ((s d : ℕ) → Memᴰ (s, d) es → (target N c es (at c e.0 + e.1, e.0)).0 ≤ at c s + d))
          → R (elim x [ true ↦ target N c es a | false ↦ elim y [ true ↦ target N c es (at c e.0 + e.1, e.0) | false ↦ target N c es a ] ])
      go true f y g p q = (p.0, out (target N c es a) (omega (arith, p.0, eqb-true (at c e.0) N.MAX f)) p.1)
      go false f true g p q =
          let l : at c e.0 + e.1 < a.0 = ltb-true _ _ g in
          let r = q (omega arith) in
          (omega (arith, r.0), out (target N c es (at c e.0 + e.1, e.0)) r.0 r.1)
      go false f false g p q = (p.0, out (target N c es a) (omega (arith, p.0, ltb-false (at c e.0 + e.1) a.0 g)) p.1)

  target_is : (c : Core) (es : List (ℕ × ℕ)) (a : ℕ × ℕ) → (target N c es a ≡ a) ⊎ ((d : ℕ) × (Memᴰ ((target N c es a).1, d) es) × ((target N c es a).0 ≡ at c (target N c es a).1 + d))
  unfolding target
  target_is c [] a = inl refl
  target_is c (e ∷ es) a = go (eqb (at c e.0) N.MAX) (ltb (at c e.0 + e.1) a.0) (target_is c es a) (target_is c es (at c e.0 + e.1, e.0))
    where
      Is : ℕ × ℕ → Type 0
      Is t = (t ≡ a) ⊎ ((d : ℕ) × (Memᴰ (t.1, d) (e ∷ es)) × (t.0 ≡ at c t.1 + d))

      go : (x y : Bool) → ((target N c es a ≡ a) ⊎ ((d : ℕ) × (Memᴰ ((target N c es a).1, d) es) × ((target N c es a).0 ≡ at c (target N c es a).1 + d)))
          → ((target N c es (at c e.0 + e.1, e.0) ≡ (at c e.0 + e.1, e.0)) ⊎ ((d : ℕ) × (Memᴰ ((target N c es (at c e.0 + e.1, e.0)).1, d) es) × ((target N c es (at c e.0 + e.1, e.0)).0 ≡ at c (target N c es (at c e.0 + e.1, e.0)).1 + d)))
          → Is (elim x [ true ↦ target N c es a | false ↦ elim y [ true ↦ target N c es (at c e.0 + e.1, e.0) | false ↦ target N c es a ] ])
      go true y p q = ⊎_elim (λ z. inl z) (λ z. inr (z.0, Memᴰ.tail z.1, z.2)) p
      go false true p q = ⊎_elim (λ z. inr (subst (λ (t : ℕ × ℕ). (d : ℕ) × (Memᴰ (t.1, d) (e ∷ es)) × (t.0 ≡ at c t.1 + d)) (sym z) (e.1, Memᴰ.head refl, refl))) (λ z. inr (z.0, Memᴰ.tail z.1, z.2)) q
      go false false p q = ⊎_elim (λ z. inl z) (λ z. inr (z.0, Memᴰ.tail z.1, z.2)) p

  -- a total that is the arrival of a way, with the egress walk of the stop
  pub record Arrives (L : List (ℕ × ℕ × ℕ)) (n total stop : ℕ) : Type 0 where
    pub reached : ℕ
    pub walk : ℕ
    pub egress : Memᴰ (stop, walk) N.egs
    pub good : Good N L n stop reached
    pub sum : total ≡ reached + walk

  module _ (L : List (ℕ × ℕ × ℕ)) (P : Plain N) (n : ℕ) (c : Core) (W : Ways N L n c) where
    row_best_is : (r : ℕ) → r < 13 → (es : List (ℕ × ℕ)) (a : ℕ × ℕ) → ((s d : ℕ) → Memᴰ (s, d) es → Memᴰ (s, d) N.egs) → (a.0 < N.MAX → Arrives L n a.0 a.1) → (row_best N c r es a).0 < N.MAX → Arrives L n (row_best N c r es a).0 (row_best N c r es a).1
    unfolding row_best
    row_best_is r b [] a sub A = A
    row_best_is r b (e ∷ es) a sub A = go (get_or c.lab (13 * e.0 + r) 0) refl (row_best_is r b es a (λ s d m. sub s d (Memᴰ.tail m)) A) (λ v. row_best_is r b es (v + e.1, e.0) (λ s d m. sub s d (Memᴰ.tail m)))
      where
        Is : ℕ × ℕ → Type 0
        Is t = t.0 < N.MAX → Arrives L n t.0 t.1

        i₀ : e.0 < N.n_s
        i₀ = P.eg_in e.0 e.1 (sub e.0 e.1 (Memᴰ.head refl))

        one : (v : ℕ) → get_or c.lab (13 * e.0 + r) 0 ≡ suc v → (y : Bool) → Is (row_best N c r es a) → (((v + e.1 < N.MAX) → Arrives L n (v + e.1) e.0) → Is (row_best N c r es (v + e.1, e.0))) → Is (elim y [ true ↦ row_best N c r es (v + e.1, e.0) | false ↦ row_best N c r es a ])
        one v f true p q = q (λ h. record { reached = v; walk = e.1; egress = sub e.0 e.1 (Memᴰ.head refl); good = W.rows.row e.0 r v b f; sum = refl })
        one v f false p q = p

        go : (x : ℕ) → get_or c.lab (13 * e.0 + r) 0 ≡ x → Is (row_best N c r es a) → ((v : ℕ) → ((v + e.1 < N.MAX) → Arrives L n (v + e.1) e.0) → Is (row_best N c r es (v + e.1, e.0)))
            → Is (elim x [ zero ↦ row_best N c r es a | suc v ↦ elim (ltb (v + e.1) a.0) [ true ↦ row_best N c r es (v + e.1, e.0) | false ↦ row_best N c r es a ] ])
        go zero f p q = p
        go (suc v) f p q = one v f (ltb (v + e.1) a.0) p (q v)

    cands_are : (top k r last : ℕ) → k + r ≤ 13 → last ≤ N.MAX → (total stop row : ℕ) → Memᴰ (total, stop, row) (cands N c top k r last) → Arrives L n total stop
    unfolding cands
    cands_are top zero r last b' h total stop row = λ m. absurd (Memᴰ.not-nil m)
    cands_are top (suc k) r last b' h total stop row =
        go (ltb (row_best N c r N.egs (N.MAX, N.MAX)).0 last && leb (row_best N c r N.egs (N.MAX, N.MAX)).0 (top + N.slack)) refl
        (λ q. cands_are top k (suc r) (row_best N c r N.egs (N.MAX, N.MAX)).0 (omega arith) q total stop row)
        (cands_are top k (suc r) last (omega arith) h total stop row)
      where
        b : ℕ × ℕ
        b = row_best N c r N.egs (N.MAX, N.MAX)

        go : (x : Bool) → (ltb (row_best N c r N.egs (N.MAX, N.MAX)).0 last && leb (row_best N c r N.egs (N.MAX, N.MAX)).0 (top + N.slack)) ≡ x
            → (b.0 ≤ N.MAX → Memᴰ (total, stop, row) (cands N c top k (suc r) b.0) → Arrives L n total stop)
            → (Memᴰ (total, stop, row) (cands N c top k (suc r) last) → Arrives L n total stop)
            → Memᴰ {A = ℕ × ℕ × ℕ} (total, stop, row) (elim x [ true ↦ (b.0, b.1, r) ∷ cands N c top k (suc r) b.0 | false ↦ cands N c top k (suc r) last ]) → Arrives L n total stop
        go true e p q m =
            let l : (row_best N c r N.egs (N.MAX, N.MAX)).0 < last = ltb-true _ _ (and-true _ _ e).0 in
            ⊎_elim
            (λ z. subst (λ (t : ℕ × ℕ × ℕ). Arrives L n t.0 t.1) (sym z) (row_best_is r (omega arith) N.egs (N.MAX, N.MAX) (λ s d m. m) (λ h. absurd (omega arith)) (omega arith)))
            (λ i. p (omega arith) i)
            (Memᴰ.cases_cons m)
        go false e p q m = q m

  pub record Demand3 (L : List (ℕ × ℕ × ℕ)) (n : ℕ) (a : Answer N) : Type 0 where
    -- no journey arrives before the best total
    pub lowest : (b : Bool) (m x v : ℕ) → m ≤ n → Reach N b m x v → N.is_eg x ≡ true → v < N.MAX → a.total ≤ v + N.eg x
    -- "no way" (the total is MAX) only if no journey exists, as long as no journey's arrival comes up to MAX
    pub none : a.total ≡ N.MAX → (b : Bool) (m x v : ℕ) → m ≤ n → Reach N b m x v → N.is_eg x ≡ true → v + N.eg x < N.MAX → ⊥
    -- any other total is the arrival of a way, and so is each candidate's
    pub best : (a.total ≡ N.MAX → ⊥) → Arrives L n a.total a.stop
    pub each : (total stop row : ℕ) → Memᴰ (total, stop, row) a.cand → Arrives L n total stop

  pub demand3 : Plain N → (trips n : ℕ) → n ≤ 12 → Demand3 (run N trips n).k.log n (answer N trips n)
  unfolding answer
  demand3 P trips n few =
      record {
        lowest = λ b m x v h j e l. no_better N P trips n _ low b m x v h j e l;
        none = λ q b m x v h j e l. absurd (omega (arith, q, no_better N P trips n _ low b m x v h j e (omega arith)));
        best = λ q. ⊎_elim
            (λ z. absurd (q (ap (λ (t : ℕ × ℕ). t.0) z)))
            (λ z. record {
              reached = at (run N trips n).c t.1;
              walk = z.0;
              egress = z.1;
              sum = z.2;
              good = (run_ways P trips n few).known t.1 (P.eg_in t.1 z.0 z.1) (omega (arith, z.2, q, l.0));
            })
            (target_is (run N trips n).c N.egs (N.MAX, N.MAX));
        each = cands_are (run N trips n).k.log P n (run N trips n).c (run_ways P trips n few) _ (suc n) 0 N.MAX (omega arith) (le_refl _);
      }
    where
      t : ℕ × ℕ
      t = target N (run N trips n).c N.egs (N.MAX, N.MAX)

      l : (t.0 ≤ N.MAX) × ((s d : ℕ) → Memᴰ (s, d) N.egs → t.0 ≤ at (run N trips n).c s + d)
      l = target_low (run N trips n).c N.egs (N.MAX, N.MAX) (le_refl _)

      low : (s : ℕ) → N.is_eg s ≡ true → t.0 ≤ at (run N trips n).c s + N.eg s
      low s e = l.1 s (N.eg s) (P.eg_list s e)
