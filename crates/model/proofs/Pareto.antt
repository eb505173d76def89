-- The candidates are Pareto-complete: for every journey of at most k rides that arrives within the slack of the best total there is a
-- candidate of row k or lower that arrives no later. First of the plain search, then of the query.
use Prim.Native.Nat.{ℕ, zero, suc, ◌+◌, ◌*◌, ◌-◌, ◌≤◌, ◌<◌, zero-le}
use mathlib.Core.Path.{◌≡◌, refl, sym, ap, subst, ◌∙◌}
use mathlib.Core.Logic.{◌⊎◌, inl, inr, ⊎_elim}
use mathlib.Core.Bool.{Bool, true, false, ◌&&◌}
use mathlib.Core.List.Memᴰ
use mathlib.Core.List.{List, [], ◌∷◌, ◌++◌, Memᴰ}
use native.Mathlib.Nat.{le_refl}
use native.Mathlib.Omega.{arith}
use lib.ListN.{length, get_or, set, get_or-replicate, length-set, length-replicate}
use lib.Dec.{ltb, leb, eqb}
use borrow.Author.Tests.{ltb-true, ltb-false, leb-false, eqb-true, eqb-false}
use Rattle.model.proofs.Base.{set_cases, and-false, split_eq}
use Rattle.model.proofs.Net.{Net, Plain}
use Rattle.model.proofs.PlainSearch.{Core, St, at, best, imp, ride_st, walk_st, walks, rounds, begin, run, access, arrive, row_best, cands, answer}
use Rattle.model.proofs.Coverage.{Cov, by_at, by_best}
use Rattle.model.proofs.Stops.{stops_graph}
use Rattle.model.proofs.Improvements.{Steps, stay, step, steps_queue, Att, att_none, att_stop}
use Rattle.model.proofs.Rides.{stops_steps}
use Rattle.model.proofs.Walks.{walks_graph, walks_steps}
use Rattle.model.proofs.Rounds.{Reach, Inv, round_inv, rounds_inv}
use Rattle.model.proofs.Access.{begin_inv}
use Rattle.model.proofs.Stamps.{set_there}

module _ (N : Net) where
  -- each earliest that is known stands in the labels, in row r or lower
  pub record Filled (r : ℕ) (c : Core) : Type 0 where
    pub held : (x : ℕ) → x < N.n_s → at c x < N.MAX → (i : ℕ) × (i ≤ r) × (get_or c.lab (13 * x + i) 0 ≡ suc (at c x))
    pub stops : length c.E ≡ N.n_s
    pub rows : length c.lab ≡ N.n_s * 13

  filled_up : {r : ℕ} {c : Core} → Filled r c → Filled (suc r) c
  filled_up F = record { held = λ x h l. let f = F.held x h l in (f.0, omega (arith, f.1), f.2); stops = F.stops; rows = F.rows }

  -- an improvement writes its round's row
  imp_filled : (r s v : ℕ) (c : Core) → suc r ≤ 12 → s < N.n_s → Filled (suc r) c → Filled (suc r) (imp N (suc (suc r)) s v c)
  unfolding imp
  imp_filled r s v c b i F =
      record {
        held = λ x h l. ⊎_elim
            (λ (e : x ≡ s). (
              suc (suc r) - 1,
              omega arith,
              subst (λ (y : ℕ). get_or (set c.lab (13 * s + (suc (suc r) - 1)) (suc v)) (13 * y + (suc (suc r) - 1)) 0 ≡ suc (get_or (set c.E s v) y 0)) (sym e)
                  (set_there c.lab (13 * s + (suc (suc r) - 1)) (suc v) (omega (arith, F.rows, i, b)) ∙ ap suc (sym (set_there c.E s v (omega (arith, F.stops, i))))),
            ))
            (λ (n : x ≡ s → ⊥). ⊎_elim
            (λ p. absurd (n p.0))
            (λ p. let f = F.held x h (omega (arith, l, p)) in (
              f.0,
              f.1,
              ⊎_elim
                  (λ q. absurd (n (omega (arith, q.0, f.1, b))))
                  (λ q. q ∙ (f.2 ∙ ap suc (sym p)))
                  (set_cases c.lab (13 * s + (suc (suc r) - 1)) (suc v) (13 * x + f.0) 0),
            ))
            (set_cases c.E s v x 0))
            (same x s);
        stops = length-set c.E s v ∙ F.stops;
        rows = length-set c.lab (13 * s + (suc (suc r) - 1)) (suc v) ∙ F.rows;
      }
    where
      same : (a b : ℕ) → (a ≡ b) ⊎ (a ≡ b → ⊥)
      same a b = go (eqb a b) refl
        where
          go : (t : Bool) → eqb a b ≡ t → (a ≡ b) ⊎ (a ≡ b → ⊥)
          go true e = inl (eqb-true a b e)
          go false e = inr (eqb-false a b e)

  -- and no other
  imp_kept : (r s v : ℕ) (c : Core) (x i : ℕ) → suc r ≤ 12 → i ≤ r → get_or (imp N (suc (suc r)) s v c).lab (13 * x + i) 0 ≡ get_or c.lab (13 * x + i) 0
  unfolding imp
  imp_kept r s v c x i b h = ⊎_elim (λ p. absurd (omega (arith, p.0))) (λ p. p) (set_cases c.lab (13 * s + (suc (suc r) - 1)) (suc v) (13 * x + i) 0)

  -- the rows up to r are the same
  pub record Same (r : ℕ) (c c' : Core) : Type 0 where
    pub row : (x i : ℕ) → i ≤ r → get_or c'.lab (13 * x + i) 0 ≡ get_or c.lab (13 * x + i) 0

  In : ℕ → ℕ → Type 0
  In x v = x < N.n_s

  steps_both : (r : ℕ) → suc r ≤ 12 → {c c' : Core} → Steps N (suc (suc r)) In c c' → Filled (suc r) c → Filled (suc r) c' × Same r c c'
  unfolding In
  steps_both r b stay F = (F, record { row = λ x i h. refl })
  steps_both r b (step {c = c} s v j h q) F =
      let z = steps_both r b q (imp_filled r s v c b j F) in
      (z.0, record { row = λ x i h. z.1.row x i h ∙ imp_kept r s v c x i b h })

  -- one round
  module _ (P : Plain N) (r : ℕ) (s : St) (I : Inv N r s) where
    c₀ : Core
    c₀ = record { lab = s.c.lab; E = s.c.E; B = s.c.B; SS = s.c.SS; Q = [] }

    rode : Steps N (suc (suc r)) In c₀ (ride_st N r s).c
    unfolding c₀ In
    rode = stops_steps N P r (suc (suc r)) (ride_st N r s).k.log (λ x v t o p j m w g h l a. P.stop_in t p l) I.inside (λ x h l. h) I.top (λ m i. i) (stops_graph N r (suc (suc r)) s.c.Q _)

    c₁ : Core
    c₁ = let t = ride_st N r s in record { lab = t.c.lab; E = t.c.E; B = t.c.B; SS = t.c.SS; Q = [] }

    footed : Steps N (suc (suc r)) In c₁ (walks N (suc (suc r)) (ride_st N r s).c.Q c₁)
    unfolding c₀ c₁ In
    footed = walks_steps N (suc (suc r)) (λ x v y d j m. P.edge_to x y d m) (λ x m. ⊎_elim (λ i. absurd (Memᴰ.not-nil i)) (λ j. j.1) (steps_queue N (suc (suc r)) rode x m)) (walks_graph N (suc (suc r)) (ride_st N r s).c.Q c₁)

    round_both : suc r ≤ 12 → Filled r s.c → Filled (suc r) (walk_st N r (ride_st N r s)).c × Same r s.c (walk_st N r (ride_st N r s)).c
    unfolding c₀ c₁
    round_both b F =
        let f = filled_up F in
        let p = steps_both r b rode (record { held = f.held; stops = f.stops; rows = f.rows }) in
        let q = steps_both r b footed (record { held = p.0.held; stops = p.0.stops; rows = p.0.rows }) in
        (record { held = q.0.held; stops = q.0.stops; rows = q.0.rows }, record { row = λ x i h. q.1.row x i h ∙ p.1.row x i h })

  rounds_both : Plain N → (n r : ℕ) (s : St) → n + r ≤ 12 → Inv N r s → Filled r s.c → Filled (n + r) (rounds N n r s).c × Same r s.c (rounds N n r s).c
  unfolding rounds
  rounds_both P zero r s b I F = (subst (λ (k : ℕ). Filled k s.c) (omega arith) F, record { row = λ x i h. refl })
  rounds_both P (suc n) r s b I F =
      let p = round_both P r s I (omega arith) F in
      let q = rounds_both P n (suc r) (walk_st N r (ride_st N r s)) (omega arith) (round_inv N P r s I) p.0 in
      (subst (λ (k : ℕ). Filled k (rounds N n (suc r) (walk_st N r (ride_st N r s))).c) (omega arith) q.0, record { row = λ x i h. q.1.row x i (omega arith) ∙ p.1.row x i h })

  rounds_split : (a b r : ℕ) (s : St) → rounds N (a + b) r s ≡ rounds N b (a + r) (rounds N a r s)
  unfolding rounds
  rounds_split zero b r s =
      let e : 0 + b ≡ b = omega arith in
      let f : r ≡ 0 + r = omega arith in
      ap (λ (n : ℕ). rounds N n r s) e ∙ ap (λ (k : ℕ). rounds N b k s) f
  rounds_split (suc a) b r s =
      let e : suc a + b ≡ suc (a + b) = omega arith in
      let f : a + suc r ≡ suc a + r = omega arith in
      ap (λ (n : ℕ). rounds N n r s) e ∙ (rounds_split a b (suc r) (walk_st N r (ride_st N r s)) ∙ ap (λ (k : ℕ). rounds N b k (rounds N a (suc r) (walk_st N r (ride_st N r s)))) f)

  -- access fills row 0
  access_filled : Plain N → (os : List (ℕ × ℕ)) → ((s d : ℕ) → Memᴰ (s, d) os → Memᴰ (s, d) N.orig) → (c : Core) → Filled 0 c → Filled 0 (access N os c)
  unfolding access arrive
  access_filled P [] sub c F = F
  access_filled P (o ∷ os) sub c F = access_filled P os (λ s d m. sub s d (Memᴰ.tail m)) (arrive N o c) (one (ltb (N.start + o.1) (at c o.0)))
    where
      v : ℕ
      v = N.start + o.1

      i : o.0 < N.n_s
      i = P.orig_in o.0 o.1 (sub o.0 o.1 (Memᴰ.head refl))

      same : (a b : ℕ) → (a ≡ b) ⊎ (a ≡ b → ⊥)
      same a b = go (eqb a b) refl
        where
          go : (t : Bool) → eqb a b ≡ t → (a ≡ b) ⊎ (a ≡ b → ⊥)
          go true e = inl (eqb-true a b e)
          go false e = inr (eqb-false a b e)

      yes' : Core
      yes' = record { lab = set c.lab (13 * o.0 + 0) (suc (N.start + o.1)); E = set c.E o.0 (N.start + o.1); B = best N o.0 (N.start + o.1) c.B; SS = set c.SS o.0 1; Q = c.Q ++ (o.0 ∷ []) }

      no' : Core
      no' = record { lab = c.lab; E = c.E; B = best N o.0 (N.start + o.1) c.B; SS = c.SS; Q = c.Q }

      one : (b : Bool) → Filled 0 (elim b [ true ↦ yes' | false ↦ no' ])
      one true =
          record {
            held = λ x h l. ⊎_elim
                (λ (e : x ≡ o.0). (
                  0,
                  zero-le,
                  subst (λ (y : ℕ). get_or (set c.lab (13 * o.0 + 0) (suc (N.start + o.1))) (13 * y + 0) 0 ≡ suc (get_or (set c.E o.0 (N.start + o.1)) y 0)) (sym e)
                      (set_there c.lab (13 * o.0 + 0) (suc (N.start + o.1)) (omega (arith, F.rows, i)) ∙ ap suc (sym (set_there c.E o.0 (N.start + o.1) (omega (arith, F.stops, i))))),
                ))
                (λ (n : x ≡ o.0 → ⊥). ⊎_elim
                (λ p. absurd (n p.0))
                (λ p. let f = F.held x h (omega (arith, l, p)) in (
                  f.0,
                  f.1,
                  ⊎_elim
                      (λ q. absurd (n (omega (arith, q.0, f.1))))
                      (λ q. q ∙ (f.2 ∙ ap suc (sym p)))
                      (set_cases c.lab (13 * o.0 + 0) (suc (N.start + o.1)) (13 * x + f.0) 0),
                ))
                (set_cases c.E o.0 (N.start + o.1) x 0))
                (same x o.0);
            stops = length-set c.E o.0 (N.start + o.1) ∙ F.stops;
            rows = length-set c.lab (13 * o.0 + 0) (suc (N.start + o.1)) ∙ F.rows;
          }
      one false = record { held = F.held; stops = F.stops; rows = F.rows }

  begin_filled : Plain N → (trips : ℕ) → Filled 0 (begin N trips).c
  begin_filled P trips =
      access_filled P N.orig (λ s d m. m) _ (record {
        held = λ x h l. absurd (omega (arith, l, get_or-replicate N.n_s x N.MAX 0 h));
        stops = length-replicate N.n_s N.MAX;
        rows = length-replicate (N.n_s * 13) 0;
      })

  -- the best of a row is no later than any label there
  row_best_low : (c : Core) (r : ℕ) (es : List (ℕ × ℕ)) (a : ℕ × ℕ) → ((row_best N c r es a).0 ≤ a.0) × ((s d v : ℕ) → Memᴰ (s, d) es → get_or c.lab (13 * s + r) 0 ≡ suc v → (row_best N c r es a).0 ≤ v + d)
  unfolding row_best
  row_best_low c r [] a = (le_refl _, λ s d v m. absurd (Memᴰ.not-nil m))
  row_best_low c r (e ∷ es) a = go (get_or c.lab (13 * e.0 + r) 0) refl (row_best_low c r es a) (λ v. row_best_low c r es (v + e.1, e.0))
    where
      R : ℕ × ℕ → Type 0
      R t = (t.0 ≤ a.0) × ((s d v : ℕ) → Memᴰ (s, d) (e ∷ es) → get_or c.lab (13 * s + r) 0 ≡ suc v → t.0 ≤ v + d)

      out : (t : ℕ × ℕ) → ((v : ℕ) → get_or c.lab (13 * e.0 + r) 0 ≡ suc v → t.0 ≤ v + e.1) → ((s d v : ℕ) → Memᴰ (s, d) es → get_or c.lab (13 * s + r) 0 ≡ suc v → t.0 ≤ v + d)
          → (s d v : ℕ) → Memᴰ (s, d) (e ∷ es) → get_or c.lab (13 * s + r) 0 ≡ suc v → t.0 ≤ v + d
      out t p q s d v m f =
          ⊎_elim
          (λ z. subst (λ (y : ℕ). t.0 ≤ v + y) (ap (λ (y : ℕ × ℕ). y.1) (sym z)) (p v (subst (λ (y : ℕ). get_or c.lab (13 * y + r) 0 ≡ suc v) (ap (λ (y : ℕ × ℕ). y.0) z) f)))
          (λ i. q s d v i f)
          (Memᴰ.cases_cons m)

      one : (v : ℕ) → get_or c.lab (13 * e.0 + r) 0 ≡ suc v → (y : Bool) → ltb (v + e.1) a.0 ≡ y
          → ((row_best N c r es a).0 ≤ a.0) × ((s d v : ℕ) → Memᴰ (s, d) es → get_or c.lab (13 * s + r) 0 ≡ suc v → (row_best N c r es a).0 ≤ v + d)
          → ((row_best N c r es (v + e.1, e.0)).0 ≤ v + e.1) × ((s d w : ℕ) → Memᴰ (s, d) es → get_or c.lab (13 * s + r) 0 ≡ suc w → (row_best N c r es (v + e.1, e.0)).0 ≤ w + d)
          → R (elim y [ true ↦ row_best N c r es (v + e.1, e.0) | false ↦ row_best N c r es a ])
      one v f true g p q = (omega (arith, q.0, ltb-true (v + e.1) a.0 g), out (row_best N c r es (v + e.1, e.0)) (λ w h. omega (arith, q.0, f, h)) q.1)
      one v f false g p q = (p.0, out (row_best N c r es a) (λ w h. omega (arith, p.0, f, h, ltb-false (v + e.1) a.0 g)) p.1)

      go : (x : ℕ) → get_or c.lab (13 * e.0 + r) 0 ≡ x
          → ((row_best N c r es a).0 ≤ a.0) × ((s d v : ℕ) → Memᴰ (s, d) es → get_or c.lab (13 * s + r) 0 ≡ suc v → (row_best N c r es a).0 ≤ v + d)
          → ((v : ℕ) → ((row_best N c r es (v + e.1, e.0)).0 ≤ v + e.1) × ((s d w : ℕ) → Memᴰ (s, d) es → get_or c.lab (13 * s + r) 0 ≡ suc w → (row_best N c r es (v + e.1, e.0)).0 ≤ w + d))
          → R (elim x [ zero ↦ row_best N c r es a | suc v ↦ elim (ltb (v + e.1) a.0) [ true ↦ row_best N c r es (v + e.1, e.0) | false ↦ row_best N c r es a ] ])
      go zero f p q = (p.0, out (row_best N c r es a) (λ w h. absurd (omega (arith, f, h))) p.1)
      go (suc v) f p q = one v f (ltb (v + e.1) a.0) refl p (q v)

  -- a candidate of row i or lower that is no later than v
  pub record Covers (l : List (ℕ × ℕ × ℕ)) (i v : ℕ) : Type 0 where
    pub candidate : ℕ × ℕ × ℕ
    pub listed : Memᴰ candidate l
    pub early : candidate.0 ≤ v
    pub row : candidate.2 ≤ i

  cands_cover : (c : Core) (top k r last i : ℕ) → r ≤ i → i < k + r → (row_best N c i N.egs (N.MAX, N.MAX)).0 ≤ top + N.slack
      → Covers (cands N c top k r last) i (row_best N c i N.egs (N.MAX, N.MAX)).0 ⊎ (last ≤ (row_best N c i N.egs (N.MAX, N.MAX)).0)
  unfolding cands
  cands_cover c top zero r last i h l s = absurd (omega arith)
  cands_cover c top (suc k) r last i h l s =
      go (ltb (b r) last && leb (b r) (top + N.slack)) refl (split_eq h) (λ q. cands_cover c top k (suc r) (b r) i q (omega arith) s) (λ q. cands_cover c top k (suc r) last i q (omega arith) s)
    where
      b : ℕ → ℕ
      b i = (row_best N c i N.egs (N.MAX, N.MAX)).0

      x : ℕ × ℕ × ℕ
      x = ((row_best N c r N.egs (N.MAX, N.MAX)).0, (row_best N c r N.egs (N.MAX, N.MAX)).1, r)

      go : (y : Bool) → (ltb (b r) last && leb (b r) (top + N.slack)) ≡ y → (r ≡ i) ⊎ (r < i)
          → (suc r ≤ i → Covers (cands N c top k (suc r) (b r)) i (b i) ⊎ (b r ≤ b i)) → (suc r ≤ i → Covers (cands N c top k (suc r) last) i (b i) ⊎ (last ≤ b i))
          → Covers (elim y [ true ↦ x ∷ cands N c top k (suc r) (b r) | false ↦ cands N c top k (suc r) last ]) i (b i) ⊎ (last ≤ b i)
      go true e (inl q) p z = inl (record { candidate = x; listed = Memᴰ.head refl; early = subst (λ (j : ℕ). b r ≤ b j) q (le_refl _); row = omega arith })
      go true e (inr q) p z =
          ⊎_elim
          (λ (w : Covers (cands N c top k (suc r) (b r)) i (b i)). inl (record { candidate = w.candidate; listed = Memᴰ.tail w.listed; early = w.early; row = w.row }))
          (λ w. inl (record { candidate = x; listed = Memᴰ.head refl; early = w; row = omega arith }))
          (p q)
      go false e (inl q) p z =
          ⊎_elim
          (λ f. inr (subst (λ (j : ℕ). last ≤ b j) q (ltb-false _ _ f)))
          (λ f. absurd (omega (arith, leb-false (b r) (top + N.slack) f, s, ap b q)))
          (and-false _ _ e)
      go false e (inr q) p z = z q

  pub pareto : Plain N → (trips n k : ℕ) → n ≤ 12 → k ≤ n → (b : Bool) (m x v : ℕ) → m ≤ k → Reach N b m x v → N.is_eg x ≡ true → v + N.eg x < N.MAX
      → v + N.eg x ≤ (answer N trips n).total + N.slack → Covers (answer N trips n).cand k (v + N.eg x)
  unfolding answer run
  pareto P trips n k b₁ b₂ b m x v h j e l s =
      let J : Inv N k mid = subst (λ (i : ℕ). Inv N i mid) (omega arith) (rounds_inv N P k 0 (begin N trips) (begin_inv N P trips)) in
      go (J.reach b m x v h j) J.att J
    where
      mid : St
      mid = rounds N k 0 (begin N trips)

      fin : Core
      fin = (rounds N n 0 (begin N trips)).c

      parts : rounds N n 0 (begin N trips) ≡ rounds N (n - k) k mid
      parts = ap (λ (i : ℕ). rounds N i 0 (begin N trips)) (omega arith) ∙ (rounds_split k (n - k) 0 (begin N trips) ∙ ap (λ (i : ℕ). rounds N (n - k) i mid) (omega arith))

      filled : Filled k mid.c
      filled = subst (λ (i : ℕ). Filled i mid.c) (omega arith) (rounds_both P k 0 (begin N trips) (omega arith) (begin_inv N P trips) (begin_filled P trips)).0

      found : Inv N k mid → (y : ℕ) → N.is_eg y ≡ true → at mid.c y + N.eg y ≤ v + N.eg x → Covers (answer N trips n).cand k (v + N.eg x)
      found J y i q =
          let g = P.eg_list y i in
          let f = filled.held y (P.eg_in y (N.eg y) g) (omega arith) in
          let w = (rounds_both P (n - k) k mid (omega arith) J filled).1.row y f.0 f.1 in
          let r : (row_best N fin f.0 N.egs (N.MAX, N.MAX)).0 ≤ at mid.c y + N.eg y = (row_best_low fin f.0 N.egs (N.MAX, N.MAX)).1 y (N.eg y) (at mid.c y) g (ap (λ (t : St). get_or t.c.lab (13 * y + f.0) 0) parts ∙ (w ∙ f.2)) in
          ⊎_elim
          (λ (z : Covers (answer N trips n).cand f.0 (row_best N fin f.0 N.egs (N.MAX, N.MAX)).0). record { candidate = z.candidate; listed = z.listed; early = omega (arith, z.early); row = omega (arith, z.row, f.1) })
          (λ z. absurd (omega arith))
          (cands_cover fin (answer N trips n).total (suc n) 0 N.MAX f.0 zero-le (omega (arith, f.1)) (omega arith))

      go : Cov mid.c x v → Att N mid.c → Inv N k mid → Covers (answer N trips n).cand k (v + N.eg x)
      go (by_at p) a J = found J x e (omega arith)
      go (by_best p) (att_none q) J = absurd (omega arith)
      go (by_best p) (att_stop y i q) J = found J y i (omega arith)
