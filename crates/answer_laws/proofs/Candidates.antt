-- The best total and the candidates, from label rows that go with the earliest arrivals.
use Prim.Native.Nat.{ℕ, zero, suc, ◌+◌, ◌≤◌, ◌<◌}
use mathlib.Core.Path.{◌≡◌, refl, sym, ap, subst, ◌∙◌}
use mathlib.Core.Logic.{◌⊎◌, inl, inr, ⊎_elim}
use mathlib.Core.Bool.{Bool, true, false, ◌&&◌}
use mathlib.Core.List.Memᴰ
use mathlib.Core.List.{List, [], ◌∷◌, Memᴰ}
use native.Mathlib.Nat.{le_refl}
use native.Mathlib.Omega.{arith}
use lib.Dec.{ltb, leb, eqb}
use borrow.Author.Tests.{ltb-true, ltb-false, leb-true, eqb-false, ne_eqb, lt-ltb, le-leb}
use Rattle.loops.proofs.Iter.{and_left, and_right}
use Rattle.loops.proofs.Search.{split}
use Rattle.model.specs.Tables.{Tables, Query, never}
use Rattle.model.specs.Search.{Arrivals, at, reached_by, best_target, row_target, candidates_from}
use Rattle.model.specs.Door.{Door}
use Rattle.answer_laws.specs.Lawful.{Last, last, more, Sinks, none, next, Candidate}
use Rattle.model.proofs.Base.{no_both}
use Rattle.answer_laws.proofs.Labels.{label_at}
use Rattle.answer_laws.proofs.Rows.{Known, unreached, reached, Rows}
use Rattle.answer_laws.proofs.Bounds.{fits_early}

sinks_low : {bound from : ℕ} {cs : List (ℕ × ℕ × ℕ)} → Sinks bound (suc from) cs → Sinks bound from cs
sinks_low none = none
sinks_low {from = f} (next {row = row} h k s) = let g : f ≤ row = omega arith in next h g s

both : (a b : Bool) → a ≡ true → b ≡ true → (a && b) ≡ true
both true b p q = q
both false b p q = p

-- the least total over egress stops, each reached at f less one, or not (f is 0); equal ones keep the first
unfoldable target : (ℕ → ℕ) → List (ℕ × ℕ) → ℕ × ℕ → ℕ × ℕ
target f [] b = b
target f (e ∷ es) b =
    elim (f e.0) [ zero ↦ target f es b | suc v ↦ elim (ltb (v + e.1) b.0) [ true ↦ target f es (v + e.1, e.0) | false ↦ target f es b ] ]

-- z is the total of one of them
record From (f : ℕ → ℕ) (es : List (ℕ × ℕ)) (z : ℕ × ℕ) : Type 0 where
  walk : ℕ
  arrives : ℕ
  listed : Memᴰ (z.1, walk) es
  reaches : f z.1 ≡ suc arrives
  sum : z.0 ≡ arrives + walk

-- z is the least of them and b
record Least (f : ℕ → ℕ) (es : List (ℕ × ℕ)) (b z : ℕ × ℕ) : Type 0 where
  start : z.0 ≤ b.0
  each : (s d v : ℕ) → Memᴰ (s, d) es → f s ≡ suc v → z.0 ≤ v + d
  is : (z ≡ b) ⊎ From f es z

target_least : (f : ℕ → ℕ) (es : List (ℕ × ℕ)) (b : ℕ × ℕ) → Least f es b (target f es b)
unfolding target
target_least f [] b = record { start = le_refl _; each = λ s d v m. absurd (Memᴰ.not-nil m); is = inl refl }
target_least f (e ∷ es) b = go (f e.0) refl (target_least f es b) (λ v. target_least f es (v + e.1, e.0))
  where
    further : {z : ℕ × ℕ} → From f es z → From f (e ∷ es) z
    further w = record { walk = w.walk; arrives = w.arrives; listed = Memᴰ.tail w.listed; reaches = w.reaches; sum = w.sum }

    other : (n : ℕ) {z : ℕ × ℕ} → f e.0 ≡ n → ((v : ℕ) → n ≡ suc v → z.0 ≤ v + e.1) → Least f es b z → Least f (e ∷ es) b z
    other n {z} q k L =
        record {
          start = L.start;
          each = λ s d v m r. ⊎_elim
              (λ w. let y : d ≡ e.1 = ap (λ (x : ℕ × ℕ). x.1) w in let u = k v (sym q ∙ sym (ap (λ (x : ℕ × ℕ). f x.0) w) ∙ r) in omega arith)
              (λ i. L.each s d v i r)
              (Memᴰ.cases_cons m);
          is = ⊎_elim (λ i. inl i) (λ i. inr (further i)) L.is;
        }

    here : (v : ℕ) {z : ℕ × ℕ} → f e.0 ≡ suc v → v + e.1 < b.0 → Least f es (v + e.1, e.0) z → Least f (e ∷ es) b z
    here v {z} q k L =
        record {
          start = omega (arith, L.start);
          each = λ s d u m r. ⊎_elim
              (λ w.
              let y : d ≡ e.1 = ap (λ (x : ℕ × ℕ). x.1) w in
              let x : suc u ≡ suc v = sym r ∙ ap (λ (x : ℕ × ℕ). f x.0) w ∙ q in
              omega (arith, L.start))
              (λ i. L.each s d u i r)
              (Memᴰ.cases_cons m);
          is = inr (⊎_elim
              (λ i. record {
                walk = e.1;
                arrives = v;
                listed = Memᴰ.head (ap (λ (x : ℕ × ℕ). (x.1, e.1)) i);
                reaches = ap (λ (x : ℕ × ℕ). f x.1) i ∙ q;
                sum = ap (λ (x : ℕ × ℕ). x.0) i;
              })
              (λ i. further i) L.is);
        }

    pick : (v : ℕ) → f e.0 ≡ suc v → (t : Bool) → ltb (v + e.1) b.0 ≡ t → Least f es b (target f es b)
        → Least f es (v + e.1, e.0) (target f es (v + e.1, e.0))
        → Least f (e ∷ es) b (elim t [ true ↦ target f es (v + e.1, e.0) | false ↦ target f es b ])
    pick v q true k L M = here v q (ltb-true _ _ k) M
    pick v q false k L M = other (suc v) q (λ u r. let x : suc v ≡ suc u = r in omega (arith, L.start, ltb-false (v + e.1) b.0 k)) L

    go : (n : ℕ) → f e.0 ≡ n → Least f es b (target f es b) → ((v : ℕ) → Least f es (v + e.1, e.0) (target f es (v + e.1, e.0)))
        → Least f (e ∷ es) b (elim n [
          | zero ↦ target f es b
          | suc v ↦ elim (ltb (v + e.1) b.0) [ true ↦ target f es (v + e.1, e.0) | false ↦ target f es b ]
        ])
    go zero q L M = other 0 q (λ v r. absurd (omega arith)) L
    go (suc v) q L M = pick v q (ltb (v + e.1) b.0) refl L (M v)

module _ (T : Tables) (Q : Query) (a : Arrivals) where
  -- a stop's earliest arrival plus one, 0 for none; its label's of a row
  unfoldable earliest_by : ℕ → ℕ
  earliest_by s = elim (eqb (at a s) never) [ true ↦ 0 | false ↦ suc (at a s) ]

  abbrev row_by : ℕ → ℕ → ℕ
  row_by r s = reached_by (label_at a s r)

  best-target : (es : List (ℕ × ℕ)) (b : ℕ × ℕ) → best_target T Q a es b ≡ target earliest_by es b
  unfolding best_target target earliest_by
  best-target [] b = refl
  best-target (e ∷ es) b = go (eqb (at a e.0) never) (best-target es b) (best-target es (at a e.0 + e.1, e.0))
    where
      pick : (y : Bool) → best_target T Q a es b ≡ target earliest_by es b
          → best_target T Q a es (at a e.0 + e.1, e.0) ≡ target earliest_by es (at a e.0 + e.1, e.0)
          → ◌≡◌ {A = ℕ × ℕ} (elim y [
            | true ↦ best_target T Q a es (at a e.0 + e.1, e.0)
            | false ↦ best_target T Q a es b
          ]) (elim y [ true ↦ target earliest_by es (at a e.0 + e.1, e.0) | false ↦ target earliest_by es b ])
      pick true p q = q
      pick false p q = p

      go : (x : Bool) → best_target T Q a es b ≡ target earliest_by es b
          → best_target T Q a es (at a e.0 + e.1, e.0) ≡ target earliest_by es (at a e.0 + e.1, e.0)
          → ◌≡◌ {A = ℕ × ℕ} (elim x [
            | true ↦ best_target T Q a es b
            | false ↦ elim (ltb (at a e.0 + e.1) b.0) [ true ↦ best_target T Q a es (at a e.0 + e.1, e.0) | false ↦ best_target T Q a es b ]
          ])
          (elim (elim x as (λ z. ℕ) [ true ↦ 0 | false ↦ suc (at a e.0) ]) [
            | zero ↦ target earliest_by es b
            | suc v ↦ elim (ltb (v + e.1) b.0) [ true ↦ target earliest_by es (v + e.1, e.0) | false ↦ target earliest_by es b ]
          ])
      go true p q = p
      go false p q = pick (ltb (at a e.0 + e.1) b.0) p q

  row_target_lem : (r : ℕ) (es : List (ℕ × ℕ)) (b : ℕ × ℕ) → row_target T Q a r es b ≡ target (row_by r) es b
  unfolding row_target target
  row_target_lem r [] b = refl
  row_target_lem r (e ∷ es) b = go (row_by r e.0) (row_target_lem r es b) (λ v. row_target_lem r es (v + e.1, e.0))
    where
      pick : (v : ℕ) (y : Bool) → row_target T Q a r es b ≡ target (row_by r) es b
          → row_target T Q a r es (v + e.1, e.0) ≡ target (row_by r) es (v + e.1, e.0)
          → ◌≡◌ {A = ℕ × ℕ} (elim y [
            | true ↦ row_target T Q a r es (v + e.1, e.0)
            | false ↦ row_target T Q a r es b
          ]) (elim y [ true ↦ target (row_by r) es (v + e.1, e.0) | false ↦ target (row_by r) es b ])
      pick v true p q = q
      pick v false p q = p

      go : (n : ℕ) → row_target T Q a r es b ≡ target (row_by r) es b
          → ((v : ℕ) → row_target T Q a r es (v + e.1, e.0) ≡ target (row_by r) es (v + e.1, e.0))
          → ◌≡◌ {A = ℕ × ℕ} (elim n [
            | zero ↦ row_target T Q a r es b
            | suc v ↦ elim (ltb (v + e.1) b.0) [ true ↦ row_target T Q a r es (v + e.1, e.0) | false ↦ row_target T Q a r es b ]
          ])
          (elim n [
            | zero ↦ target (row_by r) es b
            | suc v ↦ elim (ltb (v + e.1) b.0) [ true ↦ target (row_by r) es (v + e.1, e.0) | false ↦ target (row_by r) es b ]
          ])
      go zero p q = p
      go (suc v) p q = pick v (ltb (v + e.1) b.0) p (q v)

  -- the best total with its stop; a row's
  abbrev pub best : ℕ × ℕ
  best = best_target T Q a Q.egress (never, never)

  abbrev pub row_best : ℕ → ℕ × ℕ
  row_best r = row_target T Q a r Q.egress (never, never)

  -- the best total is an egress stop's
  pub record Best (total stop : ℕ) : Type 0 where
    pub walk : ℕ
    pub egress : Memᴰ (stop, walk) Q.egress
    pub known : at a stop ≡ never → ⊥
    pub sum : total ≡ at a stop + walk

  best_least : Least earliest_by Q.egress (never, never) best
  best_least =
      subst (Least earliest_by Q.egress (never, never)) (sym (best-target Q.egress (never, never)))
      (target_least earliest_by Q.egress (never, never))

  row_least : (r : ℕ) → Least (row_by r) Q.egress (never, never) (row_best r)
  row_least r =
      subst (Least (row_by r) Q.egress (never, never)) (sym (row_target_lem r Q.egress (never, never)))
      (target_least (row_by r) Q.egress (never, never))

  known_by : (s : ℕ) → (at a s ≡ never → ⊥) → earliest_by s ≡ suc (at a s)
  unfolding earliest_by
  known_by s n = ap (λ (x : Bool). elim x as (λ z. ℕ) [ true ↦ 0 | false ↦ suc (at a s) ]) (ne_eqb (at a s) never n)

  by_known : (s v : ℕ) → earliest_by s ≡ suc v → (at a s ≡ never → ⊥) × (v ≡ at a s)
  unfolding earliest_by
  by_known s v = go (eqb (at a s) never) refl
    where
      go : (x : Bool) → eqb (at a s) never ≡ x → elim x as (λ z. ℕ) [ true ↦ 0 | false ↦ suc (at a s) ] ≡ suc v → (at a s ≡ never → ⊥) × (v ≡ at a s)
      go true q e = absurd (omega arith)
      go false q e = (eqb-false (at a s) never q, omega arith)

  -- no egress stop's arrival gives less than the best total, and some one's gives it, if any is known
  pub best_lowest : (s d : ℕ) → Memᴰ (s, d) Q.egress → (at a s ≡ never → ⊥) → best.0 ≤ at a s + d
  best_lowest s d m n = best_least.each s d (at a s) m (known_by s n)

  of : From earliest_by Q.egress best → Best best.0 best.1
  of w =
      let k = by_known best.1 w.arrives w.reaches in record {
        walk = w.walk;
        egress = w.listed;
        known = k.0;
        sum = omega (arith, w.sum, k.1);
      }

  pub best_of : (best.0 ≡ never → ⊥) → Best best.0 best.1
  best_of n = ⊎_elim (λ e. absurd (n (ap (λ (z : ℕ × ℕ). z.0) e))) of best_least.is

  -- without one no stop is named: every sum is below never
  pub best_none : (Best best.0 best.1 → ⊥) → best.1 ≡ never
  best_none n =
      ⊎_elim (λ e. ap (λ (z : ℕ × ℕ). z.1) e) (λ w. absurd (n (of w))) best_least.is

  module _ (D : Door T Q) (n : ℕ) (few : n ≤ 12) (R : Rows T Q (suc n) a) where
    -- a row's best total is not before the best one; some row's is the best one
    row_late : (r : ℕ) → r < 13 → best.0 ≤ (row_best r).0
    row_late r u =
        ⊎_elim
        (λ e. let x : (row_best r).0 ≡ never = ap (λ (z : ℕ × ℕ). z.0) e in omega (arith, best_least.start))
        (λ w. let s = (row_best r).1 in
        let i = D.egress_in s w.walk w.listed in
        let l = R.least s r w.arrives i u w.reaches in
        let h = fits_early T Q D (R.fits s r i u) w.reaches in
        omega (arith, w.sum, best_lowest s w.walk w.listed (λ z. omega arith)))
        (row_least r).is

    pub row-best : (best.0 ≡ never → ⊥) → (r : ℕ) × (r ≤ n) × ((row_best r).0 ≡ best.0)
    row-best z = go (R.known best.1 (D.egress_in best.1 B.walk B.egress))
      where
        B : Best best.0 best.1
        B = best_of z

        go : Known (suc n) a best.1 → (r : ℕ) × (r ≤ n) × ((row_best r).0 ≡ best.0)
        go (unreached e f) = absurd (B.known e)
        go (reached r c f) =
            (r, omega arith, omega (arith, row_late r (omega arith), (row_least r).each best.1 B.walk (at a best.1) B.egress f, B.sum))

    abbrev from : ℕ → ℕ → ℕ → List (ℕ × ℕ × ℕ)
    from k r bound = candidates_from T Q a best.0 k r bound

    abbrev taken : ℕ → ℕ → Bool
    taken r bound = ltb (row_best r).0 bound && leb (row_best r).0 (best.0 + Q.settings.candidate_slack)

    -- after the best total nothing is taken
    pub nothing_after : (k r bound : ℕ) → k + r ≤ 13 → bound ≤ best.0 → from k r bound ≡ []
    unfolding candidates_from
    nothing_after zero r bound u h = refl
    nothing_after (suc k) r bound u h = go (taken r bound) refl (nothing_after k (suc r) bound (omega arith) h)
      where
        go : (x : Bool) → taken r bound ≡ x → from k (suc r) bound ≡ []
            → ◌≡◌ {A = List (ℕ × ℕ × ℕ)} (elim x [
              | true ↦ ((row_best r).0, (row_best r).1, r) ∷ from k (suc r) (row_best r).0
              | false ↦ from k (suc r) bound
            ]) []
        go true e p = absurd (omega (arith, ltb-true (row_best r).0 bound (and_left _ _ e), row_late r (omega arith)))
        go false e p = p

    -- the last candidate's total is the best one
    pub last_is : (k r bound m : ℕ) → k + r ≤ 13 → best.0 < bound → r ≤ m → m < k + r → (row_best m).0 ≡ best.0 → Last best.0 (from k r bound)
    unfolding candidates_from
    last_is zero r bound m u h p q e = absurd (omega arith)
    last_is (suc k) r bound m u h p q e =
        go (taken r bound) refl (split best.0 (row_best r).0) (λ b c d. last_is k (suc r) b m (omega arith) c d (omega arith) e)
      where
        here : (row_best r).0 ≤ best.0 → (row_best r).0 ≡ best.0
        here c = omega (arith, row_late r (omega arith))

        later : best.0 < (row_best r).0 → suc r ≤ m
        later c =
            ⊎_elim (λ (z : r < m). omega arith)
            (λ (z : m ≤ r).
            let x : m ≡ r = omega arith in
            let y : (row_best m).0 ≡ (row_best r).0 = ap (λ (i : ℕ). (row_best i).0) x in
            absurd (omega arith))
            (split r m)

        go : (x : Bool) → taken r bound ≡ x → (best.0 < (row_best r).0) ⊎ ((row_best r).0 ≤ best.0)
            → ((b : ℕ) → best.0 < b → suc r ≤ m → Last best.0 (from k (suc r) b))
            → Last best.0 (elim x [ true ↦ ((row_best r).0, (row_best r).1, r) ∷ from k (suc r) (row_best r).0 | false ↦ from k (suc r) bound ])
        go true t (inl c) on = more (on (row_best r).0 c (later c))
        go true t (inr c) on =
            subst (λ (z : List (ℕ × ℕ × ℕ)). Last best.0 (((row_best r).0, (row_best r).1, r) ∷ z))
            (sym (nothing_after k (suc r) (row_best r).0 (omega arith) c))
            (subst (λ (z : ℕ). Last best.0 ((z, (row_best r).1, r) ∷ [])) (sym (here c)) (last (row_best r).1 r))
        go false t (inl c) on = on bound h (later c)
        go false t (inr c) on =
            let near = le-leb (row_best r).0 (best.0 + Q.settings.candidate_slack) (omega arith) in
            absurd (no_both (both _ _ (lt-ltb (row_best r).0 bound (omega arith)) near) t)

    -- totals fall and rows rise
    pub sinks : (k r bound : ℕ) → Sinks bound r (from k r bound)
    unfolding candidates_from
    sinks zero r bound = none
    sinks (suc k) r bound = go (taken r bound) refl (sinks k (suc r) (row_best r).0) (sinks k (suc r) bound)
      where
        go : (x : Bool) → taken r bound ≡ x → Sinks (row_best r).0 (suc r) (from k (suc r) (row_best r).0)
            → Sinks bound (suc r) (from k (suc r) bound)
            → Sinks bound r (elim x [ true ↦ ((row_best r).0, (row_best r).1, r) ∷ from k (suc r) (row_best r).0 | false ↦ from k (suc r) bound ])
        go true e p q = next (ltb-true _ _ (and_left _ _ e)) (le_refl r) p
        go false e p q = sinks_low q

    -- each is one
    pub each_is : (k r bound : ℕ) → k + r ≤ 13 → bound ≤ never → (c : ℕ × ℕ × ℕ) → Memᴰ c (from k r bound)
        → Candidate Q a.labels best.0 c.0 c.1 c.2 × (c.2 < k + r)
    unfolding candidates_from
    each_is zero r bound u h c m = absurd (Memᴰ.not-nil m)
    each_is (suc k) r bound u h c m = go (taken r bound) refl (λ b i. each_is k (suc r) b (omega arith) i c) m
      where
        one : taken r bound ≡ true → Candidate Q a.labels best.0 (row_best r).0 (row_best r).1 r
        one e =
            let near = leb (row_best r).0 (best.0 + Q.settings.candidate_slack) in
            let b = ltb-true (row_best r).0 bound (and_left (ltb (row_best r).0 bound) near e) in
            ⊎_elim
            (λ z. let x : (row_best r).0 ≡ never = ap (λ (z : ℕ × ℕ). z.0) z in absurd (omega arith))
            (λ w. record {
              walk = w.walk;
              egress = w.listed;
              arrives = w.arrives;
              label = w.reaches;
              sum = w.sum;
              best = row_late r (omega arith);
              near = leb-true (row_best r).0 (best.0 + Q.settings.candidate_slack) (and_right (ltb (row_best r).0 bound) near e);
            })
            (row_least r).is

        up : Candidate Q a.labels best.0 c.0 c.1 c.2 × (c.2 < k + suc r)
            → Candidate Q a.labels best.0 c.0 c.1 c.2 × (c.2 < suc k + r)
        up p = (p.0, omega (arith, p.1))

        go : (x : Bool) → taken r bound ≡ x
            → ((b : ℕ) → b ≤ never → Memᴰ c (from k (suc r) b) → Candidate Q a.labels best.0 c.0 c.1 c.2 × (c.2 < k + suc r))
            → Memᴰ c (elim x [ true ↦ ((row_best r).0, (row_best r).1, r) ∷ from k (suc r) (row_best r).0 | false ↦ from k (suc r) bound ])
            → Candidate Q a.labels best.0 c.0 c.1 c.2 × (c.2 < suc k + r)
        go true e on i =
            ⊎_elim
            (λ z. subst (λ (c : ℕ × ℕ × ℕ). Candidate Q a.labels best.0 c.0 c.1 c.2 × (c.2 < suc k + r)) (sym z) (one e, omega arith))
            (λ j. up (on (row_best r).0 (omega (arith, ltb-true (row_best r).0 bound (and_left _ _ e))) j))
            (Memᴰ.cases_cons i)
        go false e on i = up (on bound h i)
