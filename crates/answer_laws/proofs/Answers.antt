-- LAWS OF EVERY ADMITTED ANSWER, of `run_tbr` and of the query, with and without arc flags, on every day.
use Prim.Native.Nat.{ℕ, suc, ◌+◌, ◌≤◌, ◌<◌}
use mathlib.Core.Path.{◌≡◌, refl, sym, ap, subst, ◌∙◌}
use mathlib.Core.Logic.{◌⊎◌, inl, inr, ⊎_elim}
use mathlib.Core.Bool.{Bool, true, false}
use mathlib.Core.List.Memᴰ
use mathlib.Core.List.{List, [], Memᴰ}
use native.Mathlib.Nat.{le_refl, le_trans}
use native.Mathlib.Omega.{arith}
use lib.Dec.{eqb}
use borrow.Author.Tests.{eqb-true, eqb-false, eq-eqb, ne_eqb}
use Rattle.loops.proofs.Search.{split}
use Rattle.walk_time.proofs.Laws.{rounds_most}
use Rattle.label.specs.declared.Label.TheVariants.{Empty}
use Rattle.model.specs.Tables.{Tables, Query, rounds_of, never, stops}
use Rattle.model.specs.Search.{Arrivals, at, reached_by, use_arc_flags, flags_in_use, best_target, candidates_from, final, search_answer, run_tbr, query}
use Rattle.model.specs.Door.{Door}
use Rattle.answer_laws.specs.Lawful.{latest_total, Candidate, Last, Sinks, none, Lawful}
use Rattle.answer_laws.proofs.Labels.{label_at}
use Rattle.answer_laws.proofs.Rows.{Known, unreached, reached, Rows, filled}
use Rattle.answer_laws.proofs.Bounds.{fits_early, final_sound, final_earliest, final_boardings}
use Rattle.answer_laws.proofs.Candidates.{Best, best_lowest, best_of, best_none, row-best, last_is, sinks, each_is}

module _ (T : Tables) (Q : Query) where
  module _ (D : Door T Q) (flagged : Bool) where
    abbrev end : Arrivals
    end = (final T Q flagged).arrivals

    few : rounds_of Q ≤ 12
    few = rounds_most Q.wanted_rounds Q.transfers

    rows : Rows T Q (suc (rounds_of Q)) end
    rows = (final_sound T Q D flagged).rows

    -- THE HIGHEST FILLED ROW's arrival is the stop's earliest
    pub final_highest : (s row v : ℕ) → s < stops T → row < 13 → reached_by (label_at end s row) ≡ suc v
        → ((j : ℕ) → row < j → j < 13 → label_at end s j ≡ Empty) → at end s ≡ v
    final_highest s row v u n e h = go (rows.known s u)
      where
        go : Known (suc (rounds_of Q)) end s → at end s ≡ v
        go (unreached m f) = absurd (filled (f row n) e)
        go (reached i c f) =
            ⊎_elim
            (λ (l : i < row). absurd (omega (arith, rows.falls s i row (at end s) v u l n f e, rows.least s row v u n e)))
            (λ (l : row ≤ i). ⊎_elim
            (λ (k : row < i). absurd (filled (h i k (omega (arith, few))) f))
            (λ (k : i ≤ row).
            let x : i ≡ row = omega arith in
            let y : suc (at end s) ≡ suc v = sym f ∙ ap (λ (j : ℕ). reached_by (label_at end s j)) x ∙ e in
            omega arith)
            (split row i))
            (split i row)

    -- a stop's earliest arrival is `never` exactly if no row is filled
    pub final_unreached : (s : ℕ) → s < stops T → at end s ≡ never → (row : ℕ) → row < 13 → label_at end s row ≡ Empty
    final_unreached s u e = go (rows.known s u)
      where
        go : Known (suc (rounds_of Q)) end s → (row : ℕ) → row < 13 → label_at end s row ≡ Empty
        go (unreached m f) = f
        go (reached i c f) = absurd (omega (arith, fits_early T Q D (rows.fits s i u (omega (arith, few))) f))

    pub final_unfilled : (s : ℕ) → s < stops T → ((row : ℕ) → row < 13 → label_at end s row ≡ Empty) → at end s ≡ never
    final_unfilled s u h = go (rows.known s u)
      where
        go : Known (suc (rounds_of Q)) end s → at end s ≡ never
        go (unreached m f) = m
        go (reached i c f) = absurd (filled (h i (omega (arith, few))) f)

    -- EVERY ADMITTED ANSWER
    best : ℕ × ℕ
    best = best_target T Q end Q.egress (never, never)

    chosen : List (ℕ × ℕ × ℕ)
    chosen = candidates_from T Q end best.0 (suc (rounds_of Q)) 0 never

    sum_early : Best T Q end best.0 best.1 → best.0 ≤ latest_total
    unfolding best
    sum_early B =
        ⊎_elim
        (λ z. absurd (B.known z))
        (λ l. omega (arith, B.sum, D.egress_small best.1 B.walk B.egress))
        (final_earliest T Q D flagged best.1 (D.egress_in best.1 B.walk B.egress))

    early : (best.0 ≡ never → ⊥) → best.0 ≤ latest_total
    unfolding best
    early n = sum_early (best_of T Q end n)

    pub answer_lawful : Lawful T Q (search_answer T Q flagged)
    unfolding search_answer best chosen
    answer_lawful =
        record {
          long = rows.long.labels;
          fits = rows.fits;
          above = λ s row u h n. rows.above s row u (omega arith) n;
          falls = rows.falls;
          arrives = λ s row v u n e. fits_early T Q D (rows.fits s row u n) e;
          total = go (eqb best.0 never) refl;
          lowest = λ s d row v m n e. low s d row v m n e;
          no_stop = λ z. best_none T Q end (λ B. omega (arith, z, sum_early B));
          no_candidate = λ z. ap (λ (x : Bool). elim x as (λ w. List (ℕ × ℕ × ℕ)) [ true ↦ [] | false ↦ chosen ]) (eq-eqb best.0 never z);
          stop = λ n. stop_on n (best_of T Q end n);
          each = λ v s r. each_on (eqb best.0 never) v s r;
          sinking = sink (eqb best.0 never);
          last = λ n. last_on n;
          scans = (final_boardings T Q D flagged).scans;
        }
      where
        go : (x : Bool) → eqb best.0 never ≡ x → (best.0 ≡ never) ⊎ (best.0 ≤ latest_total)
        go true e = inl (eqb-true _ _ e)
        go false e = inr (early (eqb-false _ _ e))

        low : (s d row v : ℕ) → Memᴰ (s, d) Q.egress → row < 13 → reached_by (label_at end s row) ≡ suc v → best.0 ≤ v + d
        low s d row v m n e =
            let u = D.egress_in s d m in
            let l = rows.least s row v u n e in
            let h = fits_early T Q D (rows.fits s row u n) e in
            le_trans (best_lowest T Q end s d m (λ z. omega arith)) (omega arith)

        stop_on : (best.0 ≡ never → ⊥) → Best T Q end best.0 best.1
            → (row : ℕ) × (row ≤ rounds_of Q) × Candidate Q end.labels best.0 best.0 best.1 row
        stop_on n B = pick (rows.known best.1 (D.egress_in best.1 B.walk B.egress))
          where
            pick : Known (suc (rounds_of Q)) end best.1
                → (row : ℕ) × (row ≤ rounds_of Q) × Candidate Q end.labels best.0 best.0 best.1 row
            pick (unreached e f) = absurd (B.known e)
            pick (reached row c f) = (
              row,
              omega arith,
              record { walk = B.walk; egress = B.egress; arrives = at end best.1; label = f; sum = B.sum; best = le_refl _; near = omega arith },
            )

        each_on : (x : Bool) (v s r : ℕ) → Memᴰ {A = ℕ × ℕ × ℕ} (v, s, r) (elim x as (λ w. List (ℕ × ℕ × ℕ)) [ true ↦ [] | false ↦ chosen ])
            → Candidate Q end.labels best.0 v s r × (r ≤ rounds_of Q)
        each_on true v s r m = absurd (Memᴰ.not-nil m)
        each_on false v s r m =
            let c = each_is T Q end D (rounds_of Q) few rows (suc (rounds_of Q)) 0 never (omega (arith, few)) (le_refl never) (v, s, r) m in
            (c.0, omega (arith, c.1))

        sink : (x : Bool) → Sinks never 0 (elim x as (λ w. List (ℕ × ℕ × ℕ)) [ true ↦ [] | false ↦ chosen ])
        sink true = none
        sink false = sinks T Q end D (rounds_of Q) few rows (suc (rounds_of Q)) 0 never

        last_on : (best.0 ≡ never → ⊥) → Last best.0 (elim (eqb best.0 never) as (λ w. List (ℕ × ℕ × ℕ)) [ true ↦ [] | false ↦ chosen ])
        last_on n =
            let r = row-best T Q end D (rounds_of Q) few rows n in
            subst (λ (x : Bool). Last best.0 (elim x as (λ w. List (ℕ × ℕ × ℕ)) [ true ↦ [] | false ↦ chosen ])) (sym (ne_eqb best.0 never n))
            (last_is T Q end D (rounds_of Q) few rows (suc (rounds_of Q)) 0 never r.0 (omega (arith, few)) (omega (arith, early n)) (omega arith)
            (omega (arith, r.1)) r.2)

  -- `run_tbr`, and the query
  pub run_tbr_lawful : Door T Q → Lawful T Q (run_tbr T Q)
  unfolding run_tbr
  run_tbr_lawful D = answer_lawful D (use_arc_flags T Q)

  pub query_lawful : Door T Q → Lawful T Q (query T Q)
  unfolding query
  query_lawful D = answer_lawful D (flags_in_use T Q)
