-- The best total so far (`best_dest`) is at every moment the least total over the egress stops; at the end it is the answer's.
use Prim.Native.Nat.{ℕ, ◌+◌, ◌≤◌}
use mathlib.Core.Path.{◌≡◌, refl, sym, ap, subst, ◌∙◌}
use mathlib.Core.Logic.{◌⊎◌, inl, inr, ⊎_elim}
use mathlib.Core.Bool.{Bool, true, false, cond, ◌&&◌}
use mathlib.Core.List.Memᴰ
use mathlib.Core.List.{List, Memᴰ}
use native.Mathlib.Nat.{le_refl}
use native.Mathlib.Omega.{arith}
use lib.ListN.{get_or}
use lib.Dec.{ltb, eqb}
use borrow.Author.Tests.{ltb-true, ltb-false, eq-eqb, ne_eqb}
use Rattle.model.specs.Tables.{Tables, Query, is_egress, egress_walk, never, stops}
use Rattle.model.specs.Search.{Arrivals, at, best_after, best_target, final, search_answer}
use Rattle.model.specs.Door.{Door, EgressRising, none, more}
use Rattle.answer_laws.specs.Lawful.{latest_total}
use Rattle.answer_laws.proofs.Stores.{set_cases, set_there, lt_get_d, get_d_replicate_in}
use Rattle.model.proofs.Base.{no_both}
use Rattle.answer_laws.proofs.Steps.{Kept, run_keeps, improved_le}
use Rattle.answer_laws.proofs.Runs.{final_ran}
use Rattle.answer_laws.proofs.Bounds.{egress_listed, final_best}
use Rattle.answer_laws.proofs.Candidates.{best_lowest, best_of}
use Rattle.answer_laws.proofs.Answers.{answer_lawful}

-- an egress stop's one walk, where egress stops strictly rise
egress_one : {es : List (ℕ × ℕ)} → EgressRising es → (s d : ℕ) → Memᴰ (s, d) es → (is_egress es s ≡ true) × (egress_walk es s ≡ d)
unfolding is_egress egress_walk
egress_one none s d m = absurd (Memᴰ.not-nil m)
egress_one (more {s = u} {d = w} {es = es} h R) s d m =
    ⊎_elim
    (λ e. here (eqb u s) (eq-eqb u s (sym (ap (λ (z : ℕ × ℕ). z.0) e))) (sym (ap (λ (z : ℕ × ℕ). z.1) e)))
    (λ n. there (eqb u s) (ne_eqb u s (λ z. omega (arith, h s d n))) (egress_one R s d n))
    (Memᴰ.cases_cons m)
  where
    here : (b : Bool) → b ≡ true → w ≡ d
        → (elim b as (λ z. Bool) [ true ↦ true | false ↦ is_egress es s ] ≡ true) × (elim b as (λ z. ℕ) [ true ↦ w | false ↦ egress_walk es s ] ≡ d)
    here true p e = (refl, e)
    here false p e = absurd (no_both p refl)

    there : (b : Bool) → b ≡ false → (is_egress es s ≡ true) × (egress_walk es s ≡ d)
        → (elim b as (λ z. Bool) [ true ↦ true | false ↦ is_egress es s ] ≡ true) × (elim b as (λ z. ℕ) [ true ↦ w | false ↦ egress_walk es s ] ≡ d)
    there true p e = absurd (no_both refl p)
    there false p e = e

-- some egress stop has a total no later than v
pub record Met (Q : Query) (a : Arrivals) (v : ℕ) : Type 0 where
  pub stop : ℕ
  pub walk : ℕ
  pub egress : Memᴰ (stop, walk) Q.egress
  pub no_later : at a stop + walk ≤ v

-- the best total is no later than any egress stop's, and is none or some one's
pub record Tight (Q : Query) (a : Arrivals) : Type 0 where
  pub lowest : (s d : ℕ) → Memᴰ (s, d) Q.egress → a.best ≤ at a s + d
  pub met : (a.best ≡ never) ⊎ Met Q a a.best

module _ (T : Tables) (Q : Query) (D : Door T Q) where
  -- what the best total becomes
  record After (s v b z : ℕ) : Type 0 where
    falls : z ≤ b
    counts : (d : ℕ) → Memᴰ (s, d) Q.egress → z ≤ v + d
    is : (z ≡ b) ⊎ ((is_egress Q.egress s ≡ true) × (z ≡ v + egress_walk Q.egress s))

  after : (s v b : ℕ) → After s v b (best_after T Q s v b)
  unfolding best_after
  after s v b = go (is_egress Q.egress s) refl (ltb (v + egress_walk Q.egress s) b) refl
    where
      walk_is : (d : ℕ) → Memᴰ (s, d) Q.egress → egress_walk Q.egress s ≡ d
      walk_is d m = (egress_one D.egress_rising s d m).1

      go : (x : Bool) → is_egress Q.egress s ≡ x → (y : Bool) → ltb (v + egress_walk Q.egress s) b ≡ y
          → After s v b (cond (x && y) (v + egress_walk Q.egress s) b)
      go true e true h =
          record { falls = omega (arith, ltb-true (v + egress_walk Q.egress s) b h); counts = λ d m. omega (arith, walk_is d m); is = inr (e, refl) }
      go true e false h =
          record { falls = le_refl b; counts = λ d m. omega (arith, walk_is d m, ltb-false (v + egress_walk Q.egress s) b h); is = inl refl }
      go false e y h = record { falls = le_refl b; counts = λ d m. absurd (no_both (egress_one D.egress_rising s d m).0 e); is = inl refl }

  -- it stays so where stop s is reached at v and no earliest arrival rises
  tight_after : (s v : ℕ) (a b : Arrivals) → b.best ≡ best_after T Q s v a.best → ((x : ℕ) → at b x ≤ at a x)
      → ((x : ℕ) → (x ≡ s) ⊎ (at b x ≡ at a x)) → (at b s ≡ v) ⊎ (at b s ≡ at a s)
      → at b s ≤ v → Tight Q a → Tight Q b
  tight_after s v a b e le cases there here A =
      record {
        lowest = λ x d m. ⊎_elim
            (λ z. subst (λ (y : ℕ). Memᴰ (y, d) Q.egress → b.best ≤ at b y + d) (sym z) (at_s d) m)
            (λ z. omega (arith, e, F.falls, A.lowest x d m, z))
            (cases x);
        met = ⊎_elim
            (λ z. ⊎_elim
            (λ n. inl (e ∙ z ∙ n))
            (λ M. inr (record { stop = M.stop; walk = M.walk; egress = M.egress; no_later = omega (arith, e, z, le M.stop, M.no_later) }))
            A.met)
            (λ z. inr (record {
              stop = s;
              walk = egress_walk Q.egress s;
              egress = egress_listed Q.egress s z.0;
              no_later = omega (arith, e, z.1);
            }))
            F.is;
      }
    where
      F : After s v a.best (best_after T Q s v a.best)
      F = after s v a.best

      at_s : (d : ℕ) → Memᴰ (s, d) Q.egress → b.best ≤ at b s + d
      at_s d m = ⊎_elim (λ z. omega (arith, e, z, F.counts d m)) (λ z. omega (arith, e, z, F.falls, A.lowest s d m)) there

  tight_kept : Kept T Q (λ stamp a. Tight Q a)
  tight_kept =
      record {
        new = record { lowest = λ s d m. rw (get_d_replicate_in {A = ℕ} (stops T) s never 0 (D.egress_in s d m)) (omega arith); met = inl refl };
        improves = λ {stamp} {s} {v} {l} {a} {b} w e h i A.
            let hit : at b s ≡ v = ap (λ (z : List ℕ). get_or z s 0) i.earliest ∙ set_there a.earliest s v 0 (lt_get_d a.earliest s v h) in
            tight_after s v a b i.best (improved_le T Q i h)
            (λ x. ⊎_elim (λ p. inl p.0) (λ p. inr (ap (λ (z : List ℕ). get_or z x 0) i.earliest ∙ p)) (set_cases a.earliest s v x 0)) (inl hit) (omega (arith, hit)) A;
        hears = λ {stamp} {s} {v} {l} {a} {b} w h A.
            let same : (x : ℕ) → at b x ≡ at a x = λ x. ap (λ (z : List ℕ). get_or z x 0) h.earliest in
            tight_after s v a b h.best (λ x. omega (arith, same x)) (λ x. inr (same x)) (inr (same s)) (omega (arith, same s, h.late)) A;
        queues = λ {stamp} {a} {b} h A. still a b h.best h.earliest A;
        next = λ A. A;
      }
    where
      still : (a b : Arrivals) → b.best ≡ a.best → b.earliest ≡ a.earliest → Tight Q a → Tight Q b
      still a b p q A =
          record {
            lowest = rw (p, q) A.lowest;
            met = ⊎_elim (λ z. inl (p ∙ z)) (λ M. inr (record {
              stop = M.stop;
              walk = M.walk;
              egress = M.egress;
              no_later = rw (p, q) M.no_later;
            })) A.met;
          }

  -- of every admitted run's end; and the best total is then the answer's
  pub final_tight : (flagged : Bool) → Tight Q (final T Q flagged).arrivals
  final_tight flagged = run_keeps T Q tight_kept (final_ran T Q D flagged).2.arrivals

  pub best_is_total : (flagged : Bool) → (final T Q flagged).arrivals.best ≡ (search_answer T Q flagged).total
  unfolding search_answer
  best_is_total flagged = go (answer_lawful T Q D flagged).total A.met (final_best T Q D flagged)
    where
      a : Arrivals
      a = (final T Q flagged).arrivals

      A : Tight Q a
      A = final_tight flagged

      total : ℕ
      total = (best_target T Q a Q.egress (never, never)).0

      above : Met Q a a.best → a.best ≤ latest_total → total ≤ a.best
      above M h = omega (arith, M.no_later, best_lowest T Q a M.stop M.walk M.egress (λ z. omega (arith, M.no_later)))

      below : total ≤ latest_total → a.best ≤ total
      below h =
          let B = best_of T Q a (λ z. omega arith) in omega (arith, B.sum, A.lowest (best_target T Q a Q.egress (never, never)).1 B.walk B.egress)

      go : (total ≡ never) ⊎ (total ≤ latest_total) → (a.best ≡ never) ⊎ Met Q a a.best → (a.best ≡ never) ⊎ (a.best ≤ latest_total)
          → a.best ≡ total
      go (inl t) (inl m) f = m ∙ sym t
      go (inl t) (inr M) (inl f) = f ∙ sym t
      go (inl t) (inr M) (inr f) = absurd (omega (arith, above M f))
      go (inr t) (inl m) f = absurd (omega (arith, below t))
      go (inr t) (inr M) (inl f) = absurd (omega (arith, below t))
      go (inr t) (inr M) (inr f) = omega (arith, above M f, below t)
