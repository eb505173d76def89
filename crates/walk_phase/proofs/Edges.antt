-- The walk edges of a stop: where they stand in rising order of from-stop, they are one run. Assumes nothing.
use Prim.Native.Nat.{ℕ, zero, suc, ◌+◌, ◌-◌, ◌≤◌, ◌<◌}
use mathlib.Core.Path.{◌≡◌, refl, sym, ap, ◌∙◌}
use mathlib.Core.Bool.{Bool, true, false, cond}
use mathlib.Core.List.{List, [], ◌∷◌}
use native.Mathlib.Omega.{arith}
use native.Mathlib.Numerals.{add-one}
use lib.Dec.{eqb, leb}
use borrow.Author.Tests.{leb-true, leb-false, eqb-false, eq-eqb, ne_eqb}
use Rattle.loops.specs.Count.{tab_from, upto}
use Rattle.loops.specs.Order.{KeysRise, Halved}
use Rattle.sorts.specs.Orders.{keep}
use Rattle.tables.specs.declared.Counts.{Counts}
use Rattle.tables.specs.Tables.{edge_of}
use Rattle.tables.specs.Timetable.{Timetable, timetable}
use Rattle.tables.specs.Sane.{OrderOk}
use Rattle.model.specs.Tables.{Tables, edges_from}
use Rattle.walk_phase.specs.Walking.{run_from}

-- the from-stops do not fall
pub edges_rising : (t : List ℕ) (c : Counts) → OrderOk t c → KeysRise (λ i. edge_of t c i 0) c.edges
edges_rising t c o = record { rising = λ i j l u. let e : i + (j - i) ≡ j = omega arith in rw e at (go i (j - i) (omega arith)) }
  where
    go : (i d : ℕ) → i + d < c.edges → edge_of t c i 0 ≤ edge_of t c (i + d) 0
    go i zero u = let e : i + 0 ≡ i = omega arith in rw e (omega arith)
    go i (suc d) u = let e : i + suc d ≡ i + d + 1 = omega arith in rw e (omega (arith, go i d (omega arith), o.rise (i + d) (omega arith)))

module _ (p : ℕ → Bool) where
  -- numbers that fail are not kept
  keep_past : (i k n : ℕ) → ((j : ℕ) → i ≤ j → j < i + k → p j ≡ false) → keep p (tab_from (λ i. i) i (k + n)) ≡ keep p (tab_from (λ i. i) (i + k) n)
  unfolding keep tab_from
  keep_past i zero n h = let e : i + 0 ≡ i = omega arith in let z : 0 + n ≡ n = omega arith in rw (e, z) refl
  keep_past i (suc k) n h =
      let e : suc k + n ≡ suc (k + n) = omega arith in
      let z : suc i + k ≡ i + suc k = omega arith in
      rw e (ap (λ (b : Bool). cond b (i ∷ keep p (tab_from (λ i. i) (suc i) (k + n))) (keep p (tab_from (λ i. i) (suc i) (k + n)))) (h i (omega arith) (omega arith))
      ∙ keep_past (suc i) k n (λ j a b. h j (omega arith) (omega arith)) ∙ ap (λ (m : ℕ). keep p (tab_from (λ i. i) m n)) z)

  keep_none : (i n : ℕ) → ((j : ℕ) → i ≤ j → j < i + n → p j ≡ false) → keep p (tab_from (λ i. i) i n) ≡ []
  unfolding keep tab_from
  keep_none i zero h = refl
  keep_none i (suc n) h =
      ap (λ (b : Bool). cond b (i ∷ keep p (tab_from (λ i. i) (suc i) n)) (keep p (tab_from (λ i. i) (suc i) n))) (h i (omega arith) (omega arith))
      ∙ keep_none (suc i) n (λ j a b. h j (omega arith) (omega arith))

module _ (key : ℕ → ℕ) (x m : ℕ) (r : KeysRise key m) where
  -- from a key that is not below x on, those with key x come first
  keep_run : (e n : ℕ) → e + n ≡ m → ((j : ℕ) → e ≤ j → j < m → x ≤ key j) → keep (λ k. eqb (key k) x) (tab_from (λ i. i) e n) ≡ run_from key x e n
  unfolding keep tab_from run_from
  keep_run e zero s h = refl
  keep_run e (suc n) s h = go (eqb (key e) x) refl (keep_run (suc e) n (omega arith) (λ j a b. h j (omega arith) b))
    where
      go : (b : Bool) → eqb (key e) x ≡ b → keep (λ k. eqb (key k) x) (tab_from (λ i. i) (suc e) n) ≡ run_from key x (suc e) n
          → cond b (e ∷ keep (λ k. eqb (key k) x) (tab_from (λ i. i) (suc e) n)) (keep (λ k. eqb (key k) x) (tab_from (λ i. i) (suc e) n))
          ≡ elim b [ true ↦ e ∷ run_from key x (suc e) n | false ↦ [] ]
      go true q z = ap (λ (l : List ℕ). e ∷ l) z
      go false q z =
          keep_none (λ k. eqb (key k) x) (suc e) n
          (λ j a b. ne_eqb (key j) x (λ y. eqb-false (key e) x q (omega (arith, h e (omega arith) (omega arith), r.rising e j (omega arith) (omega arith), y))))

  -- THE EDGES OF A STOP: a search by halving finds where they begin
  pub kept_run : (lo : ℕ) → Halved (λ i. leb x (key i)) m lo lo → keep (λ k. eqb (key k) x) (upto m) ≡ run_from key x lo (m - lo)
  kept_run lo h =
      let e : lo + (m - lo) ≡ m = omega (arith, h.inside) in
      let z : 0 + lo ≡ lo = omega arith in
      ap (λ (n : ℕ). keep (λ k. eqb (key k) x) (tab_from (λ i. i) 0 n)) (sym e)
      ∙ keep_past (λ k. eqb (key k) x) 0 lo (m - lo) (λ j a b. ne_eqb (key j) x (λ y. omega (arith, leb-false x (key j) (h.below j (omega arith)), y)))
      ∙ ap (λ (n : ℕ). keep (λ k. eqb (key k) x) (tab_from (λ i. i) n (m - lo))) z
      ∙ keep_run lo (m - lo) e (λ j a b. leb-true x (key j) (h.above j a b))

-- a stop's edges in the model, for tables with this timetable
pub edges_run : (T : Tables) (t : List ℕ) (c : Counts) (x lo : ℕ) → T.timetable ≡ timetable t c → OrderOk t c → Halved (λ i. leb x (edge_of t c i 0)) c.edges lo lo
    → edges_from T x ≡ run_from (λ i. edge_of t c i 0) x lo (c.edges - lo)
unfolding edges_from
edges_run T t c x lo e o h =
    ap (λ (B : Timetable). keep (λ k. eqb (B.edge k).from x) (upto B.edges)) e
    ∙ kept_run (λ i. edge_of t c i 0) x c.edges (edges_rising t c o) lo h

-- a run, number by number
module _ (key : ℕ → ℕ) (x m : ℕ) where
  pub run_turn : (e : ℕ) → e < m → key e ≡ x → run_from key x e (m - e) ≡ e ∷ run_from key x (e + 1) (m - (e + 1))
  unfolding run_from
  run_turn e h k =
      let n : m - e ≡ suc (m - (e + 1)) = omega arith in
      rw (n, add-one e) (ap (λ (b : Bool). elim b as (λ _. List ℕ) [ true ↦ e ∷ run_from key x (suc e) (m - suc e) | false ↦ [] ]) (eq-eqb (key e) x k))

  pub run_stop : (e : ℕ) → e < m → (key e ≡ x → ⊥) → run_from key x e (m - e) ≡ []
  unfolding run_from
  run_stop e h k =
      let n : m - e ≡ suc (m - (e + 1)) = omega arith in
      rw n (ap (λ (b : Bool). elim b as (λ _. List ℕ) [ true ↦ e ∷ run_from key x (suc e) (m - (e + 1)) | false ↦ [] ]) (ne_eqb (key e) x k))

  pub run_end : (e : ℕ) → m ≤ e → run_from key x e (m - e) ≡ []
  unfolding run_from
  run_end e h = let n : m - e ≡ 0 = omega arith in rw n refl
