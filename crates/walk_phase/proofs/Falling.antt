-- An arrival that is taken only where it is earlier makes no stop's earliest arrival later. Assumes nothing.
use Prim.Native.Nat.{ℕ, zero, suc, ◌+◌, ◌-◌, ◌≤◌, ◌<◌}
use mathlib.Core.Path.{◌≡◌, refl, sym, ap, ◌∙◌}
use mathlib.Core.Bool.{Bool, true, false, cond}
use mathlib.Core.List.{List, [], ◌∷◌}
use mathlib.Core.Logic.{⊎_elim}
use native.Mathlib.Nat.{eq-or-lt_of_le}
use native.Mathlib.Omega.{arith}
use lib.ListN.{get_or, set}
use lib.Dec.{eqb, ltb}
use lib.Ieee.{nan}
use borrow.Author.Tests.{eqb-true, eqb-false, ne_eqb, ltb-true}
use Rattle.cell_bitset.specs.CellSet.{empty_set}
use Rattle.label.specs.declared.Label.{Label}
use Rattle.tables.specs.Timetable.{timetable}
use Rattle.door.specs.Settings.{default_settings}
use Rattle.model.specs.Tables.{Tables, Query, is_egress, egress_walk}
use Rattle.model.specs.Search.{Arrivals, improve, relax}
use Rattle.query_types.specs.declared.Lay.{Lay}
use Rattle.search_state.specs.Places.{EgressTable, egress_word, table_word, earliest_of, Falls}
use Rattle.search_state.specs.View.{Memory, arrivals_of}
use Rattle.search_state.specs.Step.{Step}
use Rattle.search_state.proofs.Part.{first_at}

-- the egress stops that a table says: n stops from i on
told : (ℕ → ℕ) → ℕ → ℕ → List (ℕ × ℕ)
told word i zero = []
told word i (suc n) = elim (eqb (word i) 0) [ true ↦ told word (suc i) n | false ↦ (i, word i - 1) ∷ told word (suc i) n ]

-- a stop before them is none
told_before : (word : ℕ → ℕ) (i n s : ℕ) → s < i → is_egress (told word i n) s ≡ false
unfolding is_egress told
told_before word i zero s h = refl
told_before word i (suc n) s h = go (eqb (word i) 0) (told_before word (suc i) n s (omega arith))
  where
    go : (b : Bool) → is_egress (told word (suc i) n) s ≡ false → is_egress (elim b [ true ↦ told word (suc i) n | false ↦ (i, word i - 1) ∷ told word (suc i) n ]) s ≡ false
    go true e = e
    go false e = ap (λ (x : Bool). elim x as (λ _. Bool) [ true ↦ true | false ↦ is_egress (told word (suc i) n) s ]) (ne_eqb i s (λ y. omega arith)) ∙ e

-- the table holds them
told_at : (word : ℕ → ℕ) (i n s : ℕ) → i ≤ s → s < i + n → word s ≡ egress_word (is_egress (told word i n) s) (egress_walk (told word i n) s)
unfolding is_egress egress_walk told
told_at word i zero s l u = absurd (omega arith)
told_at word i (suc n) s l u = go (eqb (word i) 0) refl (λ (k : suc i ≤ s). told_at word (suc i) n s k (omega arith)) (told_before word (suc i) n s)
  where
    head : (b : Bool) → eqb i s ≡ b → eqb (word i) 0 ≡ false → (suc i ≤ s → word s ≡ egress_word (is_egress (told word (suc i) n) s) (egress_walk (told word (suc i) n) s))
        → word s ≡ egress_word (elim b [ true ↦ true | false ↦ is_egress (told word (suc i) n) s ]) (elim b [ true ↦ word i - 1 | false ↦ egress_walk (told word (suc i) n) s ])
    head true e q later = let y : word i ≡ word i - 1 + 1 = omega (arith, eqb-false (word i) 0 q) in sym (ap word (eqb-true i s e)) ∙ y
    head false e q later = later (⊎_elim (λ (z : i ≡ s). absurd (eqb-false i s e z)) (λ (k : suc i ≤ s). k) (eq-or-lt_of_le l))

    go : (b : Bool) → eqb (word i) 0 ≡ b → (suc i ≤ s → word s ≡ egress_word (is_egress (told word (suc i) n) s) (egress_walk (told word (suc i) n) s))
        → (s < suc i → is_egress (told word (suc i) n) s ≡ false)
        → word s ≡ egress_word (is_egress (elim b [ true ↦ told word (suc i) n | false ↦ (i, word i - 1) ∷ told word (suc i) n ]) s)
        (egress_walk (elim b [ true ↦ told word (suc i) n | false ↦ (i, word i - 1) ∷ told word (suc i) n ]) s)
    go true q later none =
        ⊎_elim
        (λ (e : i ≡ s). sym (ap word e) ∙ eqb-true (word i) 0 q ∙ ap (λ (b : Bool). egress_word b (egress_walk (told word (suc i) n) s)) (sym (none (omega arith))))
        later (eq-or-lt_of_le l)
    go false q later none = head (eqb i s) refl q later

-- tables and a query with these egress stops: whatever stands in memory, there are some that agree with it
some_tables : Tables
some_tables =
    record {
      timetable = timetable [] (record { stops = 0; trips = 0; times = 0; windows = 0; edges = 0 });
      distance = λ e. nan;
      lines = 0;
      line_of = λ t. 0;
      line = λ l. record { count = 0; trip = λ p. 0 };
      departures = λ s. [];
      mark = λ s. 0;
      transfers = λ t o. [];
      cells = 0;
      patterns = 0;
      pattern = λ p. empty_set 0;
    }

asking : List (ℕ × ℕ) → Query
asking es =
    record {
      start = 0;
      origins = [];
      egress = es;
      modes = 0;
      wheelchair = false;
      change = 0;
      wanted_rounds = 0;
      transfers = 0;
      delays = record { delays = 0; delay = λ i. record { trip = 0; delay = 0 }; stop_rows = 0; stop_row = λ j. record { row = 0; sequence = 0; departure_delay = 0; arrival_delay = 0; flags = 0 } };
      flags_off = false;
      settings = default_settings;
    }

told_table : (lay : Lay) (w : List ℕ) → EgressTable (told (table_word lay w) 0 lay.stops) lay w
told_table lay w = record { at = λ s h. told_at (table_word lay w) 0 lay.stops s (omega arith) (omega arith) }

-- a number set that is not higher
set_falls : (l : List ℕ) (i v s : ℕ) → v ≤ get_or l i 0 → get_or (set l i v) s 0 ≤ get_or l s 0
set_falls [] i v s h = omega arith
set_falls (x ∷ l) zero v zero h = h
set_falls (x ∷ l) zero v (suc s) h = omega arith
set_falls (x ∷ l) (suc i) v zero h = omega arith
set_falls (x ∷ l) (suc i) v (suc s) h = set_falls l i v s h

relax_falls : (T : Tables) (Q : Query) (stamp s v : ℕ) (how : Label) (a : Arrivals) (k : ℕ) → get_or (relax T Q stamp s v how a).earliest k 0 ≤ get_or a.earliest k 0
unfolding relax improve
relax_falls T Q stamp s v how a k = go (ltb v (get_or a.earliest s 0)) refl
  where
    go : (b : Bool) → ltb v (get_or a.earliest s 0) ≡ b → get_or (cond b (improve T Q stamp s v how a) a).earliest k 0 ≤ get_or a.earliest k 0
    go true q = set_falls a.earliest s v k (omega (arith, ltb-true v (get_or a.earliest s 0) q))
    go false q = omega arith

-- `relax` in memory
pub relaxed_falls : {lay : Lay} {stamp : ℕ} (s v : ℕ) (how : Label) {a b : Memory}
    → Step lay stamp (λ T Q. EgressTable Q.egress lay a.work) (λ T Q. relax T Q stamp s v how) a b → Falls lay a.work b.work
unfolding asking
relaxed_falls {lay} {stamp} s v how {a} {b} p = record { earlier = λ k h. go k h }
  where
    Q : Query
    Q = asking (told (table_word lay a.work) 0 lay.stops)

    e : earliest_of lay b.work ≡ (relax some_tables Q stamp s v how (arrivals_of lay a [])).earliest
    e = ap (λ (x : Arrivals). x.earliest) (p.view some_tables Q (told_table lay a.work) [])

    go : (k : ℕ) → k < lay.stops → get_or b.work k 0 ≤ get_or a.work k 0
    go k h =
        rw (← first_at b.work lay.stops k h, ← first_at a.work lay.stops k h, e) (relax_falls some_tables Q stamp s v how (arrivals_of lay a []) k)
