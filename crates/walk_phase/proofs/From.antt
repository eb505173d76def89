-- The edges of one stop, and the stops one after the other. Assumes nothing.
use Prim.Native.Nat.{ℕ, zero, suc, ◌+◌, ◌-◌, ◌≤◌, ◌<◌}
use mathlib.Core.Path.{◌≡◌, refl, sym, ap, ◌∙◌}
use mathlib.Core.Bool.{Bool}
use mathlib.Core.List.{List, [], ◌∷◌}
use native.Mathlib.Omega.{arith}
use native.Mathlib.Numerals.{add-one}
use lib.ListN.{length, get_or, drop}
use lib.Seq.{drop-cons}
use lib.Dec.{leb}
use Rattle.loops.specs.Order.{Halved}
use Rattle.tables.specs.declared.Counts.{Counts}
use Rattle.tables.specs.Tables.{edge_of}
use Rattle.tables.specs.Timetable.{timetable}
use Rattle.tables.specs.Sane.{OrderOk}
use Rattle.model.specs.Tables.{Tables, Query, edges_from}
use Rattle.model.specs.Search.{Arrivals, at, walk_from, walk_all}
use Rattle.query_types.specs.declared.Lay.{Lay}
use Rattle.search_state.specs.View.{Memory, arrivals_of}
use Rattle.search_state.specs.Step.{Step}
use Rattle.search_state.proofs.Part.{first_at}
use Rattle.walk_phase.specs.Walking.{run_from}
use Rattle.walk_phase.proofs.Edges.{edges_run, run_turn, run_stop, run_end}
use Rattle.walk_phase.proofs.Edge.{walk_cons}

-- what is left of a stop's edges from e on
module _ (T : Tables) (Q : Query) (flagged : Bool) (stamp x v : ℕ) (t : List ℕ) (c : Counts) where
  abbrev pub walk_left : ℕ → Arrivals → Arrivals
  walk_left e a = walk_from T Q flagged stamp x v (run_from (λ i. edge_of t c i 0) x e (c.edges - e)) a

  pub left_start : (lo : ℕ) (a : Arrivals) → T.timetable ≡ timetable t c → OrderOk t c → Halved (λ i. leb x (edge_of t c i 0)) c.edges lo lo
      → walk_left lo a ≡ walk_from T Q flagged stamp x v (edges_from T x) a
  left_start lo a e o h = ap (λ (es : List ℕ). walk_from T Q flagged stamp x v es a) (sym (edges_run T t c x lo e o h))

  pub left_turn : (e : ℕ) (a : Arrivals) → edge_of t c e 0 ≡ x → e < c.edges → walk_left e a ≡ walk_left (e + 1) (walk_from T Q flagged stamp x v (e ∷ []) a)
  left_turn e a k h =
      ap (λ (es : List ℕ). walk_from T Q flagged stamp x v es a) (run_turn (λ i. edge_of t c i 0) x c.edges e h k)
      ∙ walk_cons T Q flagged stamp x v e (run_from (λ i. edge_of t c i 0) x (e + 1) (c.edges - (e + 1))) a

  pub left_stop : (e : ℕ) (a : Arrivals) → (edge_of t c e 0 ≡ x → ⊥) → e < c.edges → walk_left e a ≡ a
  unfolding walk_from
  left_stop e a k h = ap (λ (es : List ℕ). walk_from T Q flagged stamp x v es a) (run_stop (λ i. edge_of t c i 0) x c.edges e h k)

  pub left_end : (e : ℕ) (a : Arrivals) → c.edges ≤ e → walk_left e a ≡ a
  unfolding walk_from
  left_end e a h = ap (λ (es : List ℕ). walk_from T Q flagged stamp x v es a) (run_end (λ i. edge_of t c i 0) x c.edges e h)

drop_past : (i : ℕ) (l : List ℕ) → length l ≤ i → drop i l ≡ []
drop_past zero [] h = refl
drop_past (suc i) [] h = refl
drop_past zero (x ∷ l) h = absurd (omega arith)
drop_past (suc i) (x ∷ l) h = drop_past i l (omega arith)

-- the stops of a list from place i on
module _ (T : Tables) (Q : Query) (flagged : Bool) (stamp : ℕ) (l : List ℕ) where
  pub all_turn : (i x : ℕ) (a : Arrivals) → get_or l i 0 ≡ x → i < length l
      → walk_all T Q flagged stamp (drop i l) a ≡ walk_all T Q flagged stamp (drop (i + 1) l) (walk_from T Q flagged stamp x (at a x) (edges_from T x) a)
  unfolding walk_all
  all_turn i x a e h =
      ap (λ (xs : List ℕ). walk_all T Q flagged stamp xs a) (drop-cons l i 0 h)
      ∙ rw (add-one i) (ap (λ (z : ℕ). walk_all T Q flagged stamp (drop (suc i) l) (walk_from T Q flagged stamp z (at a z) (edges_from T z) a)) e)

  pub all_end : (i : ℕ) (a : Arrivals) → length l ≤ i → walk_all T Q flagged stamp (drop i l) a ≡ a
  unfolding walk_all
  all_end i a h = ap (λ (xs : List ℕ). walk_all T Q flagged stamp xs a) (drop_past i l h)

-- the walks of a stop from when it is reached, as memory has it
pub step_at : {lay : Lay} {stamp : ℕ} {agree : Tables → Query → Type 0} {a b : Memory} (flagged : Bool) (x v : ℕ) → x < lay.stops → get_or a.work x 0 ≡ v
    → Step lay stamp agree (λ T Q. walk_from T Q flagged stamp x v (edges_from T x)) a b
    → Step lay stamp agree (λ T Q y. walk_from T Q flagged stamp x (at y x) (edges_from T x) y) a b
step_at {lay} {stamp} {agree} {a} {b} flagged x v h e p =
    record {
      view = λ T Q g q. p.view T Q g q
          ∙ ap (λ (z : ℕ). walk_from T Q flagged stamp x z (edges_from T x) (arrivals_of lay a q)) (sym (first_at a.work lay.stops x h ∙ e));
      same = p.same;
      ready = p.ready;
      grown = p.grown;
      queued = p.queued;
      full = p.full;
    }
