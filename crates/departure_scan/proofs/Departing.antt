-- The departures of a stop, one by one. Assumes nothing.
use Prim.Native.Nat.{ℕ, suc, ◌+◌, ◌-◌, ◌≤◌, ◌<◌}
use mathlib.Core.Path.{◌≡◌, refl, sym, ap, ap₂, subst, ◌∙◌}
use mathlib.Core.Bool.{Bool, true, false, not, ◌&&◌}
use mathlib.Core.List.{List, [], ◌∷◌}
use native.Mathlib.Omega.{arith}
use native.Mathlib.Numerals.{add-one}
use lib.Dec.{leb}
use Rattle.loops.specs.Iter.{first}
use Rattle.loops.specs.Count.{tab_from}
use Rattle.tables.specs.declared.Counts.{Counts}
use Rattle.tables.specs.Tables.{time_of, trip_of}
use Rattle.tables.specs.Timetable.{timetable}
use Rattle.std.specs.Prelude.{Option, None, Some}
use Rattle.frequency.specs.declared.BoardedRun.{BoardedRun}
use Rattle.departures.specs.declared.DepartureRow.{DepartureRow}
use Rattle.departures.specs.Departures.{row_at, rows_of}
use Rattle.query_types.specs.declared.Terms.{Terms}
use Rattle.trip_boarding.specs.Reads.{Asks}
use Rattle.model.specs.Tables.{Tables, Query, departure}
use Rattle.model.specs.Search.{Arrivals, State, delay_of, margin_of, boarding, scan_departures}
use Rattle.query_types.specs.declared.Lay.{Lay}
use Rattle.search_state.specs.View.{Memory}
use Rattle.ride_step.specs.Phase.{Seen}
use Rattle.ride_step.specs.Going.{taken_by, taken}

-- the test whether a departure is too late, as it is computed
pub late_is : (T : Tables) (Q : Query) (t : List ℕ) (c : Counts) (w : Terms) (f : Bool) (i o best first d : ℕ) {r : Bool} → T.timetable ≡ timetable t c → Asks Q w
    → first ≡ trip_of t c i 0 → d ≡ time_of t (first + o) 2 → r ≡ (not f && leb (best + w.margin) d)
    → r ≡ (not f && leb (best + margin_of T Q) (departure T i o))
late_is T Q t c w f i o best first d e q ef ed er = rw (er, ed, ef, q.margin, e) refl

module _ (T : Tables) (Q : Query) (flagged has_freq : Bool) (round stamp x after : ℕ) where
  -- is a departure too late?
  abbrev pub too_late : ℕ → DepartureRow → Bool
  too_late best d = not has_freq && leb (best + margin_of T Q) (departure T d.trip d.offset)

  -- one departure, by the two tests
  abbrev step_by : Bool → Option BoardedRun → DepartureRow → List DepartureRow → State → State
  step_by late f d ds s =
      elim late as (λ z. State) [
        | true ↦ s
        | false ↦ elim f as (λ z. State) [
          | None ↦ scan_departures T Q flagged has_freq round stamp x after ds s
          | Some b ↦ scan_departures T Q flagged has_freq round stamp x after ds (taken_by T Q flagged round stamp x d (Some b) s)
        ]
      ]

  scan_cons : (d : DepartureRow) (ds : List DepartureRow) (s : State)
      → scan_departures T Q flagged has_freq round stamp x after (d ∷ ds) s
      ≡ step_by (too_late s.arrivals.best d) (boarding T Q stamp after (delay_of Q d.trip) d.trip d.offset s) d ds s
  unfolding scan_departures
  scan_cons d ds s = refl

  scan_nil : (s : State) → scan_departures T Q flagged has_freq round stamp x after [] s ≡ s
  unfolding scan_departures
  scan_nil s = refl

  scan_late : (d : DepartureRow) (ds : List DepartureRow) (s : State) → too_late s.arrivals.best d ≡ true → s ≡ scan_departures T Q flagged has_freq round stamp x after (d ∷ ds) s
  scan_late d ds s e =
      sym (scan_cons d ds s ∙ ap (λ (b : Bool). step_by b (boarding T Q stamp after (delay_of Q d.trip) d.trip d.offset s) d ds s) e)

  scan_next : (d : DepartureRow) (ds : List DepartureRow) (s : State) → too_late s.arrivals.best d ≡ false
      → scan_departures T Q flagged has_freq round stamp x after ds (taken T Q flagged round stamp x after d s) ≡ scan_departures T Q flagged has_freq round stamp x after (d ∷ ds) s
  scan_next d ds s e =
      let f = boarding T Q stamp after (delay_of Q d.trip) d.trip d.offset s in
      go f ∙ sym (scan_cons d ds s ∙ ap (λ (b : Bool). step_by b f d ds s) e)
    where
      go : (f : Option BoardedRun) → scan_departures T Q flagged has_freq round stamp x after ds (taken_by T Q flagged round stamp x d f s) ≡ step_by false f d ds s
      go None = refl
      go (Some b) = refl

  -- the departures of a list of n rows, from row i on
  abbrev pub scan_from : List ℕ → ℕ → ℕ → State → State
  scan_from list n i s = scan_departures T Q flagged has_freq round stamp x after (tab_from (row_at list) i (n - i)) s

  from_cons : (list : List ℕ) (n i : ℕ) (s : State) → i < n
      → scan_departures T Q flagged has_freq round stamp x after (row_at list i ∷ tab_from (row_at list) (suc i) (n - (i + 1))) s ≡ scan_from list n i s
  unfolding tab_from
  from_cons list n i s h =
      let e : suc (n - (i + 1)) ≡ n - i = omega arith in
      ap (λ (m : ℕ). scan_departures T Q flagged has_freq round stamp x after (tab_from (row_at list) i m) s) e

  pub from_late : (list : List ℕ) (n i : ℕ) (s : State) → i < n → (d : DepartureRow) → d ≡ row_at list i → too_late s.arrivals.best d ≡ true → s ≡ scan_from list n i s
  from_late list n i s h d is e =
      scan_late (row_at list i) (tab_from (row_at list) (suc i) (n - (i + 1))) s (subst (λ (z : DepartureRow). too_late s.arrivals.best z ≡ true) is e) ∙ from_cons list n i s h

  pub from_turn : (list : List ℕ) (n i : ℕ) (s : State) → i < n → (d : DepartureRow) → d ≡ row_at list i → too_late s.arrivals.best d ≡ false
      → scan_from list n (i + 1) (taken T Q flagged round stamp x after d s) ≡ scan_from list n i s
  from_turn list n i s h d is e =
      ap₂ (λ (k : ℕ) (z : DepartureRow). scan_departures T Q flagged has_freq round stamp x after (tab_from (row_at list) k (n - (i + 1))) (taken T Q flagged round stamp x after z s)) (add-one i) is
      ∙ scan_next (row_at list i) (tab_from (row_at list) (suc i) (n - (i + 1))) s (subst (λ (z : DepartureRow). too_late s.arrivals.best z ≡ false) is e) ∙ from_cons list n i s h

  pub from_end : (list : List ℕ) (n i : ℕ) (s : State) → n ≤ i → s ≡ scan_from list n i s
  unfolding tab_from
  from_end list n i s h =
      let e : n - i ≡ 0 = omega arith in
      sym (ap (λ (m : ℕ). scan_departures T Q flagged has_freq round stamp x after (tab_from (row_at list) i m) s) e ∙ scan_nil s)

  pub from_start : (list : List ℕ) (n : ℕ) (s : State) → scan_from list n 0 s ≡ scan_departures T Q flagged has_freq round stamp x after (rows_of list n) s
  from_start list n s =
      let e : n - 0 ≡ n = omega arith in ap (λ (m : ℕ). scan_departures T Q flagged has_freq round stamp x after (tab_from (row_at list) 0 m) s) e

-- the test, of a state that is seen
pub late_seen : {lay : Lay} {stamp : ℕ} {T : Tables} {Q : Query} {a : Memory} {q : List ℕ} {s : State} → Seen lay stamp T Q a q s → (has_freq : Bool) (trip off : ℕ) (r b : Bool)
    → r ≡ (not has_freq && leb (a.head.best + margin_of T Q) (departure T trip off)) → r ≡ b → (not has_freq && leb (s.arrivals.best + margin_of T Q) (departure T trip off)) ≡ b
late_seen {T = T} {Q = Q} e has_freq trip off r b told o =
    ap (λ (k : Arrivals). not has_freq && leb (k.best + margin_of T Q) (departure T trip off)) e.arrivals ∙ sym told ∙ o
