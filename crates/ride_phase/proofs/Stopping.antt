-- The stops reached before: one of them, and one after the other. Assumes nothing.
use Prim.Native.Nat.{ℕ, zero, suc, ◌+◌, ◌-◌, ◌/◌, ◌≤◌, ◌<◌}
use mathlib.Core.Path.{◌≡◌, refl, sym, ap, ap₂, subst, ◌∙◌}
use mathlib.Core.Bool.{Bool, true, false, ◌&&◌, ◌||◌}
use mathlib.Core.List.{List, [], ◌∷◌}
use native.Mathlib.Omega.{arith}
use native.Mathlib.Numerals.{add-one}
use lib.ListN.{length, get_or, drop, drop_of_length-le}
use lib.Seq.{drop-cons}
use lib.Ieee.{Float}
use lib.Dec.{ltb, leb, eqb}
use borrow.Author.Tests.{lt-ltb, lt-leb, le-leb, ne_eqb}
use Rattle.loops.specs.Count.{tab_from}
use Rattle.tables.specs.declared.Counts.{Counts}
use Rattle.tables.specs.Timetable.{Timetable, timetable}
use Rattle.departures.specs.declared.DepartureRow.{DepartureRow}
use Rattle.departures.specs.Departures.{row_at, rows_of, row_departure, run_length}
use Rattle.departures.specs.Listed.{RowsKnown}
use Rattle.departures.proofs.Parts.{stop_known}
use Rattle.model.specs.Tables.{never, Tables, Query, change_before, stops, departure}
use Rattle.model.specs.Search.{Arrivals, State, at, margin_of, departures_at, mark_at, not_before, scan_departures, scan_stops}
use Rattle.model.specs.Door.{InOrder}
use Rattle.query_types.specs.declared.Head.{Head}
use Rattle.search_state.specs.View.{Memory, memory}
use Rattle.search_state.proofs.Part.{first_at}
use Rattle.query_input.specs.Lent.{marks_at, stop_runs, departure_rows}
use Rattle.query_input.proofs.Laws.{order_next}
use Rattle.departure_scan.specs.Listed.{RowsOrdered}
use Rattle.ride_step.specs.Laid.{Rides, Laid}
use Rattle.ride_step.specs.Phase.{Seen}
use Rattle.ride_step.specs.Going.{Going, Rode, Changing}
use Rattle.ride_phase.specs.Scanned.{list_at, listed_rows, scanned}
use Rattle.ride_step.proofs.Riding.{ride_none, ride_as}
use Rattle.query_types.specs.Slices.{Slices}
use Rattle.query_types.specs.declared.Context.{Context}

module _ (T : Tables) (Q : Query) (flagged : Bool) (round stamp : ℕ) where
  -- one stop, by its two tests
  abbrev stop_by : Bool → Bool → ℕ → State → State
  stop_by late mark x s =
      elim late as (λ z. State) [
        | true ↦ s
        | false ↦ elim mark as (λ z. State) [
          | true ↦ scan_departures T Q flagged true round stamp x (at s.arrivals x + change_before Q round) (departures_at T x) s
          | false ↦ scan_departures T Q flagged false round stamp x (at s.arrivals x + change_before Q round) (not_before T (at s.arrivals x + change_before Q round - margin_of T Q) (departures_at T x)) s
        ]
      ]

  scanned_by : (mark : Bool) (x : ℕ) (s : State)
      → scan_departures T Q flagged mark round stamp x (at s.arrivals x + change_before Q round) (scanned T mark (at s.arrivals x + change_before Q round - margin_of T Q) (departures_at T x)) s
      ≡ stop_by false mark x s
  scanned_by true x s = refl
  scanned_by false x s = refl

  abbrev late_at : ℕ → State → Bool
  late_at x s = eqb (at s.arrivals x) never || leb s.arrivals.best (at s.arrivals x + change_before Q round)

  stops_cons : (x : ℕ) (xs : List ℕ) (s : State) → scan_stops T Q flagged round stamp (x ∷ xs) s ≡ scan_stops T Q flagged round stamp xs (stop_by (late_at x s) (mark_at T x) x s)
  unfolding scan_stops
  stops_cons x xs s = go (late_at x s) (mark_at T x)
    where
      go : (b c : Bool)
          → elim b as (λ z. State) [
            | true ↦ scan_stops T Q flagged round stamp xs s
            | false ↦ elim c as (λ z. State) [
              | true ↦ scan_stops T Q flagged round stamp xs (scan_departures T Q flagged true round stamp x (at s.arrivals x + change_before Q round) (departures_at T x) s)
              | false ↦ scan_stops T Q flagged round stamp xs (scan_departures T Q flagged false round stamp x (at s.arrivals x + change_before Q round) (not_before T (at s.arrivals x + change_before Q round - margin_of T Q) (departures_at T x)) s)
            ]
          ] ≡ scan_stops T Q flagged round stamp xs (stop_by b c x s)
      go true c = refl
      go false true = refl
      go false false = refl

  stops_nil : (s : State) → scan_stops T Q flagged round stamp [] s ≡ s
  unfolding scan_stops
  stops_nil s = refl

  stop_one : (x : ℕ) (s : State) → stop_by (late_at x s) (mark_at T x) x s ≡ scan_stops T Q flagged round stamp (x ∷ []) s
  stop_one x s = sym (stops_cons x [] s ∙ stops_nil _)

  -- the stops of a list from place i on
  pub stops_turn : (l : List ℕ) (i x : ℕ) (s : State) → get_or l i 0 ≡ x → i < length l
      → scan_stops T Q flagged round stamp (drop (i + 1) l) (scan_stops T Q flagged round stamp (x ∷ []) s) ≡ scan_stops T Q flagged round stamp (drop i l) s
  stops_turn l i x s e h =
      ap₂ (λ (j : ℕ) (y : State). scan_stops T Q flagged round stamp (drop j l) y) (add-one i) (sym (stop_one x s))
      ∙ sym (stops_cons x (drop (suc i) l) s) ∙ ap (λ (y : ℕ). scan_stops T Q flagged round stamp (y ∷ drop (suc i) l) s) (sym e)
      ∙ sym (ap (λ (xs : List ℕ). scan_stops T Q flagged round stamp xs s) (drop-cons l i 0 h))

  pub stops_end : (l : List ℕ) (i : ℕ) (s : State) → length l ≤ i → s ≡ scan_stops T Q flagged round stamp (drop i l) s
  stops_end l i s h = sym (ap (λ (xs : List ℕ). scan_stops T Q flagged round stamp xs s) (drop_of_length-le l h) ∙ stops_nil s)

-- departures in order: none is earlier than one before it
order_at : (T : Tables) (f : ℕ → DepartureRow) (n : ℕ) → InOrder T (tab_from f 0 n) → (i d : ℕ) → i + d < n
    → departure T (f i).trip (f i).offset ≤ departure T (f (i + d)).trip (f (i + d)).offset
order_at T f n r i zero u = let e : i + 0 ≡ i = omega arith in rw e (omega arith)
order_at T f n r i (suc d) u =
    let e : i + suc d ≡ suc (i + d) = omega arith in
    rw e (omega (arith, order_at T f n r i d (omega arith), order_next T f 0 n r (i + d) (omega arith) (omega arith)))

-- THE DEPARTURES of a stop, as they are handed on
module _ {ctx : Context} {sl : Slices} {w : List ℕ} (L : Laid ctx sl w)
    (x : ℕ) (in-stops : x < ctx.counts.timetable.stops) (list : List ℕ) (is : list ≡ list_at sl.built ctx.counts x) where
  run_known : RowsKnown sl.tables ctx.counts.timetable list (run_length (stop_runs sl.built ctx.counts) x)
  run_known = rw is (stop_known sl.tables ctx.counts.timetable (stop_runs sl.built ctx.counts) (departure_rows sl.built ctx.counts) ctx.counts.departures x L.listed.known L.listed.stops in-stops)

  halves : length list / 2 ≡ run_length (stop_runs sl.built ctx.counts) x
  halves = omega (arith, run_known.size)

  pub list_known : RowsKnown sl.tables ctx.counts.timetable list (length list / 2)
  list_known = rw halves run_known

  rows_are : (T : Tables) (Q : Query) → Rides ctx sl w T Q → T.departures x ≡ rows_of list (length list / 2)
  rows_are T Q y = y.departures x in-stops ∙ ap₂ (λ (l : List ℕ) (k : ℕ). rows_of l k) (sym is) (sym halves)

  pub list_ordered : RowsOrdered sl.tables ctx.counts.timetable list (length list / 2)
  list_ordered =
      record {
        known = list_known;
        order = λ i j u v.
            let T = L.netted.T in
            let y = L.rides in
            let e : i + (j - i) ≡ j = omega arith in
            let o = subst (InOrder T) (rows_are T L.netted.Q y) (L.netted.door.departures_sorted x (omega (arith, in-stops, ap (λ (z : Timetable). z.stops) y.nets.agree.timetable))) in
            let r = order_at T (row_at list) (length list / 2) o i (j - i) (omega arith) in
            let p = ap (λ (z : Timetable). row_departure z (row_at list i)) y.nets.agree.timetable in
            let q = ap (λ (z : Timetable). row_departure z (row_at list j)) y.nets.agree.timetable in
            let s = ap (λ (k : ℕ). row_departure T.timetable (row_at list k)) e in
            omega (arith, r, p, q, s);
      }

  -- in the model
  in_table : (T : Tables) (Q : Query) → Rides ctx sl w T Q → ltb x (stops T) ≡ true
  in_table T Q y = lt-ltb x (stops T) (omega (arith, in-stops, ap (λ (z : Timetable). z.stops) y.nets.agree.timetable))

  listed_are : (T : Tables) (Q : Query) → Rides ctx sl w T Q → departures_at T x ≡ rows_of list (length list / 2)
  unfolding departures_at
  listed_are T Q y = ap (λ (b : Bool). elim b as (λ z. List DepartureRow) [ true ↦ T.departures x | false ↦ [] ]) (in_table T Q y) ∙ rows_are T Q y

  mark_is : (T : Tables) (Q : Query) → Rides ctx sl w T Q → mark_at T x ≡ eqb (get_or sl.built (marks_at ctx.counts + x) 0) 1
  unfolding mark_at
  mark_is T Q y = ap (λ (b : Bool). b && eqb (T.mark x) 1) (in_table T Q y) ∙ ap (λ (k : ℕ). eqb k 1) (y.mark x in-stops)

-- those that are scanned, as they are found
module _ (t : List ℕ) (c : Counts) (list d : List ℕ) (mark : Bool) (m : ℕ) (is : d ≡ list) where
  abbrev Found : List ℕ → Type 0
  Found r = RowsKnown t c r (length r / 2) × ((T : Tables) → T.timetable ≡ timetable t c → listed_rows r ≡ scanned T mark m (listed_rows list))

  pub all_scanned : mark ≡ true → RowsOrdered t c list (length list / 2) → Found d
  all_scanned e o =
      (subst (λ (l : List ℕ). RowsKnown t c l (length l / 2)) (sym is) o.known, λ T y. ap listed_rows is ∙ ap (λ (b : Bool). scanned T b m (listed_rows list)) (sym e))

  pub late_scanned : mark ≡ false → (r : List ℕ) → RowsOrdered t c r (length r / 2) → ((T : Tables) → T.timetable ≡ timetable t c → listed_rows r ≡ not_before T m (listed_rows d)) → Found r
  late_scanned e r o g = (o.known, λ T y. g T y ∙ ap (λ (l : List ℕ). not_before T m (listed_rows l)) is ∙ ap (λ (b : Bool). scanned T b m (listed_rows list)) (sym e))

-- ONE STOP
module _ {ctx : Context} {sl : Slices} {stamp : ℕ} {w l : List ℕ} {m : List Float} {h : Head} {q : List ℕ}
    (G : Going ctx sl stamp (memory w l m h) q) (flagged : Bool) (round change x : ℕ) (in-stops : x < ctx.counts.timetable.stops)
    (early : get_or w x 0 ≤ 108003224) where
  abbrev agree : Tables → Query → Type 0
  agree = Changing ctx sl round change w

  reached_at : (T : Tables) (Q : Query) (s : State) → Seen ctx.lay stamp T Q (memory w l m h) q s → at s.arrivals x ≡ get_or w x 0
  reached_at T Q s e = ap (λ (a : Arrivals). at a x) e.arrivals ∙ first_at w ctx.lay.stops x (omega (arith, in-stops, G.laid.netted.stops))

  after_is : (T : Tables) (Q : Query) → agree T Q → (s : State) → Seen ctx.lay stamp T Q (memory w l m h) q s → at s.arrivals x + change_before Q round ≡ get_or w x 0 + change
  after_is T Q y s e = ap₂ (λ (i j : ℕ). i + j) (reached_at T Q s e) y.before

  late_is : (T : Tables) (Q : Query) → agree T Q → (s : State) → Seen ctx.lay stamp T Q (memory w l m h) q s → late_at T Q flagged round stamp x s ≡ leb h.best (get_or w x 0 + change)
  late_is T Q y s e =
      ap (λ (b : Bool). b || leb s.arrivals.best (at s.arrivals x + change_before Q round)) (ne_eqb (at s.arrivals x) never (λ z. omega (arith, z, reached_at T Q s e, early)))
      ∙ ap₂ (λ (i j : ℕ). leb i j) (ap (λ (a : Arrivals). a.best) e.arrivals) (after_is T Q y s e)

  -- no earlier than the best total
  pub stop_late : h.best ≤ get_or w x 0 + change → Rode ctx.lay stamp agree (λ T Q. scan_stops T Q flagged round stamp (x ∷ [])) (memory w l m h) (memory w l m h) q q
  stop_late u =
      ride_none (λ T Q. scan_stops T Q flagged round stamp (x ∷ [])) (memory w l m h) q G.ready G.chains G.room
      (λ T Q y s e. sym (ap (λ (b : Bool). stop_by T Q flagged round stamp b (mark_at T x) x s) (late_is T Q y s e ∙ le-leb h.best (get_or w x 0 + change) u)) ∙ stop_one T Q flagged round stamp x s)

  module _ (u : get_or w x 0 + change < h.best) (list : List ℕ) (is : list ≡ list_at sl.built ctx.counts x)
      (mark : Bool) (told : mark ≡ eqb (get_or sl.built (marks_at ctx.counts + x) 0) 1) where
    stop-by : (b : Bool) → mark ≡ b → (T : Tables) (Q : Query) → agree T Q → (s : State) → Seen ctx.lay stamp T Q (memory w l m h) q s
        → stop_by T Q flagged round stamp false b x s ≡ scan_stops T Q flagged round stamp (x ∷ []) s
    stop-by b o T Q y s e =
        ap₂ (λ (i j : Bool). stop_by T Q flagged round stamp i j x s) (sym (late_is T Q y s e ∙ lt-leb h.best (get_or w x 0 + change) u))
        (sym o ∙ told ∙ sym (mark_is G.laid x in-stops list is T Q y.rides))
        ∙ stop_one T Q flagged round stamp x s

    -- those of its departures that are scanned: of an unmarked one those that a delay may bring to the time or later
    pub stop_scanned : (from : ℕ) → from ≡ get_or w x 0 + change - ctx.net.terms.margin → (ds : List ℕ)
        → ((T : Tables) → T.timetable ≡ timetable sl.tables ctx.counts.timetable → listed_rows ds ≡ scanned T mark from (listed_rows list)) → {b : Memory} {q' : List ℕ}
        → Rode ctx.lay stamp (Rides ctx sl w) (λ T Q. scan_departures T Q flagged mark round stamp x (get_or w x 0 + change) (listed_rows ds)) (memory w l m h) b q q'
        → Rode ctx.lay stamp agree (λ T Q. scan_stops T Q flagged round stamp (x ∷ [])) (memory w l m h) b q q'
    stop_scanned from f ds g z =
        ride_as (λ T Q. scan_stops T Q flagged round stamp (x ∷ [])) z (λ T Q y. y.rides)
        (λ T Q y s e.
        let v = sym (after_is T Q y s e) in
        let c = f ∙ ap₂ (λ (i j : ℕ). i - j) v (sym y.rides.nets.asks.margin) in
        ap₂ (λ (k : ℕ) (es : List DepartureRow). scan_departures T Q flagged mark round stamp x k es s) v
        (g T y.rides.nets.agree.timetable ∙ ap₂ (λ (k : ℕ) (es : List DepartureRow). scanned T mark k es) c (sym (listed_are G.laid x in-stops list is T Q y.rides)))
        ∙ scanned_by T Q flagged round stamp mark x s
        ∙ stop-by mark refl T Q y s e)
