-- WHAT WAS BUILT PASSES THE QUERY'S DOOR: after the building calls the verdict is 0 where the other questions are answered yes.
use Prim.Native.Nat.{ℕ, suc, ◌+◌, ◌*◌, ◌-◌, ◌<◌, ◌≤◌}
use mathlib.Core.Path.{◌≡◌, refl, sym, ap, ap₂, subst, ◌∙◌}
use mathlib.Core.Bool.{Bool, true, ◌&&◌}
use mathlib.Core.List.{List}
use native.Mathlib.Omega.{arith}
use lib.ListN.{length, get_or, take}
use lib.Seq.{get_or-take}
use lib.Dec.{ltb}
use borrow.Author.Tests.{eq-eqb, le-leb, lt-ltb}
use Rattle.loops.specs.Iter.{every_in}
use Rattle.loops.proofs.Iter.{every_all}
use Rattle.loops.proofs.Count.{count_le_n, one_le}
use Rattle.door.specs.Door.{ask}
use Rattle.tables.specs.declared.Counts.{Counts}
use Rattle.tables.specs.Timetable.{Timetable}
use Rattle.tables.specs.declared.StopTimeRow.{StopTimeRow}
use Rattle.tables.specs.Sane.{CountsOk, SlicesOk, RunsOk}
use Rattle.tables.proofs.Yes.{counts_yes, slices_yes, runs_yes}
use Rattle.departures.specs.Departures.{row_at, row_departure, run_at, run_first, run_length, run_end, departures_of, frequency_listed}
use Rattle.departures.specs.Listed.{run_in, stop_runs_ok, listed_ok, RowKnown, RowsListed}
use Rattle.departures.proofs.Parts.{part_row}
use Rattle.departures.proofs.Yes.{listed_yes}
use Rattle.departures_call.specs.Call.{SortAreas, sorted_rows}
use Rattle.departures_call.proofs.Laws.{still_listed, departures-rise}
use Rattle.line_numbers.specs.Lines.{line_below, line_count, line_first, lines_of, runs_of}
use Rattle.built_lines.proofs.Laws.{run-first, run_count}
use Rattle.line_numbers.proofs.Laws.{first_next, line_is_one, lines_at_most, entry_trip}
use Rattle.line_layout.specs.Layout.{line_run_at}
use Rattle.line_layout.specs.Listed.{line_run_in, line_runs_ok, entries_ok}
use Rattle.query_types.specs.declared.Lengths.{Lengths}
use Rattle.query_input.specs.Lent.{Lent, line_runs, line_entries, stop_runs as stop_runs_of, departure_rows, marks_at, transfer_runs_at, event_count}
use Rattle.departure_order.specs.Order.{not_earlier, part_order, departure_order}
use Rattle.query_door.specs.Door.{query_question1, read_ok, query_question2, query_question3, column_at, column_below, line_numbers, query_question4, mark_ranges, query_question5, query_question6, query_verdict}
use Rattle.promise.specs.Chain.{SameRides, Chain, DoorElse, TransfersPass, callers_list}
use Rattle.promise.proofs.Building.{T1, T2, Y, lines_facts, sort_facts, sort-made, out_runs, out_entries, cut, chain_tables}
use Rattle.promise.proofs.Alike.{count_same, time_same, departure_same}

-- a line's run ends with the entries or before
run_ends : (T : Timetable) (l : ℕ) → line_first T l + line_count T l ≤ T.trips
unfolding line_first
run_ends T l = omega (arith, first_next T l, count_le_n (line_below T (suc l)) T.trips)

ask_yes : (n : ℕ) (b : Bool) (v : ℕ) → b ≡ true → v ≡ 0 → ask n b v ≡ 0
ask_yes n b v e h = ap (λ (b : Bool). ask n b v) e ∙ h

-- a list of departures that passed on one slice passes on another with the same rides
module _ (t : List ℕ) (c : Counts) (t' : List ℕ) (c' : Counts) (r : RunsOk t c) (s : SameRides t c t' c') (runs rows : List ℕ) (d : ℕ) (l : RowsListed t c runs rows d) where
  row_in : (u k : ℕ) → u < c.stops → k < run_length runs u → RowKnown t c (row_at rows (run_first runs u + k))
  row_in u k h v = l.known.known (run_first runs u + k) (omega (arith, l.stops.run u h))

  pub listed_same : CountsOk c' → SlicesOk t' c' → RunsOk t' c' → RowsListed t' c' runs rows d
  listed_same a b e =
      record {
        stops = record { counts = a; few = l.stops.few; size = omega (arith, l.stops.size, s.stops); run = λ u h. l.stops.run u (omega (arith, s.stops)) };
        known =
            record {
              counts = a;
              slices = b;
              runs = e;
              few = l.known.few;
              size = l.known.size;
              known = λ k h.
                  let q = l.known.known k h in
                  record { trip = omega (arith, q.trip, s.trips); offset = omega (arith, q.offset, count_same t c t' c' r s (row_at rows k).trip q.trip) };
            };
        at = λ u k h v.
            let w : u < c.stops = omega (arith, s.stops) in
            let q = row_in u k w v in
            ap (λ (p : StopTimeRow). p.stop) (time_same t c t' c' r s (row_at rows (run_first runs u + k)).trip (row_at rows (run_first runs u + k)).offset q.trip q.offset) ∙ l.at u k w v;
      }

module _ (x : Lent) (k : Chain x) where
  line_runs_pass : line_runs_ok (line_runs x.built x.n) x.n.lines x.n.entries ≡ true
  unfolding line_runs_ok line_run_in
  line_runs_pass =
      every_all (λ l. line_run_in x.n.entries (line_run_at (line_runs x.built x.n) l)) 0 (x.n.lines - 0)
      (λ l u v.
      let w : l < lines_of (T1 x k) = omega (arith, (lines_facts x k).counted) in
      let e = (cut x k).second ∙ ap (take (x.n.lines * 2)) (out_runs x k) in
      let r = runs_of (T1 x k) k.line_areas.runs in
      let a = ap (λ (m : List ℕ). get_or m (l * 2) 0) e ∙ get_or-take (x.n.lines * 2) r (l * 2) 0 (omega arith) ∙ run-first (T1 x k) k.line_areas.runs l w in
      let b = ap (λ (m : List ℕ). get_or m (l * 2 + 1) 0) e ∙ get_or-take (x.n.lines * 2) r (l * 2 + 1) 0 (omega arith) ∙ run_count (T1 x k) k.line_areas.runs l w in
      le-leb (get_or (line_runs x.built x.n) (l * 2) 0 + get_or (line_runs x.built x.n) (l * 2 + 1) 0) x.n.entries
      (omega (arith, a, b, run_ends (T1 x k) l, k.entries_told, k.lines_on.same.trips)))

  stop_runs_pass : stop_runs_ok (stop_runs_of x.built x.n) x.n.timetable x.n.departures ≡ true
  unfolding stop_runs_ok run_in
  stop_runs_pass =
      subst (λ (r : List ℕ). every_in (λ s. run_in x.n.departures (run_at r s)) 0 x.n.timetable.stops ≡ true) (sym (cut x k).fourth)
      (every_all (λ s. run_in x.n.departures (run_at k.stop_runs s)) 0 (x.n.timetable.stops - 0)
      (λ s u v. le-leb (run_end k.stop_runs s) x.n.departures ((sort_facts x k).listed.stops.run s (omega (arith, k.sort_on.same.stops)))))

  line_numbers_pass : line_numbers x.built x.n ≡ true
  unfolding line_numbers column_below entries_ok
  line_numbers_pass =
      ap₂ ◌&&◌
      (every_all (λ i. ltb (column_at x.built 0 1 i) x.n.lines) 0 (x.n.timetable.trips - 0)
      (λ i u v.
      let z : 0 + i * 1 ≡ i = omega arith in
      let e = ap (λ (j : ℕ). get_or x.built j 0) z ∙ (chain_tables x k).line_built i (omega arith) in
      lt-ltb (column_at x.built 0 1 i) x.n.lines (omega (arith, e, line_is_one (Y x k) i (omega arith), (chain_tables x k).lines_built))))
      (every_all (λ p. ltb (get_or (line_entries x.built x.n) p 0) x.n.timetable.trips) 0 (x.n.entries - 0)
      (λ p u v.
      let w : p < k.lines_on.c.trips = omega (arith, k.entries_told, k.lines_on.same.trips) in
      let e = ap (λ (m : List ℕ). get_or m p 0) ((cut x k).third ∙ out_entries x k) in
      lt-ltb (get_or (line_entries x.built x.n) p 0) x.n.timetable.trips (omega (arith, e, entry_trip (T1 x k) p w, k.lines_on.same.trips))))

  mark_pass : mark_ranges x.built x.n ≡ true
  unfolding mark_ranges column_below
  mark_pass =
      every_all (λ i. ltb (column_at x.built (marks_at x.n) 1 i) 2) 0 (x.n.timetable.stops - 0)
      (λ s u v.
      let z : marks_at x.n + s * 1 ≡ marks_at x.n + s = omega arith in
      let e = ap (λ (j : ℕ). get_or x.built j 0) z ∙ (chain_tables x k).marks_built s (omega arith) in
      lt-ltb (column_at x.built (marks_at x.n) 1 s) 2 (omega (arith, e, one_le (frequency_listed (Y x k) (callers_list x k s)))))

  abbrev rows_out : List ℕ
  rows_out = sorted_rows k.sort_on.t k.sort_on.c x.n.departures k.stop_runs k.sort_areas.rows

  rows_are : departure_rows x.built x.n ≡ rows_out
  rows_are = (cut x k).fifth ∙ ap (λ (s : SortAreas). s.rows) (sort-made x k)

  still : RowsListed k.sort_on.t k.sort_on.c k.stop_runs rows_out x.n.departures
  still = still_listed k.sort_on.t k.sort_on.c k.stop_runs k.sort_areas.rows x.n.departures (sort_facts x k).listed

  listed_pass : CountsOk x.n.timetable → SlicesOk x.t x.n.timetable → RunsOk x.t x.n.timetable
      → listed_ok x.t x.n.timetable (stop_runs_of x.built x.n) (departure_rows x.built x.n) x.n.departures ≡ true
  listed_pass a b e =
      ap₂ (λ (p q : List ℕ). listed_ok x.t x.n.timetable p q x.n.departures) (cut x k).fourth rows_are
      ∙ listed_yes x.t x.n.timetable k.stop_runs rows_out x.n.departures
      (listed_same k.sort_on.t k.sort_on.c x.t x.n.timetable (sort_facts x k).sane.runs k.sort_on.same k.stop_runs rows_out x.n.departures still a b e)

  -- a row of a stop's part has one departure in both timetables
  row_departs : (s i : ℕ) → s < k.sort_on.c.stops → i < run_length k.stop_runs s
      → row_departure (Y x k) (row_at (departures_of k.stop_runs rows_out s) i) ≡ row_departure (T2 x k) (row_at (departures_of k.stop_runs rows_out s) i)
  row_departs s i h u =
      departure_same k.sort_on.t k.sort_on.c x.t x.n.timetable (sort_facts x k).sane.runs k.sort_on.same (row_at (departures_of k.stop_runs rows_out s) i)
      (rw (part_row rows_out (run_first k.stop_runs s) (run_length k.stop_runs s) i u) (still.known.known (run_first k.stop_runs s + i) (omega (arith, still.stops.run s h))))

  order_pass : departure_order (Y x k) (stop_runs_of x.built x.n) (departure_rows x.built x.n) x.n.timetable.stops ≡ true
  unfolding departure_order part_order not_earlier
  order_pass =
      ap₂ (λ (p q : List ℕ). departure_order (Y x k) p q x.n.timetable.stops) (cut x k).fourth rows_are
      ∙ every_all (λ s. part_order (Y x k) (departures_of k.stop_runs rows_out s) (run_length k.stop_runs s)) 0 (x.n.timetable.stops - 0)
      (λ s u v. every_all (not_earlier (Y x k) (departures_of k.stop_runs rows_out s)) 1 (run_length k.stop_runs s - 1)
      (λ i p q.
      let w : s < k.sort_on.c.stops = omega (arith, k.sort_on.same.stops) in
      let z : i - 1 + 1 ≡ i = omega arith in
      let rise = departures-rise k.sort_on.t k.sort_on.c k.stop_runs k.sort_areas.rows x.n.departures (sort_facts x k).listed s (i - 1) w (omega arith) in
      let e = ap (λ (j : ℕ). row_departure (T2 x k) (row_at (departures_of k.stop_runs rows_out s) j)) z in
      le-leb (row_departure (Y x k) (row_at (departures_of k.stop_runs rows_out s) (i - 1))) (row_departure (Y x k) (row_at (departures_of k.stop_runs rows_out s) i))
      (omega (arith, rise, e, row_departs s (i - 1) w (omega arith), row_departs s i w (omega arith)))))

  -- THE DOOR
  pub chain_door : (l : Lengths) → TransfersPass x k.rest → DoorElse x l → query_verdict x l ≡ 0
  unfolding query_verdict query_question1 query_question2 read_ok query_question3 query_question4 query_question5 query_question6
  chain_door l p e =
      ask_yes 1 _ _
      (ap₂ ◌&&◌ (ap₂ ◌&&◌ e.counts (ap₂ ◌&&◌ (le-leb x.n.cells 512 e.cells) (le-leb x.n.patterns 4096 e.patterns)))
      (ap₂ ◌&&◌
      (ap₂ ◌&&◌ (ap₂ ◌&&◌ (le-leb x.n.lines 4096 lines_few) (le-leb x.n.entries 4096 entries_few)) (ap₂ ◌&&◌ (le-leb x.n.departures 65536 (sort_facts x k).listed.stops.few) (le-leb x.n.transfers 65536 p.few)))
      (ap₂ ◌&&◌ (ap₂ ◌&&◌ (le-leb x.n.delays 4096 e.delays) (le-leb x.n.stop_rows 4096 e.stop-rows)) (ap₂ ◌&&◌ (le-leb x.n.origins 64 e.origins) (le-leb x.n.egress 64 e.egress)))))
      (ask_yes 14 _ _ e.settings
      (ask_yes 2 _ _
      (ap₂ ◌&&◌ e.slices
      (ap₂ ◌&&◌
      (ap₂ ◌&&◌ (ap₂ ◌&&◌ (eq-eqb (length x.built) (transfer_runs_at x.n + event_count x.t x.n * 2) (omega (arith, (cut x k).size, p.size))) (eq-eqb _ _ e.pattern_bytes)) (ap₂ ◌&&◌ (eq-eqb _ _ e.distances) (eq-eqb _ _ e.query-size)))
      e.written))
      (ask_yes 3 _ _ (ap₂ ◌&&◌ (ap₂ ◌&&◌ e.runs line_runs_pass) (ap₂ ◌&&◌ stop_runs_pass p.runs))
      (ask_yes 4 _ _
      (ap₂ ◌&&◌ (ap₂ ◌&&◌ e.numbers line_numbers_pass)
      (ap₂ ◌&&◌ (listed_pass (counts_yes x.n.timetable e.counts) (slices_yes x.t x.n.timetable e.slices) (runs_yes x.t x.n.timetable e.runs)) (ap₂ ◌&&◌ e.query-numbers e.delay-numbers)))
      (ask_yes 5 _ _ (ap₂ ◌&&◌ (ap₂ ◌&&◌ e.ranges (ap₂ ◌&&◌ mark_pass p.times)) (ap₂ ◌&&◌ e.query-ranges (ap₂ ◌&&◌ e.walks e.delay-ranges)))
      (ask_yes 6 _ 0 (ap₂ ◌&&◌ (ap₂ ◌&&◌ e.order order_pass) (ap₂ ◌&&◌ e.egress-order e.delay-order)) refl))))))
    where
      lines_few : x.n.lines ≤ 4096
      lines_few = omega (arith, (lines_facts x k).counted, lines_at_most (T1 x k), (lines_facts x k).facts.sound.counts.trips)

      entries_few : x.n.entries ≤ 4096
      entries_few = omega (arith, k.entries_told, k.lines_on.same.trips, (lines_facts x k).facts.sound.counts.trips)
