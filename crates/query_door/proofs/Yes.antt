-- What a yes to each question gives.
use Prim.Native.Nat.{ℕ, ◌+◌, ◌*◌, ◌-◌, ◌<◌}
use mathlib.Core.Path.{◌≡◌, ◌∙◌, ap}
use mathlib.Core.Bool.{Bool, true, ◌&&◌}
use mathlib.Core.List.{List}
use native.Mathlib.Omega.{arith}
use lib.ListN.{length, get_or}
use lib.Dec.{ltb, leb, eqb}
use borrow.Author.Tests.{eqb-true, leb-true, ltb-true}
use Rattle.loops.specs.Iter.{every, first}
use Rattle.loops.proofs.Iter.{every_in_at, every_at}
use Rattle.door.specs.Door.{ask, time_limit}
use Rattle.door.specs.Settings.{settings_ok}
use Rattle.door.proofs.Laws.{ask_yes, ask_later}
use Rattle.door.proofs.House.{settings_yes}
use Rattle.tables.specs.Timetable.{Timetable, timetable}
use Rattle.tables.specs.Door.{counts_ok, slices_ok, runs_ok, numbers_ok, ranges_ok, order_ok}
use Rattle.tables.proofs.Yes.{Two, two, counts_yes, slices_yes, runs_yes, numbers_yes, ranges_yes, order_yes}
use Rattle.departures.specs.Departures.{row_at, row_departure, run_length, departures_of}
use Rattle.departures.specs.Listed.{run_in, stop_runs_ok, listed_ok}
use Rattle.departures.proofs.Yes.{runs_listed, rows_listed}
use Rattle.line_layout.specs.Listed.{line_runs_ok, entries_ok}
use Rattle.line_layout.proofs.Yes.{lines_listed}
use Rattle.label.specs.Table.{lengths_right}
use Rattle.delay_rows.specs.Door.{delay_numbers, delay_ranges, delay_order}
use Rattle.delay_lookup.proofs.Door.{delays_yes}
use Rattle.query_types.specs.declared.QueryCounts.{QueryCounts}
use Rattle.query_types.specs.declared.Lengths.{Lengths}
use Rattle.query_input.specs.Lent.{marks_at, event_count, built_size, origins_at, egress_at, query_size, line_runs, line_entries, stop_runs, departure_rows, delays_of, transfer_run_at, transfer_rows, Lent, tables_of, query_of}
use Rattle.departure_order.specs.Order.{not_earlier, part_order, departure_order}
use Rattle.query_door.specs.Door.{query_question1, read_ok, written_ok, query_question2, transfer_runs_ok, query_question3, column_at, column_below, line_numbers, query_numbers, query_question4, mark_ranges, transfer_ranges, query_ranges, walk_ranges, query_question5, column_rises, egress_order, query_question6, query_verdict}
use Rattle.query_types.specs.Layout.{work_size_of}
use Rattle.query_input.specs.Sane.{Limits, ReadSized, Lengthy, Placed, Numbered, Ranged, Ordered, Admitted}
use Rattle.query_input.proofs.Parts.{line_runs_size, entries_size, stop_runs_size, rows_size, delay_rows_size, stop_rows_size, marks_room, query_room}
use Rattle.model.specs.Door.{Door}
use Rattle.query_input.proofs.Laws.{door_of}

-- a column whose numbers are below the bound
pub column_yes : (l : List ℕ) (first stride count bound : ℕ) → column_below l first stride count bound ≡ true → (i : ℕ) → i < count → get_or l (first + i * stride) 0 < bound
unfolding column_below
column_yes l first stride count bound h i u = ltb-true _ bound (every_in_at (λ k. ltb (column_at l first stride k) bound) count i h u)

-- what holds from 1 on
from_one : (f : ℕ → Bool) (n i : ℕ) → every f 1 (n - 1) ≡ true → i + 1 < n → f (i + 1) ≡ true
from_one f n i h u = every_at f 1 (n - 1) (i + 1) h (omega arith) (omega arith)

-- 1
pub limits_yes : (n : QueryCounts) → query_question1 n ≡ true → Limits n
unfolding query_question1
limits_yes n h =
    let c1 = counts_ok n.timetable in
    let c2 = leb n.cells 512 && leb n.patterns 4096 in
    let d1 = leb n.lines 4096 && leb n.entries 4096 in
    let d2 = leb n.departures 65536 && leb n.transfers 65536 in
    let e1 = leb n.delays 4096 && leb n.stop_rows 4096 in
    let e2 = leb n.origins 64 && leb n.egress 64 in
    let a = two (c1 && c2) ((d1 && d2) && (e1 && e2)) h in
    let b = two c1 c2 a.one in
    let b2 = two (leb n.cells 512) (leb n.patterns 4096) b.two in
    let m = two (d1 && d2) (e1 && e2) a.two in
    let d = two d1 d2 m.one in
    let da = two (leb n.lines 4096) (leb n.entries 4096) d.one in
    let db = two (leb n.departures 65536) (leb n.transfers 65536) d.two in
    let e = two e1 e2 m.two in
    let ea = two (leb n.delays 4096) (leb n.stop_rows 4096) e.one in
    let eb = two (leb n.origins 64) (leb n.egress 64) e.two in
    record {
      counts = counts_yes n.timetable b.one;
      cells = leb-true _ _ b2.one;
      patterns = leb-true _ _ b2.two;
      lines = leb-true _ _ da.one;
      entries = leb-true _ _ da.two;
      departures = leb-true _ _ db.one;
      transfers = leb-true _ _ db.two;
      delays = leb-true _ _ ea.one;
      stop_rows = leb-true _ _ ea.two;
      origins = leb-true _ _ eb.one;
      egress = leb-true _ _ eb.two;
    }

-- 2
module _ (t : List ℕ) (n : QueryCounts) (built patterns distances q : ℕ) (l : Lengths) (h : query_question2 t n built patterns distances q l ≡ true) where
  slices : Two (slices_ok t n.timetable) (read_ok t n built patterns distances q && written_ok n l)
  unfolding query_question2
  slices = two (slices_ok t n.timetable) (read_ok t n built patterns distances q && written_ok n l) h

  areas : Two (read_ok t n built patterns distances q) (written_ok n l)
  areas = two (read_ok t n built patterns distances q) (written_ok n l) slices.two

  pub sized_yes : ReadSized t n built q
  unfolding read_ok
  sized_yes =
      let a = two (eqb built (built_size t n) && eqb patterns (n.patterns * 64)) (eqb distances (n.timetable.edges + n.origins) && eqb q (query_size n)) areas.one in
      let b = two (eqb built (built_size t n)) (eqb patterns (n.patterns * 64)) a.one in
      let d = two (eqb distances (n.timetable.edges + n.origins)) (eqb q (query_size n)) a.two in
      record { slices = slices_yes t n.timetable slices.one; built_is = eqb-true _ _ b.one; query_is = eqb-true _ _ d.two }

  pub lengthy_yes : Lengthy n patterns distances l
  unfolding read_ok written_ok
  lengthy_yes =
      let a = two (eqb built (built_size t n) && eqb patterns (n.patterns * 64)) (eqb distances (n.timetable.edges + n.origins) && eqb q (query_size n)) areas.one in
      let b = two (eqb built (built_size t n)) (eqb patterns (n.patterns * 64)) a.one in
      let d = two (eqb distances (n.timetable.edges + n.origins)) (eqb q (query_size n)) a.two in
      let r = lengths_right n.timetable.stops l.labels l.label_distances in
      let w = two (r && eqb l.work (work_size_of n)) (eqb l.queue_a l.queue_b && eqb l.candidates 39) areas.two in
      let x = two r (eqb l.work (work_size_of n)) w.one in
      let y = two (eqb l.labels (n.timetable.stops * 13 * 8)) (eqb l.label_distances (n.timetable.stops * 13)) x.one in
      let z = two (eqb l.queue_a l.queue_b) (eqb l.candidates 39) w.two in
      record {
        patterns_is = eqb-true _ _ b.two;
        distances_is = eqb-true _ _ d.one;
        labels = eqb-true _ _ y.one;
        label_distances = eqb-true _ _ y.two;
        work = eqb-true _ _ x.two;
        queue = eqb-true _ _ z.one;
        candidates = eqb-true _ _ z.two;
      }

-- 3
module _ (t built : List ℕ) (n : QueryCounts) (q rows : ℕ) (m : Limits n) (s : ReadSized t n (length built) q) (h : query_question3 t built n rows ≡ true) where
  record Runs : Type 0 where
    trips : runs_ok t n.timetable ≡ true
    lines : line_runs_ok (line_runs built n) n.lines n.entries ≡ true
    stops : stop_runs_ok (stop_runs built n) n.timetable n.departures ≡ true
    events : transfer_runs_ok built n (event_count t n) rows ≡ true

  runs : Runs
  unfolding query_question3
  runs =
      let a1 = runs_ok t n.timetable in
      let a2 = line_runs_ok (line_runs built n) n.lines n.entries in
      let b1 = stop_runs_ok (stop_runs built n) n.timetable n.departures in
      let b2 = transfer_runs_ok built n (event_count t n) rows in
      let x = two (a1 && a2) (b1 && b2) h in
      let a = two a1 a2 x.one in
      let b = two b1 b2 x.two in
      record { trips = a.one; lines = a.two; stops = b.one; events = b.two }

  pub lines_yes : line_runs_ok (line_runs built n) n.lines n.entries ≡ true
  lines_yes = runs.lines

  pub placed_yes : Placed t built n rows
  unfolding transfer_runs_ok run_in
  placed_yes =
      record {
        trips = runs_yes t n.timetable runs.trips;
        stops = runs_listed n.timetable (stop_runs built n) n.departures m.counts m.departures (stop_runs_size built n (marks_room s)) runs.stops;
        transfers = λ e u. leb-true _ rows (every_in_at (λ k. run_in rows (transfer_run_at built n k)) (event_count t n) e runs.events u);
      }

-- 4
module _ (t built q : List ℕ) (n : QueryCounts) (rows : ℕ) (s : ReadSized t n (length built) (length q)) (p : Placed t built n rows) (h : query_question4 t built q n ≡ true) where
  record Numbers : Type 0 where
    tables : numbers_ok t n.timetable ≡ true
    line : column_below built 0 1 n.timetable.trips n.lines ≡ true
    entries : entries_ok n.timetable (line_entries built n) n.entries ≡ true
    listed : listed_ok t n.timetable (stop_runs built n) (departure_rows built n) n.departures ≡ true
    origins : column_below q origins_at 2 n.origins n.timetable.stops ≡ true
    egress : column_below q (egress_at n) 2 n.egress n.timetable.stops ≡ true
    delays : delay_numbers n.timetable.trips (delays_of q n) ≡ true

  numbers : Numbers
  unfolding query_question4 line_numbers query_numbers
  numbers =
      let a1 = numbers_ok t n.timetable in
      let a2 = line_numbers built n in
      let b1 = listed_ok t n.timetable (stop_runs built n) (departure_rows built n) n.departures in
      let b2 = query_numbers q n in
      let b3 = delay_numbers n.timetable.trips (delays_of q n) in
      let x = two (a1 && a2) (b1 && (b2 && b3)) h in
      let a = two a1 a2 x.one in
      let l = two (column_below built 0 1 n.timetable.trips n.lines) (entries_ok n.timetable (line_entries built n) n.entries) a.two in
      let b = two b1 (b2 && b3) x.two in
      let d = two b2 b3 b.two in
      let e = two (column_below q origins_at 2 n.origins n.timetable.stops) (column_below q (egress_at n) 2 n.egress n.timetable.stops) d.one in
      record { tables = a.one; line = l.one; entries = l.two; listed = b.one; origins = e.one; egress = e.two; delays = d.two }

  pub entries_yes : entries_ok n.timetable (line_entries built n) n.entries ≡ true
  entries_yes = numbers.entries

  pub delay_numbers_yes : delay_numbers n.timetable.trips (delays_of q n) ≡ true
  delay_numbers_yes = numbers.delays

  pub numbered_yes : Numbered t built q n
  numbered_yes =
      record {
        numbers = numbers_yes t n.timetable numbers.tables;
        listed = rows_listed t n.timetable (stop_runs built n) (departure_rows built n) n.departures p.stops s.slices p.trips (rows_size built n (marks_room s)) numbers.listed;
        line = λ i u. let e : 0 + i * 1 ≡ i = omega arith in rw e at (column_yes built 0 1 n.timetable.trips n.lines numbers.line i u);
        origin = column_yes q origins_at 2 n.origins n.timetable.stops numbers.origins;
        egress = column_yes q (egress_at n) 2 n.egress n.timetable.stops numbers.egress;
      }

-- 5
module _ (t built transfers q : List ℕ) (n : QueryCounts) (rows : ℕ) (h : query_question5 t built transfers q n rows ≡ true) where
  record Ranges : Type 0 where
    tables : ranges_ok t n.timetable ≡ true
    marks : column_below built (marks_at n) 1 n.timetable.stops 2 ≡ true
    times : column_below transfers 2 4 rows (time_limit + 1) ≡ true
    start : leb (get_or q 0 0) time_limit ≡ true
    change : leb (get_or q 1 0) time_limit ≡ true
    modes : leb (get_or q 4 0) 127 ≡ true
    wheelchair : leb (get_or q 5 0) 1 ≡ true
    switch : leb (get_or q 6 0) 1 ≡ true
    origins : column_below q (origins_at + 1) 2 n.origins (time_limit + 1) ≡ true
    egress : column_below q (egress_at n + 1) 2 n.egress (time_limit + 1) ≡ true
    delays : delay_ranges (delays_of q n) ≡ true

  ranges : Ranges
  unfolding query_question5 mark_ranges transfer_ranges query_ranges walk_ranges
  ranges =
      let a1 = ranges_ok t n.timetable in
      let a2 = mark_ranges built n in
      let a3 = transfer_ranges transfers rows in
      let b1 = query_ranges q in
      let b2 = walk_ranges q n in
      let b3 = delay_ranges (delays_of q n) in
      let x = two (a1 && (a2 && a3)) (b1 && (b2 && b3)) h in
      let a = two a1 (a2 && a3) x.one in
      let m = two a2 a3 a.two in
      let b = two b1 (b2 && b3) x.two in
      let d = two b2 b3 b.two in
      let s5 = leb (get_or q 5 0) 1 && leb (get_or q 6 0) 1 in
      let s = two (leb (get_or q 0 0) time_limit && leb (get_or q 1 0) time_limit) (leb (get_or q 4 0) 127 && s5) b.one in
      let u = two (leb (get_or q 0 0) time_limit) (leb (get_or q 1 0) time_limit) s.one in
      let v = two (leb (get_or q 4 0) 127) s5 s.two in
      let w = two (leb (get_or q 5 0) 1) (leb (get_or q 6 0) 1) v.two in
      let e = two (column_below q (origins_at + 1) 2 n.origins (time_limit + 1)) (column_below q (egress_at n + 1) 2 n.egress (time_limit + 1)) d.one in
      record {
        tables = a.one;
        marks = m.one;
        times = m.two;
        start = u.one;
        change = u.two;
        modes = v.one;
        wheelchair = w.one;
        switch = w.two;
        origins = e.one;
        egress = e.two;
        delays = d.two;
      }

  pub delay_ranges_yes : delay_ranges (delays_of q n) ≡ true
  delay_ranges_yes = ranges.delays

  pub ranged_yes : Ranged t built transfers q n rows
  ranged_yes =
      record {
        ranges = ranges_yes t n.timetable ranges.tables;
        mark = λ i u. let e : marks_at n + i * 1 ≡ marks_at n + i = omega arith in let z = rw e at (column_yes built (marks_at n) 1 n.timetable.stops 2 ranges.marks i u) in omega arith;
        transfer = λ k u. let e : 2 + k * 4 ≡ k * 4 + 2 = omega arith in let z = rw e at (column_yes transfers 2 4 rows (time_limit + 1) ranges.times k u) in omega arith;
        start = leb-true _ _ ranges.start;
        change = leb-true _ _ ranges.change;
        modes = leb-true _ _ ranges.modes;
        wheelchair = leb-true _ _ ranges.wheelchair;
        switch = leb-true _ _ ranges.switch;
        origin = λ k u. let z = column_yes q (origins_at + 1) 2 n.origins (time_limit + 1) ranges.origins k u in omega arith;
        egress = λ k u. let z = column_yes q (egress_at n + 1) 2 n.egress (time_limit + 1) ranges.egress k u in omega arith;
      }

-- 6
module _ (t built q : List ℕ) (n : QueryCounts) (h : query_question6 t built q n ≡ true) where
  record Orders : Type 0 where
    edges : order_ok t n.timetable ≡ true
    departures : departure_order (timetable t n.timetable) (stop_runs built n) (departure_rows built n) n.timetable.stops ≡ true
    egress : egress_order q n ≡ true
    delays : delay_order (delays_of q n) ≡ true

  orders : Orders
  unfolding query_question6
  orders =
      let a1 = order_ok t n.timetable in
      let a2 = departure_order (timetable t n.timetable) (stop_runs built n) (departure_rows built n) n.timetable.stops in
      let b1 = egress_order q n in
      let b2 = delay_order (delays_of q n) in
      let x = two (a1 && a2) (b1 && b2) h in
      let a = two a1 a2 x.one in
      let b = two b1 b2 x.two in
      record { edges = a.one; departures = a.two; egress = b.one; delays = b.two }

  pub delay_order_yes : delay_order (delays_of q n) ≡ true
  delay_order_yes = orders.delays

  pub ordered_yes : Ordered t built q n
  unfolding departure_order part_order not_earlier column_rises
  ordered_yes =
      record {
        edges = order_yes t n.timetable orders.edges;
        departures = λ s k u v. leb-true (leaves s k) (leaves s (k + 1)) (ap (λ (i : ℕ). leb (leaves s i) (leaves s (k + 1))) (back k) ∙ from_one (not_earlier T (rows s)) (run_length (stop_runs built n) s) k (every_in_at (λ i. part_order T (rows i) (run_length (stop_runs built n) i)) n.timetable.stops s orders.departures u) v);
        egress = λ k u. ltb-true (stop k) (stop (k + 1)) (ap (λ (i : ℕ). ltb (stop i) (stop (k + 1))) (back k) ∙ from_one (λ i. ltb (stop (i - 1)) (stop i)) n.egress k orders.egress u);
      }
    where
      T : Timetable
      T = timetable t n.timetable

      rows : ℕ → List ℕ
      rows s = departures_of (stop_runs built n) (departure_rows built n) s

      leaves : ℕ → ℕ → ℕ
      leaves s k = row_departure T (row_at (rows s) k)

      stop : ℕ → ℕ
      stop k = column_at q (egress_at n) 2 k

      back : (k : ℕ) → k ≡ k + 1 - 1
      back k = omega arith

-- ALL OF THEM
pub admitted : (x : Lent) (l : Lengths) → query_verdict x l ≡ 0 → Admitted x l
unfolding query_verdict
admitted x l h =
    let n = x.n in
    let rows = transfer_rows n (length x.transfers) in
    let q1 = query_question1 n in
    let q2 = query_question2 x.t n (length x.built) (length x.patterns) (length x.distances) (length x.q) l in
    let q3 = query_question3 x.t x.built n rows in
    let q4 = query_question4 x.t x.built x.q n in
    let q5 = query_question5 x.t x.built x.transfers x.q n rows in
    let q6 = query_question6 x.t x.built x.q n in
    let l6 = ask 6 q6 0 in
    let l5 = ask 5 q5 l6 in
    let l4 = ask 4 q4 l5 in
    let l3 = ask 3 q3 l4 in
    let l2 = ask 2 q2 l3 in
    let q14 = settings_ok n.settings in
    let l14 = ask 14 q14 l2 in
    let h14 = ask_later 0 q1 l14 h in
    let h2 = ask_later 13 q14 l2 h14 in
    let h3 = ask_later 1 q2 l3 h2 in
    let h4 = ask_later 2 q3 l4 h3 in
    let h5 = ask_later 3 q4 l5 h4 in
    let h6 = ask_later 4 q5 l6 h5 in
    let y2 = ask_yes 1 q2 l3 h2 in
    let y3 = ask_yes 2 q3 l4 h3 in
    let y4 = ask_yes 3 q4 l5 h4 in
    let y5 = ask_yes 4 q5 l6 h5 in
    let y6 = ask_yes 5 q6 0 h6 in
    let m = limits_yes n (ask_yes 0 q1 l14 h) in
    let s = sized_yes x.t n (length x.built) (length x.patterns) (length x.distances) (length x.q) l y2 in
    let p = placed_yes x.t x.built n (length x.q) rows m s y3 in
    let dr = delay_rows_size x.q n (query_room s) in
    let sr = stop_rows_size x.q n (query_room s) in
    record {
      limits = m;
      settings = settings_yes n.settings (ask_yes 13 q14 l2 h14);
      sized = s;
      lengthy = lengthy_yes x.t n (length x.built) (length x.patterns) (length x.distances) (length x.q) l y2;
      placed = p;
      numbered = numbered_yes x.t x.built x.q n rows s p y4;
      ranged = ranged_yes x.t x.built x.transfers x.q n rows y5;
      ordered = ordered_yes x.t x.built x.q n y6;
      lines = lines_listed n.timetable n.lines n.entries (line_runs x.built n) (line_entries x.built n) m.lines m.entries (line_runs_size x.built n (marks_room s)) (entries_size x.built n (marks_room s)) (lines_yes x.t x.built n (length x.q) rows m s y3) (entries_yes x.t x.built x.q n rows s p y4);
      delays = delays_yes n.timetable.trips (delays_of x.q n) m.counts.trips (omega (arith, m.delays)) (omega (arith, m.stop_rows)) (delay_numbers_yes x.t x.built x.q n rows s p y4) (delay_ranges_yes x.t x.built x.transfers x.q n rows y5) (delay_order_yes x.t x.built x.q n y6);
    }

-- A VERDICT OF 0 GIVES THE MODEL'S DOOR
pub door : (x : Lent) (l : Lengths) → query_verdict x l ≡ 0 → Door (tables_of x) (query_of x)
door x l h = door_of x l (admitted x l h)
