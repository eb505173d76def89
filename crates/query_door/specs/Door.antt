-- The questions at the door of `run_tbr` and `query` (document 01, "Questions at the door"), 1 to 6, and 14 (the settings) after 1.
-- Definitions only.
use Rattle.std.specs.Prelude.{ℕ, ◌+◌, ◌*◌, ◌-◌, Bool, ◌&&◌, List, length, get_or, ltb, leb, eqb}
use Rattle.loops.specs.Iter.{every_in}
use Rattle.door.specs.Door.{ask, time_limit}
use Rattle.door.specs.Settings.{settings_ok}
use Rattle.tables.specs.Timetable.{timetable}
use Rattle.tables.specs.Door.{counts_ok, slices_ok, runs_ok, numbers_ok, ranges_ok, order_ok}
use Rattle.departures.specs.Listed.{run_in, stop_runs_ok, listed_ok}
use Rattle.line_layout.specs.Listed.{line_runs_ok, entries_ok}
use Rattle.label.specs.Table.{lengths_right}
use Rattle.departure_order.specs.Order.{departure_order}
use Rattle.delay_rows.specs.Door.{delay_numbers, delay_ranges, delay_order}
use Rattle.query_types.specs.declared.QueryCounts.{QueryCounts}
use Rattle.query_types.specs.declared.Lengths.{Lengths}
use Rattle.query_input.specs.Lent.{marks_at, event_count, built_size, origins_at, egress_at, query_size, line_runs, line_entries, stop_runs, departure_rows}
use Rattle.query_input.specs.Lent.{delays_of, transfer_run_at, transfer_rows, Lent}
use Rattle.query_types.specs.Layout.{work_size_of}

-- 1: ARE ALL COUNTS WITHIN THE LIMITS?
unfoldable pub query_question1 : QueryCounts → Bool
query_question1 n =
    (counts_ok n.timetable && (leb n.cells 512 && leb n.patterns 4096))
    && (((leb n.lines 4096 && leb n.entries 4096) && (leb n.departures 65536 && leb n.transfers 65536))
    && ((leb n.delays 4096 && leb n.stop_rows 4096) && (leb n.origins 64 && leb n.egress 64)))

-- 2: IS EVERY LENT SLICE EXACTLY AS LONG AS ITS COUNTS SAY? (Transfer and queue areas may have any length, the two halves of the queue
-- the same.) First what is read: its lengths but for the timetable's and the transfer area's
unfoldable pub read_ok : (t : List ℕ) (n : QueryCounts) (built patterns distances q : ℕ) → Bool
read_ok t n built patterns distances q =
    (eqb built (built_size t n) && eqb patterns (n.patterns * 64)) && (eqb distances (n.timetable.edges + n.origins) && eqb q (query_size n))

-- what is written: 13 labels a stop, the workspace, both halves of the queue, 13 candidates of three numbers
unfoldable pub written_ok : QueryCounts → Lengths → Bool
written_ok n l =
    (lengths_right n.timetable.stops l.labels l.label_distances && eqb l.work (work_size_of n))
    && (eqb l.queue_a l.queue_b && eqb l.candidates 39)

unfoldable pub query_question2 : (t : List ℕ) (n : QueryCounts) (built patterns distances q : ℕ) (l : Lengths) → Bool
query_question2 t n built patterns distances q l = slices_ok t n.timetable && (read_ok t n built patterns distances q && written_ok n l)

-- 3: HAS EVERY TRIP A STOP TIME, AND DO ALL RUNS LIE IN THEIR TABLES? The transfer runs of the events, in so many rows:
unfoldable pub transfer_runs_ok : List ℕ → QueryCounts → ℕ → ℕ → Bool
transfer_runs_ok built n events rows = every_in (λ e. run_in rows (transfer_run_at built n e)) 0 events

unfoldable pub query_question3 : List ℕ → List ℕ → QueryCounts → ℕ → Bool
query_question3 t built n rows =
    (runs_ok t n.timetable && line_runs_ok (line_runs built n) n.lines n.entries)
    && (stop_runs_ok (stop_runs built n) n.timetable n.departures && transfer_runs_ok built n (event_count t n) rows)

-- a column of a table: its numbers are those that stand `stride` apart, from `first` on. Are count of them below the bound?
abbrev pub column_at : List ℕ → ℕ → ℕ → ℕ → ℕ
column_at l first stride i = get_or l (first + i * stride) 0

unfoldable pub column_below : (l : List ℕ) (first stride count bound : ℕ) → Bool
column_below l first stride count bound = every_in (λ i. ltb (column_at l first stride i) bound) 0 count

-- 4: IS EVERY STOP, TRIP, LINE AND DELAY-ROW NUMBER BELOW ITS COUNT, AND EACH DEPARTURE'S OFFSET BELOW ITS TRIP'S COUNT, WITH THAT STOP
-- TIME AT ITS STOP? Each trip's line, and the entries:
unfoldable pub line_numbers : List ℕ → QueryCounts → Bool
line_numbers built n = column_below built 0 1 n.timetable.trips n.lines && entries_ok n.timetable (line_entries built n) n.entries

-- the stops of origins and egress
unfoldable pub query_numbers : List ℕ → QueryCounts → Bool
query_numbers q n =
    column_below q origins_at 2 n.origins n.timetable.stops && column_below q (egress_at n) 2 n.egress n.timetable.stops

unfoldable pub query_question4 : List ℕ → List ℕ → List ℕ → QueryCounts → Bool
query_question4 t built q n =
    (numbers_ok t n.timetable && line_numbers built n)
    && (listed_ok t n.timetable (stop_runs built n) (departure_rows built n) n.departures
    && (query_numbers q n && delay_numbers n.timetable.trips (delays_of q n)))

-- 5: IS EVERY TIME AND CODE IN ITS RANGE? The marks, and the transfers' times:
unfoldable pub mark_ranges : List ℕ → QueryCounts → Bool
mark_ranges built n = column_below built (marks_at n) 1 n.timetable.stops 2

unfoldable pub transfer_ranges : List ℕ → ℕ → Bool
transfer_ranges transfers rows = column_below transfers 2 4 rows (time_limit + 1)

-- start and change time; modes, seven bits; wheelchair and switch, 0 or 1
unfoldable pub query_ranges : List ℕ → Bool
query_ranges q =
    (leb (get_or q 0 0) time_limit && leb (get_or q 1 0) time_limit) && (leb (get_or q 4 0) 127 && (leb (get_or q 5 0) 1 && leb (get_or q 6 0) 1))

-- the durations of origins and egress
unfoldable pub walk_ranges : List ℕ → QueryCounts → Bool
walk_ranges q n = column_below q (origins_at + 1) 2 n.origins (time_limit + 1) && column_below q (egress_at n + 1) 2 n.egress (time_limit + 1)

unfoldable pub query_question5 : List ℕ → List ℕ → List ℕ → List ℕ → QueryCounts → ℕ → Bool
query_question5 t built transfers q n rows =
    (ranges_ok t n.timetable && (mark_ranges built n && transfer_ranges transfers rows))
    && (query_ranges q && (walk_ranges q n && delay_ranges (delays_of q n)))

-- 6: ARE EDGES, DELAY ROWS, STOP ROWS, EGRESS STOPS (STRICTLY RISING) AND DEPARTURES IN ORDER? Each row against the one before it
-- (departures: `departure_order` specs/Order). In a column each number is above the one before it
unfoldable pub column_rises : List ℕ → ℕ → ℕ → ℕ → Bool
column_rises l first stride count = every_in (λ i. ltb (column_at l first stride (i - 1)) (column_at l first stride i)) 1 count

abbrev pub egress_order : List ℕ → QueryCounts → Bool
egress_order q n = column_rises q (egress_at n) 2 n.egress

unfoldable pub query_question6 : List ℕ → List ℕ → List ℕ → QueryCounts → Bool
query_question6 t built q n =
    (order_ok t n.timetable && departure_order (timetable t n.timetable) (stop_runs built n) (departure_rows built n) n.timetable.stops)
    && (egress_order q n && delay_order (delays_of q n))

-- THE VERDICT: the number of the first question that is answered no, or 0
unfoldable pub query_verdict : Lent → Lengths → ℕ
query_verdict x l =
    let rows = transfer_rows x.n (length x.transfers) in
    ask 1 (query_question1 x.n)
    (ask 14 (settings_ok x.n.settings)
    (ask 2 (query_question2 x.t x.n (length x.built) (length x.patterns) (length x.distances) (length x.q) l)
    (ask 3 (query_question3 x.t x.built x.n rows)
    (ask 4 (query_question4 x.t x.built x.q x.n)
    (ask 5 (query_question5 x.t x.built x.transfers x.q x.n rows)
    (ask 6 (query_question6 x.t x.built x.q x.n) 0))))))
