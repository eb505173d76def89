-- Timetable K of document 01 as lent slices, and damaged copies of it, through the verdict, as one computed check.
use Prim.Native.Nat.{ℕ}
use mathlib.Core.Path.{◌≡◌, refl}
use mathlib.Core.List.{List, [], ◌∷◌, ◌++◌}
use lib.ListN.{set}
use Rattle.loops.specs.Iter.{every}
use Rattle.label.specs.Label.{no_distance}
use Rattle.tables.specs.Tables.{time_of, trip_of, window_of, edge_of}
use Rattle.tables.specs.Door.{counts_ok, slices_ok, trip_runs, stop_time_numbers, edge_numbers, stop_time_ranges, trip_ranges, window_ranges, edge_ranges, edge_rises, runs_ok, numbers_ok, ranges_ok, order_ok}
use Rattle.departures.specs.Listed.{run_in, stop_runs_ok, row_numbers, rows_ok, row_at_stop, stop_rows_ok, at_stops_ok, listed_ok}
use Rattle.line_layout.specs.Listed.{line_run_in, line_runs_ok, entries_ok}
use Rattle.event_transfers.specs.Transfers.{events_before}
use Rattle.door.specs.Settings.{default_settings, settings_ok}
use Rattle.door.specs.declared.Settings.{Settings}
use Rattle.door.proofs.House.{no_trip_tried}
use Rattle.query_types.specs.declared.QueryCounts.{QueryCounts}
use Rattle.query_types.specs.declared.Lengths.{Lengths}
use Rattle.departure_order.specs.Order.{not_earlier, part_order, departure_order}
use Rattle.query_door.specs.Door.{query_question1, read_ok, written_ok, query_question2, transfer_runs_ok, query_question3, column_below, line_numbers, query_numbers, query_question4, mark_ranges, transfer_ranges, query_ranges, walk_ranges, query_question5, column_rises, query_question6, query_verdict}

-- a stop time: stop, arrival, departure; a trip: first stop time, count
unfoldable pub time : ℕ → ℕ → ℕ → List ℕ
time stop arrival departure = stop ∷ arrival ∷ departure ∷ 0 ∷ 0 ∷ 0 ∷ []

unfoldable pub trip : ℕ → ℕ → List ℕ
trip first count = first ∷ count ∷ 0 ∷ 0 ∷ 0 ∷ 0 ∷ 1 ∷ 0 ∷ []

unfoldable pub t_k : List ℕ
t_k =
    (time 0 100 100 ++ time 1 200 210 ++ time 2 400 400)
    ++ (time 0 160 160 ++ time 1 260 270 ++ time 2 460 460)
    ++ (time 1 320 320 ++ time 2 380 380)
    ++ (trip 0 3 ++ trip 3 3 ++ trip 6 2)
    ++ (0 ∷ 0 ∷ 0 ∷ [])

-- lines {T0, T1} and {T2}; departures, sorted; no mark; one transfer, from T0 at stop 1 to T2
unfoldable pub built_k : List ℕ
built_k =
    (0 ∷ 0 ∷ 1 ∷ [])
    ++ (0 ∷ 2 ∷ 2 ∷ 1 ∷ [])
    ++ (0 ∷ 1 ∷ 2 ∷ [])
    ++ (0 ∷ 2 ∷ 2 ∷ 3 ∷ 5 ∷ 0 ∷ [])
    ++ (0 ∷ 0 ∷ 1 ∷ 0 ∷ 0 ∷ 1 ∷ 1 ∷ 1 ∷ 2 ∷ 0 ∷ [])
    ++ (0 ∷ 0 ∷ 0 ∷ [])
    ++ (0 ∷ 0 ∷ 0 ∷ 1 ∷ 1 ∷ 0 ∷ 1 ∷ 0 ∷ 1 ∷ 0 ∷ 1 ∷ 0 ∷ 1 ∷ 0 ∷ 1 ∷ 0 ∷ [])

unfoldable pub transfers_k : List ℕ
transfers_k = 2 ∷ 0 ∷ 120 ∷ 0 ∷ []

-- Q1: start 90, change 120, origin 0 (10), these egress stops, these delay rows
unfoldable pub query : List ℕ → List ℕ → List ℕ
query egress delays = (90 ∷ 120 ∷ 0 ∷ 0 ∷ 0 ∷ 0 ∷ 0 ∷ []) ++ (0 ∷ 10 ∷ []) ++ egress ++ delays

unfoldable pub q_k : List ℕ
q_k = query (2 ∷ 5 ∷ []) []

-- settings, so many lines, egress stops, delay rows
abbrev counts_under : Settings → ℕ → ℕ → ℕ → QueryCounts
counts_under S lines egress delays =
    record {
      settings = S;
      timetable = record { stops = 3; trips = 3; times = 8; windows = 0; edges = 0 };
      cells = 0;
      patterns = 0;
      lines = lines;
      entries = 3;
      departures = 5;
      transfers = 1;
      delays = delays;
      stop_rows = 0;
      origins = 1;
      egress = egress;
    }

unfoldable pub counts : ℕ → ℕ → ℕ → QueryCounts
counts lines egress delays = counts_under default_settings lines egress delays

-- the lengths of what is written, with these halves of the queue
unfoldable pub lengths : ℕ → ℕ → Lengths
lengths a b = record { labels = 312; label_distances = 39; work = 173; queue_a = a; queue_b = b; candidates = 39 }

unfoldable pub asked : QueryCounts → List ℕ → List ℕ → List ℕ → List ℕ → Lengths → ℕ
asked n t built transfers q l =
    query_verdict (record { n = n; t = t; built = built; transfers = transfers; patterns = []; distances = no_distance ∷ []; q = q }) l

-- Q1 on K with one table changed
unfoldable pub with_t : List ℕ → ℕ
with_t t = asked (counts 2 1 0) t built_k transfers_k q_k (lengths 40 40)

unfoldable pub with_built : List ℕ → ℕ
with_built built = asked (counts 2 1 0) t_k built transfers_k q_k (lengths 40 40)

unfoldable pub with_query : List ℕ → ℕ
with_query q = asked (counts 2 1 0) t_k built_k transfers_k q (lengths 40 40)

unfoldable pub with_area : List ℕ → ℕ
with_area area = asked (counts 2 1 0) t_k built_k area q_k (lengths 40 40)

unfoldable pub verdicts : List ℕ
verdicts =
    -- as it is; the transfer area longer than its rows; two egress stops; an unknown trip twice
    with_t t_k
    ∷ with_area (transfers_k ++ (9 ∷ 9 ∷ []))
    ∷ asked (counts 2 2 0) t_k built_k transfers_k (query (1 ∷ 5 ∷ 2 ∷ 5 ∷ []) []) (lengths 40 40)
    ∷ asked (counts 2 1 2) t_k built_k transfers_k (query (2 ∷ 5 ∷ []) (4294967295 ∷ 0 ∷ 4294967295 ∷ 0 ∷ [])) (lengths 0 0)
    -- 14: a setting out of its range, before unequal halves and after too many lines
    ∷ asked (counts_under no_trip_tried 2 1 0) t_k built_k transfers_k q_k (lengths 40 44)
    ∷ asked (counts_under no_trip_tried 4097 1 0) t_k built_k transfers_k q_k (lengths 40 44)
    -- 1: too many lines. 2: unequal halves; a number too many; one too few
    ∷ asked (counts 4097 1 0) t_k built_k transfers_k q_k (lengths 40 40)
    ∷ asked (counts 2 1 0) t_k built_k transfers_k q_k (lengths 40 44)
    ∷ with_built (built_k ++ (0 ∷ []))
    ∷ with_query (90 ∷ 120 ∷ [])
    -- 3: a line's run, a stop's, an event's one row past its table; an area that holds no row
    ∷ with_built (set built_k 6 2)
    ∷ with_built (set built_k 15 1)
    ∷ with_built (set built_k 44 1)
    ∷ with_area (2 ∷ 0 ∷ 120 ∷ [])
    -- 4: a line, an entry, a departure's trip, its stop, an origin, an egress stop
    ∷ with_built (set built_k 2 2)
    ∷ with_built (set built_k 9 3)
    ∷ with_built (set built_k 24 3)
    ∷ with_built (set built_k 21 0)
    ∷ with_query (set q_k 7 3)
    ∷ with_query (set q_k 9 3)
    -- 5: a mark, a transfer's time, start, modes, wheelchair, switch, access walk, egress walk
    ∷ with_built (set built_k 28 2)
    ∷ with_area (2 ∷ 0 ∷ 1048576 ∷ 0 ∷ [])
    ∷ with_query (set q_k 0 1048576)
    ∷ with_query (set q_k 4 128)
    ∷ with_query (set q_k 5 2)
    ∷ with_query (set q_k 6 2)
    ∷ with_query (set q_k 8 1048576)
    ∷ with_query (set q_k 10 1048576)
    -- 6: departures out of order (T1 at stop 0 leaves at 99); an egress stop twice; a trip's delay twice
    ∷ with_t (set t_k 20 99)
    ∷ asked (counts 2 2 0) t_k built_k transfers_k (query (2 ∷ 5 ∷ 2 ∷ 5 ∷ []) []) (lengths 40 40)
    ∷ asked (counts 2 1 2) t_k built_k transfers_k (query (2 ∷ 5 ∷ []) (1 ∷ 0 ∷ 1 ∷ 0 ∷ [])) (lengths 40 40)
    ∷ []

pub door_k :
    verdicts
    ≡ 0 ∷ 0 ∷ 0 ∷ 0 ∷ 14 ∷ 1 ∷ 1 ∷ 2 ∷ 2 ∷ 2 ∷ 3 ∷ 3 ∷ 3 ∷ 3 ∷ 4 ∷ 4 ∷ 4 ∷ 4 ∷ 4 ∷ 4 ∷ 5 ∷ 5 ∷ 5 ∷ 5 ∷ 5 ∷ 5 ∷ 5 ∷ 5 ∷ 6 ∷ 6 ∷ 6 ∷ []
unfolding settings_ok verdicts with_t with_built with_query with_area asked counts lengths query q_k transfers_k built_k t_k time trip every time_of trip_of window_of edge_of counts_ok slices_ok trip_runs stop_time_numbers edge_numbers stop_time_ranges trip_ranges window_ranges edge_ranges edge_rises runs_ok numbers_ok ranges_ok order_ok run_in stop_runs_ok row_numbers rows_ok row_at_stop stop_rows_ok at_stops_ok listed_ok line_run_in line_runs_ok entries_ok events_before query_question1 read_ok written_ok query_question2 transfer_runs_ok query_question3 column_below line_numbers query_numbers query_question4 mark_ranges transfer_ranges query_ranges walk_ranges query_question5 not_earlier part_order departure_order column_rises query_question6 query_verdict
door_k = refl
