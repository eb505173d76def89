-- AN INSTANCE of a steady day, in one statement about what is lent: K's stops and trips, without transfers, T0 not listed at stop 1, on a day with
-- delay rows, times given at single stops, a skipped stop, and a trip that is not in the table and later than the cap (`plain_days` specs/K
-- `given_delays`). The door admits the slices, the day that they say is a steady one, and the call's whole outcome is the answer with the total 450
-- at stop 2.
use Prim.Native.Nat.{ℕ}
use mathlib.Core.Path.{◌≡◌, refl, ap}
use mathlib.Core.List.{List, [], ◌∷◌, ◌++◌, flatten}
use lib.ListN.{replicate}
use Rattle.door.specs.Settings.{default_settings, settings_ok}
use Rattle.label.specs.Label.{no_distance}
use Rattle.model.specs.Tables.{Tables, Query, change_before, is_egress, egress_walk, edges_from, fifo, mode_wanted, usable, permitted}
use Rattle.model.specs.Search.{targets_from, target_cells, holds_target, use_arc_flags, some_transfer, skips_edge, skips_transfer, flags_in_use, departures_at, mark_at, line_at, not_before, board_at, best_after, improve, relax, resolve_in, line_trips_at, resolve, enqueue, take_transfers, alightings, transferring, scan_trip_forward, ride_segments, dominated, pruned, passed_over, boarding, board, scan_departures, scan_stops, walk_from, walk_all, ride_phase, stamped, walk_phase, idle, rounds, set_out, access, best_target, row_target, candidates_from, final, search_answer, query as the_promise}
use Rattle.model.specs.Promise.{effective, SteadyDay}
use Rattle.plain_days.proofs.DayTests.{all_of, all_in, any_in, steady_when}
use Rattle.query_input.specs.Lent.{Lent, tables_of, query_of}
use Rattle.departure_order.specs.Order.{not_earlier, part_order, departure_order}
use Rattle.query_door.specs.Door.{query_question1, read_ok, written_ok, query_question2, transfer_runs_ok, query_question3, column_below, line_numbers, query_numbers, query_question4, mark_ranges, transfer_ranges, query_ranges, walk_ranges, query_question5, column_rises, query_question6, query_verdict}
use Rattle.tables.specs.Door.{counts_ok, slices_ok, trip_runs, stop_time_numbers, edge_numbers, stop_time_ranges, trip_ranges, window_ranges, edge_ranges, edge_rises, runs_ok, numbers_ok, ranges_ok, order_ok}
use Rattle.departures.specs.Listed.{run_in, stop_runs_ok, row_numbers, rows_ok, row_at_stop, stop_rows_ok, at_stops_ok, listed_ok}
use Rattle.line_layout.specs.Listed.{line_run_in, line_runs_ok, entries_ok}
use Rattle.query_door.proofs.Examples.{trip}
use Rattle.query_door.proofs.Yes.{door}
use Rattle.query_types.specs.declared.QueryCounts.{QueryCounts}
use Rattle.tables.specs.Tables.{time_of, trip_of, window_of, edge_of, cell_of}
use Rattle.event_transfers.specs.Transfers.{events_before}
use Rattle.line_numbers.specs.Lines.{same, lead_of, is_lead, line_of, line_trips}
use Rattle.departures.specs.Departures.{frequency_listed}
use Rattle.loops.specs.Iter.{iter, every, first, some}
use Rattle.loops.specs.Count.{count, tab_from}
use Rattle.sorts.specs.Sort.{insert_by, sort_by}
use Rattle.sorts.specs.Orders.{keep}
use Rattle.walk_time.specs.Walk.{effective_duration, round_count}
use Rattle.line_layout.specs.Layout.{fifo_line, in_order, neighbours, last_in, position_in}
use Rattle.query_reply.specs.Outcome.{query_lengths, QueryOutcome, reply}
use Rattle.query_call.specs.Call.{query_outcome}
use Rattle.promise.specs.Claims.{PromiseKept}
use Rattle.promise.specs.Demands.{lent_answer}
use Rattle.promise.proofs.Demands.{steady_query, kept}
use Rattle.promise.proofs.Instance.{areas_k, lines_three}

-- a stop time: stop, arrival, departure, sequence
unfoldable pub stop_time : ℕ → ℕ → ℕ → ℕ → List ℕ
stop_time stop arrival departure sequence = stop ∷ arrival ∷ departure ∷ sequence ∷ 0 ∷ 0 ∷ []

unfoldable pub t_d : List ℕ
t_d =
    (stop_time 0 100 100 0 ++ stop_time 1 200 210 1 ++ stop_time 2 400 400 2)
    ++ (stop_time 0 160 160 0 ++ stop_time 1 260 270 1 ++ stop_time 2 460 460 2)
    ++ (stop_time 1 320 320 0 ++ stop_time 2 380 380 1)
    ++ (trip 0 3 ++ trip 3 3 ++ trip 6 2)
    ++ (0 ∷ 0 ∷ 0 ∷ [])

-- lines {T0, T1} and {T2}; departures, sorted; no mark; every run of transfers is empty
unfoldable pub built_d : List ℕ
built_d =
    (0 ∷ 0 ∷ 1 ∷ [])
    ++ (0 ∷ 2 ∷ 2 ∷ 1 ∷ [])
    ++ (0 ∷ 1 ∷ 2 ∷ [])
    ++ (0 ∷ 2 ∷ 2 ∷ 2 ∷ 4 ∷ 0 ∷ [])
    ++ (0 ∷ 0 ∷ 1 ∷ 0 ∷ 1 ∷ 1 ∷ 2 ∷ 0 ∷ [])
    ++ (0 ∷ 0 ∷ 0 ∷ [])
    ++ replicate 16 0

-- start 90, change 120, origin 0 (10), egress 2 (5); four delay rows, eight stop rows. (4294967286, 4294967291 and 4294967276 are the bits of
-- -10, -5 and -20.)
unfoldable pub q_d : List ℕ
q_d =
    (90 ∷ 120 ∷ 0 ∷ 0 ∷ 0 ∷ 0 ∷ 0 ∷ []) ++ (0 ∷ 10 ∷ []) ++ (2 ∷ 5 ∷ [])
    ++ (0 ∷ 40 ∷ 1 ∷ 4294967286 ∷ 2 ∷ 50 ∷ 4294967295 ∷ 30000 ∷ [])
    ++ (0 ∷ 0 ∷ 1 ∷ 60 ∷ 0 ∷ 0 ∷ 1 ∷ 4 ∷ 0 ∷ 0 ∷ 0 ∷ 2 ∷ 2 ∷ 0 ∷ 80 ∷ [])
    ++ (1 ∷ 1 ∷ 3 ∷ 4294967291 ∷ 4294967276 ∷ 1 ∷ 2 ∷ 2 ∷ 0 ∷ 0 ∷ [])
    ++ (2 ∷ 0 ∷ 1 ∷ 45 ∷ 0 ∷ 2 ∷ 1 ∷ 2 ∷ 0 ∷ 65 ∷ 3 ∷ 1 ∷ 1 ∷ 30 ∷ 0 ∷ [])

unfoldable pub counts_d : QueryCounts
counts_d =
    record {
      settings = default_settings;
      timetable = record { stops = 3; trips = 3; times = 8; windows = 0; edges = 0 };
      cells = 0;
      patterns = 0;
      lines = 2;
      entries = 3;
      departures = 4;
      transfers = 0;
      delays = 4;
      stop_rows = 8;
      origins = 1;
      egress = 1;
    }

-- what is lent to be read, and the tables and the query that it says
abbrev pub lent_d : Lent
lent_d = record { n = counts_d; t = t_d; built = built_d; transfers = []; patterns = []; distances = no_distance ∷ []; q = q_d }

abbrev pub tables_d : Tables
tables_d = tables_of lent_d

abbrev pub query_d : Query
query_d = query_of lent_d

-- THE DOOR ADMITS THE SLICES, with areas as for K; no arc flags are in use, so the halves of the queue may be empty
pub door_d : query_verdict lent_d (query_lengths areas_k) ≡ 0
unfolding settings_ok counts_d q_d built_d t_d stop_time trip every time_of trip_of window_of edge_of counts_ok slices_ok trip_runs stop_time_numbers edge_numbers stop_time_ranges trip_ranges window_ranges edge_ranges edge_rises runs_ok numbers_ok ranges_ok order_ok run_in stop_runs_ok row_numbers rows_ok row_at_stop stop_rows_ok at_stops_ok listed_ok line_run_in line_runs_ok entries_ok events_before query_question1 read_ok written_ok query_question2 transfer_runs_ok query_question3 column_below line_numbers query_numbers query_question4 mark_ranges transfer_ranges query_ranges walk_ranges query_question5 not_earlier part_order departure_order column_rises query_question6 query_verdict
door_d = refl

-- THE DAY THAT THE SLICES SAY IS A STEADY ONE: lines, departures and marks as built, from the departures as they are listed
pub steady_d : SteadyDay tables_d query_d
unfolding q_d built_d t_d stop_time trip counts_d time_of trip_of window_of edge_of events_before all_of all_in any_in effective_duration edges_from targets_from target_cells holds_target use_arc_flags some_transfer skips_edge skips_transfer flags_in_use frequency_listed same lead_of is_lead line_of line_trips iter every first some count tab_from insert_by sort_by keep flatten cell_of
steady_d =
    steady_when tables_d query_d (door lent_d (query_lengths areas_k) door_d) tables_d.departures
    (lines_three tables_d refl refl refl refl refl refl (refl, refl, refl) (refl, refl, refl) (refl, refl, refl) (refl, refl) (refl, refl, refl))
    refl

-- THE CALL ANSWERS, and its answer keeps demand 3 by effective times
pub kept_d : PromiseKept lent_d areas_k (query_outcome lent_d) (lent_answer lent_d) (effective tables_d query_d)
kept_d = kept lent_d areas_k (query_outcome lent_d) (lent_answer lent_d) (effective tables_d query_d) (steady_query lent_d steady_d) door_d

-- with 450 at stop 2, and two candidates
pub reply_d : (query_outcome lent_d areas_k).reply ≡ reply 0 450 2 2
unfolding counts_d q_d built_d t_d stop_time trip time_of trip_of window_of edge_of cell_of events_before change_before is_egress egress_walk edges_from fifo mode_wanted usable permitted targets_from target_cells holds_target use_arc_flags some_transfer skips_edge skips_transfer flags_in_use departures_at mark_at line_at not_before board_at best_after improve relax resolve_in line_trips_at resolve enqueue take_transfers alightings transferring scan_trip_forward ride_segments dominated pruned passed_over boarding board scan_departures scan_stops walk_from walk_all ride_phase stamped walk_phase idle rounds set_out access best_target row_target candidates_from final search_answer the_promise in_order neighbours fifo_line last_in position_in effective_duration round_count iter every first some count tab_from insert_by sort_by keep flatten
reply_d = ap (λ (o : QueryOutcome). o.reply) kept_d.answer
