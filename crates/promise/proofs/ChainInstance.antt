-- AN INSTANCE of the chain: Timetable K, built from departures that are not sorted, the lines on a day when T1 is not active and T2 is excluded, the
-- rest on a day when all run, each call under settings of its own, the transfer time alone the query's; then asked about with all trips running
-- (Instance `lent_k`). The three calls' outcomes are computed.
use Prim.Native.Nat.{ℕ, zero, suc}
use mathlib.Core.Path.{◌≡◌, refl}
use mathlib.Core.Bool.{true}
use mathlib.Core.Logic.{inr}
use mathlib.Core.List.{List, [], ◌∷◌, ◌++◌, flatten, flat_map}
use native.Mathlib.Omega.{arith}
use lib.ListN.{get_or, replicate}
use lib.Dec.{eqb}
use borrow.Author.Tests.{eqb-true}
use Rattle.loops.specs.Iter.{every, every_in, first, iter}
use Rattle.loops.specs.Count.{count, tab_from}
use Rattle.loops.proofs.Iter.{every_in_at}
use Rattle.sorts.specs.Sort.{insert_by, sort_by, within}
use Rattle.sorts.specs.Orders.{keep}
use Rattle.door.specs.Settings.{default_settings, settings_ok}
use Rattle.tables.specs.declared.Counts.{Counts}
use Rattle.tables.specs.Tables.{time_of, trip_of, window_of, edge_of}
use Rattle.tables.specs.Door.{counts_ok, slices_ok, trip_runs, stop_time_numbers, edge_numbers, stop_time_ranges, trip_ranges, window_ranges, edge_ranges, edge_rises, runs_ok, numbers_ok, ranges_ok, order_ok}
use Rattle.departures.specs.Departures.{flat, frequency_listed, sort_stop}
use Rattle.departures.specs.Listed.{run_in, stop_runs_ok, row_numbers, rows_ok, row_at_stop, stop_rows_ok, at_stops_ok, listed_ok}
use Rattle.line_numbers.specs.Lines.{same, lead_of, is_lead, line_of, line_trips, entries_of, line_count, line_first, runs_of}
use Rattle.lines_call.specs.Call.{line_areas, line_sizes_ok, lines_verdict, lines_made}
use Rattle.departures_call.specs.Call.{sort_areas, sort_sizes_ok, sort_verdict, sorted_rows}
use Rattle.event_transfers.specs.Transfers.{departures_of_line, events_before, events_of, first_not_before, runs_from, transfer_to, transfers_of, transfer_words}
use Rattle.transfers_call.specs.Call.{transfer_areas, area_with, lines_ok, transfers_question1, transfers_question2, transfers_question3, transfers_question4, transfers_question5, transfers_question6, room_ok, transfers_settled, transfer_sizes_ok, transfers_verdict}
use Rattle.query_door.specs.Door.{written_ok, column_below, query_numbers, query_ranges, walk_ranges, column_rises}
use Rattle.query_door.proofs.Examples.{t_k, built_k, transfers_k, q_k, query, time, trip, counts}
use Rattle.query_reply.specs.Outcome.{reply, query_lengths}
use Rattle.query_call.specs.Call.{query_outcome}
use Rattle.model.specs.Promise.{scheduled, effective}
use Rattle.plain_days.specs.K.{house}
use Rattle.promise.specs.Claims.{PromiseKept}
use Rattle.promise.specs.Chain.{SameRides, Chain, TransferChain, DoorElse, TransfersPass}
use Rattle.promise.specs.Demands.{lent_answer}
use Rattle.promise.proofs.Instance.{lent_k, tables_k, areas_k, plain_k, reply_k}
use Rattle.promise.proofs.SteadyInstance.{stop_time, t_d, built_d, q_d, counts_d, lent_d, tables_d, query_d, steady_d, reply_d}
use Rattle.promise.proofs.Passing.{no_transfers_pass}
use Rattle.promise.proofs.Chain.{the_demands}

-- the timetable when the lines were built: T1 not active, T2 excluded
unfoldable pub t_b : List ℕ
t_b =
    (time 0 100 100 ++ time 1 200 210 ++ time 2 400 400)
    ++ (time 0 160 160 ++ time 1 260 270 ++ time 2 460 460)
    ++ (time 1 320 320 ++ time 2 380 380)
    ++ (trip 0 3 ++ (3 ∷ 3 ∷ 0 ∷ 0 ∷ 0 ∷ 0 ∷ 0 ∷ 0 ∷ []) ++ (6 ∷ 2 ∷ 0 ∷ 0 ∷ 0 ∷ 0 ∷ 1 ∷ 1 ∷ []))
    ++ (0 ∷ 0 ∷ 0 ∷ [])

abbrev pub c_b : Counts
c_b = record { stops = 3; trips = 3; times = 8; windows = 0; edges = 0 }

times_test : every_in (λ i. every_in (λ k. eqb (time_of t_k i k) (time_of t_b i k)) 0 6) 0 8 ≡ true
unfolding t_b t_k time trip time_of every
times_test = refl

trips_test : every_in (λ i. every_in (λ k. eqb (trip_of t_k c_b i k) (trip_of t_b c_b i k)) 0 6) 0 3 ≡ true
unfolding t_b t_k time trip trip_of every
trips_test = refl

pub same_k : SameRides t_b c_b t_k c_b
same_k =
    record {
      stops = refl;
      trips = refl;
      times = refl;
      time = λ i k h u.
          eqb-true (time_of t_k i k) (time_of t_b i k)
          (every_in_at (λ k. eqb (time_of t_k i k) (time_of t_b i k)) 6 k (every_in_at (λ i. every_in (λ k. eqb (time_of t_k i k) (time_of t_b i k)) 0 6) 8 i times_test h) u);
      trip = λ i k h u.
          eqb-true (trip_of t_k c_b i k) (trip_of t_b c_b i k)
          (every_in_at (λ k. eqb (trip_of t_k c_b i k) (trip_of t_b c_b i k)) 6 k (every_in_at (λ i. every_in (λ k. eqb (trip_of t_k c_b i k) (trip_of t_b c_b i k)) 0 6) 3 i trips_test h) u);
    }

-- a slice says its own rides
pub own_rides : (t : List ℕ) (c : Counts) → SameRides t c t c
own_rides t c = record { stops = refl; trips = refl; times = refl; time = λ i k h u. refl; trip = λ i k h u. refl }

-- THE CALLS' OUTCOMES, one after the other, are what the query is lent
unfoldable pub chain_k : Chain lent_k
unfolding settings_ok counts t_b t_k built_k time trip time_of trip_of window_of edge_of every iter first count tab_from insert_by sort_by within keep flat_map counts_ok slices_ok trip_runs stop_time_numbers edge_numbers stop_time_ranges trip_ranges window_ranges edge_ranges edge_rises runs_ok numbers_ok ranges_ok order_ok flat frequency_listed sort_stop run_in stop_runs_ok row_numbers rows_ok row_at_stop stop_rows_ok at_stops_ok listed_ok same lead_of is_lead line_of line_trips entries_of line_count line_first runs_of line_sizes_ok lines_verdict lines_made sort_sizes_ok sort_verdict sorted_rows
chain_k =
    record {
      lines_on = record { settings = house 0 1 0 0; t = t_b; c = c_b; same = same_k };
      line_areas = line_areas (replicate 3 9) (replicate 6 9) (replicate 3 9) (replicate 3 9) (replicate 3 9);
      lines_answered = refl;
      entries_told = refl;
      sort_on = record { settings = house 3600 4096 21600 1048575; t = t_k; c = c_b; same = own_rides t_k c_b };
      stop_runs = 0 ∷ 2 ∷ 2 ∷ 3 ∷ 5 ∷ 0 ∷ [];
      sort_areas = sort_areas (1 ∷ 0 ∷ 0 ∷ 0 ∷ 2 ∷ 0 ∷ 1 ∷ 1 ∷ 0 ∷ 1 ∷ []) (replicate 3 9) (replicate 5 9) (replicate 5 9);
      sorting_answered = refl;
      rest = 0 ∷ 0 ∷ 0 ∷ 1 ∷ 1 ∷ 0 ∷ 1 ∷ 0 ∷ 1 ∷ 0 ∷ 1 ∷ 0 ∷ 1 ∷ 0 ∷ 1 ∷ 0 ∷ [];
      lent_built = refl;
    }

-- .. the transfers call read the departures as they came
pub transfers-k : TransferChain lent_k chain_k
unfolding settings_ok chain_k counts t_b t_k transfers_k time trip time_of trip_of window_of edge_of every iter first count tab_from insert_by sort_by within keep flat_map flatten counts_ok slices_ok trip_runs stop_time_numbers edge_numbers stop_time_ranges trip_ranges window_ranges edge_ranges edge_rises runs_ok numbers_ok ranges_ok order_ok flat frequency_listed sort_stop run_in stop_runs_ok row_numbers rows_ok row_at_stop stop_rows_ok at_stops_ok listed_ok same lead_of is_lead line_of line_trips entries_of line_count line_first runs_of line_sizes_ok lines_verdict lines_made sort_sizes_ok sort_verdict sorted_rows departures_of_line events_before events_of first_not_before runs_from transfer_to transfers_of transfer_words area_with lines_ok transfers_question1 transfers_question2 transfers_question3 transfers_question4 transfers_question5 transfers_question6 room_ok transfers_settled transfer_sizes_ok transfers_verdict
transfers-k =
    record {
      on = record { settings = house 120 1 0 0; t = t_b; c = c_b; same = same_k };
      same_time = refl;
      rows = 1 ∷ 0 ∷ 0 ∷ 0 ∷ 2 ∷ 0 ∷ 1 ∷ 1 ∷ 0 ∷ 1 ∷ [];
      rows_are = inr refl;
      areas = transfer_areas (replicate 4 9) (replicate 16 9);
      transfers_answered = refl;
      lent_runs = refl;
      lent_transfers = refl;
    }

-- what else the door asks
door_else_k : DoorElse lent_k (query_lengths areas_k)
unfolding settings_ok counts query q_k t_k time trip every time_of trip_of window_of edge_of counts_ok slices_ok trip_runs stop_time_numbers edge_numbers stop_time_ranges trip_ranges window_ranges edge_ranges edge_rises runs_ok numbers_ok ranges_ok order_ok written_ok column_below query_numbers query_ranges walk_ranges column_rises
door_else_k =
    record {
      counts = refl;
      cells = omega arith;
      patterns = omega arith;
      delays = omega arith;
      stop-rows = omega arith;
      origins = omega arith;
      egress = omega arith;
      settings = refl;
      slices = refl;
      pattern_bytes = refl;
      distances = refl;
      query-size = refl;
      written = refl;
      runs = refl;
      numbers = refl;
      query-numbers = refl;
      delay-numbers = refl;
      ranges = refl;
      query-ranges = refl;
      walks = refl;
      delay-ranges = refl;
      order = refl;
      egress-order = refl;
      delay-order = refl;
    }

-- SO THE QUERY ANSWERS, with 385 at stop 2 and two candidates, and its answer keeps demand 3
pub whole_k : PromiseKept lent_k areas_k (query_outcome lent_k) (lent_answer lent_k) (scheduled tables_k) × ((query_outcome lent_k areas_k).reply ≡ reply 0 385 2 2)
whole_k = (the_demands.demand3_chain lent_k areas_k chain_k transfers-k door_else_k plain_k.calm.conditions plain_k.conditions, reply_k)

-- A STEADY DAY (SteadyInstance `lent_d`: delays, times given at single stops, a skipped stop) after the lines call and the departure sorting call alone:
-- no transfers, and zeros for their runs
unfoldable pub chain_d : Chain lent_d
unfolding settings_ok counts_d t_d built_d stop_time trip time_of trip_of window_of edge_of every iter first count tab_from insert_by sort_by within keep flat_map counts_ok slices_ok trip_runs stop_time_numbers edge_numbers stop_time_ranges trip_ranges window_ranges edge_ranges edge_rises runs_ok numbers_ok ranges_ok order_ok flat frequency_listed sort_stop run_in stop_runs_ok row_numbers rows_ok row_at_stop stop_rows_ok at_stops_ok listed_ok same lead_of is_lead line_of line_trips entries_of line_count line_first runs_of line_sizes_ok lines_verdict lines_made sort_sizes_ok sort_verdict sorted_rows
chain_d =
    record {
      lines_on = record { settings = default_settings; t = t_d; c = c_b; same = own_rides t_d c_b };
      line_areas = line_areas (replicate 3 9) (replicate 6 9) (replicate 3 9) (replicate 3 9) (replicate 3 9);
      lines_answered = refl;
      entries_told = refl;
      sort_on = record { settings = default_settings; t = t_d; c = c_b; same = own_rides t_d c_b };
      stop_runs = 0 ∷ 2 ∷ 2 ∷ 2 ∷ 4 ∷ 0 ∷ [];
      sort_areas = sort_areas (1 ∷ 0 ∷ 0 ∷ 0 ∷ 2 ∷ 0 ∷ 1 ∷ 1 ∷ []) (replicate 3 9) (replicate 4 9) (replicate 4 9);
      sorting_answered = refl;
      rest = replicate 16 0;
      lent_built = refl;
    }

zeros : (n i : ℕ) → get_or {A = ℕ} (replicate n 0) i 0 ≡ 0
zeros zero i = refl
zeros (suc n) zero = refl
zeros (suc n) (suc i) = zeros n i

no_transfers_d : TransfersPass lent_d chain_d.rest
unfolding chain_d counts_d t_d stop_time trip time_of trip_of events_before
no_transfers_d = no_transfers_pass lent_d chain_d refl refl (λ i. zeros 16 i)

door_else_d : DoorElse lent_d (query_lengths areas_k)
unfolding settings_ok counts_d q_d t_d stop_time trip every time_of trip_of window_of edge_of counts_ok slices_ok trip_runs stop_time_numbers edge_numbers stop_time_ranges trip_ranges window_ranges edge_ranges edge_rises runs_ok numbers_ok ranges_ok order_ok written_ok column_below query_numbers query_ranges walk_ranges column_rises
door_else_d =
    record {
      counts = refl;
      cells = omega arith;
      patterns = omega arith;
      delays = omega arith;
      stop-rows = omega arith;
      origins = omega arith;
      egress = omega arith;
      settings = refl;
      slices = refl;
      pattern_bytes = refl;
      distances = refl;
      query-size = refl;
      written = refl;
      runs = refl;
      numbers = refl;
      query-numbers = refl;
      delay-numbers = refl;
      ranges = refl;
      query-ranges = refl;
      walks = refl;
      delay-ranges = refl;
      order = refl;
      egress-order = refl;
      delay-order = refl;
    }

-- SO THE QUERY ANSWERS, with 450 at stop 2 and two candidates, and its answer keeps demand 3 by effective times
pub whole_d : PromiseKept lent_d areas_k (query_outcome lent_d) (lent_answer lent_d) (effective tables_d query_d) × ((query_outcome lent_d areas_k).reply ≡ reply 0 450 2 2)
whole_d = (the_demands.steady_chain lent_d areas_k chain_d no_transfers_d door_else_d steady_d.calm.conditions steady_d.conditions, reply_d)
