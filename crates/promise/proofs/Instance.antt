-- AN INSTANCE of demand 3's hypotheses, in one statement about what is lent: Timetable K of document 01 with Q1, as slices. The door admits
-- them, the day that they say is a plain one, and the call's whole outcome is the answer with the total 385 at stop 2.
use Prim.Native.Nat.{ℕ, zero, suc, ◌+◌, ◌<◌}
use mathlib.Core.Path.{◌≡◌, refl, ap}
use mathlib.Core.Bool.{Bool, true, false, ◌&&◌, not}
use mathlib.Core.List.{List, [], ◌∷◌, ◌++◌, flatten}
use native.Mathlib.Omega.{arith}
use lib.ListN.{length, get_or, replicate}
use Rattle.door.specs.Settings.{settings_ok}
use Rattle.cell_bitset.specs.CellSet.{holds_none}
use Rattle.label.specs.Label.{no_distance}
use Rattle.model.specs.Tables.{Tables, Query, stops, trips, stop_count, change_before, is_egress, egress_walk, edges_from, fifo, mode_wanted, usable, permitted}
use Rattle.model.specs.Search.{targets_from, target_cells, holds_target, use_arc_flags, some_transfer, skips_edge, skips_transfer, flags_in_use, departures_at, mark_at, line_at, not_before, board_at, best_after, improve, relax, resolve_in, line_trips_at, resolve, enqueue, take_transfers, alightings, transferring, scan_trip_forward, ride_segments, dominated, pruned, passed_over, boarding, board, scan_departures, scan_stops, walk_from, walk_all, ride_phase, stamped, walk_phase, idle, rounds, set_out, access, best_target, row_target, candidates_from, final, search_answer, query as the_promise}
use Rattle.model.specs.Promise.{transfer_input, scheduled, LinesBuilt, PlainDay}
use Rattle.plain_days.proofs.DayTests.{all_of, all_in, any_in, sorted_test, rising_test, has, plain_when}
use Rattle.query_input.specs.Lent.{Lent, tables_of, query_of, marks_at}
use Rattle.departure_order.specs.Order.{not_earlier, part_order, departure_order}
use Rattle.query_door.specs.Door.{query_question1, read_ok, written_ok, query_question2, transfer_runs_ok, query_question3, column_below, line_numbers, query_numbers, query_question4, mark_ranges, transfer_ranges, query_ranges, walk_ranges, query_question5, column_rises, query_question6, query_verdict}
use Rattle.tables.specs.Door.{counts_ok, slices_ok, trip_runs, stop_time_numbers, edge_numbers, stop_time_ranges, trip_ranges, window_ranges, edge_ranges, edge_rises, runs_ok, numbers_ok, ranges_ok, order_ok}
use Rattle.departures.specs.Listed.{run_in, stop_runs_ok, row_numbers, rows_ok, row_at_stop, stop_rows_ok, at_stops_ok, listed_ok}
use Rattle.line_layout.specs.Listed.{line_run_in, line_runs_ok, entries_ok}
use Rattle.query_door.proofs.Examples.{t_k, built_k, transfers_k, q_k, query, time, trip, counts}
use Rattle.tables.specs.Tables.{time_of, trip_of, window_of, edge_of, cell_of}
use Rattle.event_transfers.specs.Transfers.{Input, events_before, departures_of_line, first_not_before, transfer_to, transfers_of, built_transfers}
use Rattle.line_numbers.specs.Lines.{same, lead_of, is_lead, line_of, lines_of, line_trips}
use Rattle.departures.specs.Departures.{frequency_listed, by_departure, mark_of}
use Rattle.tables.specs.Timetable.{Timetable}
use Rattle.loops.specs.Iter.{iter, every, first, some}
use Rattle.loops.specs.Count.{count, tab_from}
use Rattle.sorts.specs.Sort.{insert_by, sort_by}
use Rattle.sorts.specs.Orders.{keep}
use Rattle.walk_time.specs.Walk.{effective_duration, round_count}
use Rattle.line_layout.specs.Layout.{fifo_line, in_order, neighbours, last_in, position_in}
use Rattle.query_reply.specs.Outcome.{QueryAreas, query_areas, query_lengths, QueryOutcome, reply}
use Rattle.query_call.specs.Call.{query_outcome}
use Rattle.promise.specs.Claims.{PromiseKept, lent_with, SameButTransfers}
use Rattle.promise.specs.Demands.{lent_answer}
use Rattle.promise.proofs.Demands.{demand3_query, kept}
use Rattle.promise.proofs.Unflagged.{other_transfers}

-- what is lent to be read, and the tables and the query that it says
abbrev pub lent_k : Lent
lent_k = record { n = counts 2 1 0; t = t_k; built = built_k; transfers = transfers_k; patterns = []; distances = no_distance ∷ []; q = q_k }

abbrev pub tables_k : Tables
tables_k = tables_of lent_k

abbrev pub query_k : Query
query_k = query_of lent_k

-- the stops, the trips and the lines are 0, 1, 2; 0, 1, 2; 0, 1
pub below_three : (P : ℕ → Type 0) → P 0 → P 1 → P 2 → (i : ℕ) → i < 3 → P i
below_three P a b c zero h = a
below_three P a b c (suc zero) h = b
below_three P a b c (suc (suc zero)) h = c
below_three P a b c (suc (suc (suc i))) h = absurd (omega arith)

pub below_two : (P : ℕ → Type 0) → P 0 → P 1 → (i : ℕ) → i < 2 → P i
below_two P a b zero h = a
below_two P a b (suc zero) h = b
below_two P a b (suc (suc i)) h = absurd (omega arith)

-- three stops, three trips in lines of two and one: tables that are as built, place by place, from the departures as they are listed
pub lines_three : (T : Tables) → let X = T.timetable in stops T ≡ 3 → trips T ≡ 3 → T.lines ≡ lines_of X → lines_of X ≡ 2 → (T.line 0).count ≡ 2 → (T.line 1).count ≡ 1
    → (T.departures 0 ≡ by_departure X (T.departures 0)) × (T.departures 1 ≡ by_departure X (T.departures 1)) × (T.departures 2 ≡ by_departure X (T.departures 2))
    → (T.mark 0 ≡ mark_of X (T.departures 0)) × (T.mark 1 ≡ mark_of X (T.departures 1)) × (T.mark 2 ≡ mark_of X (T.departures 2))
    → (T.line_of 0 ≡ line_of X 0) × (T.line_of 1 ≡ line_of X 1) × (T.line_of 2 ≡ line_of X 2)
    → ((T.line 0).count ≡ length (line_trips X 0)) × ((T.line 1).count ≡ length (line_trips X 1))
    → ((T.line 0).trip 0 ≡ get_or (line_trips X 0) 0 0) × ((T.line 0).trip 1 ≡ get_or (line_trips X 0) 1 0) × ((T.line 1).trip 0 ≡ get_or (line_trips X 1) 0 0)
    → LinesBuilt T T.departures
lines_three T s t l n c e departures marks line counts trips =
    record {
      departures_built = λ x h. below_three (λ (x : ℕ). T.departures x ≡ by_departure X (T.departures x)) departures.0 departures.1 departures.2 x (omega (arith, s, h));
      marks_built = λ x h. below_three (λ (x : ℕ). T.mark x ≡ mark_of X (T.departures x)) marks.0 marks.1 marks.2 x (omega (arith, s, h));
      lines_built = l;
      line_built = λ u h. below_three (λ (u : ℕ). T.line_of u ≡ line_of X u) line.0 line.1 line.2 u (omega (arith, t, h));
      lists_built = record {
        count = λ k h. below_two (λ (k : ℕ). (T.line k).count ≡ length (line_trips X k)) counts.0 counts.1 k (omega (arith, n, h));
        trip = λ k p h i. below_two (λ (k : ℕ). p < (T.line k).count → (T.line k).trip p ≡ get_or (line_trips X k) p 0)
            (λ i. below_two (λ (p : ℕ). (T.line 0).trip p ≡ get_or (line_trips X 0) p 0) trips.0 trips.1 p (omega (arith, c, i)))
            (λ i. only p (omega (arith, e, i)))
            k (omega (arith, n, h)) i;
      };
    }
  where
    X : Timetable
    X = T.timetable

    only : (p : ℕ) → p < 1 → (T.line 1).trip p ≡ get_or (line_trips X 1) p 0
    only zero h = trips.2
    only (suc p) h = absurd (omega arith)

-- what the transfers are made from
abbrev input_k : Input
input_k = transfer_input tables_k tables_k.departures query_k.settings.transfer_time

-- THE DAY THAT THE SLICES SAY IS A PLAIN ONE: tables as built
pub plain_k : PlainDay tables_k query_k
unfolding q_k query transfers_k built_k t_k time trip counts time_of trip_of window_of edge_of events_before all_of all_in any_in sorted_test rising_test has effective_duration edges_from targets_from target_cells holds_target use_arc_flags some_transfer skips_edge skips_transfer flags_in_use frequency_listed same lead_of is_lead line_of line_trips departures_of_line first_not_before transfer_to transfers_of iter every first some count tab_from insert_by sort_by keep flatten cell_of
plain_k =
    plain_when tables_k query_k tables_k.departures
    (lines_three tables_k refl refl refl refl refl refl (refl, refl, refl) (refl, refl, refl) (refl, refl, refl) (refl, refl) (refl, refl, refl))
    (record {
      transfers_built = λ t o h i. below_three (λ (t : ℕ). (o : ℕ) → o < stop_count tables_k t → tables_k.transfers t o ≡ built_transfers input_k t o)
          (below_three (λ (o : ℕ). tables_k.transfers 0 o ≡ built_transfers input_k 0 o) refl refl refl)
          (below_three (λ (o : ℕ). tables_k.transfers 1 o ≡ built_transfers input_k 1 o) refl refl refl)
          (below_two (λ (o : ℕ). tables_k.transfers 2 o ≡ built_transfers input_k 2 o) refl refl)
          t h o i;
    })
    refl

-- areas of the right lengths, of any content; no arc flags are in use, so the halves of the queue may be empty
abbrev pub areas_k : QueryAreas
areas_k = query_areas (replicate 312 7) (replicate 39 no_distance) (replicate 173 7) [] [] (replicate 39 7)

pub door-k : query_verdict lent_k (query_lengths areas_k) ≡ 0
unfolding settings_ok counts query q_k transfers_k built_k t_k time trip every time_of trip_of window_of edge_of counts_ok slices_ok trip_runs stop_time_numbers edge_numbers stop_time_ranges trip_ranges window_ranges edge_ranges edge_rises runs_ok numbers_ok ranges_ok order_ok run_in stop_runs_ok row_numbers rows_ok row_at_stop stop_rows_ok at_stops_ok listed_ok line_run_in line_runs_ok entries_ok events_before query_question1 read_ok written_ok query_question2 transfer_runs_ok query_question3 column_below line_numbers query_numbers query_question4 mark_ranges transfer_ranges query_ranges walk_ranges query_question5 not_earlier part_order departure_order column_rises query_question6 query_verdict
door-k = refl

-- THE CALL ANSWERS, and its answer keeps demand 3
pub kept_k : PromiseKept lent_k areas_k (query_outcome lent_k) (lent_answer lent_k) (scheduled tables_k)
kept_k = kept lent_k areas_k (query_outcome lent_k) (lent_answer lent_k) (scheduled tables_k) (demand3_query lent_k plain_k) door-k

-- with 385 at stop 2, and two candidates
pub reply_k : (query_outcome lent_k areas_k).reply ≡ reply 0 385 2 2
unfolding counts query q_k transfers_k built_k t_k time trip time_of trip_of window_of edge_of cell_of events_before change_before is_egress egress_walk edges_from fifo mode_wanted usable permitted targets_from target_cells holds_target use_arc_flags some_transfer skips_edge skips_transfer flags_in_use departures_at mark_at line_at not_before board_at best_after improve relax resolve_in line_trips_at resolve enqueue take_transfers alightings transferring scan_trip_forward ride_segments dominated pruned passed_over boarding board scan_departures scan_stops walk_from walk_all ride_phase stamped walk_phase idle rounds set_out access best_target row_target candidates_from final search_answer the_promise in_order neighbours fifo_line last_in position_in effective_duration round_count iter every first some count tab_from insert_by sort_by keep flatten
reply_k = ap (λ (o : QueryOutcome). o.reply) kept_k.answer

-- K BUILT WITH A TRANSFER TIME OF 121, where no transfer is made: zeros for the runs, no area
unfoldable pub built121 : List ℕ
built121 =
    (0 ∷ 0 ∷ 1 ∷ []) ++ (0 ∷ 2 ∷ 2 ∷ 1 ∷ []) ++ (0 ∷ 1 ∷ 2 ∷ []) ++ (0 ∷ 2 ∷ 2 ∷ 3 ∷ 5 ∷ 0 ∷ [])
    ++ (0 ∷ 0 ∷ 1 ∷ 0 ∷ 0 ∷ 1 ∷ 1 ∷ 1 ∷ 2 ∷ 0 ∷ []) ++ (0 ∷ 0 ∷ 0 ∷ []) ++ replicate 16 0

pub door_121 : query_verdict (lent_with lent_k 0 built121 []) (query_lengths areas_k) ≡ 0
unfolding settings_ok counts query q_k transfers_k built_k built121 t_k time trip every time_of trip_of window_of edge_of counts_ok slices_ok trip_runs stop_time_numbers edge_numbers stop_time_ranges trip_ranges window_ranges edge_ranges edge_rises runs_ok numbers_ok ranges_ok order_ok run_in stop_runs_ok row_numbers rows_ok row_at_stop stop_rows_ok at_stops_ok listed_ok line_run_in line_runs_ok entries_ok events_before query_question1 read_ok written_ok query_question2 transfer_runs_ok query_question3 column_below line_numbers query_numbers query_question4 mark_ranges transfer_ranges query_ranges walk_ranges query_question5 not_earlier part_order departure_order column_rises query_question6 query_verdict
door_121 = refl

apart_k : SameButTransfers lent_k built121
unfolding counts built_k built121
apart_k =
    record {
      line = below_three (λ (i : ℕ). get_or built121 i 0 ≡ get_or built_k i 0) refl refl refl;
      line-runs = refl;
      entries = refl;
      stop-runs = refl;
      departures = refl;
      mark = below_three (λ (i : ℕ). get_or built121 (marks_at lent_k.n + i) 0 ≡ get_or built_k (marks_at lent_k.n + i) 0) refl refl refl;
    }

off_k : use_arc_flags tables_k query_k ≡ false
unfolding counts q_k query use_arc_flags
off_k = no_patterns (not (holds_none (target_cells tables_k query_k)))
  where
    no_patterns : (b : Bool) → (b && false) && true ≡ false
    no_patterns true = refl
    no_patterns false = refl

-- asked with a transfer time of 120 it answers as K built with 120 does
pub unread_k : query_outcome (lent_with lent_k 0 built121 []) areas_k ≡ query_outcome lent_k areas_k
unread_k = (other_transfers lent_k off_k).outcome 0 built121 [] areas_k apart_k door-k door_121
