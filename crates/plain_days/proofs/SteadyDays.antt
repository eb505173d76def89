-- Steady days that exist: K without transfers, with late and early trips and a skipped stop; and with times given at single stops too. And for
-- each condition of a steady day one that fails only its test, by one second, and on which the query does not give what demand 3 asks.
use Prim.Native.Nat.{ℕ, ◌+◌, ◌≤◌, ◌<◌}
use mathlib.Core.Path.{◌≡◌, refl, ap}
use mathlib.Core.Bool.{Bool, true, false}
use mathlib.Core.List.Memᴰ
use mathlib.Core.List.{List, [], ◌∷◌, flatten}
use native.Mathlib.Omega.{arith}
use lib.ListN.{get_or}
use borrow.Author.Tests.{leb-true}
use Rattle.loops.specs.Iter.{iter, every, first, some}
use Rattle.loops.specs.Count.{count, tab_from}
use Rattle.sorts.specs.Sort.{insert_by, sort_by}
use Rattle.sorts.specs.Orders.{keep}
use Rattle.walk_time.specs.Walk.{effective_duration, round_count}
use Rattle.line_numbers.specs.Lines.{line_of, same, lead_of, is_lead, line_trips}
use Rattle.line_layout.specs.Layout.{fifo_line, in_order, neighbours, last_in, position_in}
use Rattle.departures.specs.Departures.{frequency_listed}
use Rattle.delay_rows.specs.Delays.{DelayTables}
use Rattle.model.specs.Tables.{never, Tables, Query, change_before, is_egress, egress_walk, edges_from, fifo, mode_wanted, usable, permitted}
use Rattle.model.specs.Search.{targets_from, target_cells, holds_target, use_arc_flags, some_transfer, skips_edge, skips_transfer, flags_in_use, departures_at, mark_at, line_at, not_before, board_at, best_after, improve, relax, alightings, scan_trip_forward, dominated, pruned, passed_over, boarding, board, scan_departures, scan_stops, walk_from, walk_all, ride_phase, stamped, walk_phase, idle, rounds, set_out, access, best_target, row_target, candidates_from, final, search_answer, query}
use Rattle.model.specs.Door.{Door}
use Rattle.model.specs.Promise.{effective, SteadyDay, TripDelays, Journey, WholeJourney, Demand3}
use Rattle.model.proofs.TripDelays.{trip_delays_steady}
use Rattle.model.proofs.Demand3.{steady}
use Rattle.plain_days.specs.K.{timetable_k, uneven_k, bare_k, asks, delays_from, whole_delays, given_delays, on_day, origin, one_trip, four_stops, to_stop2}
use Rattle.plain_days.proofs.DayTests.{all_of, passed, all_in, any_in, sorted_test, rising_test, door_tests, calm_tests, wait_test, ride_test, steady_tests, trip_delay_tests, door_holds, no_times_fall, calm_bare, steady_holds, trip_delays_when}

-- THE STEADY DAYS: whole trips delayed, a stop skipped; times given as well
abbrev pub trip_day : Query
trip_day = on_day 90 120 whole_delays

abbrev pub given_day : Query
given_day = on_day 90 120 given_delays

-- WITHOUT ONE CONDITION, missed by one second, the search answers later than a trip arrives, or finds no way. (4294945695 and 4294967195 are the
-- bits of -21601 and -101.) Here the trip is 21,601 late; from 21,701 on the search looks back 21,600 seconds, and the trip is listed at 100
abbrev pub late_day : Query
late_day = to_stop2 21691 10 11 (delays_from ((0, 21601) ∷ []) [])

-- the trip, listed at 21,701, is 21,601 early; from a total of 101 on the search looks ahead 21,600 seconds
abbrev pub early_day : Query
early_day = to_stop2 90 10 11 (delays_from ((0, 4294945695) ∷ []) [])

-- the trip leaves stop 0 one second after it arrives at stops 1 and 2: too late to be boarded with a total of 101
abbrev pub ride_day : Query
ride_day = to_stop2 90 10 11 (delays_from ((0, 0) ∷ []) ((0, 0, 1, 1, 0) ∷ (0, 1, 3, 1, 0) ∷ (0, 2, 3, 1, 0) ∷ []))

-- it arrives at stop 1 one second after it does at stop 2: the search, with a total of 101, leaves it at stop 1
abbrev pub arrival_day : Query
arrival_day = to_stop2 90 10 11 (delays_from ((0, 0) ∷ []) ((0, 1, 2, 0, 1) ∷ []))

-- it leaves stop 0 one second after it does stop 2, where it is boarded first: for the ride to stop 1 it is passed over
abbrev pub departure_day : Query
departure_day =
    asks 90 (origin 2 10 ∷ origin 0 10 ∷ []) ((1, 0) ∷ []) false 120
    (delays_from ((0, 0) ∷ []) ((0, 0, 1, 1, 0) ∷ (0, 1, 3, 1, 1) ∷ (0, 2, 3, 0, 1) ∷ (0, 3, 3, 1, 1) ∷ [])) false

-- it leaves stop 0 one second late, and is on time at stop 2: one who boarded at stop 0 is taken to arrive one second late
abbrev pub shift_day : Query
shift_day = to_stop2 90 10 1000 (delays_from ((0, 0) ∷ []) ((0, 0, 1, 1, 0) ∷ []))

-- it is 101 early, but leaves stop 0 at 0, not one second before; one who boarded there is taken to arrive one second late
abbrev pub zero_day : Query
zero_day = to_stop2 0 0 1000 (delays_from ((0, 4294967195) ∷ []) [])

-- each passes the door's tests
abbrev pub doors_pass : List Bool
doors_pass =
    all_of (door_tests bare_k trip_day)
    ∷ all_of (door_tests bare_k given_day)
    ∷ all_of (door_tests (one_trip 100 100 100) ride_day)
    ∷ all_of (door_tests (one_trip 100 100 100) arrival_day)
    ∷ all_of (door_tests four_stops departure_day)
    ∷ all_of (door_tests (one_trip 100 100 100) late_day)
    ∷ all_of (door_tests (one_trip 21701 21701 21701) early_day)
    ∷ all_of (door_tests (one_trip 100 200 300) shift_day)
    ∷ all_of (door_tests (one_trip 100 200 300) zero_day) ∷ []

pub days_pass : all_of doors_pass ≡ true
unfolding all_of all_in any_in sorted_test rising_test effective_duration edges_from targets_from target_cells holds_target use_arc_flags some_transfer skips_edge skips_transfer flags_in_use frequency_listed same lead_of is_lead line_of line_trips iter every first some count tab_from insert_by sort_by keep flatten
days_pass = refl

-- and of a steady day's tests all, or all but one
pub record Tested : Type 0 where
  pub trip : steady_tests bare_k trip_day ≡ true ∷ true ∷ true ∷ true ∷ true ∷ true ∷ true ∷ []
  pub given : steady_tests bare_k given_day ≡ true ∷ true ∷ true ∷ true ∷ true ∷ true ∷ true ∷ []
  pub rides : steady_tests (one_trip 100 100 100) ride_day ≡ true ∷ false ∷ true ∷ true ∷ true ∷ true ∷ true ∷ []
  pub arrivals : steady_tests (one_trip 100 100 100) arrival_day ≡ true ∷ true ∷ false ∷ true ∷ true ∷ true ∷ true ∷ []
  pub departures : steady_tests four_stops departure_day ≡ true ∷ true ∷ true ∷ false ∷ true ∷ true ∷ true ∷ []
  pub not_late : steady_tests (one_trip 100 100 100) late_day ≡ true ∷ true ∷ true ∷ true ∷ false ∷ true ∷ true ∷ []
  pub not_early : steady_tests (one_trip 21701 21701 21701) early_day ≡ true ∷ true ∷ true ∷ true ∷ true ∷ false ∷ true ∷ []
  pub shift : steady_tests (one_trip 100 200 300) shift_day ≡ true ∷ true ∷ true ∷ true ∷ true ∷ true ∷ false ∷ []
  pub zero : steady_tests (one_trip 100 200 300) zero_day ≡ true ∷ true ∷ true ∷ true ∷ true ∷ true ∷ false ∷ []
  -- of those for delays of whole trips: all; all but one
  pub trip_delays : trip_delay_tests bare_k trip_day ≡ true ∷ true ∷ true ∷ []
  pub trip_given : trip_delay_tests (one_trip 100 200 300) shift_day ≡ false ∷ true ∷ true ∷ []
  pub trip_late : trip_delay_tests (one_trip 100 100 100) late_day ≡ true ∷ false ∷ true ∷ []
  pub trip_zero : trip_delay_tests (one_trip 100 200 300) zero_day ≡ true ∷ true ∷ false ∷ []
  pub calm : calm_tests bare_k trip_day ≡ true ∷ true ∷ true ∷ true ∷ []
  pub waits : wait_test bare_k ≡ true
  pub rode : ride_test bare_k ≡ true

pub tested : Tested
unfolding all_of all_in any_in sorted_test rising_test effective_duration edges_from targets_from target_cells holds_target use_arc_flags some_transfer skips_edge skips_transfer flags_in_use frequency_listed same lead_of is_lead line_of line_trips iter every first some count tab_from insert_by sort_by keep flatten
tested =
    record {
      trip = refl;
      given = refl;
      rides = refl;
      arrivals = refl;
      departures = refl;
      not_late = refl;
      not_early = refl;
      shift = refl;
      zero = refl;
      trip_delays = refl;
      trip_given = refl;
      trip_late = refl;
      trip_zero = refl;
      calm = refl;
      waits = refl;
      rode = refl;
    }

-- what the query answers on each
abbrev totals : List ℕ
totals =
    (query bare_k trip_day).total
    ∷ (query bare_k given_day).total
    ∷ (query (one_trip 100 100 100) ride_day).total
    ∷ (query (one_trip 100 100 100) arrival_day).total
    ∷ (query four_stops departure_day).total
    ∷ (query (one_trip 100 100 100) late_day).total
    ∷ (query (one_trip 21701 21701 21701) early_day).total
    ∷ (query (one_trip 100 200 300) shift_day).total
    ∷ (query (one_trip 100 200 300) zero_day).total ∷ []

pub answered : totals ≡ 435 ∷ 450 ∷ 101 ∷ 101 ∷ never ∷ 21702 ∷ 101 ∷ 301 ∷ 200 ∷ []
unfolding change_before is_egress egress_walk edges_from fifo mode_wanted usable permitted targets_from target_cells holds_target use_arc_flags some_transfer skips_edge skips_transfer flags_in_use departures_at mark_at line_at not_before board_at best_after improve relax alightings scan_trip_forward dominated pruned passed_over boarding board scan_departures scan_stops walk_from walk_all ride_phase stamped walk_phase idle rounds set_out access best_target row_target candidates_from final search_answer query frequency_listed in_order neighbours fifo_line last_in position_in same lead_of is_lead line_of line_trips effective_duration round_count iter every first some count tab_from insert_by sort_by keep flatten
answered = refl

-- DELAYS OF WHOLE TRIPS make K's day steady, and demand 3 holds on it, of the total 435
pub door_trip : Door bare_k trip_day
door_trip = door_holds bare_k trip_day (passed doors_pass days_pass 0)

pub trip_delays_k : TripDelays bare_k trip_day
unfolding all_of
trip_delays_k = trip_delays_when bare_k trip_day (ap all_of tested.trip_delays)

pub steady_trip : SteadyDay bare_k trip_day
unfolding all_of
steady_trip =
    trip_delays_steady bare_k trip_day door_trip trip_delays_k (calm_bare (timetable_k 460 320 0) uneven_k trip_day (ap all_of tested.calm))
    (no_times_fall bare_k tested.waits tested.rode)

pub promise_trip : Demand3 bare_k trip_day (effective bare_k trip_day) (query bare_k trip_day)
promise_trip = steady bare_k trip_day door_trip steady_trip

pub total_trip : (query bare_k trip_day).total ≡ 435
total_trip = ap (λ t. get_or t 0 0) answered

-- its best journey: T1, 10 seconds early, the change time at stop 1, T2, 50 seconds late
pub journey_trip : WholeJourney bare_k trip_day (effective bare_k trip_day) 435
unfolding permitted usable mode_wanted insert_by sort_by change_before round_count first
journey_trip =
    record {
      just_rode = true;
      ride_count = 2;
      stop = 2;
      reached = 430;
      journey =
          Journey.ride 2 0 1
          (Journey.ride 1 0 1 (Journey.access (origin 0 10) (Memᴰ.head refl))
          (record { trip = refl; listed = Memᴰ.tail (Memᴰ.head refl); pickup = refl; served = refl })
          (record { later = leb-true 1 1 refl; inside = leb-true 2 3 refl; drop_off = refl; served = refl }) (leb-true 100 150 refl))
          (record { trip = refl; listed = Memᴰ.tail (Memᴰ.head refl); pickup = refl; served = refl })
          (record { later = leb-true 1 1 refl; inside = leb-true 2 2 refl; drop_off = refl; served = refl }) (leb-true 370 370 refl);
      fits = leb-true 2 4 refl;
      walk = 5;
      egress = Memᴰ.head refl;
      sum = refl;
    }

-- TIMES GIVEN AT SINGLE STOPS: K's day is steady too, with the total 450
pub door_given : Door bare_k given_day
door_given = door_holds bare_k given_day (passed doors_pass days_pass 1)

pub steady_given : SteadyDay bare_k given_day
unfolding all_of
steady_given = steady_holds (timetable_k 460 320 0) uneven_k given_day door_given (ap all_of tested.given)

pub promise_given : Demand3 bare_k given_day (effective bare_k given_day) (query bare_k given_day)
promise_given = steady bare_k given_day door_given steady_given

pub total_given : (query bare_k given_day).total ≡ 450
total_given = ap (λ t. get_or t 1 0) answered

-- by its effective times the trip arrives at stop 2 before the query's answer
by_trip : (a b c start walk whole : ℕ) (D : DelayTables) → let T : Tables = one_trip a b c in let Q : Query = to_stop2 start walk whole D in
    (effective T Q).served 0 0 ≡ true → (effective T Q).served 0 2 ≡ true → start + walk + 0 ≤ (effective T Q).departs 0 0 → WholeJourney T Q (effective T Q) ((effective T Q).arrives 0 2 + 0)
unfolding permitted usable mode_wanted insert_by sort_by change_before round_count
by_trip a b c start walk whole D e f h =
    let T : Tables = one_trip a b c in
    let Q : Query = to_stop2 start walk whole D in
    record {
      just_rode = true;
      ride_count = 1;
      stop = 2;
      reached = (effective T Q).arrives 0 2;
      journey =
          Journey.ride 0 0 2 (Journey.access (origin 0 walk) (Memᴰ.head refl)) (record { trip = refl; listed = Memᴰ.head refl; pickup = refl; served = e })
          (record { later = leb-true 1 2 refl; inside = leb-true 3 3 refl; drop_off = refl; served = f }) h;
      fits = leb-true 1 4 refl;
      walk = 0;
      egress = Memᴰ.head refl;
      sum = refl;
    }

-- the door admits a day, and demand 3 does not hold on it
abbrev pub Breaks : Tables → Query → Type 0
Breaks T Q = Door T Q × (Demand3 T Q (effective T Q) (query T Q) → ⊥)

breaks : (T : Tables) (Q : Query) (total v : ℕ) → all_of (door_tests T Q) ≡ true → (query T Q).total ≡ total → v < total → WholeJourney T Q (effective T Q) v → Breaks T Q
breaks T Q total v e q l j = (door_holds T Q e, λ d. let h = d.lowest v j in omega (arith, h, q, l))

pub needs_rides : Breaks (one_trip 100 100 100) ride_day
unfolding first
needs_rides =
    breaks (one_trip 100 100 100) ride_day 101 100 (passed doors_pass days_pass 2) (ap (λ t. get_or t 2 0) answered) (leb-true 101 101 refl)
    (by_trip 100 100 100 90 10 11 ride_day.delays refl refl (leb-true 100 101 refl))

pub needs_arrivals : Breaks (one_trip 100 100 100) arrival_day
unfolding first
needs_arrivals =
    breaks (one_trip 100 100 100) arrival_day 101 100 (passed doors_pass days_pass 3) (ap (λ t. get_or t 3 0) answered) (leb-true 101 101 refl)
    (by_trip 100 100 100 90 10 11 arrival_day.delays refl refl (leb-true 100 100 refl))

pub needs_not_late : Breaks (one_trip 100 100 100) late_day
unfolding first
needs_not_late =
    breaks (one_trip 100 100 100) late_day 21702 21701 (passed doors_pass days_pass 5) (ap (λ t. get_or t 5 0) answered) (leb-true 21702 21702 refl)
    (by_trip 100 100 100 21691 10 11 late_day.delays refl refl (leb-true 21701 21701 refl))

pub needs_not_early : Breaks (one_trip 21701 21701 21701) early_day
unfolding first
needs_not_early =
    breaks (one_trip 21701 21701 21701) early_day 101 100 (passed doors_pass days_pass 6) (ap (λ t. get_or t 6 0) answered) (leb-true 101 101 refl)
    (by_trip 21701 21701 21701 90 10 11 early_day.delays refl refl (leb-true 100 100 refl))

pub needs_one_arrival : Breaks (one_trip 100 200 300) shift_day
unfolding first
needs_one_arrival =
    breaks (one_trip 100 200 300) shift_day 301 300 (passed doors_pass days_pass 7) (ap (λ t. get_or t 7 0) answered) (leb-true 301 301 refl)
    (by_trip 100 200 300 90 10 1000 shift_day.delays refl refl (leb-true 100 101 refl))

pub needs_after_zero : Breaks (one_trip 100 200 300) zero_day
unfolding first
needs_after_zero =
    breaks (one_trip 100 200 300) zero_day 200 199 (passed doors_pass days_pass 8) (ap (λ t. get_or t 8 0) answered) (leb-true 200 200 refl)
    (by_trip 100 200 300 0 0 1000 zero_day.delays refl refl (leb-true 0 0 refl))

-- the ride from stop 0 to stop 1
to_stop1 : WholeJourney four_stops departure_day (effective four_stops departure_day) 101
unfolding permitted usable mode_wanted insert_by sort_by change_before round_count first
to_stop1 =
    record {
      just_rode = true;
      ride_count = 1;
      stop = 1;
      reached = 101;
      journey =
          Journey.ride 0 0 1 (Journey.access (origin 0 10) (Memᴰ.tail (Memᴰ.head refl))) (record { trip = refl; listed = Memᴰ.head refl; pickup = refl; served = refl })
          (record { later = leb-true 1 1 refl; inside = leb-true 2 4 refl; drop_off = refl; served = refl }) (leb-true 100 101 refl);
      fits = leb-true 1 4 refl;
      walk = 0;
      egress = Memᴰ.head refl;
      sum = refl;
    }

pub needs_departures : Breaks four_stops departure_day
needs_departures = breaks four_stops departure_day never 101 (passed doors_pass days_pass 4) (ap (λ t. get_or t 4 0) answered) (leb-true 102 never refl) to_stop1
