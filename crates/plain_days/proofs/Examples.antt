-- Worked rows computed of the definitions, as one tabulated check: document 01's rows on Timetable K; K with a pattern, with a frequency
-- trip and with delays; queries without origin or egress; the day with walks; rows under other settings. Each row: what is computed, and the numbers it must give.
use Prim.Native.Nat.{ℕ, zero, suc}
use mathlib.Core.Path.{◌≡◌, refl}
use mathlib.Core.Bool.{true, false}
use mathlib.Core.List.{List, [], ◌∷◌, ◌++◌, map, flat_map, flatten}
use lib.ListN.{length, get_or}
use Rattle.loops.specs.Iter.{iter, every, some, first}
use Rattle.loops.specs.Count.{one, upto, count, tab_from}
use Rattle.sorts.specs.Sort.{insert_by, sort_by}
use Rattle.sorts.specs.Orders.{keep}
use Rattle.door.specs.Settings.{default_settings}
use Rattle.walk_time.specs.Walk.{effective_duration, round_count}
use Rattle.std.specs.Prelude.{Option, None, Some}
use Rattle.frequency.specs.declared.BoardedRun.{BoardedRun}
use Rattle.frequency.specs.Gtfs.{window_from, first_run, earliest_freq_board}
use Rattle.stop_delay.specs.Times.{effective_arrival}
use Rattle.label.specs.declared.Label.{Label}
use Rattle.label.specs.declared.Label.TheVariants.{Access, Transit, Walk}
use Rattle.label.specs.Label.{row_of, no_distance}
use Rattle.line_numbers.specs.Lines.{line_of, same, lead_of, is_lead, line_trips}
use Rattle.line_layout.specs.Layout.{fifo_line, in_order, neighbours, last_in, position_in}
use Rattle.departures.specs.Departures.{frequency_listed}
use Rattle.event_transfers.specs.Transfers.{Transfer, departures_of_line, first_not_before, transfer_to, transfers_of}
use Rattle.model.specs.Tables.{never, Tables, Query, change_before, is_egress, egress_walk, edges_from, fifo, mode_wanted, usable, permitted}
use Rattle.model.specs.Search.{SearchAnswer, targets_from, target_cells, holds_target, use_arc_flags, some_transfer, skips_edge, skips_transfer, flags_in_use, departures_at, mark_at, line_at, not_before, margin_of, board_at, best_after, improve, relax, resolve_in, line_trips_at, resolve, enqueue, take_transfers, alightings, transferring, scan_trip_forward, ride_segments, dominated, pruned, passed_over, boarding, board, scan_departures, scan_stops, walk_from, walk_all, ride_phase, stamped, walk_phase, idle, rounds, set_out, access, best_target, row_target, candidates_from, final, search_answer, put_off, run_tbr, query}
use Rattle.plain_days.specs.K.{built, runs, calls, leaves, window, foot_edge, timetable_k, listed_k, tables_k, every_cell, pattern_k, frequent_k, asks, under, house, query_k, no_delays, origin, delayed_k, delays_from, on_day, tables_w, query_w}

-- a total, its stop, and the candidates (total, stop, row) one after another
abbrev shown : SearchAnswer → List ℕ
shown a = a.total ∷ a.stop ∷ flat_map (λ c. c.0 ∷ c.1 ∷ c.2 ∷ []) a.candidates

-- the lines: how many, each trip's; of each line, how many trips, which, and its FIFO flag
abbrev lines_shown : Tables → List ℕ
lines_shown T =
    let members : ℕ → List ℕ = λ l. (T.line l).count ∷ map (T.line l).trip (upto (T.line l).count) ++ (one (fifo T l) ∷ []) in
    T.lines ∷ map T.line_of (upto 3) ++ flat_map members (upto T.lines)

-- of K's trips, stop time by stop time: how many transfers and, of each, trip, offset, time, pattern
abbrev transfers_shown : Tables → List ℕ
transfers_shown T =
    let event : List Transfer → List ℕ = λ l. length l ∷ flat_map (λ e. e.target ∷ e.offset ∷ e.time ∷ e.pattern ∷ []) l in
    flat_map (λ t. flat_map (λ o. event (T.transfers t o)) (upto (T.timetable.trip t).count)) (upto 3)

-- a boarding's departure and time shift; nothing for none
abbrev board_shown : Option BoardedRun → List ℕ
board_shown None = []
board_shown (Some b) = b.departure ∷ b.time_shift_s ∷ []

-- the labels that are filled, with their records' numbers
unfoldable pub filled_from : ℕ → List Label → List (ℕ × Label)
filled_from k [] = []
filled_from k (l ∷ ls) = elim (row_of l).kind [ zero ↦ filled_from (suc k) ls | suc n ↦ (k, l) ∷ filled_from (suc k) ls ]

abbrev filled : SearchAnswer → List (ℕ × Label)
filled a = filled_from 0 a.labels

abbrev no_origin : Query
no_origin = asks 90 [] ((2, 5) ∷ []) false 120 no_delays false

abbrev no_egress : Query
no_egress = asks 90 (origin 0 10 ∷ []) [] false 120 no_delays false

-- to the day with walks, without a wheelchair
abbrev on_foot : Query
on_foot = asks 90 (origin 0 10 ∷ []) ((3, 5) ∷ (4, 5) ∷ []) false 120 no_delays false

-- document 01's rows
abbrev paper_rows : List (List ℕ × List ℕ)
paper_rows =
    -- Q1 to Q4
    (shown (query tables_k (query_k 90 120)), (385 ∷ 2 ∷ 405 ∷ 2 ∷ 1 ∷ 385 ∷ 2 ∷ 2 ∷ []))
    ∷ (shown (query tables_k (query_k 90 121)), (405 ∷ 2 ∷ 405 ∷ 2 ∷ 1 ∷ []))
    ∷ (shown (query tables_k (query_k 91 120)), (465 ∷ 2 ∷ 465 ∷ 2 ∷ 1 ∷ []))
    ∷ (shown (query tables_k (query_k 150 120)), (465 ∷ 2 ∷ 465 ∷ 2 ∷ 1 ∷ []))
    ∷ (shown (query tables_k (query_k 151 120)), (never ∷ never ∷ []))
    -- lines and FIFO; T1 ending 399
    ∷ (lines_shown tables_k, (2 ∷ 0 ∷ 0 ∷ 1 ∷ 2 ∷ 0 ∷ 1 ∷ 1 ∷ 1 ∷ 2 ∷ 1 ∷ []))
    ∷ (lines_shown (built (timetable_k 399 320 0) listed_k default_settings.transfer_time []), (2 ∷ 0 ∷ 0 ∷ 1 ∷ 2 ∷ 0 ∷ 1 ∷ 0 ∷ 1 ∷ 2 ∷ 1 ∷ []))
    -- transfers; T2 at 319
    ∷ (transfers_shown tables_k, (0 ∷ 1 ∷ 2 ∷ 0 ∷ 120 ∷ 0 ∷ 0 ∷ 0 ∷ 0 ∷ 0 ∷ 0 ∷ 0 ∷ []))
    ∷ (transfers_shown (built (timetable_k 460 319 0) listed_k default_settings.transfer_time []), (0 ∷ 0 ∷ 0 ∷ 0 ∷ 0 ∷ 0 ∷ 0 ∷ 0 ∷ []))
    -- rounds
    ∷ ((round_count 0 0 ∷ round_count 0 3 ∷ round_count 20 0 ∷ []), (4 ∷ 5 ∷ 12 ∷ []))
    -- windows
    ∷ (board_shown (earliest_freq_board 1 (λ i. window_from 600 1200 300) 600 660 660), (660 ∷ 0 ∷ []))
    ∷ (board_shown (earliest_freq_board 1 (λ i. window_from 600 1200 300) 600 660 661), (960 ∷ 300 ∷ []))
    ∷ (board_shown (earliest_freq_board 1 (λ i. window_from 600 1200 300) 600 660 961), [])
    -- delay
    ∷ ((effective_arrival 200 50 (record { trip_delay = 10; flags = 1; departure_delay = 40; arrival_delay = 0 }) ∷ []), (210 ∷ []))
    -- stairs
    ∷ ((effective_duration 30 2 true ∷ effective_duration 30 3 true ∷ []), (3000 ∷ 30 ∷ []))
    ∷ []

-- beyond the paper
abbrev more_rows : List (List ℕ × List ℕ)
more_rows =
    -- the pattern's flags skip nothing: the query puts them off; the Rust rides transfers of the transfer time, whatever the change time
    (shown (query pattern_k (query_k 90 121)), (405 ∷ 2 ∷ 405 ∷ 2 ∷ 1 ∷ []))
    ∷ (shown (run_tbr pattern_k (query_k 90 121)), (385 ∷ 2 ∷ 405 ∷ 2 ∷ 1 ∷ 385 ∷ 2 ∷ 2 ∷ []))
    -- the change time is 60: the Rust misses the change to T2
    ∷ (shown (query pattern_k (query_k 91 60)), (385 ∷ 2 ∷ 465 ∷ 2 ∷ 1 ∷ 385 ∷ 2 ∷ 2 ∷ []))
    ∷ (shown (run_tbr pattern_k (query_k 91 60)), (465 ∷ 2 ∷ 465 ∷ 2 ∷ 1 ∷ []))
    -- the switch puts the flags off
    ∷ (shown (run_tbr pattern_k (asks 90 (origin 0 10 ∷ []) ((2, 5) ∷ []) false 121 no_delays true)), (405 ∷ 2 ∷ 405 ∷ 2 ∷ 1 ∷ []))
    -- segments queued at the end of each round, the last round first
    ∷ ((query pattern_k (query_k 90 121)).queued, (0 ∷ 0 ∷ []))
    ∷ ((run_tbr pattern_k (query_k 90 121)).queued, (0 ∷ 1 ∷ []))
    -- T0 leaves stop 0 at 600 and 900
    ∷ (shown (query frequent_k (query_k 590 120)), (905 ∷ 2 ∷ 905 ∷ 2 ∷ 1 ∷ []))
    ∷ (shown (query frequent_k (query_k 890 120)), (1205 ∷ 2 ∷ 1205 ∷ 2 ∷ 1 ∷ []))
    ∷ (shown (query frequent_k (query_k 891 120)), (never ∷ never ∷ []))
    -- T0 leaves stop 0 at 160, is at stop 1 at 180 and skips stop 2; T2 leaves stop 1 at 310
    ∷ (shown (query tables_k delayed_k), (375 ∷ 2 ∷ 465 ∷ 2 ∷ 1 ∷ 375 ∷ 2 ∷ 2 ∷ []))
    ∷ ((margin_of tables_k delayed_k ∷ []), (60 ∷ []))
    -- without an origin no round runs
    ∷ (shown (query tables_k no_origin), (never ∷ never ∷ []))
    ∷ ((query tables_k no_origin).queued, [])
    ∷ (shown (query tables_k no_egress), (never ∷ never ∷ []))
    -- the day with walks: the long walk to stop 4; T0, then the stairs; T0, the walk to stop 2 and T3. T1 is pruned, T2 not active,
    -- T4 gone. On foot without a wheelchair the stairs take 2 seconds.
    ∷ (shown (query tables_w query_w), (395 ∷ 3 ∷ 995 ∷ 4 ∷ 0 ∷ 405 ∷ 4 ∷ 1 ∷ 395 ∷ 3 ∷ 2 ∷ []))
    ∷ (shown (query tables_w on_foot), (207 ∷ 4 ∷ 207 ∷ 4 ∷ 1 ∷ []))
    ∷ []

-- T0 goes from stop 0 to stop 1; T1, not active, and T2 from there to stop 2. The transfer of T0 at stop 1 is to T1; T2 is the next of its line.
abbrev pattern_l : Tables
pattern_l =
    built (record {
      stops = 3;
      trips = 3;
      edges = 0;
      trip = λ t. get_or (runs 0 2 1 0 ∷ runs 2 2 0 0 ∷ runs 4 2 1 0 ∷ []) t (runs 0 0 0 0);
      time = λ i. get_or (calls 0 0 100 100 ∷ calls 1 1 200 200 ∷ calls 1 0 320 320 ∷ calls 2 1 380 380 ∷ calls 1 0 330 330 ∷ calls 2 1 400 400 ∷ []) i (calls 0 0 0 0);
      window = λ i. window 0 0 0;
      edge = λ e. foot_edge 0 0 0 0;
      cell = λ s. 0;
    })
    (λ s. get_or ((leaves 0 0 ∷ []) ∷ (leaves 1 0 ∷ leaves 2 0 ∷ []) ∷ []) s []) default_settings.transfer_time (every_cell ∷ [])

-- K on a day when T0 is 50 seconds late, asked at 140: stop 0 is reached at 150, when T0 leaves
abbrev late_k : Query
late_k = on_day 140 120 (delays_from ((0, 50) ∷ []) [])

-- K built with this transfer time, with a pattern
abbrev built_with : ℕ → Tables
built_with time = built (timetable_k 460 320 0) listed_k time (every_cell ∷ [])

-- UNDER OTHER SETTINGS
abbrev house_rows : List (List ℕ × List ℕ)
house_rows =
    -- transfer time: T0 at stop 1 (arrives at 200) reaches T2 (leaves at 320) with 120 seconds, not with 121; so `run_tbr` with flags
    (transfers_shown (built_with 120), (0 ∷ 1 ∷ 2 ∷ 0 ∷ 120 ∷ 0 ∷ 0 ∷ 0 ∷ 0 ∷ 0 ∷ 0 ∷ 0 ∷ []))
    ∷ (transfers_shown (built_with 121), (0 ∷ 0 ∷ 0 ∷ 0 ∷ 0 ∷ 0 ∷ 0 ∷ 0 ∷ []))
    ∷ (shown (run_tbr (built_with 120) (under (house 120 64 3600 21600) (query_k 90 121))), (385 ∷ 2 ∷ 405 ∷ 2 ∷ 1 ∷ 385 ∷ 2 ∷ 2 ∷ []))
    ∷ (shown (run_tbr (built_with 121) (under (house 121 64 3600 21600) (query_k 90 121))), (405 ∷ 2 ∷ 405 ∷ 2 ∷ 1 ∷ []))
    -- one trip of a line is tried, then two: T1 does not run
    ∷ (shown (run_tbr pattern_l (under (house 120 1 3600 21600) (query_k 90 0))), (never ∷ never ∷ []))
    ∷ (shown (run_tbr pattern_l (under (house 120 2 3600 21600) (query_k 90 0))), (405 ∷ 2 ∷ 405 ∷ 2 ∷ 2 ∷ []))
    -- the candidate at 405 is 20 seconds later than the best
    ∷ (shown (query tables_k (under (house 120 64 20 21600) (query_k 90 120))), (385 ∷ 2 ∷ 405 ∷ 2 ∷ 1 ∷ 385 ∷ 2 ∷ 2 ∷ []))
    ∷ (shown (query tables_k (under (house 120 64 19 21600) (query_k 90 120))), (385 ∷ 2 ∷ 385 ∷ 2 ∷ 2 ∷ []))
    ∷ (shown (query tables_k (under (house 120 64 0 21600) (query_k 90 120))), (385 ∷ 2 ∷ 385 ∷ 2 ∷ 2 ∷ []))
    -- T0 is listed at 100, 50 seconds before one may board: a margin of less does not see it
    ∷ (shown (query tables_k (under (house 120 64 3600 50) late_k)), (455 ∷ 2 ∷ 455 ∷ 2 ∷ 1 ∷ []))
    ∷ (shown (query tables_k (under (house 120 64 3600 49) late_k)), (465 ∷ 2 ∷ 465 ∷ 2 ∷ 1 ∷ []))
    ∷ (shown (query tables_k (under (house 120 64 3600 0) late_k)), (465 ∷ 2 ∷ 465 ∷ 2 ∷ 1 ∷ []))
    ∷ ((margin_of tables_k late_k ∷ margin_of tables_k (under (house 120 64 3600 49) late_k) ∷ []), (50 ∷ 49 ∷ []))
    ∷ []

-- the filled labels, in full; records 0 to 12 are stop 0's
abbrev label_rows : List (List (ℕ × Label) × List (ℕ × Label))
label_rows = (
  filled (query tables_k (query_k 90 120)),
  (0, Access 0 100 10 no_distance) ∷ (14, Transit 200 0 0 0 1 0 0) ∷ (27, Transit 400 0 0 0 2 0 0) ∷ (28, Transit 380 2 1 0 1 1 0) ∷ [],
)
    ∷ (
      filled (run_tbr pattern_k (query_k 90 121)),
      (0, Access 0 100 10 no_distance) ∷ (14, Transit 200 0 0 0 1 0 0) ∷ (27, Transit 400 0 0 0 2 0 0) ∷ (28, Transit 380 2 1 0 1 1 0) ∷ [],
    )
    ∷ (
      filled (query frequent_k (query_k 590 120)),
      (0, Access 0 600 10 no_distance) ∷ (14, Transit 700 0 0 0 1 0 500) ∷ (27, Transit 900 0 0 0 2 0 500) ∷ [],
    )
    -- 4294967286 is the bits of -10
    ∷ (
      filled (query tables_k delayed_k),
      (0, Access 0 100 10 no_distance) ∷ (14, Transit 180 0 0 0 1 0 60) ∷ (27, Transit 460 1 0 0 2 0 0) ∷ (28, Transit 370 2 1 0 1 1 4294967286) ∷ [],
    )
    ∷ (filled (query tables_k no_origin), [])
    -- the access walks; T0 to stop 1; the walk to stop 2 and the stairs to stop 4; T3 to stop 3
    ∷ (
      filled (query tables_w query_w),
      (0, Access 0 100 10 no_distance) ∷ (13, Access 1 790 700 no_distance) ∷ (14, Transit 200 0 0 0 1 0 0)
          ∷ (26, Access 2 850 760 no_distance) ∷ (27, Walk 260 1 2 60 no_distance 1) ∷ (41, Transit 390 3 2 0 1 1 0)
          ∷ (52, Access 4 990 900 no_distance) ∷ (53, Walk 400 1 4 200 no_distance 1) ∷ [],
    )
    ∷ []

-- the scans (round, trip, offset), the last first
abbrev scan_rows : List (List (ℕ × ℕ × ℕ) × List (ℕ × ℕ × ℕ))
scan_rows =
    ((query tables_k (query_k 90 120)).scans, (1, 2, 0) ∷ (0, 0, 0) ∷ [])
    ∷ ((run_tbr pattern_k (put_off (query_k 90 121))).scans, (0, 0, 0) ∷ [])
    ∷ ((query tables_w query_w).scans, (1, 3, 0) ∷ (0, 0, 0) ∷ [])
    ∷ []

-- what is computed, and what it must be
abbrev computed : {A : Type 0} → List (A × A) → List A
computed l = map (λ r. r.0) l

abbrev given : {A : Type 0} → List (A × A) → List A
given l = map (λ r. r.1) l

-- every row is computed to its numbers
pub record Worked : Type 0 where
  pub paper : computed paper_rows ≡ given paper_rows
  pub more : computed more_rows ≡ given more_rows
  pub settings : computed house_rows ≡ given house_rows
  pub labels : computed label_rows ≡ given label_rows
  pub scans : computed scan_rows ≡ given scan_rows

pub worked : Worked
unfolding change_before is_egress egress_walk edges_from fifo mode_wanted usable permitted targets_from target_cells holds_target use_arc_flags some_transfer skips_edge skips_transfer flags_in_use departures_at mark_at line_at not_before board_at best_after improve relax resolve_in line_trips_at resolve enqueue take_transfers alightings transferring scan_trip_forward ride_segments dominated pruned passed_over boarding board scan_departures scan_stops walk_from walk_all ride_phase stamped walk_phase idle rounds set_out access best_target row_target candidates_from final search_answer run_tbr query frequency_listed earliest_freq_board in_order neighbours fifo_line last_in position_in same lead_of is_lead line_of line_trips departures_of_line first_not_before transfer_to transfers_of effective_duration round_count first_run iter every first some count tab_from insert_by sort_by keep filled_from flatten flat_map
worked = record { paper = refl; more = refl; settings = refl; labels = refl; scans = refl }
