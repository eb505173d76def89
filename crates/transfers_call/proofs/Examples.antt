-- Worked examples of the call, as one computed check: Timetable K of document 01 (row P of the transfers) and what may go
-- wrong beside it.
use Prim.Native.Nat.{ℕ}
use mathlib.Core.Path.{◌≡◌, refl}
use mathlib.Core.Bool.{Bool, true, false, ◌&&◌}
use mathlib.Core.List.{List, [], ◌∷◌, flatten}
use lib.Dec.{eqb}
use Rattle.loops.specs.Count.{tab_from}
use Rattle.loops.specs.Iter.{every}
use Rattle.sorts.specs.Sort.{insert_by, sort_by}
use Rattle.sorts.specs.Orders.{keep}
use Rattle.door.specs.Settings.{default_settings, settings_ok}
use Rattle.door.proofs.House.{four}
use Rattle.tables.specs.declared.Counts.{Counts}
use Rattle.tables.specs.Tables.{edge_of, time_of, trip_of, window_of}
use Rattle.tables.specs.Door.{counts_ok, edge_numbers, edge_ranges, edge_rises, numbers_ok, order_ok, ranges_ok, runs_ok, slices_ok, stop_time_numbers, stop_time_ranges, trip_ranges, trip_runs, window_ranges}
use Rattle.departures.specs.Listed.{at_stops_ok, listed_ok, row_at_stop, row_numbers, rows_ok, run_in, stop_rows_ok, stop_runs_ok}
use Rattle.event_transfers.specs.Transfers.{departures_of_line, events_before, events_of, first_not_before, runs_from, transfer_to, transfers_of, transfer_words}
use Rattle.transfers_call.specs.Call.{TransferLent, area_with, transfer_areas, transfer_lent, lines_ok, transfers_outcome, transfers_question1, transfers_question2, transfers_question3, transfers_question4, transfers_question5, transfers_question6, room_ok, transfers_settled, transfer_sizes_ok, transfers_verdict}

-- two lists of numbers are the same
same : List ℕ → List ℕ → Bool
same [] [] = true
same [] (y ∷ ys) = false
same (x ∷ xs) [] = false
same (x ∷ xs) (y ∷ ys) = eqb x y && same xs ys

-- what is handed in, and the answer and the slices that must come out
pub record Case : Type 0 where
  pub given : TransferLent
  pub area : List ℕ
  pub transfer_runs : List ℕ
  pub code : ℕ
  pub value : ℕ
  pub area_out : List ℕ
  pub runs_out : List ℕ

right : Case → Bool
right x =
    let o = transfers_outcome x.given (transfer_areas x.area x.transfer_runs) in
    (eqb o.answer.code x.code && eqb o.answer.value x.value) && (same o.areas.area x.area_out && same o.areas.transfer_runs x.runs_out)

pub all : List Case → Bool
all [] = true
all (x ∷ l) = right x && all l

-- Timetable K, T2's first departure and T0's drop-off at stop 1 as said. T0: 100/100, 200/210, 400/400 at stops 0, 1, 2;
-- T1: 160/160, 260/270, 460/460; T2, from stop 1: 320/320, 380/380. All trips active, not excluded, all other codes 0.
table_k : ℕ → ℕ → List ℕ
table_k second drop_off =
    0 ∷ 100 ∷ 100 ∷ 0 ∷ 0 ∷ 0 ∷ 1 ∷ 200 ∷ 210 ∷ 1 ∷ 0 ∷ drop_off ∷ 2 ∷ 400 ∷ 400 ∷ 2 ∷ 0 ∷ 0
    ∷ 0 ∷ 160 ∷ 160 ∷ 0 ∷ 0 ∷ 0 ∷ 1 ∷ 260 ∷ 270 ∷ 1 ∷ 0 ∷ 0 ∷ 2 ∷ 460 ∷ 460 ∷ 2 ∷ 0 ∷ 0
    ∷ 1 ∷ second ∷ second ∷ 0 ∷ 0 ∷ 0 ∷ 2 ∷ 380 ∷ 380 ∷ 1 ∷ 0 ∷ 0
    ∷ 0 ∷ 3 ∷ 0 ∷ 0 ∷ 0 ∷ 0 ∷ 1 ∷ 0 ∷ 3 ∷ 3 ∷ 0 ∷ 0 ∷ 0 ∷ 0 ∷ 1 ∷ 0 ∷ 6 ∷ 2 ∷ 0 ∷ 0 ∷ 0 ∷ 0 ∷ 1 ∷ 0
    ∷ 0 ∷ 0 ∷ 0 ∷ []

counts_k : Counts
counts_k = record { stops = 3; trips = 3; times = 8; windows = 0; edges = 0 }

-- lines 0, 0, 1; the departures of stop 0 (T1, T0), of stop 1 (T2, T1, T0), of stop 2 none
K : ℕ → ℕ → ℕ → TransferLent
K second drop_off time = transfer_lent (four time 64 3600 21600) (table_k second drop_off) counts_k 2 (0 ∷ 0 ∷ 1 ∷ []) 5 (0 ∷ 2 ∷ 2 ∷ 3 ∷ 5 ∷ 0 ∷ []) (1 ∷ 0 ∷ 0 ∷ 0 ∷ 2 ∷ 0 ∷ 1 ∷ 1 ∷ 0 ∷ 1 ∷ [])

-- sixteen words, all 9; and no transfer in eight events, the first transfer in the second event
nines : List ℕ
nines = 9 ∷ 9 ∷ 9 ∷ 9 ∷ 9 ∷ 9 ∷ 9 ∷ 9 ∷ 9 ∷ 9 ∷ 9 ∷ 9 ∷ 9 ∷ 9 ∷ 9 ∷ 9 ∷ []

no_runs : List ℕ
no_runs = 0 ∷ 0 ∷ 0 ∷ 0 ∷ 0 ∷ 0 ∷ 0 ∷ 0 ∷ 0 ∷ 0 ∷ 0 ∷ 0 ∷ 0 ∷ 0 ∷ 0 ∷ 0 ∷ []

one_run : List ℕ
one_run = 0 ∷ 0 ∷ 0 ∷ 1 ∷ 1 ∷ 0 ∷ 1 ∷ 0 ∷ 1 ∷ 0 ∷ 1 ∷ 0 ∷ 1 ∷ 0 ∷ 1 ∷ 0 ∷ []

-- Two stops, three trips of two stop times each. T0: 100/100, 110/230 at stops 0, 1; T1: 5/5, 20/240; T2: 0/0, 15/240.
-- Lines 1, 1, 0. At stop 1 T2, T1, T0 are listed, at stop 0 none. T0's first departure of its own line is its own: none to
-- line 1, and T2 of line 0. T1 and T2 find T2 of line 0 (itself: none for T2), then T0 of line 1.
table_l : List ℕ
table_l =
    0 ∷ 100 ∷ 100 ∷ 0 ∷ 0 ∷ 0 ∷ 1 ∷ 110 ∷ 230 ∷ 1 ∷ 0 ∷ 0
    ∷ 0 ∷ 5 ∷ 5 ∷ 0 ∷ 0 ∷ 0 ∷ 1 ∷ 20 ∷ 240 ∷ 1 ∷ 0 ∷ 0
    ∷ 0 ∷ 0 ∷ 0 ∷ 0 ∷ 0 ∷ 0 ∷ 1 ∷ 15 ∷ 240 ∷ 1 ∷ 0 ∷ 0
    ∷ 0 ∷ 2 ∷ 0 ∷ 0 ∷ 0 ∷ 0 ∷ 1 ∷ 0 ∷ 2 ∷ 2 ∷ 0 ∷ 0 ∷ 0 ∷ 0 ∷ 1 ∷ 0 ∷ 4 ∷ 2 ∷ 0 ∷ 0 ∷ 0 ∷ 0 ∷ 1 ∷ 0
    ∷ 0 ∷ 0 ∷ []

L : TransferLent
L = transfer_lent default_settings table_l (record { stops = 2; trips = 3; times = 6; windows = 0; edges = 0 }) 2 (1 ∷ 1 ∷ 0 ∷ []) 3 (0 ∷ 0 ∷ 0 ∷ 3 ∷ []) (2 ∷ 1 ∷ 1 ∷ 1 ∷ 0 ∷ 1 ∷ [])

-- the same with one line: T1 and T2 depart at 240, T2 listed first; from 231 on it is T2, also for T0 were it not T0's own
one_line : TransferLent
one_line = transfer_lent (four 121 64 3600 21600) table_l (record { stops = 2; trips = 3; times = 6; windows = 0; edges = 0 }) 1 (0 ∷ 0 ∷ 0 ∷ []) 3 (0 ∷ 0 ∷ 0 ∷ 3 ∷ []) (2 ∷ 1 ∷ 1 ∷ 1 ∷ 0 ∷ 1 ∷ [])

-- one trip from stop 0 to stop 1, and two walk edges, from stop 1 to 0, then from stop 0 to 1
table_w : List ℕ
table_w =
    0 ∷ 100 ∷ 100 ∷ 0 ∷ 0 ∷ 0 ∷ 1 ∷ 200 ∷ 200 ∷ 1 ∷ 0 ∷ 0
    ∷ 0 ∷ 2 ∷ 0 ∷ 0 ∷ 0 ∷ 0 ∷ 1 ∷ 0
    ∷ 1 ∷ 0 ∷ 60 ∷ 0 ∷ 0 ∷ 0 ∷ 1 ∷ 70 ∷ 0 ∷ 0
    ∷ 0 ∷ 0 ∷ []

walked : TransferLent
walked = transfer_lent default_settings table_w (record { stops = 2; trips = 1; times = 2; windows = 0; edges = 2 }) 1 (0 ∷ []) 1 (0 ∷ 1 ∷ 1 ∷ 0 ∷ []) (0 ∷ 0 ∷ [])

twelve : List ℕ
twelve = 9 ∷ 9 ∷ 9 ∷ 9 ∷ 9 ∷ 9 ∷ 9 ∷ 9 ∷ 9 ∷ 9 ∷ 9 ∷ 9 ∷ []

pub cases : List Case
cases =
    record { given = K 320 0 120; area = 9 ∷ 9 ∷ 9 ∷ 9 ∷ 9 ∷ []; transfer_runs = nines; code = 0; value = 1; area_out = 2 ∷ 0 ∷ 120 ∷ 0 ∷ 9 ∷ []; runs_out = one_run }
    ∷ record { given = K 319 0 120; area = 9 ∷ []; transfer_runs = nines; code = 0; value = 0; area_out = 9 ∷ []; runs_out = no_runs }
    ∷ record { given = K 320 1 120; area = 9 ∷ []; transfer_runs = nines; code = 0; value = 0; area_out = 9 ∷ []; runs_out = no_runs }
    ∷ record { given = K 320 2 120; area = 9 ∷ 9 ∷ 9 ∷ 9 ∷ []; transfer_runs = nines; code = 0; value = 1; area_out = 2 ∷ 0 ∷ 120 ∷ 0 ∷ []; runs_out = one_run }
    ∷ record { given = K 320 0 120; area = 9 ∷ 9 ∷ 9 ∷ []; transfer_runs = nines; code = 7; value = 0; area_out = 9 ∷ 9 ∷ 9 ∷ []; runs_out = nines }
    ∷ record { given = K 320 0 3601; area = 9 ∷ []; transfer_runs = nines; code = 14; value = 0; area_out = 9 ∷ []; runs_out = nines }
    -- 14 before 2; the transfer time is the setting: with 121 seconds T0 at stop 1 (arrives at 200) does not reach T2 (leaves at 320)
    ∷ record { given = K 320 0 3601; area = 9 ∷ []; transfer_runs = 9 ∷ []; code = 14; value = 0; area_out = 9 ∷ []; runs_out = 9 ∷ [] }
    ∷ record { given = K 320 0 121; area = 9 ∷ []; transfer_runs = nines; code = 0; value = 0; area_out = 9 ∷ []; runs_out = no_runs }
    ∷ record { given = K 321 0 121; area = 9 ∷ 9 ∷ 9 ∷ 9 ∷ []; transfer_runs = nines; code = 0; value = 1; area_out = 2 ∷ 0 ∷ 121 ∷ 0 ∷ []; runs_out = one_run }
    ∷ record { given = K 320 0 120; area = 9 ∷ []; transfer_runs = 9 ∷ []; code = 2; value = 0; area_out = 9 ∷ []; runs_out = 9 ∷ [] }
    ∷ record { given = walked; area = 9 ∷ []; transfer_runs = 9 ∷ 9 ∷ 9 ∷ 9 ∷ []; code = 6; value = 0; area_out = 9 ∷ []; runs_out = 9 ∷ 9 ∷ 9 ∷ 9 ∷ [] }
    ∷ record {
      given = L;
      area = nines;
      transfer_runs = twelve;
      code = 0;
      value = 4;
      area_out = 2 ∷ 1 ∷ 120 ∷ 0 ∷ 2 ∷ 1 ∷ 120 ∷ 0 ∷ 0 ∷ 1 ∷ 120 ∷ 0 ∷ 0 ∷ 1 ∷ 120 ∷ 0 ∷ [];
      runs_out = 0 ∷ 0 ∷ 0 ∷ 1 ∷ 1 ∷ 0 ∷ 1 ∷ 2 ∷ 3 ∷ 0 ∷ 3 ∷ 1 ∷ [];
    }
    ∷ record {
      given = one_line;
      area = nines;
      transfer_runs = twelve;
      code = 0;
      value = 3;
      area_out = 2 ∷ 1 ∷ 121 ∷ 0 ∷ 0 ∷ 1 ∷ 121 ∷ 0 ∷ 0 ∷ 1 ∷ 121 ∷ 0 ∷ 9 ∷ 9 ∷ 9 ∷ 9 ∷ [];
      runs_out = 0 ∷ 0 ∷ 0 ∷ 1 ∷ 1 ∷ 0 ∷ 1 ∷ 1 ∷ 2 ∷ 0 ∷ 2 ∷ 1 ∷ [];
    }
    ∷ []

pub cases_right : all cases ≡ true
unfolding settings_ok counts_ok slices_ok runs_ok numbers_ok ranges_ok order_ok edge_rises trip_runs stop_time_numbers edge_numbers stop_time_ranges trip_ranges window_ranges edge_ranges time_of trip_of window_of edge_of every tab_from insert_by sort_by keep flatten stop_runs_ok run_in listed_ok rows_ok row_numbers at_stops_ok stop_rows_ok row_at_stop departures_of_line first_not_before transfer_to transfers_of events_of events_before transfer_words runs_from transfer_sizes_ok lines_ok transfers_question1 transfers_question2 transfers_question3 transfers_question4 transfers_question5 transfers_question6 transfers_verdict room_ok area_with transfers_settled all cases right K counts_k table_k nines same one_run no_runs L table_l twelve one_line walked table_w
cases_right = refl
