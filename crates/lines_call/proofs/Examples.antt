-- Worked examples of the call's outcome as one computed check. The first is document 01's: Timetable K has the lines {T0, T1}, {T2}.
use Prim.Native.Nat.{ℕ}
use mathlib.Core.Path.{◌≡◌, refl}
use mathlib.Core.Bool.{Bool, true, false, ◌&&◌}
use mathlib.Core.List.{List, [], ◌∷◌, ◌++◌, flat_map}
use lib.Dec.{eqb}
use Rattle.loops.specs.Iter.{every, first}
use Rattle.loops.specs.Count.{count, tab_from}
use Rattle.sorts.specs.Sort.{insert_by, sort_by}
use Rattle.sorts.specs.Orders.{keep}
use Rattle.door.specs.declared.Answer.{Answer}
use Rattle.door.specs.Door.{success, refusal as refused}
use Rattle.door.specs.Settings.{default_settings, settings_ok}
use Rattle.door.specs.declared.Settings.{Settings}
use Rattle.door.proofs.House.{no_trip_tried}
use Rattle.tables.specs.declared.Counts.{Counts}
use Rattle.tables.specs.Tables.{time_of, trip_of, window_of, edge_of}
use Rattle.tables.specs.Door.{counts_ok, slices_ok, trip_runs, stop_time_numbers, edge_numbers, stop_time_ranges, trip_ranges, window_ranges, edge_ranges, edge_rises, runs_ok, numbers_ok, ranges_ok, order_ok}
use Rattle.line_numbers.specs.Lines.{same, lead_of, is_lead, line_of, line_trips, entries_of, line_count, line_first, runs_of}
use Rattle.lines_call.specs.Call.{LineAreas, line_areas, line_sizes_ok, lines_verdict, lines_made, lines_outcome}

-- a stop time: stop, arrival, departure, sequence, pickup, drop-off
stop_time : ℕ → ℕ → ℕ → List ℕ
stop_time s a d = s ∷ a ∷ d ∷ 0 ∷ 0 ∷ 0 ∷ []

-- a trip: first stop time, count, mode, wheelchair, windows, active, not excluded
trip : ℕ → ℕ → ℕ → List ℕ
trip x n mode = x ∷ n ∷ mode ∷ 0 ∷ 0 ∷ 0 ∷ 1 ∷ 0 ∷ []

-- T0 and T2 of Timetable K, and T1 with its first departure d
t0 : List ℕ
t0 = stop_time 0 100 100 ++ stop_time 1 200 210 ++ stop_time 2 400 400

t1 : ℕ → List ℕ
t1 d = stop_time 0 d d ++ stop_time 1 260 270 ++ stop_time 2 460 460

t2 : ℕ → List ℕ
t2 s = stop_time 1 320 320 ++ stop_time s 380 380

-- the timetable: T1's first departure, T2's last stop and stop count, T0's mode; the cells of three stops
table : ℕ → ℕ → ℕ → ℕ → List ℕ
table d s n mode = t0 ++ t1 d ++ t2 s ++ trip 0 3 mode ++ trip 3 3 0 ++ trip 6 n 0 ++ (0 ∷ 0 ∷ 0 ∷ [])

-- T2 first
turned : List ℕ
turned = t0 ++ t1 160 ++ t2 2 ++ trip 6 2 0 ++ trip 0 3 0 ++ trip 3 3 0 ++ (0 ∷ 0 ∷ 0 ∷ [])

-- Timetable K with two walk edges, from stop 1 to 0, then from stop 0 to 1
walked : List ℕ
walked =
    t0 ++ t1 160 ++ t2 2 ++ trip 0 3 0 ++ trip 3 3 0 ++ trip 6 2 0
    ++ (1 ∷ 0 ∷ 60 ∷ 0 ∷ 0 ∷ 0 ∷ 1 ∷ 70 ∷ 0 ∷ 0 ∷ 0 ∷ 0 ∷ 0 ∷ [])

walked_counts : Counts
walked_counts = record { stops = 3; trips = 3; times = 8; windows = 0; edges = 2 }

counts : ℕ → Counts
counts trips = record { stops = 3; trips = trips; times = 8; windows = 0; edges = 0 }

none : Counts
none = record { stops = 0; trips = 0; times = 0; windows = 0; edges = 0 }

-- what is lent: nines; what is left after a success: the workspace zero
nines : List ℕ
nines = 9 ∷ 9 ∷ 9 ∷ []

lent : List ℕ → LineAreas
lent runs = line_areas nines runs nines nines nines

left : List ℕ → List ℕ → List ℕ → LineAreas
left lines runs entries = line_areas lines runs entries (0 ∷ 0 ∷ 0 ∷ []) (0 ∷ 0 ∷ 0 ∷ [])

pub record Case : Type 0 where
  pub settings : Settings
  pub table : List ℕ
  pub counts : Counts
  pub lent : LineAreas
  pub answer : Answer
  pub left : LineAreas

same_list : List ℕ → List ℕ → Bool
same_list [] [] = true
same_list [] (y ∷ ys) = false
same_list (x ∷ xs) [] = false
same_list (x ∷ xs) (y ∷ ys) = eqb x y && same_list xs ys

same_answer : Answer → Answer → Bool
same_answer a b = eqb a.code b.code && eqb a.value b.value

same_areas : LineAreas → LineAreas → Bool
same_areas a b =
    same_list a.lines b.lines && same_list a.runs b.runs && same_list a.entries b.entries && same_list a.work b.work && same_list a.other b.other

right : Case → Bool
right k =
    let o = lines_outcome k.settings k.table k.counts k.lent in
    same_answer o.answer k.answer && same_areas o.areas k.left

pub all : List Case → Bool
all [] = true
all (k ∷ ks) = right k && all ks

given : List ℕ → Counts → Answer → LineAreas → Case
given t c g s = record { settings = default_settings; table = t; counts = c; lent = lent (nines ++ nines); answer = g; left = s }

refusal : List ℕ → Counts → List ℕ → ℕ → Case
refusal t c runs n = record { settings = default_settings; table = t; counts = c; lent = lent runs; answer = refused n; left = lent runs }

two : List ℕ
two = 0 ∷ 2 ∷ 2 ∷ 1 ∷ 9 ∷ 9 ∷ []

pub cases : List Case
cases =
    -- Timetable K: the row past the two lines keeps its words
    given (table 160 2 2 0) (counts 3) (success 2) (left (0 ∷ 0 ∷ 1 ∷ []) two (0 ∷ 1 ∷ 2 ∷ []))
    -- T1 departs before T0; at the same time: the lower trip first
    ∷ given (table 99 2 2 0) (counts 3) (success 2) (left (0 ∷ 0 ∷ 1 ∷ []) two (1 ∷ 0 ∷ 2 ∷ []))
    ∷ given (table 100 2 2 0) (counts 3) (success 2) (left (0 ∷ 0 ∷ 1 ∷ []) two (0 ∷ 1 ∷ 2 ∷ []))
    -- T2 first: its line is 0
    ∷ given turned (counts 3) (success 2) (left (0 ∷ 1 ∷ 1 ∷ []) (0 ∷ 1 ∷ 1 ∷ 2 ∷ 9 ∷ 9 ∷ []) (0 ∷ 1 ∷ 2 ∷ []))
    -- nothing at all
    ∷ record { settings = default_settings; table = []; counts = none; lent = line_areas [] [] [] [] []; answer = success 0; left = line_areas [] [] [] [] [] }
    -- refused: too many trips; a table or the runs of a wrong length; a trip without stop times; a stop past the stops; a code; a time;
    -- walk edges out of order
    ∷ refusal (table 160 2 2 0) (counts 4097) (nines ++ nines) 1
    ∷ refusal (0 ∷ table 160 2 2 0) (counts 3) (nines ++ nines) 2
    ∷ refusal (table 160 2 2 0) (counts 3) (9 ∷ nines ++ nines) 2
    -- 14 before 2, after 1
    ∷ record { settings = no_trip_tried; table = []; counts = counts 3; lent = lent nines; answer = refused 14; left = lent nines }
    ∷ record { settings = no_trip_tried; table = []; counts = counts 4097; lent = lent nines; answer = refused 1; left = lent nines }
    ∷ refusal (table 160 2 0 0) (counts 3) (nines ++ nines) 3
    ∷ refusal (table 160 3 2 0) (counts 3) (nines ++ nines) 4
    ∷ refusal (table 160 2 2 7) (counts 3) (nines ++ nines) 5
    ∷ refusal (table 1048576 2 2 0) (counts 3) (nines ++ nines) 5
    ∷ refusal walked walked_counts (nines ++ nines) 6
    ∷ []

-- every case is right
pub worked : all cases ≡ true
unfolding settings_ok all right cases given refusal two left lent nines none counts turned walked walked_counts table t0 t1 t2 trip stop_time same_list same_answer same_areas every first count tab_from insert_by sort_by keep flat_map time_of trip_of window_of edge_of counts_ok slices_ok trip_runs stop_time_numbers edge_numbers stop_time_ranges trip_ranges window_ranges edge_ranges edge_rises runs_ok numbers_ok ranges_ok order_ok same lead_of is_lead line_of line_trips entries_of line_count line_first runs_of line_sizes_ok lines_verdict lines_made
worked = refl
