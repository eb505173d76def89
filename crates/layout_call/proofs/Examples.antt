-- Timetable K of document 01 and lines made by hand, through the call's outcome, as one computed check.
use Prim.Native.Nat.{ℕ}
use mathlib.Core.Path.{◌≡◌, refl}
use mathlib.Core.Bool.{Bool, true, false, ◌&&◌}
use mathlib.Core.List.{List, [], ◌∷◌, ◌++◌}
use lib.Dec.{eqb}
use Rattle.loops.specs.Iter.{every}
use Rattle.loops.specs.Count.{tab_from}
use Rattle.door.specs.Settings.{default_settings, settings_ok}
use Rattle.door.proofs.House.{no_trip_tried}
use Rattle.tables.specs.declared.Counts.{Counts}
use Rattle.tables.specs.Tables.{time_of, trip_of, window_of, edge_of}
use Rattle.tables.specs.Door.{counts_ok, slices_ok, trip_runs, stop_time_numbers, edge_numbers, stop_time_ranges, trip_ranges, window_ranges, edge_ranges, edge_rises, runs_ok, numbers_ok, ranges_ok, order_ok}
use Rattle.line_layout.specs.Layout.{in_order, neighbours, fifo_line, last_in, position_in, unlisted}
use Rattle.line_layout.specs.Listed.{line_run_in, line_runs_ok, entries_ok}
use Rattle.layout_call.specs.Call.{layout_areas, layout_sizes_ok, layout_verdict, layout_outcome, layout_outcome_of}

-- two lists of numbers are the same
unfoldable pub same : List ℕ → List ℕ → Bool
same [] [] = true
same [] (y ∷ ys) = false
same (x ∷ xs) [] = false
same (x ∷ xs) (y ∷ ys) = eqb x y && same xs ys

-- a stop time: stop, arrival, departure, pickup, drop-off; a trip: first stop time, count, windows. Other codes are 0, trips active.
unfoldable pub time : ℕ → ℕ → ℕ → ℕ → ℕ → List ℕ
time stop arrival departure pickup drop_off = stop ∷ arrival ∷ departure ∷ 0 ∷ pickup ∷ drop_off ∷ []

unfoldable pub trip : ℕ → ℕ → ℕ → List ℕ
trip first count windows = first ∷ count ∷ 0 ∷ 0 ∷ 0 ∷ windows ∷ 1 ∷ 0 ∷ []

-- T0, T1 with a first and a last stop time, T2 with how many windows; a window; the stops' cells
unfoldable pub table : List ℕ → List ℕ → ℕ → List ℕ
table first last windows =
    (time 0 100 100 0 0 ++ time 1 200 210 0 0 ++ time 2 400 400 0 0)
    ++ (first ++ time 1 260 270 0 0 ++ last)
    ++ (time 1 320 320 0 0 ++ time 2 380 380 0 0)
    ++ (trip 0 3 0 ++ trip 3 3 0 ++ trip 6 2 windows)
    ++ (600 ∷ 1200 ∷ 300 ∷ [])
    ++ (0 ∷ 0 ∷ 0 ∷ [])

unfoldable pub counts : Counts
counts = record { stops = 3; trips = 3; times = 8; windows = 1; edges = 0 }

-- one trip from stop 0 to stop 1, and two walk edges, from stop 1 to 0, then from stop 0 to 1
unfoldable pub walked : List ℕ
walked =
    time 0 100 100 0 0 ++ time 1 200 200 0 0 ++ trip 0 2 0
    ++ (1 ∷ 0 ∷ 60 ∷ 0 ∷ 0 ∷ 0 ∷ 1 ∷ 70 ∷ 0 ∷ 0 ∷ 0 ∷ 0 ∷ [])

unfoldable pub walked_counts : Counts
walked_counts = record { stops = 2; trips = 1; times = 2; windows = 0; edges = 2 }

unfoldable pub timetable_k : List ℕ
timetable_k = table (time 0 160 160 0 0) (time 2 460 460 0 0) 0

-- a case: timetable, how many lines and entries, runs, entries, positions and flags as they came; the answer, positions and flags at exit
pub record Case : Type 0 where
  pub t : List ℕ
  pub lines : ℕ
  pub listed : ℕ
  pub runs : List ℕ
  pub entries : List ℕ
  pub positions : List ℕ
  pub fifo : List ℕ
  pub answer : ℕ
  pub positions_after : List ℕ
  pub fifo_after : List ℕ

-- an answered case
unfoldable pub laid : List ℕ → ℕ → List ℕ → ℕ → List ℕ → List ℕ → List ℕ → Case
laid t lines runs listed entries positions fifo =
    record { t = t; lines = lines; listed = listed; runs = runs; entries = entries; positions = 9 ∷ 9 ∷ 9 ∷ []; fifo = tab_from (λ i. 7) 0 lines; answer = 0; positions_after = positions; fifo_after = fifo }

-- a refusal: both slices as they came
unfoldable pub refusal : List ℕ → ℕ → List ℕ → ℕ → List ℕ → List ℕ → List ℕ → ℕ → Case
refusal t lines runs listed entries positions fifo n =
    record { t = t; lines = lines; listed = listed; runs = runs; entries = entries; positions = positions; fifo = fifo; answer = n; positions_after = positions; fifo_after = fifo }

unfoldable pub right : Case → Bool
right c =
    let o = layout_outcome default_settings c.t counts c.lines c.listed c.runs c.entries (layout_areas c.positions c.fifo) in
    eqb o.answer c.answer && (same o.areas.positions c.positions_after && same o.areas.fifo c.fifo_after)

unfoldable pub all : List Case → Bool
all [] = true
all (c ∷ cs) = right c && all cs

-- the lines of K, {T0, T1} and {T2}, and lent slices of the right lengths
unfoldable pub runs_k : List ℕ
runs_k = 0 ∷ 2 ∷ 2 ∷ 1 ∷ []

unfoldable pub entries_k : List ℕ
entries_k = 0 ∷ 1 ∷ 2 ∷ []

unfoldable pub nines : List ℕ
nines = 9 ∷ 9 ∷ 9 ∷ []

unfoldable pub sevens : List ℕ
sevens = 7 ∷ 7 ∷ []

unfoldable pub cases : List Case
cases =
    -- K: both lines are FIFO; T1 ending 399/399 breaks the first
    laid timetable_k 2 runs_k 3 entries_k (0 ∷ 1 ∷ 0 ∷ []) (1 ∷ 1 ∷ [])
    ∷ laid (table (time 0 160 160 0 0) (time 2 399 399 0 0) 0) 2 runs_k 3 entries_k (0 ∷ 1 ∷ 0 ∷ []) (0 ∷ 1 ∷ [])
    -- arrival alone falls, departure alone falls, neither falls
    ∷ laid (table (time 0 160 160 0 0) (time 2 399 400 0 0) 0) 2 runs_k 3 entries_k (0 ∷ 1 ∷ 0 ∷ []) (0 ∷ 1 ∷ [])
    ∷ laid (table (time 0 160 160 0 0) (time 2 400 399 0 0) 0) 2 runs_k 3 entries_k (0 ∷ 1 ∷ 0 ∷ []) (0 ∷ 1 ∷ [])
    ∷ laid (table (time 0 100 100 0 0) (time 2 400 400 0 0) 0) 2 runs_k 3 entries_k (0 ∷ 1 ∷ 0 ∷ []) (1 ∷ 1 ∷ [])
    -- pickup, then drop-off, 0 against 2; another stop is not looked at
    ∷ laid (table (time 0 160 160 2 0) (time 2 460 460 0 0) 0) 2 runs_k 3 entries_k (0 ∷ 1 ∷ 0 ∷ []) (0 ∷ 1 ∷ [])
    ∷ laid (table (time 0 160 160 0 0) (time 2 460 460 0 2) 0) 2 runs_k 3 entries_k (0 ∷ 1 ∷ 0 ∷ []) (0 ∷ 1 ∷ [])
    ∷ laid (table (time 2 160 160 0 0) (time 2 460 460 0 0) 0) 2 runs_k 3 entries_k (0 ∷ 1 ∷ 0 ∷ []) (1 ∷ 1 ∷ [])
    -- one trip with windows; a line without trips, before and after the others
    ∷ laid (table (time 0 160 160 0 0) (time 2 460 460 0 0) 1) 2 runs_k 3 entries_k (0 ∷ 1 ∷ 0 ∷ []) (1 ∷ 0 ∷ [])
    ∷ laid timetable_k 3 (3 ∷ 0 ∷ 0 ∷ 2 ∷ 2 ∷ 1 ∷ []) 3 entries_k (0 ∷ 1 ∷ 0 ∷ []) (1 ∷ 1 ∷ 1 ∷ [])
    ∷ laid timetable_k 1 (0 ∷ 0 ∷ []) 0 [] (unlisted ∷ unlisted ∷ unlisted ∷ []) (1 ∷ [])
    -- different stop counts, and T1 in no list; T1 before T0
    ∷ laid timetable_k 1 (0 ∷ 2 ∷ []) 2 (0 ∷ 2 ∷ []) (0 ∷ unlisted ∷ 1 ∷ []) (0 ∷ [])
    ∷ laid timetable_k 1 (0 ∷ 2 ∷ []) 2 (1 ∷ 0 ∷ []) (1 ∷ 0 ∷ unlisted ∷ []) (0 ∷ [])
    -- listed twice: the last place of the last line holds; T2 beside itself, without and with windows
    ∷ laid timetable_k 1 (0 ∷ 3 ∷ []) 3 (0 ∷ 1 ∷ 0 ∷ []) (2 ∷ 1 ∷ unlisted ∷ []) (0 ∷ [])
    ∷ laid timetable_k 2 runs_k 3 (0 ∷ 1 ∷ 1 ∷ []) (0 ∷ 0 ∷ unlisted ∷ []) (1 ∷ 1 ∷ [])
    ∷ laid timetable_k 2 (1 ∷ 2 ∷ 0 ∷ 2 ∷ []) 3 (2 ∷ 2 ∷ 2 ∷ []) (unlisted ∷ unlisted ∷ 1 ∷ []) (1 ∷ 1 ∷ [])
    ∷ laid (table (time 0 160 160 0 0) (time 2 460 460 0 0) 1) 1 (0 ∷ 2 ∷ []) 2 (2 ∷ 2 ∷ []) (unlisted ∷ unlisted ∷ 1 ∷ []) (0 ∷ [])
    -- refused: 1 too many lines, too many entries
    ∷ refusal timetable_k 4097 runs_k 3 entries_k nines sevens 1
    ∷ refusal timetable_k 2 runs_k 4097 entries_k nines sevens 1
    -- 2 each slice of another length
    ∷ refusal (0 ∷ timetable_k) 2 runs_k 3 entries_k nines sevens 2
    ∷ refusal timetable_k 2 (0 ∷ runs_k) 3 entries_k nines sevens 2
    ∷ refusal timetable_k 2 runs_k 4 entries_k nines sevens 2
    ∷ refusal timetable_k 2 runs_k 3 entries_k (9 ∷ 9 ∷ []) sevens 2
    ∷ refusal timetable_k 2 runs_k 3 entries_k nines (7 ∷ []) 2
    -- 3 a run past the entries, one without trips too, and before 4
    ∷ refusal timetable_k 2 (0 ∷ 2 ∷ 2 ∷ 2 ∷ []) 3 entries_k nines sevens 3
    ∷ refusal timetable_k 2 (0 ∷ 2 ∷ 4 ∷ 0 ∷ []) 3 entries_k nines sevens 3
    ∷ refusal timetable_k 2 (0 ∷ 2 ∷ 2 ∷ 2 ∷ []) 3 (0 ∷ 1 ∷ 3 ∷ []) nines sevens 3
    -- 4 a trip that is none, and before 5; 5 a time out of its range
    ∷ refusal timetable_k 2 runs_k 3 (0 ∷ 1 ∷ 3 ∷ []) nines sevens 4
    ∷ refusal (table (time 0 160 160 0 0) (time 2 1048576 460 0 0) 0) 2 runs_k 3 (0 ∷ 3 ∷ 2 ∷ []) nines sevens 4
    ∷ refusal (table (time 0 160 160 0 0) (time 2 1048576 460 0 0) 0) 2 runs_k 3 entries_k nines sevens 5
    ∷ []

-- walk edges out of order are refused by 6, and both slices are as they came
pub walk_edges_unordered : layout_outcome default_settings walked walked_counts 1 1 (0 ∷ 1 ∷ []) (0 ∷ []) (layout_areas (9 ∷ []) (7 ∷ [])) ≡ layout_outcome_of 6 (layout_areas (9 ∷ []) (7 ∷ []))
unfolding settings_ok walked walked_counts time trip every time_of trip_of window_of edge_of counts_ok slices_ok trip_runs stop_time_numbers edge_numbers stop_time_ranges trip_ranges window_ranges edge_ranges edge_rises runs_ok numbers_ok ranges_ok order_ok line_run_in line_runs_ok entries_ok layout_sizes_ok layout_verdict
walk_edges_unordered = refl

-- every case is right
pub worked : all cases ≡ true
unfolding settings_ok all cases right laid refusal timetable_k table time trip counts runs_k entries_k nines sevens same every tab_from time_of trip_of window_of edge_of counts_ok slices_ok trip_runs stop_time_numbers edge_numbers stop_time_ranges trip_ranges window_ranges edge_ranges edge_rises runs_ok numbers_ok ranges_ok order_ok in_order neighbours fifo_line last_in position_in line_run_in line_runs_ok entries_ok layout_sizes_ok layout_verdict
worked = refl

-- 14 is asked after 1 and before 2
pub settings-asked : eqb (layout_outcome no_trip_tried [] counts 2 3 runs_k entries_k (layout_areas nines sevens)).answer 14
    && eqb (layout_outcome no_trip_tried [] counts 4097 3 runs_k entries_k (layout_areas nines sevens)).answer 1 ≡ true
unfolding settings_ok counts runs_k entries_k nines sevens counts_ok layout_sizes_ok layout_verdict slices_ok
settings-asked = refl
