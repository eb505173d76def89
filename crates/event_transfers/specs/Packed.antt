-- How the code holds a departure in one number and writes row by row. Inner: the call's outcome does not speak of it.
-- Definitions only.
-- Inner: nobody has to believe this.
use Rattle.std.specs.Prelude.{ℕ, ◌+◌, ◌*◌, ◌-◌, ◌/◌, ◌%◌, ◌<◌, ◌≤◌, ◌≡◌, not, cond, length, get_or, take, ltb, leb, eqb}
use mathlib.Core.List.{List, [], ◌∷◌, flatten}
use Rattle.std.proofs.Math.Seq.{slice}
use Rattle.loops.specs.Count.{tab}
use Rattle.loops.specs.Order.{KeysRise}
use Rattle.sorts.specs.Sort.{hi, within}
use Rattle.sorts.specs.Orders.{keep}
use Rattle.door.specs.Settings.{transfer_time_limit}
use Rattle.tables.specs.declared.Counts.{Counts}
use Rattle.tables.specs.Tables.{time_of, first_of, count_of}
use Rattle.tables.specs.Timetable.{timetable}
use Rattle.departures.specs.declared.DepartureRow.{DepartureRow}
use Rattle.departures.specs.Departures.{row_at, row_departure, run_first, run_end}
use Rattle.departures.specs.Packed.{un_trip, un_offset}

-- a row: its line and its departure above, its trip and offset below
unfoldable pub pack_line : List ℕ → Counts → List ℕ → DepartureRow → ℕ
pack_line t c lines r = (get_or lines r.trip 0 * 1048576 + row_departure (timetable t c) r) * 4294967296 + (r.trip * 65536 + r.offset) % 4294967296

abbrev pub packed_line_at : List ℕ → Counts → List ℕ → List ℕ → ℕ → ℕ
packed_line_at t c lines rows k = pack_line t c lines (row_at rows k)

unfoldable pub line_x : ℕ → ℕ
line_x x = x / 4503599627370496

unfoldable pub dep_x : ℕ → ℕ
dep_x x = x / 4294967296 % 1048576

-- a stop's numbers, sorted by line and departure
pub record Keys (v : List ℕ) : Type 0 where
  pub rising : KeysRise (λ i. hi (get_or v i 0)) (length v)
  pub fits : (i : ℕ) → i < length v → line_x (get_or v i 0) < 4096

-- e numbers from the i-th on are of its line, as far as there are so many, and the next one is not
pub record Stretch (v : List ℕ) (i e : ℕ) : Type 0 where
  pub some : 0 < e
  pub same : (j : ℕ) → j < e → i + j < length v → line_x (get_or v (i + j) 0) ≡ line_x (get_or v i 0)
  pub next : i + e < length v → line_x (get_or v (i + e) 0) ≡ line_x (get_or v i 0) → ⊥

-- how many, beside each
pub record LineEnds (v ends : List ℕ) : Type 0 where
  pub size : length ends ≡ length v
  pub at : (i : ℕ) → i < length v → Stretch v i (get_or ends i 0)

-- the first r are of the first one's line, the others of later lines
pub record LineEnd (v : List ℕ) (r : ℕ) : Type 0 where
  pub some : 0 < r
  pub inside : r ≤ length v
  pub same : (i : ℕ) → i < r → line_x (get_or v i 0) ≡ line_x (get_or v 0 0)
  pub later : (i : ℕ) → r ≤ i → i < length v → line_x (get_or v 0 0) < line_x (get_or v i 0)

-- the departures of one line
pub record Group (g : List ℕ) : Type 0 where
  pub some : 0 < length g
  pub keys : Keys g
  pub same : (i : ℕ) → i < length g → line_x (get_or g i 0) ≡ line_x (get_or g 0 0)

-- the transfer to one line's departures, and those to every line of a stop's
unfoldable pub to_group : List ℕ → ℕ → ℕ → List ℕ
to_group g ti w = keep (λ x. not (eqb (un_trip x) ti)) (take 1 (keep (λ x. leb w (dep_x x)) g))

unfoldable pub targets : List ℕ → ℕ → ℕ → List ℕ
targets v ti w = flatten (tab (λ l. to_group (keep (λ x. eqb (line_x x) l) v) ti w) 4096)

-- r lines at most have a transfer at or after w
pub record LinesAfter (v : List ℕ) (w r : ℕ) : Type 0 where
  pub most : (ti : ℕ) → length (targets v ti w) ≤ r
  pub few : r ≤ length v

-- what the events are looked up in: the timetable, the stops' runs, the sorted numbers, the transfer time
pub record Prepared : Type 0 where
  pub t : List ℕ
  pub c : Counts
  pub runs : List ℕ
  pub work : List ℕ
  pub time : ℕ

abbrev pub prepared : List ℕ → Counts → List ℕ → List ℕ → ℕ → Prepared
prepared t c runs work time = record { t = t; c = c; runs = runs; work = work; time = time }

-- getting off at stop time `at`; an event, a trip, all trips
unfoldable pub alight_keys : Prepared → ℕ → ℕ → List ℕ
alight_keys p ti at =
    cond (eqb (time_of p.t at 5) 1) []
    (targets (slice (run_first p.runs (time_of p.t at 0)) (run_end p.runs (time_of p.t at 0)) p.work) ti (time_of p.t at 1 + p.time))

abbrev pub event_keys : Prepared → ℕ → ℕ → List ℕ
event_keys p ti off = alight_keys p ti (first_of p.t p.c ti + off)

abbrev pub trip_keys : Prepared → ℕ → List (List ℕ)
trip_keys p ti = tab (event_keys p ti) (count_of p.t p.c ti)

abbrev pub all_keys : Prepared → List (List ℕ)
all_keys p = flatten (tab (trip_keys p) p.c.trips)

-- how many transfers there are so far, and the area
pub record AreaSoFar : Type 0 where
  pub n : ℕ
  pub area : List ℕ

abbrev pub laid : ℕ → List ℕ → AreaSoFar
laid n a = record { n = n; area = a }

-- a transfer at row n, where the area has it
unfoldable pub put_row : ℕ → List ℕ → ℕ → ℕ → List ℕ
put_row time a n x = cond (leb (n * 4 + 4) (length a)) (within (n * 4) (n * 4 + 4) (un_trip x ∷ un_offset x ∷ time ∷ 0 ∷ []) a) a

-- one more; past 65,536 none is counted or written
unfoldable pub lay_row : ℕ → ℕ → AreaSoFar → AreaSoFar
lay_row time x s = cond (ltb 65536 s.n) s (laid (s.n + 1) (put_row time s.area s.n x))

unfoldable pub lay : ℕ → List ℕ → AreaSoFar → AreaSoFar
lay time [] s = s
lay time (x ∷ l) s = lay time l (lay_row time x s)

-- over the events: also each event's run
pub record AreaWalk : Type 0 where
  pub n : ℕ
  pub area : List ℕ
  pub evs : List ℕ

abbrev pub area_walk : ℕ → List ℕ → List ℕ → AreaWalk
area_walk n a v = record { n = n; area = a; evs = v }

-- the run of event e, where there is space for it
unfoldable pub put_run : List ℕ → ℕ → ℕ → ℕ → List ℕ
put_run v e n m = cond (leb (e * 2 + 2) (length v)) (within (e * 2) (e * 2 + 2) (n ∷ m ∷ []) v) v

abbrev pub event_noted : ℕ → AreaWalk → AreaSoFar → AreaWalk
event_noted e w s = area_walk s.n s.area (put_run w.evs e w.n (s.n - w.n))

unfoldable pub lay_event : ℕ → ℕ → List ℕ → AreaWalk → AreaWalk
lay_event time e l w = event_noted e w (lay time l (laid w.n w.area))

unfoldable pub lay_events : ℕ → ℕ → List (List ℕ) → AreaWalk → AreaWalk
lay_events time e [] w = w
lay_events time e (l ∷ ls) w = lay_events time (e + 1) ls (lay_event time e l w)

-- each stop's run is sorted, and beside each number stands how many are of its line
pub record SortedRuns (c : Counts) (runs work ends : List ℕ) (d : ℕ) : Type 0 where
  pub size : length work ≡ d
  pub lines : LineEnds work ends
  pub keys : (s : ℕ) → s < c.stops → Keys (slice (run_first runs s) (run_end runs s) work)

-- where a walk stands: trip ti, offset off, event e of all, n transfers so far
pub record EventAt (t : List ℕ) (c : Counts) (ti off e n time : ℕ) : Type 0 where
  pub trip : ti < c.trips
  pub offset : off < count_of t c ti
  pub event : e < 268435456
  pub few : n ≤ 65537
  pub short : time ≤ transfer_time_limit

pub record TripAt (c : Counts) (ti e n time : ℕ) : Type 0 where
  pub trip : ti < c.trips
  pub event : e ≤ ti * 65536
  pub few : n ≤ 65537
  pub short : time ≤ transfer_time_limit

-- r is no less than n with the `whole` transfers to come, but for the `left` that are not yet looked at; past 65,536 it says no more
pub record Most (n whole r left : ℕ) : Type 0 where
  pub grows : n ≤ r
  pub few : r ≤ 131072
  pub most : r ≤ 65536 → n + whole ≤ r + left

pub record MostAt (i count n time : ℕ) : Type 0 where
  pub below : i < count
  pub few : n ≤ 131072
  pub short : time ≤ transfer_time_limit
