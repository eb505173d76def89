-- Lines (document 01, item 6). A line is all trips with the same stops in the same order. Lines are numbered by their first trips;
-- inside a line the trips stand by first departure, sorted stably. Definitions only.
use Rattle.std.specs.Prelude.{ℕ, ◌+◌, ◌*◌, ◌≤◌, ◌<◌, Bool, ◌&&◌, drop, get_or, ltb, eqb}
use mathlib.Core.List.{List, [], ◌∷◌, ◌++◌, flat_map}
use Rattle.loops.specs.Iter.{every_in, first_in, found_or}
use Rattle.loops.specs.Count.{count, tab, upto}
use Rattle.sorts.specs.Sort.{sort_by}
use Rattle.sorts.specs.Orders.{keep}
use Rattle.tables.specs.Timetable.{Timetable, time_at}

-- the stops of trip i, in order
abbrev pub stops_of : Timetable → ℕ → List ℕ
stops_of T i = tab (λ k. (time_at T i k).stop) (T.trip i).count

-- have trips a and b as many stops, and the same one at each offset? (Laws: are their lists of stops equal?)
unfoldable pub same : Timetable → ℕ → ℕ → Bool
same T a b = eqb (T.trip a).count (T.trip b).count && every_in (λ k. eqb (time_at T a k).stop (time_at T b k).stop) 0 (T.trip a).count

-- the first trip of trip i's line
unfoldable pub lead_of : Timetable → ℕ → ℕ
lead_of T i = found_or (first_in (λ a. same T a i) 0 i) i

-- is trip i the first of its line?
unfoldable pub is_lead : Timetable → ℕ → Bool
is_lead T i = eqb (lead_of T i) i

-- trip i's line: as many lines as have their first trip before this one's
unfoldable pub line_of : Timetable → ℕ → ℕ
line_of T i = count (is_lead T) (lead_of T i)

-- how many lines there are
abbrev pub lines_of : Timetable → ℕ
lines_of T = count (is_lead T) T.trips

-- has trip i line l? Has it a line before l?
abbrev pub line_is : Timetable → ℕ → ℕ → Bool
line_is T l i = eqb (line_of T i) l

abbrev pub line_below : Timetable → ℕ → ℕ → Bool
line_below T l i = ltb (line_of T i) l

-- the first trip of line l
unfoldable pub first_trip : Timetable → ℕ → ℕ
first_trip T l = found_or (first_in (line_is T l) 0 T.trips) T.trips

-- the first departure of a trip
abbrev pub first_departure : Timetable → ℕ → ℕ
first_departure T i = (time_at T i 0).departure

-- the trips of line l: in the order of their numbers, sorted stably by first departure
unfoldable pub line_trips : Timetable → ℕ → List ℕ
line_trips T l = sort_by (first_departure T) (keep (line_is T l) (upto T.trips))

-- the entries: the trips line by line
unfoldable pub entries_of : Timetable → List ℕ
entries_of T = flat_map (line_trips T) (upto (lines_of T))

-- the trip that stands at p
abbrev pub entry_at : Timetable → ℕ → ℕ
entry_at T p = get_or (entries_of T) p 0

-- how many trips line l has, and its first entry: as many trips stand before it as have an earlier line
unfoldable pub line_count : Timetable → ℕ → ℕ
line_count T l = count (line_is T l) T.trips

unfoldable pub line_first : Timetable → ℕ → ℕ
line_first T l = count (line_below T l) T.trips

-- place p is in line l's run
pub record InLineRun (T : Timetable) (l p : ℕ) : Type 0 where
  pub from : line_first T l ≤ p
  pub before : p < line_first T l + line_count T l

-- line l's run as a row of two words
abbrev pub line_run : Timetable → ℕ → List ℕ
line_run T l = line_first T l ∷ line_count T l ∷ []

-- the runs, written over the first rows of what was lent; rows past the lines keep their words
unfoldable pub runs_of : Timetable → List ℕ → List ℕ
runs_of T old = flat_map (line_run T) (upto (lines_of T)) ++ drop (lines_of T * 2) old
