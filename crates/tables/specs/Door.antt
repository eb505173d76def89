-- The questions of document 01 that concern the timetable, as tests of its rows. Definitions only.
use Rattle.std.specs.Prelude.{ℕ, zero, suc, ◌+◌, Bool, true, ◌&&◌, List, length, ltb, leb, eqb}
use Rattle.loops.specs.Iter.{every_in}
use Rattle.door.specs.Door.{time_limit}
use Rattle.tables.specs.declared.Counts.{Counts}
use Rattle.tables.specs.declared.StopTimeRow.{StopTimeRow}
use Rattle.tables.specs.declared.TripRow.{TripRow}
use Rattle.tables.specs.declared.WindowRow.{WindowRow}
use Rattle.tables.specs.declared.EdgeRow.{EdgeRow}
use Rattle.tables.specs.declared.Check.{Check}
use Rattle.tables.specs.declared.Check.TheVariants.{TripRuns, StopTimeNumbers, EdgeNumbers, StopTimeRanges, TripRanges, WindowRanges}
use Rattle.tables.specs.declared.Check.TheVariants.{EdgeRanges, EdgeOrder}
use Rattle.tables.specs.Tables.{timetable_size, edge_of, stop_time_at, trip_at, window_at, edge_at}

-- 1: are all counts within the limits?
unfoldable pub counts_ok : Counts → Bool
counts_ok c = (leb c.stops 4096 && leb c.trips 4096) && ((leb c.times 65536 && leb c.windows 65536) && leb c.edges 65536)

-- 2: is the slice exactly as long as its counts say?
unfoldable pub slices_ok : List ℕ → Counts → Bool
slices_ok t c = eqb (length t) (timetable_size c)

-- 3: has the trip a stop time, and do its runs lie in their tables?
unfoldable pub trip_runs : Counts → TripRow → Bool
trip_runs c r = ltb 0 r.count && (leb (r.first + r.count) c.times && leb (r.window + r.windows) c.windows)

-- 4: is every stop number below the count?
unfoldable pub stop_time_numbers : Counts → StopTimeRow → Bool
stop_time_numbers c r = ltb r.stop c.stops

unfoldable pub edge_numbers : Counts → EdgeRow → Bool
edge_numbers c r = ltb r.from c.stops && ltb r.to c.stops

-- 5: is every time and code in its range?
unfoldable pub stop_time_ranges : StopTimeRow → Bool
stop_time_ranges r = (leb r.arrival time_limit && leb r.departure time_limit) && (leb r.pickup 3 && leb r.drop_off 3)

unfoldable pub trip_ranges : TripRow → Bool
trip_ranges r = (leb r.mode 6 && leb r.wheelchair 2) && (leb r.active 1 && leb r.excluded 1)

unfoldable pub window_ranges : WindowRow → Bool
window_ranges r = leb r.start time_limit && (leb r.end time_limit && leb r.headway time_limit)

unfoldable pub edge_ranges : EdgeRow → Bool
edge_ranges r = leb r.duration time_limit && leb r.pathway 7

-- 6: are the walk edges in order of from-stop? Each against the one before it.
unfoldable pub edge_rises : List ℕ → Counts → ℕ → Bool
edge_rises t c zero = true
edge_rises t c (suc i) = leb (edge_of t c i 0) (edge_of t c (suc i) 0)

-- how many rows a check looks at, and what it asks of one
abbrev pub row_count_of : Check → Counts → ℕ
row_count_of TripRuns c = c.trips
row_count_of StopTimeNumbers c = c.times
row_count_of EdgeNumbers c = c.edges
row_count_of StopTimeRanges c = c.times
row_count_of TripRanges c = c.trips
row_count_of WindowRanges c = c.windows
row_count_of EdgeRanges c = c.edges
row_count_of EdgeOrder c = c.edges

abbrev pub row_ok : List ℕ → Counts → Check → ℕ → Bool
row_ok t c TripRuns i = trip_runs c (trip_at t c i)
row_ok t c StopTimeNumbers i = stop_time_numbers c (stop_time_at t i)
row_ok t c EdgeNumbers i = edge_numbers c (edge_at t c i)
row_ok t c StopTimeRanges i = stop_time_ranges (stop_time_at t i)
row_ok t c TripRanges i = trip_ranges (trip_at t c i)
row_ok t c WindowRanges i = window_ranges (window_at t c i)
row_ok t c EdgeRanges i = edge_ranges (edge_at t c i)
row_ok t c EdgeOrder i = edge_rises t c i

abbrev pub every_row : List ℕ → Counts → Check → Bool
every_row t c k = every_in (row_ok t c k) 0 (row_count_of k c)

-- the questions of the whole timetable
unfoldable pub runs_ok : List ℕ → Counts → Bool
runs_ok t c = every_row t c TripRuns

unfoldable pub numbers_ok : List ℕ → Counts → Bool
numbers_ok t c = every_row t c StopTimeNumbers && every_row t c EdgeNumbers

unfoldable pub ranges_ok : List ℕ → Counts → Bool
ranges_ok t c = (every_row t c StopTimeRanges && every_row t c TripRanges) && (every_row t c WindowRanges && every_row t c EdgeRanges)

unfoldable pub order_ok : List ℕ → Counts → Bool
order_ok t c = every_row t c EdgeOrder
