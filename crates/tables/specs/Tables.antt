-- Where each number of the timetable stands in its slice. Definitions only.
use Rattle.std.specs.Prelude.{ℕ, ◌+◌, ◌*◌, List, get_or}
use Rattle.tables.specs.declared.Counts.{Counts}
use Rattle.tables.specs.declared.StopTimeRow.{StopTimeRow}
use Rattle.tables.specs.declared.TripRow.{TripRow}
use Rattle.tables.specs.declared.WindowRow.{WindowRow}
use Rattle.tables.specs.declared.EdgeRow.{EdgeRow}

-- the sections, one after the other: stop times of 6 numbers, trips of 8, windows of 3, walk edges of 5, stops of 1 (their cell)
abbrev pub trips_at : Counts → ℕ
trips_at c = c.times * 6

abbrev pub windows_at : Counts → ℕ
windows_at c = c.times * 6 + c.trips * 8

abbrev pub edges_at : Counts → ℕ
edges_at c = c.times * 6 + c.trips * 8 + c.windows * 3

abbrev pub stops_at : Counts → ℕ
stops_at c = c.times * 6 + c.trips * 8 + c.windows * 3 + c.edges * 5

abbrev pub timetable_size : Counts → ℕ
timetable_size c = c.times * 6 + c.trips * 8 + c.windows * 3 + c.edges * 5 + c.stops

-- field k of stop time i: 0 stop, 1 arrival, 2 departure, 3 sequence, 4 pickup, 5 drop-off
unfoldable pub time_of : List ℕ → ℕ → ℕ → ℕ
time_of t i k = get_or t (i * 6 + k) 0

-- field k of trip i: 0 first stop time, 1 count, 2 mode, 3 wheelchair, 4 first window, 5 window count, 6 active, 7 excluded
unfoldable pub trip_of : List ℕ → Counts → ℕ → ℕ → ℕ
trip_of t c i k = get_or t (trips_at c + i * 8 + k) 0

-- field k of window i: 0 start, 1 end, 2 headway
unfoldable pub window_of : List ℕ → Counts → ℕ → ℕ → ℕ
window_of t c i k = get_or t (windows_at c + i * 3 + k) 0

-- field k of walk edge i: 0 from, 1 to, 2 duration, 3 pathway mode, 4 pattern
unfoldable pub edge_of : List ℕ → Counts → ℕ → ℕ → ℕ
edge_of t c i k = get_or t (edges_at c + i * 5 + k) 0

-- the cell of stop s
unfoldable pub cell_of : List ℕ → Counts → ℕ → ℕ
cell_of t c s = get_or t (stops_at c + s) 0

-- the rows by their fields' names
abbrev pub stop_time_at : List ℕ → ℕ → StopTimeRow
stop_time_at t i =
    record {
      stop = time_of t i 0;
      arrival = time_of t i 1;
      departure = time_of t i 2;
      sequence = time_of t i 3;
      pickup = time_of t i 4;
      drop_off = time_of t i 5;
    }

abbrev pub trip_at : List ℕ → Counts → ℕ → TripRow
trip_at t c i =
    record {
      first = trip_of t c i 0;
      count = trip_of t c i 1;
      mode = trip_of t c i 2;
      wheelchair = trip_of t c i 3;
      window = trip_of t c i 4;
      windows = trip_of t c i 5;
      active = trip_of t c i 6;
      excluded = trip_of t c i 7;
    }

abbrev pub window_at : List ℕ → Counts → ℕ → WindowRow
window_at t c i = record { start = window_of t c i 0; end = window_of t c i 1; headway = window_of t c i 2 }

abbrev pub edge_at : List ℕ → Counts → ℕ → EdgeRow
edge_at t c i = record { from = edge_of t c i 0; to = edge_of t c i 1; duration = edge_of t c i 2; pathway = edge_of t c i 3; pattern = edge_of t c i 4 }

-- a trip's first stop time, how many it has, its windows; of its stop time at an offset: the stop, the arrival, the departure
abbrev pub first_of : List ℕ → Counts → ℕ → ℕ
first_of t c i = trip_of t c i 0

abbrev pub count_of : List ℕ → Counts → ℕ → ℕ
count_of t c i = trip_of t c i 1

abbrev pub windows_of : List ℕ → Counts → ℕ → ℕ
windows_of t c i = trip_of t c i 5

abbrev pub stop_of : List ℕ → Counts → ℕ → ℕ → ℕ
stop_of t c i off = time_of t (first_of t c i + off) 0

abbrev pub arrival_of : List ℕ → Counts → ℕ → ℕ → ℕ
arrival_of t c i off = time_of t (first_of t c i + off) 1
