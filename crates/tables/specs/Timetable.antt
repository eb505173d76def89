-- The timetable by its rows' numbers, free of any layout in memory. A row's value at a number not below its count means nothing.
-- Definitions only.
use Rattle.std.specs.Prelude.{ℕ, ◌+◌, Bool, List, ltb}
use Rattle.tables.specs.declared.Counts.{Counts}
use Rattle.tables.specs.declared.StopTimeRow.{StopTimeRow}
use Rattle.tables.specs.declared.TripRow.{TripRow}
use Rattle.tables.specs.declared.WindowRow.{WindowRow}
use Rattle.tables.specs.declared.EdgeRow.{EdgeRow}
use Rattle.tables.specs.Tables.{stop_time_at, trip_at, window_at, edge_at, cell_of}

pub record Timetable : Type 0 where
  pub stops : ℕ
  pub trips : ℕ
  pub edges : ℕ
  -- a trip, a stop time, a window, a walk edge; a stop's cell
  pub trip : ℕ → TripRow
  pub time : ℕ → StopTimeRow
  pub window : ℕ → WindowRow
  pub edge : ℕ → EdgeRow
  pub cell : ℕ → ℕ

-- the timetable that a slice of numbers holds
abbrev pub timetable : List ℕ → Counts → Timetable
timetable t c =
    record {
      stops = c.stops;
      trips = c.trips;
      edges = c.edges;
      trip = trip_at t c;
      time = stop_time_at t;
      window = window_at t c;
      edge = edge_at t c;
      cell = cell_of t c;
    }

-- the stop time of a trip at an offset
abbrev pub time_at : Timetable → ℕ → ℕ → StopTimeRow
time_at T i o = T.time ((T.trip i).first + o)

-- a frequency trip has windows
abbrev pub frequency_trip : Timetable → ℕ → Bool
frequency_trip T i = ltb 0 (T.trip i).windows
