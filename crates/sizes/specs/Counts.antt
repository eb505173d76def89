-- Counts as a caller hands them in, one number each. Definitions only.
use Rattle.std.specs.Prelude.{ℕ}
use Rattle.door.specs.declared.Settings.{Settings}
use Rattle.tables.specs.declared.Counts.{Counts}
use Rattle.query_types.specs.declared.QueryCounts.{QueryCounts}
use Rattle.sizes.specs.declared.QuerySizes.{QuerySizes}

abbrev pub counts_of : (stops trips times windows edges : ℕ) → Counts
counts_of stops trips times windows edges = record { stops = stops; trips = trips; times = times; windows = windows; edges = edges }

-- the counts of a query: the timetable's, then the others one by one; the settings go with them
abbrev pub gathered : (S : Settings) (timetable : Counts)
    (cells patterns lines entries departures transfers delays stop_rows origins egress : ℕ)
    → QueryCounts
gathered S timetable cells patterns lines entries departures transfers delays stop_rows origins egress =
    record {
      settings = S;
      timetable = timetable;
      cells = cells;
      patterns = patterns;
      lines = lines;
      entries = entries;
      departures = departures;
      transfers = transfers;
      delays = delays;
      stop_rows = stop_rows;
      origins = origins;
      egress = egress;
    }

abbrev pub query_counts_of : Settings → QuerySizes → QueryCounts
query_counts_of S s =
    gathered S (counts_of s.stops s.trips s.times s.windows s.edges) s.cells s.patterns s.lines s.entries s.departures
    s.transfers s.delays s.stop_rows s.origins s.egress
