-- What a query is lent to read, and the tables and the query that it says (crate model). Definitions only.
use Rattle.std.specs.Prelude.{ℕ, ◌+◌, ◌*◌, ◌/◌, min, List, length, get_or, eqb, Float}
use Rattle.std.proofs.Math.Seq.{slice}
use Rattle.std.specs.Float.{nan}
use Rattle.loops.specs.Count.{tab}
use Rattle.tables.specs.Timetable.{timetable}
use Rattle.departures.specs.declared.StopRun.{StopRun}
use Rattle.departures.specs.Departures.{listed_at}
use Rattle.line_layout.specs.Layout.{line_trips_in}
use Rattle.event_transfers.specs.Transfers.{events_before, transfers_at}
use Rattle.delay_rows.specs.Delays.{DelayTables}
use Rattle.delay_rows.specs.Flat.{delay_tables}
use Rattle.arc_flags.specs.Flags.{pattern_at}
use Rattle.model.specs.Tables.{Tables, Origin, Query}
use Rattle.query_types.specs.declared.QueryCounts.{QueryCounts}

-- THE SECTIONS of what the building calls wrote, one after the other: each trip's line (1 number each), the lines' runs (2), the line
-- entries (1), the stops' runs (2), the departures (2), the marks (1), the transfer runs (2, one for each stop time of each trip)
abbrev pub line_runs_at : QueryCounts → ℕ
line_runs_at n = n.timetable.trips

abbrev pub entries_at : QueryCounts → ℕ
entries_at n = n.timetable.trips + n.lines * 2

abbrev pub stop_runs_at : QueryCounts → ℕ
stop_runs_at n = n.timetable.trips + n.lines * 2 + n.entries

abbrev pub rows_at : QueryCounts → ℕ
rows_at n = n.timetable.trips + n.lines * 2 + n.entries + n.timetable.stops * 2

abbrev pub marks_at : QueryCounts → ℕ
marks_at n = n.timetable.trips + n.lines * 2 + n.entries + n.timetable.stops * 2 + n.departures * 2

abbrev pub transfer_runs_at : QueryCounts → ℕ
transfer_runs_at n = n.timetable.trips + n.lines * 2 + n.entries + n.timetable.stops * 2 + n.departures * 2 + n.timetable.stops

-- how many stop times the trips have together: so many transfer runs
abbrev pub event_count : List ℕ → QueryCounts → ℕ
event_count t n = events_before (timetable t n.timetable) n.timetable.trips

abbrev pub built_size : List ℕ → QueryCounts → ℕ
built_size t n = transfer_runs_at n + event_count t n * 2

-- the sections of the query's numbers: start, change time, wanted rounds, transfers, modes, wheelchair, switch; then the origins
-- (stop, duration), the egress stops (stop, duration), the delay rows (2 numbers each), the stop rows (5)
abbrev pub origins_at : ℕ
origins_at = 7

abbrev pub egress_at : QueryCounts → ℕ
egress_at n = 7 + n.origins * 2

abbrev pub delays_at : QueryCounts → ℕ
delays_at n = 7 + n.origins * 2 + n.egress * 2

abbrev pub stop_rows_at : QueryCounts → ℕ
stop_rows_at n = 7 + n.origins * 2 + n.egress * 2 + n.delays * 2

abbrev pub query_size : QueryCounts → ℕ
query_size n = 7 + n.origins * 2 + n.egress * 2 + n.delays * 2 + n.stop_rows * 5

-- so many numbers of a list, from one on
abbrev pub section : List ℕ → ℕ → ℕ → List ℕ
section l first count = slice first (first + count) l

-- the sections that other crates read
abbrev pub line_runs : List ℕ → QueryCounts → List ℕ
line_runs built n = section built (line_runs_at n) (n.lines * 2)

abbrev pub line_entries : List ℕ → QueryCounts → List ℕ
line_entries built n = section built (entries_at n) n.entries

abbrev pub stop_runs : List ℕ → QueryCounts → List ℕ
stop_runs built n = section built (stop_runs_at n) (n.timetable.stops * 2)

abbrev pub departure_rows : List ℕ → QueryCounts → List ℕ
departure_rows built n = section built (rows_at n) (n.departures * 2)

abbrev pub delay_rows : List ℕ → QueryCounts → List ℕ
delay_rows q n = section q (delays_at n) (n.delays * 2)

abbrev pub stop_rows : List ℕ → QueryCounts → List ℕ
stop_rows q n = section q (stop_rows_at n) (n.stop_rows * 5)

abbrev pub egress_part : List ℕ → QueryCounts → List ℕ
egress_part q n = section q (egress_at n) (n.egress * 2)

abbrev pub transfer_runs : List ℕ → QueryCounts → List ℕ
transfer_runs built n = slice (transfer_runs_at n) (length built) built

abbrev pub delays_of : List ℕ → QueryCounts → DelayTables
delays_of q n = delay_tables (delay_rows q n) (stop_rows q n)

-- transfer run e
abbrev pub transfer_run_at : List ℕ → QueryCounts → ℕ → StopRun
transfer_run_at built n e = record { first = get_or built (transfer_runs_at n + e * 2) 0; length = get_or built (transfer_runs_at n + e * 2 + 1) 0 }

-- how many transfers there are: the first ones of the area, as many as are counted and as whole rows of 4 numbers fit
abbrev pub transfer_rows : QueryCounts → ℕ → ℕ
transfer_rows n area = min n.transfers (area / 4)

-- origin k, its distance after those of the walk edges; egress stop k
abbrev pub origin_at : List ℕ → List Float → QueryCounts → ℕ → Origin
origin_at q distances n k =
    record {
      stop = get_or q (origins_at + k * 2) 0;
      duration = get_or q (origins_at + 1 + k * 2) 0;
      distance = get_or distances (n.timetable.edges + k) nan;
    }

abbrev pub egress_stop : List ℕ → QueryCounts → ℕ → ℕ × ℕ
egress_stop q n k = (get_or q (egress_at n + k * 2) 0, get_or q (egress_at n + 1 + k * 2) 0)

-- WHAT IS LENT TO BE READ: the counts with the settings, the timetable, what the building calls wrote, the transfer area, the patterns' bytes, the
-- distances (the walk edges', then the origins'), the query's numbers
pub record Lent : Type 0 where
  pub n : QueryCounts
  pub t : List ℕ
  pub built : List ℕ
  pub transfers : List ℕ
  pub patterns : List ℕ
  pub distances : List Float
  pub q : List ℕ

abbrev pub lent : QueryCounts → List ℕ → List ℕ → List ℕ → List ℕ → List Float → List ℕ → Lent
lent n t built transfers patterns distances q =
    record { n = n; t = t; built = built; transfers = transfers; patterns = patterns; distances = distances; q = q }

-- THE TABLES that it says
abbrev pub tables_of : Lent → Tables
tables_of x =
    record {
      timetable = timetable x.t x.n.timetable;
      distance = λ e. get_or x.distances e nan;
      lines = x.n.lines;
      line_of = λ i. get_or x.built i 0;
      line = line_trips_in (line_runs x.built x.n) (line_entries x.built x.n);
      departures = listed_at (stop_runs x.built x.n) (departure_rows x.built x.n);
      mark = λ s. get_or x.built (marks_at x.n + s) 0;
      transfers = λ i o. transfers_at x.transfers (transfer_run_at x.built x.n (events_before (timetable x.t x.n.timetable) i + o));
      cells = x.n.cells;
      patterns = x.n.patterns;
      pattern = pattern_at x.patterns;
    }

-- THE QUERY that it says, with the settings that the call received
abbrev pub query_of : Lent → Query
query_of x =
    record {
      start = get_or x.q 0 0;
      origins = tab (origin_at x.q x.distances x.n) x.n.origins;
      egress = tab (egress_stop x.q x.n) x.n.egress;
      modes = get_or x.q 4 0;
      wheelchair = eqb (get_or x.q 5 0) 1;
      change = get_or x.q 1 0;
      wanted_rounds = get_or x.q 2 0;
      transfers = get_or x.q 3 0;
      delays = delays_of x.q x.n;
      flags_off = eqb (get_or x.q 6 0) 1;
      settings = x.n.settings;
    }
