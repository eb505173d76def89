-- What the ride phase reads, and which tables and queries agree with it. Definitions only.
-- Inner: nobody has to believe this.
use Rattle.std.specs.Prelude.{ℕ, ◌+◌, ◌/◌, ◌≤◌, ◌<◌, ◌≡◌, List, length, get_or}
use Rattle.door.specs.Door.{time_limit}
use Rattle.stop_delay.specs.Times.{size_of}
use Rattle.tables.specs.declared.Counts.{Counts}
use Rattle.departures.specs.Departures.{listed_at}
use Rattle.departures.specs.Listed.{RowsListed}
use Rattle.model.specs.Tables.{Tables, Query}
use Rattle.query_types.specs.declared.Lay.{Lay}
use Rattle.search_state.specs.Part.{part}
use Rattle.query_types.specs.Layout.{rest_at, trip_stamps_at, events_at, list_room}
use Rattle.search_state.specs.View.{segment_at}
use Rattle.target_resolving.specs.Resolving.{lined_of}
use Rattle.query_input.specs.Lent.{marks_at, stop_runs, departure_rows}
use Rattle.query_input.specs.Sane.{Limits}
use Rattle.trip_scan.specs.Scan.{Nets, Netted}
use Rattle.query_types.specs.Slices.{Slices}
use Rattle.query_types.specs.declared.Context.{Context}

-- tables and a query that hold what the ride phase reads: what a scanned trip reads, and each stop's departures and mark
pub record Rides (ctx : Context) (sl : Slices) (w : List ℕ) (T : Tables) (Q : Query) : Type 0 where
  pub nets : Nets ctx sl w T Q
  pub departures : (x : ℕ) → x < ctx.counts.timetable.stops
      → T.departures x ≡ listed_at (stop_runs sl.built ctx.counts) (departure_rows sl.built ctx.counts) x
  pub mark : (x : ℕ) → x < ctx.counts.timetable.stops → T.mark x ≡ get_or sl.built (marks_at ctx.counts + x) 0

-- the slices are as the door and a query's beginning leave them: some tables and a query that the door admits are in them
pub record Laid (ctx : Context) (sl : Slices) (w : List ℕ) : Type 0 where
  pub netted : Netted ctx sl w
  pub rides : Rides ctx sl w netted.T netted.Q
  pub limits : Limits ctx.counts
  pub long : marks_at ctx.counts + ctx.counts.timetable.stops ≤ length sl.built
  pub listed : RowsListed sl.tables ctx.counts.timetable (stop_runs sl.built ctx.counts) (departure_rows sl.built ctx.counts)
      ctx.counts.departures
  pub lined : ctx.net.lined ≡ lined_of ctx.counts.timetable ctx.lay.lines
  pub events : ctx.net.events ≡ events_at ctx.lay

-- as it came: the other list, and what is read of the working numbers (egress table, positions, FIFO flags, events before each trip)
pub record Kept (lay : Lay) (w w' : List ℕ) : Type 0 where
  pub size : length w' ≡ length w
  pub list : part w' lay.other (list_room lay.stops) ≡ part w lay.other (list_room lay.stops)
  pub rest : (i : ℕ) → rest_at lay ≤ i → i < trip_stamps_at lay → get_or w' i 0 ≡ get_or w i 0

-- the first n segments of a queue, to be ridden: there, on trips of the table, with small shifts
pub record Segments (c : Counts) (q : List ℕ) (n : ℕ) : Type 0 where
  pub room : n ≤ length q / 4
  pub trip : (k : ℕ) → k < n → (segment_at q k).trip < c.trips
  pub shift : (k : ℕ) → k < n → size_of (segment_at q k).shift ≤ time_limit
