-- What the scan of a trip reads, and which tables and queries agree with it. Definitions only.
-- Inner: nobody has to believe this.
use Rattle.std.specs.Prelude.{ℕ, ◌+◌, ◌-◌, ◌*◌, ◌/◌, ◌<◌, ◌≤◌, ◌≡◌, false, List, length, get_or, Option}
use Rattle.door.specs.Door.{time_limit}
use Rattle.stop_delay.specs.Times.{size_of}
use Rattle.tables.specs.declared.Counts.{Counts}
use Rattle.frequency.specs.declared.BoardedRun.{BoardedRun}
use Rattle.label.specs.declared.Label.TheVariants.{Walk}
use Rattle.label.specs.Label.{no_distance}
use Rattle.tables.specs.Tables.{count_of}
use Rattle.tables.specs.Sane.{Sane}
use Rattle.departures.specs.declared.StopRun.{StopRun}
use Rattle.event_transfers.specs.Transfers.{transfers_at}
use Rattle.model.specs.Tables.{Tables, Query, stop_at}
use Rattle.model.specs.Search.{Arrivals, relax, enqueue}
use Rattle.model.specs.Door.{Door}
use Rattle.query_types.specs.declared.Lay.{Lay}
use Rattle.query_types.specs.declared.Ride.{Ride}
use Rattle.query_types.specs.declared.Head.{Head}
use Rattle.search_state.specs.Places.{EgressTable}
use Rattle.query_types.specs.Layout.{rest_at}
use Rattle.trip_boarding.specs.Reads.{Known, Ground, Agree, Asks}
use Rattle.target_resolving.specs.Resolving.{LinesHeld, LinesOf}
use Rattle.arc_flags.specs.Skipping.{target_words, Patterned, PatternsOk}
use Rattle.query_types.specs.declared.Net.{Net}
use Rattle.query_types.specs.Slices.{Slices}
use Rattle.query_types.specs.declared.Context.{Context}

-- a ride whose trip is in the table, with a small shift; its trip's delay row is adj
pub record Riding (t : List ℕ) (c : Counts) (rows stop_rows : List ℕ) (adj : Option ℕ) (lay : Lay) (ride : Ride) : Type 0 where
  pub ground : Ground t c rows stop_rows
  pub known : Known rows adj
  pub stops : c.stops ≡ lay.stops
  pub trips : c.trips ≡ lay.trips
  pub trip : ride.trip < c.trips
  pub shift : size_of ride.shift ≤ time_limit

-- tables and a query that hold what alighting reads: timetable, delay rows, the egress table among the working numbers w
pub record Reads (t : List ℕ) (c : Counts) (rows stop_rows : List ℕ) (lay : Lay) (w : List ℕ) (T : Tables) (Q : Query) : Type 0 where
  pub agree : Agree T Q t c rows stop_rows
  pub egress : EgressTable Q.egress lay w

-- TRANSFERS. The number of the event of trip i at offset o, and its run of transfers
abbrev pub event_at : Net → List ℕ → ℕ → ℕ → ℕ
event_at net w i o = get_or w (net.events + i) 0 + o

abbrev pub event_run_at : Net → List ℕ → List ℕ → ℕ → ℕ → StopRun
event_run_at net built w i o =
    record {
      first = get_or built (net.runs + event_at net w i o * 2) 0;
      length = get_or built (net.runs + event_at net w i o * 2 + 1) 0;
    }

-- tables and a query that hold what transfers read: also lines, patterns, target cells, the transfers of every event
pub record Nets (ctx : Context) (sl : Slices) (w : List ℕ) (T : Tables) (Q : Query) : Type 0 where
  pub agree : Agree T Q sl.tables ctx.counts.timetable sl.delay_rows sl.stop_rows
  pub egress : EgressTable Q.egress ctx.lay w
  pub asks : Asks Q ctx.net.terms
  pub lines : LinesOf T ctx.counts.timetable ctx.net.lined sl.built w
  pub patterned : Patterned T sl.patterns ctx.net.patterns
  pub target : ctx.net.target ≡ target_words T Q
  pub transfers : (i o : ℕ) → i < ctx.counts.timetable.trips → o < count_of sl.tables ctx.counts.timetable i
      → T.transfers i o ≡ transfers_at sl.transfers (event_run_at ctx.net sl.built w i o)

-- a run of transfers lies in the area, and its times are in their range
pub record RunIn (area : List ℕ) (first n : ℕ) : Type 0 where
  pub near : first + n < 8589934592
  pub inside : (first + n) * 4 ≤ length area
  pub small : (k : ℕ) → k < n → get_or area ((first + k) * 4 + 2) 0 ≤ time_limit

-- what is read of the working numbers stands past the arrivals
pub record PastArrivals (lay : Lay) (net : Net) : Type 0 where
  pub positions : rest_at lay ≤ net.lined.positions
  pub fifo : rest_at lay ≤ net.lined.fifo
  pub events : rest_at lay ≤ net.events

-- the slices are as the door leaves them: some tables and a query that it admits are in them; every event has its run
pub record Netted (ctx : Context) (sl : Slices) (w : List ℕ) : Type 0 where
  pub ground : Ground sl.tables ctx.counts.timetable sl.delay_rows sl.stop_rows
  pub stops : ctx.counts.timetable.stops ≡ ctx.lay.stops
  pub trips : ctx.counts.timetable.trips ≡ ctx.lay.trips
  pub held : LinesHeld ctx.counts.timetable ctx.net.lined sl.built w
  pub patterns : PatternsOk sl.patterns ctx.net.patterns
  pub events : ctx.net.events + ctx.counts.timetable.trips ≤ length w
  pub words : (i o : ℕ) → i < ctx.counts.timetable.trips → o < count_of sl.tables ctx.counts.timetable i
      → ctx.net.runs + event_at ctx.net w i o * 2 + 2 ≤ length sl.built
  pub run : (i o : ℕ) → i < ctx.counts.timetable.trips → o < count_of sl.tables ctx.counts.timetable i
      → RunIn sl.transfers (event_run_at ctx.net sl.built w i o).first (event_run_at ctx.net sl.built w i o).length
  pub past : PastArrivals ctx.lay ctx.net
  pub T : Tables
  pub Q : Query
  pub door : Door T Q
  pub nets : Nets ctx sl w T Q

-- no segment was refused so far, and the queue, n numbers, has those that are in it
pub record Open (h : Head) (n : ℕ) : Type 0 where
  pub none : h.full ≡ false
  pub room : h.queued ≤ n / 4

-- a trip of the table that is boarded at offset o, at a time below 2^27
pub record BoardedAt (t : List ℕ) (c : Counts) (trip off departure : ℕ) : Type 0 where
  pub trip_in : trip < c.trips
  pub offset_in : off < count_of t c trip
  pub early : departure < 134217728

-- a timetable whose counts are those of the working numbers
pub record CountsAgree (t : List ℕ) (c : Counts) (lay : Lay) : Type 0 where
  pub sane : Sane t c
  pub stops : c.stops ≡ lay.stops
  pub trips : c.trips ≡ lay.trips

-- a boarding taken after a transfer from stop `from`: its stop is reached on foot, its segment queued
abbrev pub boarded : Tables → Query → (stamp from off time trip : ℕ) (b : BoardedRun) (a : Arrivals) → Arrivals
boarded T Q stamp from off time trip b a =
    enqueue T Q trip off (stop_at T trip off) b.time_shift_s
    (relax T Q stamp (stop_at T trip off) b.departure (Walk b.departure from (stop_at T trip off) time no_distance (stamp - 1)) a)
