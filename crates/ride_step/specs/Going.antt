-- What the parts of the ride phase need, and what they do. Definitions only.
-- Inner: nobody has to believe this.
use Rattle.std.specs.Prelude.{ℕ, ◌≡◌, Bool, false, List, length, Option, None, Some}
use Rattle.frequency.specs.declared.BoardedRun.{BoardedRun}
use Rattle.departures.specs.declared.DepartureRow.{DepartureRow}
use Rattle.model.specs.Tables.{Tables, Query, change_before}
use Rattle.model.specs.Search.{Segment, State, delay_of, boarding, board, scan_trip_forward}
use Rattle.query_types.specs.declared.Lay.{Lay}
use Rattle.query_types.specs.declared.Ride.{Ride}
use Rattle.search_state.specs.View.{Memory}
use Rattle.search_state.specs.Step.{Ready}
use Rattle.line_pruning.specs.Books.{Chains}
use Rattle.trip_scan.specs.Scan.{Open}
use Rattle.ride_step.specs.Laid.{Rides, Laid}
use Rattle.ride_step.specs.Phase.{RideStep}
use Rattle.search_state.specs.Places.{Falls}
use Rattle.query_types.specs.Slices.{Slices}
use Rattle.query_types.specs.declared.Context.{Context}

-- a state from which a part of the ride phase may go on: what it reads is laid, and no segment was refused so far
pub record Going (ctx : Context) (sl : Slices) (stamp : ℕ) (a : Memory) (queue : List ℕ) : Type 0 where
  pub laid : Laid ctx sl a.work
  pub ready : Ready ctx.lay stamp a
  pub chains : Chains ctx.lay stamp a.work
  pub room : Open a.head (length queue)

-- THE CONTRACT of a part of the ride phase: it boards as f does and, where all segments fit, raises no earliest arrival
pub record Rode (lay : Lay) (stamp : ℕ) (agree : Tables → Query → Type 0) (f : Tables → Query → State → State)
    (a b : Memory) (q q' : List ℕ) : Type 0 where
  pub step : RideStep lay stamp agree f a b q q'
  pub falls : b.head.full ≡ false → Falls lay a.work b.work

-- tables and a query that hold what is read of them where stops are boarded at, with this change time before
pub record Changing (ctx : Context) (sl : Slices) (round change : ℕ) (w : List ℕ) (T : Tables) (Q : Query) : Type 0 where
  pub rides : Rides ctx sl w T Q
  pub before : change_before Q round ≡ change

-- one listed departure of stop x, tried and, where it is boarded so, taken
abbrev pub taken_by : Tables → Query → Bool → ℕ → ℕ → ℕ → DepartureRow → Option BoardedRun → State → State
taken_by T Q flagged round stamp x d None s = s
taken_by T Q flagged round stamp x d (Some b) s =
    record {
      arrivals = scan_trip_forward T Q flagged stamp (delay_of Q d.trip) b.time_shift_s d.trip x d.offset s.arrivals;
      boardings = board T Q round stamp (delay_of Q d.trip) d.trip d.offset b.departure s.boardings;
    }

-- ONE LISTED DEPARTURE of stop x, without the test whether it is too late
abbrev pub taken : Tables → Query → (flagged : Bool) (round stamp x after : ℕ) (d : DepartureRow) (s : State) → State
taken T Q flagged round stamp x after d s = taken_by T Q flagged round stamp x d
    (boarding T Q stamp after (delay_of Q d.trip) d.trip d.offset s) s

-- the ride of a segment
abbrev pub ride_of : ℕ → Segment → Ride
ride_of stamp g = record { stamp = stamp; trip = g.trip; stop = g.stop; offset = g.offset; shift = g.shift }
