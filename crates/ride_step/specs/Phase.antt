-- What boarding trips does to a query's state. Definitions only.
-- Inner: nobody has to believe this.
use Rattle.std.specs.Prelude.{ℕ, suc, ◌/◌, ◌≤◌, ◌<◌, ◌≡◌, Bool, true, false, List, length}
use Rattle.door.specs.Door.{time_limit}
use Rattle.tables.specs.declared.Counts.{Counts}
use Rattle.model.specs.Tables.{Tables, Query, change_before}
use Rattle.model.specs.Search.{State, round_start, ride_phase}
use Rattle.query_types.specs.declared.Lay.{Lay}
use Rattle.query_types.specs.declared.Head.{Head}
use Rattle.answer_laws.specs.Lawful.{latest}
use Rattle.search_state.specs.Places.{turned, StopsListed}
use Rattle.search_state.specs.View.{Memory, memory, arrivals_of}
use Rattle.search_state.specs.Step.{Ready}
use Rattle.line_pruning.specs.Books.{Chains, Books}
use Rattle.ride_step.specs.Laid.{Kept, Segments}

-- memory holds this state of the model: its arrivals with queue q, its boardings under this stamp
pub record Seen (lay : Lay) (stamp : ℕ) (T : Tables) (Q : Query) (a : Memory) (q : List ℕ) (s : State) : Type 0 where
  pub arrivals : s.arrivals ≡ arrivals_of lay a q
  pub boardings : Books lay stamp T Q a.work s.boardings

-- THE CONTRACT of a call that boards trips, from queue q to q': where all segments fit, it takes every state of the model that memory
-- holds as f does; where one does not (question 8), f queues more segments than q has whole rows; what is read stays as it came
pub record RideStep (lay : Lay) (stamp : ℕ) (agree : Tables → Query → Type 0) (f : Tables → Query → State → State)
    (a b : Memory) (q q' : List ℕ) : Type 0 where
  pub view : b.head.full ≡ false → (T : Tables) (Q : Query) → agree T Q → (s : State) → Seen lay stamp T Q a q s → Seen lay stamp T Q b q' (f T Q s)
  pub over : b.head.full ≡ true → (T : Tables) (Q : Query) → agree T Q → (s : State) → Seen lay stamp T Q a q s
      → length q / 4 < length (f T Q s).arrivals.seg_queue
  pub kept : Kept lay a.work b.work
  pub ready : Ready lay stamp b
  pub chains : Chains lay stamp b.work
  pub size : length q' ≡ length q
  pub room : b.head.queued ≤ length q' / 4

-- the head as a ride phase begins: no stop reached, no segment queued
abbrev pub start_head : Head → Head
start_head h = record { best = h.best; count = 0; queued = 0; full = false }

-- a state from which a ride phase may begin: `lay.other` has the stops to board at, `from` the segments to ride
pub record Opening (c : Counts) (lay : Lay) (stamp change : ℕ) (a : Memory) (from : List ℕ) : Type 0 where
  pub ready : Ready lay stamp (memory a.work a.labels a.label_distances (start_head a.head))
  pub chains : Chains lay stamp a.work
  pub waiting : StopsListed lay a.work a.head.count latest
  pub segments : Segments c from a.head.queued
  pub small : change ≤ time_limit

-- before a ride phase memory holds this state: its stops in `lay.other`, its segments in `from`, no line boarded under the stamp
pub record Before (lay : Lay) (stamp : ℕ) (T : Tables) (Q : Query) (a : Memory) (from : List ℕ) (s : State) : Type 0 where
  pub arrivals : s.arrivals ≡ arrivals_of (turned lay) a from
  pub boardings : Books lay stamp T Q a.work (round_start T Q s).boardings

-- THE CONTRACT of the ride phase: `from` is ridden, the stops of `lay.other` are boarded at; `lay.list` and q are filled anew
pub record RidePhase (lay : Lay) (flagged : Bool) (stamp change : ℕ) (agree : Tables → Query → Type 0)
    (a b : Memory) (from q q' : List ℕ) : Type 0 where
  pub view : b.head.full ≡ false → (T : Tables) (Q : Query) → agree T Q → (round : ℕ) → stamp ≡ suc (suc round) → change_before Q round ≡ change
      → (s : State) → Before lay stamp T Q a from s → Seen lay stamp T Q b q' (ride_phase T Q flagged round s)
  pub over : b.head.full ≡ true → (T : Tables) (Q : Query) → agree T Q → (round : ℕ) → stamp ≡ suc (suc round) → change_before Q round ≡ change
      → (s : State) → Before lay stamp T Q a from s → length q / 4 < length (ride_phase T Q flagged round s).arrivals.seg_queue
  pub kept : Kept lay a.work b.work
  pub ready : Ready lay stamp b
  pub chains : Chains lay stamp b.work
  pub size : length q' ≡ length q
  pub room : b.head.queued ≤ length q' / 4
