-- What a call does to a query's state. Definitions only.
-- Inner: nobody has to believe this.
use Rattle.std.specs.Prelude.{ℕ, ◌+◌, ◌-◌, ◌*◌, ◌/◌, ◌≤◌, ◌<◌, ◌≡◌, true, false, cond, not, ◌&&◌, List, [], ◌∷◌, ◌++◌, length, get_or, set, eqb, ltb}
use Rattle.tables.specs.declared.Counts.{Counts}
use Rattle.tables.specs.Tables.{count_of}
use Rattle.tables.specs.Sane.{Sane}
use Rattle.model.specs.Tables.{Tables, Query}
use Rattle.model.specs.Search.{Arrivals}
use Rattle.query_types.specs.Layout.{list_room}
use Rattle.query_types.specs.declared.Lay.{Lay}
use Rattle.query_types.specs.declared.Ride.{Ride}
use Rattle.search_state.specs.Part.{part}
use Rattle.search_state.specs.Places.{Sized, Same, Counted, Grown, Walks, earliest_of, stamps_of, reach_of}
use Rattle.search_state.specs.View.{Memory, Written, arrivals_of}

-- a stamp is a round + 2, of at most 12 rounds; its label's row is the stamp - 1
pub record Stamp (stamp : ℕ) : Type 0 where
  pub low : 2 ≤ stamp
  pub high : stamp ≤ 13

-- a state in which a stop may be reached under this stamp
pub record Ready (lay : Lay) (stamp : ℕ) (a : Memory) : Type 0 where
  pub sized : Sized lay (length a.work) (length a.labels) (length a.label_distances)
  pub walks : Walks lay a.work
  pub counted : Counted lay stamp a.work a.head.count
  pub round : Stamp stamp
  pub written : Written (lay.stops * 13) a.labels a.label_distances

-- THE CONTRACT of a call that queues no segment: it takes the state from a to b as f takes the model's, for all tables and queries
-- that agree with what it reads; all else in memory is as it came
pub record Step (lay : Lay) (stamp : ℕ) (agree : Tables → Query → Type 0) (f : Tables → Query → Arrivals → Arrivals) (a b : Memory) : Type 0 where
  pub view : (T : Tables) (Q : Query) → agree T Q → (q : List ℕ) → arrivals_of lay b q ≡ f T Q (arrivals_of lay a q)
  pub same : Same lay a.work b.work
  pub ready : Ready lay stamp b
  pub grown : Grown lay stamp a.work b.work a.head.count b.head.count
  pub queued : b.head.queued ≡ a.head.queued
  pub full : b.head.full ≡ a.head.full

-- THE CONTRACT of a call that may queue segments, from queue q to q': where all fit, it is f; where one does not (question 8), f queues
-- more segments than q has whole rows
pub record QueueStep (lay : Lay) (stamp : ℕ) (agree : Tables → Query → Type 0) (f : Tables → Query → Arrivals → Arrivals)
    (a b : Memory) (q q' : List ℕ) : Type 0 where
  pub view : b.head.full ≡ false → (T : Tables) (Q : Query) → agree T Q → arrivals_of lay b q' ≡ f T Q (arrivals_of lay a q)
  pub over : b.head.full ≡ true → (T : Tables) (Q : Query) → agree T Q → length q / 4 < length (f T Q (arrivals_of lay a q)).seg_queue
  pub same : Same lay a.work b.work
  pub ready : Ready lay stamp b
  pub grown : Grown lay stamp a.work b.work a.head.count b.head.count
  pub size : length q' ≡ length q
  pub room : b.head.queued ≤ length q' / 4

-- the state while the origins are gone through: the list has room for one more
pub record Starting (lay : Lay) (a : Memory) : Type 0 where
  pub sized : Sized lay (length a.work) (length a.labels) (length a.label_distances)
  pub walks : Walks lay a.work
  pub room : a.head.count < list_room lay.stops
  pub written : Written (lay.stops * 13) a.labels a.label_distances

-- THE CONTRACT of one origin
pub record StartStep (lay : Lay) (agree : Tables → Query → Type 0) (f : Tables → Query → Arrivals → Arrivals) (a b : Memory) : Type 0 where
  pub view : (T : Tables) (Q : Query) → agree T Q → (q : List ℕ) → arrivals_of lay b q ≡ f T Q (arrivals_of lay a q)
  pub same : Same lay a.work b.work
  pub sized : Sized lay (length b.work) (length b.labels) (length b.label_distances)
  pub walks : Walks lay b.work
  pub count : b.head.count ≤ a.head.count + 1
  pub queued : b.head.queued ≡ a.head.queued
  pub full : b.head.full ≡ a.head.full
  pub written : Written (lay.stops * 13) b.labels b.label_distances

-- the best total after an arrival at v at a stop with this number in the egress table
unfoldable pub best_by : ℕ → ℕ → ℕ → ℕ
best_by g v b = cond (not (eqb g 0) && ltb (v + (g - 1)) b) (v + (g - 1)) b

-- stop s, reached at v, stamped and put at the end of the list
pub record Entered (lay : Lay) (stamp s v : ℕ) (w w' : List ℕ) (count : ℕ) : Type 0 where
  pub earliest : earliest_of lay w' ≡ set (earliest_of lay w) s v
  pub stamps : stamps_of lay w' ≡ set (stamps_of lay w) s stamp
  pub reached : part w' lay.list (count + 1) ≡ part w lay.list count ++ (s ∷ [])
  pub seg_reach : reach_of lay w' ≡ reach_of lay w
  pub same : Same lay w w'

-- `improve` on the working numbers: stop s, reached at v, enters the list where its stamp is new
pub record Marked (lay : Lay) (stamp s v : ℕ) (w w' : List ℕ) (count count' : ℕ) : Type 0 where
  pub earliest : earliest_of lay w' ≡ set (earliest_of lay w) s v
  pub stamps : stamps_of lay w' ≡ cond (not (eqb (get_or (stamps_of lay w) s 0) stamp)) (set (stamps_of lay w) s stamp) (stamps_of lay w)
  pub reached : part w' lay.list count'
      ≡ cond (not (eqb (get_or (stamps_of lay w) s 0) stamp)) (part w lay.list count ++ (s ∷ [])) (part w lay.list count)
  pub seg_reach : reach_of lay w' ≡ reach_of lay w
  pub same : Same lay w w'
  pub counted : Counted lay stamp w' count'
  pub grown : Grown lay stamp w w' count count'

-- what an alighting needs of the ride: the trip's stop time at offset p is there
pub record AlightAt (t : List ℕ) (c : Counts) (lay : Lay) (ride : Ride) (p : ℕ) : Type 0 where
  pub sane : Sane t c
  pub stops : c.stops ≡ lay.stops
  pub trip : ride.trip < c.trips
  pub offset : p < count_of t c ride.trip
