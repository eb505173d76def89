-- One round in memory: the model's state before it, and after it. Definitions only.
-- Inner: nobody has to believe this.
use Rattle.std.specs.Prelude.{ℕ, zero, suc, ◌+◌, ◌*◌, ◌/◌, ◌≤◌, ◌<◌, ◌≡◌, Bool, true, false, not, cond, ◌&&◌, ◌||◌, List, length, get_or, eqb, Float}
use Rattle.std.specs.Float.{nan}
use Rattle.tables.specs.Sane.{OrderOk}
use Rattle.model.specs.Tables.{Tables, Query}
use Rattle.model.specs.Door.{Door}
use Rattle.model.specs.Search.{State, ride_phase, walk_phase, begin, rounds, final, overflows}
use Rattle.query_types.specs.Layout.{list_room}
use Rattle.query_types.specs.declared.Head.{Head}
use Rattle.search_state.specs.Places.{Sized, Walks, turned}
use Rattle.search_state.specs.View.{Memory, arrivals_of, Written}
use Rattle.line_pruning.specs.Books.{Chains, Books}
use Rattle.ride_step.specs.Laid.{Rides, Laid}
use Rattle.query_types.specs.Slices.{Slices}
use Rattle.query_types.specs.declared.Context.{Context}

-- the model's state before round r, where no round before it was idle
unfoldable pub state_at : Tables → Query → Bool → ℕ → State
state_at T Q flagged zero = begin T Q
state_at T Q flagged (suc r) = walk_phase T Q flagged r (ride_phase T Q flagged r (state_at T Q flagged r))

-- no stop is left to board at and, flagged, no segment to ride
abbrev pub idle_head : Bool → Head → Bool
idle_head flagged h = eqb h.count 0 && (not flagged || eqb h.queued 0)

-- the half of the queue that a round reads, and the one that it fills: of an even round the first is read
abbrev pub read : Bool → List ℕ → List ℕ → List ℕ
read even a b = cond even a b

abbrev pub filled : Bool → List ℕ → List ℕ → List ℕ
filled even a b = cond even b a

-- tables and a query that the door admits, with these walk edges and this change time
pub record Fed (ctx : Context) (sl : Slices) (distances : List Float) (T : Tables) (Q : Query) : Type 0 where
  pub door : Door T Q
  pub order : OrderOk sl.tables ctx.counts.timetable
  pub long : ctx.counts.timetable.edges ≤ length distances
  pub distance : (e : ℕ) → e < ctx.counts.timetable.edges → T.distance e ≡ get_or distances e nan
  pub changes : Q.change ≡ ctx.change

-- what holds of memory between the rounds, whether or not all segments fitted
pub record Between (ctx : Context) (sl : Slices) (a : Memory) : Type 0 where
  pub laid : Laid ctx sl a.work
  pub sized : Sized ctx.lay (length a.work) (length a.labels) (length a.label_distances)
  pub walks : Walks ctx.lay a.work
  pub written : Written (ctx.lay.stops * 13) a.labels a.label_distances

-- BEFORE ROUND r memory holds the model's state: its stops in `lay.other`, its segments in q; all segments of the rounds before fitted
pub record Holds (ctx : Context) (sl : Slices) (T : Tables) (Q : Query) (r : ℕ) (a : Memory) (q : List ℕ) : Type 0 where
  pub rides : Rides ctx sl a.work T Q
  pub view : (state_at T Q ctx.flagged r).arrivals ≡ arrivals_of (turned ctx.lay) a q
  pub books : Books ctx.lay (suc r) T Q a.work (state_at T Q ctx.flagged r).boardings
  pub chains : Chains ctx.lay (suc r) a.work
  pub few : a.head.count ≤ list_room ctx.lay.stops
  pub room : a.head.queued ≤ length q / 4
  pub fits : overflows (length q / 4) (state_at T Q ctx.flagged r).boardings.queued ≡ false

-- memory holds that state, or question 8 is answered no by then
pub record Reached (ctx : Context) (sl : Slices) (T : Tables) (Q : Query) (r : ℕ) (a : Memory) (q : List ℕ) : Type 0 where
  pub on : a.head.full ≡ false → Holds ctx sl T Q r a q
  pub over : a.head.full ≡ true → overflows (length q / 4) (state_at T Q ctx.flagged r).boardings.queued ≡ true

-- some tables and query are so before round r, which has room for so many numbers
pub record BeforeRound (ctx : Context) (sl : Slices) (distances : List Float) (r : ℕ) (a : Memory) (q : List ℕ) (room : ℕ) : Type 0 where
  pub between : Between ctx sl a
  pub T : Tables
  pub Q : Query
  pub fed : Fed ctx sl distances T Q
  pub holds : Holds ctx sl T Q r a q
  pub early : r < 12
  pub halves : length q ≡ room

-- THE CONTRACT of a round, which reads `from` and fills q
pub record Round (ctx : Context) (sl : Slices) (distances : List Float) (r : ℕ) (a b : Memory) (from q q' : List ℕ) : Type 0 where
  pub between : Between ctx sl b
  pub view : (T : Tables) (Q : Query) → Fed ctx sl distances T Q → Holds ctx sl T Q r a from
      → Reached ctx sl T Q (suc r) b q'
  pub size : length q' ≡ length q

-- while the rounds run: before round r, as many rounds to come as the limit leaves; both halves of the queue have `size` numbers
pub record Running (ctx : Context) (sl : Slices) (T : Tables) (Q : Query) (limit r : ℕ) (even : Bool) (size : ℕ) (a : Memory)
    (qa qb : List ℕ) : Type 0 where
  pub between : Between ctx sl a
  pub reached : Reached ctx sl T Q r a (read even qa qb)
  pub onward : (k : ℕ) → r + k ≡ limit → rounds T Q ctx.flagged k r (state_at T Q ctx.flagged r) ≡ final T Q ctx.flagged
  pub few : r ≤ limit
  pub first : length qa ≡ size
  pub second : length qb ≡ size
