-- What the beginning of a query needs of the lent slices, what a call that fills a section does, and the origins gone through. Definitions only.
-- Inner: nobody has to believe this.
use Rattle.std.specs.Prelude.{ℕ, ◌+◌, ◌*◌, ◌≤◌, ◌<◌, ◌≡◌, List, length, get_or, Float}
use Rattle.loops.specs.Count.{tab}
use Rattle.door.specs.Door.{time_limit}
use Rattle.tables.specs.Sane.{Sane}
use Rattle.line_layout.specs.Listed.{LinesListed}
use Rattle.model.specs.Tables.{Tables, Query}
use Rattle.model.specs.Search.{access}
use Rattle.query_types.specs.declared.Lay.{Lay}
use Rattle.search_state.specs.Places.{Sized, Walks, Same, EgressTable}
use Rattle.search_state.specs.View.{Memory, arrivals_of, Written}
use Rattle.search_begin.specs.Fill.{EgressRows}
use Rattle.query_types.specs.declared.QueryCounts.{QueryCounts}
use Rattle.query_input.specs.Lent.{marks_at, egress_at, query_size, line_runs, line_entries, origin_at}
use Rattle.query_input.specs.Sane.{Limits}
use Rattle.query_types.specs.Layout.{lay_of}

-- the lines that the building calls wrote are as the door leaves them
pub record LinesIn (n : QueryCounts) (built : List ℕ) : Type 0 where
  pub limits : Limits n
  pub marks : marks_at n ≤ length built
  pub lines : LinesListed n.timetable n.lines (line_runs built n) (line_entries built n)

-- all that laying out reads
pub record Layable (n : QueryCounts) (t built q : List ℕ) : Type 0 where
  pub lines : LinesIn n built
  pub sane : Sane t n.timetable
  pub query : query_size n ≤ length q
  pub egress : EgressRows (lay_of n) q (egress_at n) n.egress

-- the n numbers from a on are f 0, f 1, ..; all else is as it came
pub record Put (a n : ℕ) (f : ℕ → ℕ) (w w' : List ℕ) : Type 0 where
  pub size : length w' ≡ length w
  pub inside : (i : ℕ) → i < n → get_or w' (a + i) 0 ≡ f i
  pub below : (i : ℕ) → i < a → get_or w' i 0 ≡ get_or w i 0
  pub above : (i : ℕ) → a + n ≤ i → get_or w' i 0 ≡ get_or w i 0

-- the origins are there, their stops below the count, their walks and the start at most 1,048,575 seconds
pub record Origins (n : QueryCounts) (stops : ℕ) (q : List ℕ) (distances : ℕ) : Type 0 where
  pub few : n.origins ≤ 64
  pub edges : n.timetable.edges ≤ 65536
  pub room : 7 + n.origins * 2 ≤ length q
  pub metres : n.timetable.edges + n.origins ≤ distances
  pub start : get_or q 0 0 ≤ time_limit
  pub stop : (k : ℕ) → k < n.origins → get_or q (7 + k * 2) 0 < stops
  pub walk : (k : ℕ) → k < n.origins → get_or q (7 + 1 + k * 2) 0 ≤ time_limit

-- ACCESS in memory, from a to b: all origins gone through as the model does; all else is as it came
pub record Accessed (n : QueryCounts) (q : List ℕ) (distances : List Float) (lay : Lay) (a b : Memory) : Type 0 where
  pub view : (T : Tables) (Q : Query) → EgressTable Q.egress lay a.work → Q.start ≡ get_or q 0 0 → (queue : List ℕ)
      → arrivals_of lay b queue ≡ access T Q (tab (origin_at q distances n) n.origins) (arrivals_of lay a queue)
  pub same : Same lay a.work b.work
  pub sized : Sized lay (length b.work) (length b.labels) (length b.label_distances)
  pub walks : Walks lay b.work
  pub count : b.head.count ≤ a.head.count + n.origins
  pub queued : b.head.queued ≡ a.head.queued
  pub full : b.head.full ≡ a.head.full
  pub written : Written (lay.stops * 13) b.labels b.label_distances
