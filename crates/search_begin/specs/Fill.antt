-- Slices filled before a query: the state of a new query, the egress table. Definitions only.
-- Inner: nobody has to believe this.
use Rattle.std.specs.Prelude.{ℕ, ◌+◌, ◌*◌, ◌≤◌, ◌<◌, ◌≡◌, false, List, length, get_or}
use Rattle.loops.specs.Count.{tab}
use Rattle.model.specs.Tables.{Tables, Query, never, stops, trips}
use Rattle.model.specs.Search.{new_arrivals}
use Rattle.query_types.specs.declared.Lay.{Lay}
use Rattle.query_types.specs.declared.Head.{Head}
use Rattle.query_types.specs.Layout.{rest_at, lists_at}
use Rattle.search_state.specs.Places.{EgressTable, Walks}
use Rattle.search_state.specs.View.{Memory, Written, arrivals_of}

-- nothing reached, nothing queued
abbrev pub new_head : Head
new_head = record { best = never; count = 0; queued = 0; full = false }

-- TbrScratch::new: the model's new state, and zero in both lists and all that follows them; every label's record is its row
pub record Fresh (lay : Lay) (a : Memory) : Type 0 where
  pub head : a.head ≡ new_head
  pub view : (T : Tables) (Q : Query) → stops T ≡ lay.stops → trips T ≡ lay.trips → (q : List ℕ) → arrivals_of lay a q ≡ new_arrivals T Q
  pub zero : (i : ℕ) → lists_at lay.stops lay.trips ≤ i → get_or a.work i 0 ≡ 0
  pub written : Written (lay.stops * 13) a.labels a.label_distances

-- n egress stops (stop, duration) in the query's numbers from `first` on
abbrev pub egress_row_from : List ℕ → ℕ → ℕ → ℕ × ℕ
egress_row_from q first k = (get_or q (first + 2 * k) 0, get_or q (first + 2 * k + 1) 0)

unfoldable pub egress_of : List ℕ → ℕ → ℕ → List (ℕ × ℕ)
egress_of q first n = tab (egress_row_from q first) n

-- they are there, their stops below the count, their walks at most 1,048,575 seconds
pub record EgressRows (lay : Lay) (q : List ℕ) (first n : ℕ) : Type 0 where
  pub room : first + 2 * n ≤ length q
  pub stop : (k : ℕ) → k < n → get_or q (first + 2 * k) 0 < lay.stops
  pub walk : (k : ℕ) → k < n → get_or q (first + 2 * k + 1) 0 ≤ 1048575

-- the egress table holds these egress stops, all else is as it came
pub record Egressed (egress : List (ℕ × ℕ)) (lay : Lay) (w w' : List ℕ) : Type 0 where
  pub table : EgressTable egress lay w'
  pub walks : Walks lay w'
  pub size : length w' ≡ length w
  pub below : (i : ℕ) → i < rest_at lay → get_or w' i 0 ≡ get_or w i 0
  pub above : (i : ℕ) → rest_at lay + lay.stops ≤ i → get_or w' i 0 ≡ get_or w i 0
