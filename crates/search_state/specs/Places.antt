-- The sections of a query's working numbers (where each begins: `query_types` specs/Layout), and what they have to be. Definitions only.
-- Inner: nobody has to believe this.
use Rattle.std.specs.Prelude.{ℕ, ◌+◌, ◌*◌, ◌≤◌, ◌<◌, ◌≡◌, ◌⊎◌, Bool, true, false, List, length, get_or, drop}
use Rattle.model.specs.Tables.{is_egress, egress_walk}
use Rattle.query_types.specs.declared.Lay.{Lay}
use Rattle.search_state.specs.Part.{part, tally}
use Rattle.query_types.specs.Layout.{stamps_at, reach_at, lists_at, list_room, rest_at, work_size}

-- the numbers of a section
abbrev pub earliest_of : Lay → List ℕ → List ℕ
earliest_of lay w = part w 0 lay.stops

abbrev pub stamps_of : Lay → List ℕ → List ℕ
stamps_of lay w = part w (stamps_at lay) lay.stops

abbrev pub reach_of : Lay → List ℕ → List ℕ
reach_of lay w = part w (reach_at lay) lay.trips

-- so many working numbers as the counts say, and the list being filled and the other one are the two lists
pub record WorkSized (lay : Lay) (work : ℕ) : Type 0 where
  pub stops : lay.stops ≤ 4096
  pub trips : lay.trips ≤ 4096
  pub lines : lay.lines ≤ 4096
  pub words : work ≡ work_size lay
  pub first : lists_at lay.stops lay.trips ≤ lay.list
  pub fits : lay.list + list_room lay.stops ≤ rest_at lay
  pub other_first : lists_at lay.stops lay.trips ≤ lay.other
  pub other_fits : lay.other + list_room lay.stops ≤ rest_at lay
  pub apart : (lay.list + list_room lay.stops ≤ lay.other) ⊎ (lay.other + list_room lay.stops ≤ lay.list)

-- and 13 records a stop: eight words of labels and a distance each
pub record Sized (lay : Lay) (work labels label_distances : ℕ) : Type 0 where
  pub sections : WorkSized lay work
  pub rows : labels ≡ lay.stops * 104
  pub metres : label_distances ≡ lay.stops * 13

-- the same with the two lists exchanged, as from one phase to the next
abbrev pub turned : Lay → Lay
turned lay = record { stops = lay.stops; trips = lay.trips; lines = lay.lines; list = lay.other; other = lay.list }

-- the stop at place i of the other list
abbrev pub other_at : Lay → List ℕ → ℕ → ℕ
other_at lay w i = get_or w (lay.other + i) 0

-- the n stops of the other list: each one of the table's, and reached by `latest`
pub record StopsListed (lay : Lay) (w : List ℕ) (n latest : ℕ) : Type 0 where
  pub few : n ≤ list_room lay.stops
  pub inside : (i : ℕ) → i < n → other_at lay w i < lay.stops
  pub early : (i : ℕ) → i < n → get_or w (other_at lay w i) 0 ≤ latest

-- no stop's earliest arrival is later than it was
pub record Falls (lay : Lay) (w w' : List ℕ) : Type 0 where
  pub earlier : (s : ℕ) → s < lay.stops → get_or w' s 0 ≤ get_or w s 0

-- all else is as it came: the other list, the egress table and what follows it
pub record Same (lay : Lay) (w w' : List ℕ) : Type 0 where
  pub size : length w' ≡ length w
  pub list : part w' lay.other (list_room lay.stops) ≡ part w lay.other (list_room lay.stops)
  pub rest : drop (rest_at lay) w' ≡ drop (rest_at lay) w

-- a list has no more stops than bear this stamp: so it never outgrows its section
pub record Counted (lay : Lay) (stamp : ℕ) (w : List ℕ) (count : ℕ) : Type 0 where
  pub fits : count ≤ tally stamp (stamps_of lay w)

-- by how much the list grew, so many stops more bear the stamp
pub record Grown (lay : Lay) (stamp : ℕ) (w w' : List ℕ) (count count' : ℕ) : Type 0 where
  pub by : count' + tally stamp (stamps_of lay w) ≤ count + tally stamp (stamps_of lay w')

-- the number of the egress table for a stop: 0 for no egress stop, else its walk + 1
abbrev pub egress_word : Bool → ℕ → ℕ
egress_word true d = d + 1
egress_word false d = 0

abbrev pub table_word : Lay → List ℕ → ℕ → ℕ
table_word lay w s = get_or w (rest_at lay + s) 0

-- the egress table holds these egress stops
pub record EgressTable (egress : List (ℕ × ℕ)) (lay : Lay) (w : List ℕ) : Type 0 where
  pub at : (s : ℕ) → s < lay.stops → table_word lay w s ≡ egress_word (is_egress egress s) (egress_walk egress s)

-- its walks are at most 1,048,575 seconds
pub record Walks (lay : Lay) (w : List ℕ) : Type 0 where
  pub small : (s : ℕ) → s < lay.stops → table_word lay w s ≤ 1048576
