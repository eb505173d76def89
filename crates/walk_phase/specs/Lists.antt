-- The two lists of reached stops in the walk phase: the ride phase's is read, the other one is filled. Definitions only.
-- Inner: nobody has to believe this.
use Rattle.std.specs.Prelude.{ℕ, suc, ◌+◌, ◌≡◌, Bool, List, ◌∷◌, ◌++◌, length, get_or, eqb}
use Rattle.sorts.specs.Orders.{keep}
use Rattle.model.specs.Tables.{Tables, Query}
use Rattle.model.specs.Search.{Boardings, walk_phase}
use Rattle.query_types.specs.declared.Lay.{Lay}
use Rattle.search_state.specs.Part.{part}
use Rattle.search_state.specs.Places.{Same, earliest_of, stamps_of, reach_of, turned}
use Rattle.search_state.specs.View.{Memory, arrivals_of}
use Rattle.search_state.specs.Step.{Ready}

-- the latest arrival from which a walk is taken: one of at most 104,857,500 seconds ends below 2 to the 27
abbrev pub latest_walker : ℕ
latest_walker = 29360127

-- the stops among these that bear a stamp, in their order
abbrev pub bearing : Lay → ℕ → List ℕ → List ℕ → List ℕ
bearing lay stamp w xs = keep (λ s. eqb (get_or (stamps_of lay w) s 0) stamp) xs

-- these stops are put behind the list; all else is as it came
pub record Appended (lay : Lay) (w w' : List ℕ) (count count' : ℕ) (more : List ℕ) : Type 0 where
  pub earliest : earliest_of lay w' ≡ earliest_of lay w
  pub stamps : stamps_of lay w' ≡ stamps_of lay w
  pub reached : part w' lay.list count' ≡ part w lay.list count ++ more
  pub counted : count' ≡ count + length more
  pub seg_reach : reach_of lay w' ≡ reach_of lay w
  pub same : Same lay w w'

-- how many segments were queued at a round's end enters the log
abbrev pub noted : ℕ → Boardings → Boardings
noted n b =
    record {
      trip_stamp = b.trip_stamp;
      board_offset = b.board_offset;
      board_departure = b.board_departure;
      line_boards = b.line_boards;
      scans = b.scans;
      queued = n ∷ b.queued;
    }

-- THE CONTRACT of the walk phase: what the ride phase left in `lay.list` is read, `lay.other` is filled anew
pub record WalkPhase (lay : Lay) (flagged : Bool) (stamp : ℕ) (agree : Tables → Query → Type 0) (a b : Memory) : Type 0 where
  pub view : (T : Tables) (Q : Query) → agree T Q → (round : ℕ) → stamp ≡ suc (suc round) → (q : List ℕ) (s : Boardings)
      → record { arrivals = arrivals_of (turned lay) b q; boardings = noted b.head.queued s }
      ≡ walk_phase T Q flagged round (record { arrivals = arrivals_of lay a q; boardings = s })
  pub same : Same (turned lay) a.work b.work
  pub ready : Ready (turned lay) stamp b
  pub queued : b.head.queued ≡ a.head.queued
  pub full : b.head.full ≡ a.head.full
