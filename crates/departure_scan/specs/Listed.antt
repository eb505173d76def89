-- What deciding on a listed departure reads besides the tables, and a stop's part of the departures in order. Definitions only.
-- Inner: nobody has to believe this.
use Rattle.std.specs.Prelude.{ℕ, ◌≤◌, ◌<◌, ◌≡◌, List, length, Option, Some}
use Rattle.frequency.specs.declared.BoardedRun.{BoardedRun}
use Rattle.tables.specs.declared.Counts.{Counts}
use Rattle.tables.specs.Timetable.{timetable}
use Rattle.departures.specs.Departures.{row_at, row_departure}
use Rattle.departures.specs.Listed.{RowsKnown}
use Rattle.query_types.specs.declared.Lay.{Lay}
use Rattle.search_state.specs.Places.{WorkSized}
use Rattle.trip_boarding.specs.Reads.{hit_of, Agree}
use Rattle.line_pruning.specs.Books.{Chains}
use Rattle.model.specs.Tables.{Tables, Query}
use Rattle.model.specs.Search.{board_at}

-- the working numbers with the chains of this round, and each trip's line
pub record RoundChains (lay : Lay) (stamp : ℕ) (c : Counts) (built w : List ℕ) : Type 0 where
  pub sized : WorkSized lay (length w)
  pub chains : Chains lay stamp w
  pub trips : c.trips ≡ lay.trips
  pub lines : lay.trips ≤ length built

-- n departures of a stop, none earlier than one before it
pub record RowsOrdered (t : List ℕ) (c : Counts) (rows : List ℕ) (n : ℕ) : Type 0 where
  pub known : RowsKnown t c rows n
  pub order : (i j : ℕ) → i ≤ j → j < n → row_departure (timetable t c) (row_at rows i) ≤ row_departure (timetable t c) (row_at rows j)

-- how it is boarded, if it is, is how the trip is boarded there (`board_at`), for all tables and queries that agree
pub record AsBoarded (t : List ℕ) (c : Counts) (rows stop_rows : List ℕ) (adj : Option ℕ) (trip off after : ℕ) (r : Option BoardedRun) : Type 0 where
  pub at : (b : BoardedRun) → r ≡ Some b → (T : Tables) (Q : Query) → Agree T Q t c rows stop_rows → board_at T Q (hit_of adj) trip off after ≡ Some b
