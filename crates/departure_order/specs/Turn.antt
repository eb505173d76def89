-- Questions 4 and 6 of listed departures asked in one pass, each row read once: what the functions of that pass give. Definitions only.
-- Inner: nobody has to believe this.
use Rattle.std.specs.Prelude.{ℕ, ◌+◌, ◌≤◌, ◌<◌, ◌≡◌, true, List}
use Rattle.tables.specs.declared.Counts.{Counts}
use Rattle.tables.specs.Tables.{stop_of}
use Rattle.tables.specs.Timetable.{timetable}
use Rattle.departures.specs.declared.DepartureRow.{DepartureRow}
use Rattle.departures.specs.Departures.{row_at, row_departure}
use Rattle.departures.specs.Listed.{RowKnown, RowsListed}
use Rattle.departure_order.specs.Order.{departure_order}

-- a row of stop s is right, and leaves at b
pub record Leaving (t : List ℕ) (c : Counts) (s : ℕ) (r : DepartureRow) (b : ℕ) : Type 0 where
  pub known : RowKnown t c r
  pub at : stop_of t c r.trip r.offset ≡ s
  pub leaves : b ≡ row_departure (timetable t c) r

-- the rows of stop s from first on, up to end, are right, and none is earlier than the one before it
pub record RunRight (t : List ℕ) (c : Counts) (rows : List ℕ) (s first end : ℕ) : Type 0 where
  pub known : (k : ℕ) → first ≤ k → k < end → RowKnown t c (row_at rows k)
  pub at : (k : ℕ) → first ≤ k → k < end → stop_of t c (row_at rows k).trip (row_at rows k).offset ≡ s
  pub rises : (k : ℕ) → first ≤ k → k + 1 < end → row_departure (timetable t c) (row_at rows k) ≤ row_departure (timetable t c) (row_at rows (k + 1))

-- all departures
pub record InTurn (t : List ℕ) (c : Counts) (runs rows : List ℕ) (d : ℕ) : Type 0 where
  pub listed : RowsListed t c runs rows d
  pub order : departure_order (timetable t c) runs rows c.stops ≡ true
