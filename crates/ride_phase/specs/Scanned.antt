-- The departures of a stop that are scanned. Definitions only.
-- Inner: nobody has to believe this.
use Rattle.std.specs.Prelude.{ℕ, ◌/◌, Bool, cond, List, length}
use Rattle.departures.specs.declared.DepartureRow.{DepartureRow}
use Rattle.departures.specs.Departures.{rows_of, departures_of}
use Rattle.model.specs.Tables.{Tables}
use Rattle.model.specs.Search.{not_before}
use Rattle.query_types.specs.declared.QueryCounts.{QueryCounts}
use Rattle.query_input.specs.Lent.{stop_runs, departure_rows}

-- a stop's part of the departures, two numbers each
abbrev pub list_at : List ℕ → QueryCounts → ℕ → List ℕ
list_at built n x = departures_of (stop_runs built n) (departure_rows built n) x

-- the departures in such a part
abbrev pub listed_rows : List ℕ → List DepartureRow
listed_rows list = rows_of list (length list / 2)

-- of departures in order, those that are scanned: from the first on that is not before m; all where the stop is marked
abbrev pub scanned : Tables → Bool → ℕ → List DepartureRow → List DepartureRow
scanned T mark m ds = cond mark ds (not_before T m ds)
