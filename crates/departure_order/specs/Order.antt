-- The order of listed departures, of which question 6 of a query asks: in the departures of each stop no row is earlier than the one before it, by
-- scheduled times. Equal ones may stand in any order. Definitions only.
use Rattle.std.specs.Prelude.{ℕ, ◌-◌, Bool, List, leb}
use Rattle.loops.specs.Iter.{every_in}
use Rattle.tables.specs.Timetable.{Timetable}
use Rattle.departures.specs.Departures.{row_at, row_departure, departures_of, run_length}

-- in a part of the departures row k is not earlier than the one before it
unfoldable pub not_earlier : Timetable → List ℕ → ℕ → Bool
not_earlier T rows k = leb (row_departure T (row_at rows (k - 1))) (row_departure T (row_at rows k))

unfoldable pub part_order : Timetable → List ℕ → ℕ → Bool
part_order T rows count = every_in (not_earlier T rows) 1 count

-- in the departures of each stop
unfoldable pub departure_order : Timetable → List ℕ → List ℕ → ℕ → Bool
departure_order T runs rows stops = every_in (λ s. part_order T (departures_of runs rows s) (run_length runs s)) 0 stops
