-- Questions 4 to 6 asked at once, each stop time and each listed departure read once: what the functions of that pass answer, and what their
-- yes gives. The questions themselves are in Door. Definitions only.
-- Inner: nobody has to believe this.
use Rattle.std.specs.Prelude.{ℕ, ◌≡◌, Bool, true, ◌&&◌, List}
use Rattle.tables.specs.Door.{numbers_ok, ranges_ok, order_ok}
use Rattle.delay_rows.specs.Door.{delay_numbers, delay_ranges, delay_order}
use Rattle.query_types.specs.declared.QueryCounts.{QueryCounts}
use Rattle.query_input.specs.Lent.{delays_of}
use Rattle.query_door.specs.Door.{line_numbers, query_numbers, query_question4, mark_ranges, transfer_ranges, query_ranges, walk_ranges}
use Rattle.query_door.specs.Door.{query_question5, egress_order, query_question6}

-- the query's numbers
unfoldable pub query_ok : List ℕ → QueryCounts → Bool
query_ok q n =
    (query_numbers q n && delay_numbers n.timetable.trips (delays_of q n))
    && ((query_ranges q && (walk_ranges q n && delay_ranges (delays_of q n))) && (egress_order q n && delay_order (delays_of q n)))

-- the tables but for the departures
unfoldable pub tables_ok : List ℕ → List ℕ → List ℕ → QueryCounts → ℕ → Bool
tables_ok t built transfers n rows =
    ((numbers_ok t n.timetable && ranges_ok t n.timetable) && order_ok t n.timetable)
    && (line_numbers built n && (mark_ranges built n && transfer_ranges transfers rows))

-- a yes to all three
pub record Passed (t built transfers q : List ℕ) (n : QueryCounts) (rows : ℕ) : Type 0 where
  pub numbers : query_question4 t built q n ≡ true
  pub ranges : query_question5 t built transfers q n rows ≡ true
  pub order : query_question6 t built q n ≡ true
