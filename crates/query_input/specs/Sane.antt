-- What a yes to each question gives. Definitions only.
-- Inner: nobody has to believe this.
use Rattle.std.specs.Prelude.{ℕ, ◌+◌, ◌*◌, ◌≤◌, ◌<◌, ◌≡◌, List, length, get_or}
use Rattle.door.specs.Door.{time_limit}
use Rattle.door.specs.Settings.{SettingsIn}
use Rattle.tables.specs.Timetable.{timetable}
use Rattle.tables.specs.Sane.{CountsOk, SlicesOk, RunsOk, NumbersOk, RangesOk, OrderOk}
use Rattle.departures.specs.Listed.{RunsListed, RowsListed}
use Rattle.departures.specs.Departures.{row_at, row_departure, run_length, departures_of}
use Rattle.line_layout.specs.Listed.{LinesListed}
use Rattle.delay_lookup.specs.Sane.{Delays}
use Rattle.query_types.specs.declared.QueryCounts.{QueryCounts}
use Rattle.query_types.specs.declared.Lengths.{Lengths}
use Rattle.query_input.specs.Lent.{marks_at, event_count, built_size, egress_at, query_size, line_runs, line_entries, stop_runs, departure_rows}
use Rattle.query_input.specs.Lent.{delays_of, transfer_run_at, transfer_rows, Lent}
use Rattle.query_types.specs.Layout.{work_size_of}

-- 1
pub record Limits (n : QueryCounts) : Type 0 where
  pub counts : CountsOk n.timetable
  pub cells : n.cells ≤ 512
  pub patterns : n.patterns ≤ 4096
  pub lines : n.lines ≤ 4096
  pub entries : n.entries ≤ 4096
  pub departures : n.departures ≤ 65536
  pub transfers : n.transfers ≤ 65536
  pub delays : n.delays ≤ 4096
  pub stop_rows : n.stop_rows ≤ 4096
  pub origins : n.origins ≤ 64
  pub egress : n.egress ≤ 64

-- 2, of what is read
pub record ReadSized (t : List ℕ) (n : QueryCounts) (built q : ℕ) : Type 0 where
  pub slices : SlicesOk t n.timetable
  pub built_is : built ≡ built_size t n
  pub query_is : q ≡ query_size n

-- 2, of the rest
pub record Lengthy (n : QueryCounts) (patterns distances : ℕ) (l : Lengths) : Type 0 where
  pub patterns_is : patterns ≡ n.patterns * 64
  pub distances_is : distances ≡ n.timetable.edges + n.origins
  pub labels : l.labels ≡ n.timetable.stops * 13 * 8
  pub label_distances : l.label_distances ≡ n.timetable.stops * 13
  pub work : l.work ≡ work_size_of n
  pub queue : l.queue_a ≡ l.queue_b
  pub candidates : l.candidates ≡ 39

-- 3
pub record Placed (t built : List ℕ) (n : QueryCounts) (rows : ℕ) : Type 0 where
  pub trips : RunsOk t n.timetable
  pub stops : RunsListed n.timetable (stop_runs built n) n.departures
  pub transfers : (e : ℕ) → e < event_count t n → (transfer_run_at built n e).first + (transfer_run_at built n e).length ≤ rows

-- 4
pub record Numbered (t built q : List ℕ) (n : QueryCounts) : Type 0 where
  pub numbers : NumbersOk t n.timetable
  pub listed : RowsListed t n.timetable (stop_runs built n) (departure_rows built n) n.departures
  pub line : (i : ℕ) → i < n.timetable.trips → get_or built i 0 < n.lines
  pub origin : (k : ℕ) → k < n.origins → get_or q (7 + k * 2) 0 < n.timetable.stops
  pub egress : (k : ℕ) → k < n.egress → get_or q (egress_at n + k * 2) 0 < n.timetable.stops

-- 5
pub record Ranged (t built transfers q : List ℕ) (n : QueryCounts) (rows : ℕ) : Type 0 where
  pub ranges : RangesOk t n.timetable
  pub mark : (s : ℕ) → s < n.timetable.stops → get_or built (marks_at n + s) 0 ≤ 1
  pub transfer : (k : ℕ) → k < rows → get_or transfers (k * 4 + 2) 0 ≤ time_limit
  pub start : get_or q 0 0 ≤ time_limit
  pub change : get_or q 1 0 ≤ time_limit
  pub modes : get_or q 4 0 ≤ 127
  pub wheelchair : get_or q 5 0 ≤ 1
  pub switch : get_or q 6 0 ≤ 1
  pub origin : (k : ℕ) → k < n.origins → get_or q (7 + 1 + k * 2) 0 ≤ time_limit
  pub egress : (k : ℕ) → k < n.egress → get_or q (egress_at n + 1 + k * 2) 0 ≤ time_limit

-- 6
pub record Ordered (t built q : List ℕ) (n : QueryCounts) : Type 0 where
  pub edges : OrderOk t n.timetable
  pub departures : (s k : ℕ) → s < n.timetable.stops → k + 1 < run_length (stop_runs built n) s
      → row_departure (timetable t n.timetable) (row_at (departures_of (stop_runs built n) (departure_rows built n) s) k)
      ≤ row_departure (timetable t n.timetable) (row_at (departures_of (stop_runs built n) (departure_rows built n) s) (k + 1))
  pub egress : (k : ℕ) → k + 1 < n.egress → get_or q (egress_at n + k * 2) 0 < get_or q (egress_at n + (k + 1) * 2) 0

-- ALL OF THEM: what is lent is as the query's inner functions need it
pub record Admitted (x : Lent) (l : Lengths) : Type 0 where
  pub limits : Limits x.n
  pub settings : SettingsIn x.n.settings
  pub sized : ReadSized x.t x.n (length x.built) (length x.q)
  pub lengthy : Lengthy x.n (length x.patterns) (length x.distances) l
  pub placed : Placed x.t x.built x.n (transfer_rows x.n (length x.transfers))
  pub numbered : Numbered x.t x.built x.q x.n
  pub ranged : Ranged x.t x.built x.transfers x.q x.n (transfer_rows x.n (length x.transfers))
  pub ordered : Ordered x.t x.built x.q x.n
  pub lines : LinesListed x.n.timetable x.n.lines (line_runs x.built x.n) (line_entries x.built x.n)
  pub delays : Delays x.n.timetable.trips (delays_of x.q x.n)
