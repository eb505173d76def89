use Rattle.tables.specs.Timetable.{timetable}
use Rattle.departures.specs.Departures.{row_at, row_departure}
use mathlib.Core.Path.{◌≡◌}
use Prim.Native.Nat.{◌+◌, ◌≤◌, ℕ}
use Rattle.departure_order.specs.Turn.{RunRight}
use Rattle.departure_order.proofs.run_right.Given as goal

abbrev pub invariant-loop-k : goal.invariant-loop-k
invariant-loop-k l = RunRight l.tables l.c l.rows l.s l.first l.k × ((j : ℕ) → j + 1 ≡ l.k → l.first ≤ j → l.last ≡ row_departure (timetable l.tables l.c) (row_at l.rows j))
