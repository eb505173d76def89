use Rattle.tables.specs.Timetable.{timetable}
use Rattle.departures.specs.Departures.{row_at, row_departure}
use Rattle.departure_order.specs.Order.{not_earlier, part_order}
use Rattle.loops.specs.Iter.{every_in}
use mathlib.Core.Path.{◌≡◌}
use Prim.Native.Nat.{◌-◌}
use Rattle.departure_order.proofs.part_order.Given as goal

abbrev pub invariant-loop-k : goal.invariant-loop-k
invariant-loop-k l =
    (l.last ≡ row_departure (timetable l.tables l.c) (row_at l.rows (l.k - 1))) × (part_order (timetable l.tables l.c) l.rows l.count ≡ every_in (not_earlier (timetable l.tables l.c) l.rows) l.k l.count)
