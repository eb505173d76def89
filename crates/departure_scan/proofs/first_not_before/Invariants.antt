use Rattle.tables.specs.Timetable.{timetable}
use Rattle.departures.specs.Departures.{row_at, row_departure}
use lib.ListN.{length}
use lib.Dec.{leb}
use Prim.Native.Nat.{◌-◌, ◌/◌}
use Rattle.loops.specs.Order.{Halved}
use Rattle.departure_scan.proofs.first_not_before.Given as goal

abbrev pub invariant-loop-lo : goal.invariant-loop-lo
invariant-loop-lo l = Halved (λ i. leb l.m (row_departure (timetable l.tables l.c) (row_at l.list i))) (length l.list / 2) l.lo l.hi

abbrev pub decreases-loop-lo : goal.decreases-loop-lo
decreases-loop-lo l = l.hi - l.lo
