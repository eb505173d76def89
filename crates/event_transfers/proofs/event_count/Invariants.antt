use Rattle.event_transfers.specs.Transfers.{events_before}
use Rattle.tables.specs.Timetable.{timetable}
use mathlib.Core.Path.{◌≡◌}
use Prim.Native.Nat.{◌*◌, ◌≤◌}
use Rattle.event_transfers.proofs.event_count.Given as goal

abbrev pub invariant-loop-i : goal.invariant-loop-i
invariant-loop-i l = (l.e ≡ events_before (timetable l.tables l.c) l.i) × (l.e ≤ l.i * 4294967296)
