use Rattle.event_transfers.specs.Transfers.{events_before}
use Rattle.tables.specs.Timetable.{timetable}
use native.Mathlib.Omega.{arith}
use Rattle.event_transfers.proofs.Counting.{events_step}
use mathlib.Core.Path.{refl}
use Rattle.event_transfers.proofs.event_count.Goals as goal

pub loop-i-init : goal.loop-i-init
unfolding events_before
loop-i-init c = (refl, omega arith)

pub loop-i-preserved : goal.loop-i-preserved
loop-i-preserved c = (omega (arith, c.loop-i.invariant.0, c.trip-e.ensures.value, events_step (timetable c.args.tables.now c.args.c) c.loop-i.i), omega arith)
