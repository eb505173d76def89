use Rattle.event_transfers.proofs.Events.{events_again, events_left}
use Rattle.event_transfers.specs.Packed.{event_keys, prepared, area_walk}
use native.Mathlib.Omega.{arith}
use Rattle.event_transfers.proofs.trip_events.Goals as goal

pub loop-off-preserved : goal.loop-off-preserved
loop-off-preserved c =
    (c.loop-off.invariant.0, c.event-m.ensures.bound, omega arith, omega arith, events_again c.args.time c.args.e c.loop-off.off c.trip-count.result (event_keys (prepared c.args.tables.now c.args.c c.args.runs.now c.args.work.now c.args.time) c.args.ti) (area_walk c.loop-off.m c.loop-off.area c.loop-off.transfer_runs) c.loop-off.invariant.4 c.event-m.ensures.area_walk (omega arith))

pub returns-clause-area_walk : goal.returns-clause-area_walk
returns-clause-area_walk c =
    events_left c.args.time c.args.e c.loop-off.off c.trip-count.result (event_keys (prepared c.args.tables.now c.args.c c.args.runs.now c.args.work.now c.args.time) c.args.ti) c.loop-off.invariant.4 (omega arith)
