use Rattle.event_transfers.proofs.Events.{most_again, most_event, most_left}
use Rattle.event_transfers.specs.Packed.{event_keys, prepared}
use native.Mathlib.Omega.{arith}
use Rattle.event_transfers.proofs.most_trip.Goals as goal

pub loop-off-preserved : goal.loop-off-preserved
loop-off-preserved c =
    (c.loop-off.invariant.0, c.loop-off.invariant.1, most_again (event_keys (prepared c.args.tables.now c.args.c c.args.runs.now c.args.work.now c.args.time) c.args.ti) c.args.n _ c.loop-off.off c.trip-count.result c.loop-off.m c.most_alight-m.result c.loop-off.invariant.2 (most_event (prepared c.args.tables.now c.args.c c.args.runs.now c.args.work.now c.args.time) c.args.ti c.loop-off.off c.trip-first.result c.loop-off.m c.most_alight-m.result c.loop-off.invariant.1 (c.most_alight-m.ensures c.args.ti)) (omega arith))

pub returns : goal.returns
returns c =
    most_left (event_keys (prepared c.args.tables.now c.args.c c.args.runs.now c.args.work.now c.args.time) c.args.ti) c.args.n _ c.loop-off.off c.trip-count.result c.loop-off.m c.loop-off.invariant.2 (omega arith)
