use Rattle.transfers_call.proofs.Written.{settle_most, settle_yes}
use Rattle.event_transfers.specs.Packed.{prepared}
use Rattle.transfers_call.specs.Call.{transfer_areas}
use Rattle.transfers_call.proofs.settle.Goals as goal

pub returns-then-room_ok : goal.returns-then-room_ok
returns-then-room_ok c =
    settle_most (prepared c.args.tables.now c.args.c c.args.runs.now c.args.work.now c.args.time) (transfer_areas c.args.area.now c.args.transfer_runs.now) _ _ _ _ _ c.most_all-most.ensures c.room_ok.ensures c.if-room_ok.true c.all_events-m.ensures.area_walk

pub returns : goal.returns
returns c =
    settle_yes (prepared c.args.tables.now c.args.c c.args.runs.now c.args.work.now c.args.time) (transfer_areas c.args.area.now c.args.transfer_runs.now) _ _ _ _ _ c.total-n.ensures c.room_ok-2.ensures c.in_ok-ask.ensures c.all_events.ensures.area_walk
