use Rattle.event_transfers.proofs.Events.{total_is}
use Rattle.event_transfers.proofs.total.Goals as goal

pub returns : goal.returns
returns c = total_is _ _ _ _ _ _ _ c.all_events.ensures.area_walk
