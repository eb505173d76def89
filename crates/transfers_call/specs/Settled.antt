-- What the call answers and writes, said of the numbers that the code sorts. Inner: the call's outcome does not speak of it. Definitions only.
-- Inner: nobody has to believe this.
use Rattle.std.specs.Prelude.{min, cond, length}
use mathlib.Core.List.{flatten}
use Rattle.door.specs.Door.{refusal, success}
use Rattle.transfers_call.specs.Call.{TransferAreas, TransfersOutcome, transfer_areas, transfers_outcome_of, room_ok}
use Rattle.event_transfers.specs.Packed.{Prepared, AreaWalk, area_walk, all_keys, lay_events}

-- what is answered and written, from the numbers: counted no further than 65,537, then written
abbrev pub walk_areas : AreaWalk → TransferAreas
walk_areas w = transfer_areas w.area w.evs

unfoldable pub settled_keys : Prepared → TransferAreas → TransfersOutcome
settled_keys p s =
    cond (room_ok (min (length (flatten (all_keys p))) 65537) (length s.area))
    (transfers_outcome_of (success (min (length (flatten (all_keys p))) 65537))
    (walk_areas (lay_events p.time 0 (all_keys p) (area_walk 0 s.area s.transfer_runs))))
    (transfers_outcome_of (refusal 7) s)
