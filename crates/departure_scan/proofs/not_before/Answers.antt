use Rattle.departure_scan.proofs.Tail.{handed_ordered, handed_rows}
use Rattle.departure_scan.proofs.not_before.Goals as goal

pub returns : goal.returns
returns c =
    record { rows_ordered = handed_ordered _ _ _ _ c.args.m _ c.requires c.first_not_before-from.ensures _ c.departures_of.ensures; meaning = handed_rows _ _ _ _ c.args.m _ c.requires c.first_not_before-from.ensures _ c.departures_of.ensures }
