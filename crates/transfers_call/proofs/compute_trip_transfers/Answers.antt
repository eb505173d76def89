use mathlib.Core.Path.{sym, ◌∙◌, refl}
use Rattle.transfers_call.specs.Call.{transfer_lent, transfer_areas}
use Rattle.event_transfers.proofs.Lists.{repeat_room}
use Rattle.transfers_call.proofs.Asking.{admitted, answered}
use lib.ListN.{length}
use Rattle.transfers_call.proofs.compute_trip_transfers.Goals as goal

pub build-requires : goal.build-requires
build-requires c =
    let a = admitted (transfer_lent c.args.settings c.args.tables.now c.args.c c.args.line_count c.args.lines.now c.args.d c.args.runs.now c.args.rows.now) (length c.args.transfer_runs.now) (sym c.in_ok-questions.ensures) in record { transfers_admitted = a; d_bound = repeat_room 65536 c.args.d 0 a.listed.stops.few; d_bound_2 = repeat_room 65536 c.args.d 0 a.listed.stops.few }

pub returns : goal.returns
returns c =
    c.build.ensures ∙ answered (transfer_lent c.args.settings c.args.tables.now c.args.c c.args.line_count c.args.lines.now c.args.d c.args.runs.now c.args.rows.now) (transfer_areas c.args.area.now c.args.transfer_runs.now) 0 c.in_ok-questions.ensures refl
