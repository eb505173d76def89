use Rattle.ride_step.proofs.Keep.{ready_noted}
use Rattle.departure_scan.proofs.Taking.{chained, noted_netted, shift_small, taken_board, taken_none}
use Rattle.ride_step.proofs.Scanned.{riding_on}
use mathlib.Core.Path.{◌∙◌, sym}
use native.Mathlib.Omega.{arith}
use Prim.Native.Nat.{◌-◌}
use Rattle.departure_scan.proofs.take_departure.Goals as goal

pub board_listed-requires : goal.board_listed-requires
board_listed-requires c =
    record { on_ground = c.requires.going.laid.netted.ground; known = c.delay_of-adj.ensures.known; event = c.requires.event; after_bound = c.requires.after_bound; round_chains = chained c.requires.going }

pub returns-in_default : goal.returns-in_default
returns-in_default c =
    taken_none c.requires.going c.args.p.context.flagged c.delay_of-adj.result c.args.at.stop c.args.at.after c.args.d.trip c.args.d.offset (c.args.p.stamp - 2) c.board_listed.result c.board_listed.ensures.meaning c.delay_of-adj.ensures.meaning c.in_default.is

pub note-requires : goal.note-requires
note-requires c =
    record { work_sized = c.requires.going.ready.sized.sections; chains = c.requires.going.chains; trips_bound = (chained c.requires.going).lines; trip_bound = omega (arith, c.requires.event.trip, c.requires.going.laid.netted.trips) }

pub scan_trip_forward-requires : goal.scan_trip_forward-requires
scan_trip_forward-requires c =
    record { netted = noted_netted c.requires.going c.args.p.context.flagged c.delay_of-adj.result c.args.at.stop c.args.at.after c.args.d.trip c.args.d.offset (c.args.p.stamp - 2) c.board_listed.result c.board_listed.ensures.meaning c.delay_of-adj.ensures.meaning _ c.in-Some.is c.note.ensures; riding = riding_on c.requires.going _ _ c.delay_of-adj.ensures.known c.requires.event.trip (shift_small c.requires.going c.args.p.context.flagged c.delay_of-adj.result c.args.at.stop c.args.at.after c.args.d.trip c.args.d.offset (c.args.p.stamp - 2) c.board_listed.result c.board_listed.ensures.meaning c.delay_of-adj.ensures.meaning _ c.in-Some.is c.board_listed.ensures.as_boarded c.requires.event); ready = ready_noted c.requires.going.ready c.note.ensures; is_open = c.requires.going.room }

pub shape_of-work : goal.shape_of-work
shape_of-work c = c.scan_trip_forward.ensures.same.size ∙ c.note.ensures.size

pub shape_of-labels : goal.shape_of-labels
shape_of-labels c = c.scan_trip_forward.ensures.ready.sized.rows ∙ sym c.requires.going.ready.sized.rows

pub shape_of-label_distances : goal.shape_of-label_distances
shape_of-label_distances c = c.scan_trip_forward.ensures.ready.sized.metres ∙ sym c.requires.going.ready.sized.metres

pub shape_of-queue : goal.shape_of-queue
shape_of-queue c = c.scan_trip_forward.ensures.size

pub returns : goal.returns
returns c =
    taken_board c.requires.going c.args.p.context.flagged c.delay_of-adj.result c.args.at.stop c.args.at.after c.args.d.trip c.args.d.offset (c.args.p.stamp - 2) c.board_listed.result c.board_listed.ensures.meaning c.delay_of-adj.ensures.meaning _ c.in-Some.is c.note.ensures c.scan_trip_forward.ensures
