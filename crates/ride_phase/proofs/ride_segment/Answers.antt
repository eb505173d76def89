use Rattle.ride_phase.proofs.Segmented.{segment_barred, segment_ready, segment_ridden, segment_riding, segment_trip}
use mathlib.Core.Path.{◌∙◌, sym}
use Prim.Native.Nat.{◌-◌}
use mathlib.Core.Path.{ap}
use mathlib.Core.Bool.{not}
use Rattle.ride_phase.proofs.ride_segment.Goals as goal

pub permitted-requires : goal.permitted-requires
permitted-requires c =
    record { sane = c.requires.going.laid.netted.ground.sane; i_bound = segment_trip c.requires.going c.args.p.context.flagged (c.args.p.stamp - 2) c.args.k c.args.from.now c.requires.segments c.ride_of-ride.result c.ride_of-ride.ensures }

pub returns-then-not-permitted : goal.returns-then-not-permitted
returns-then-not-permitted c =
    segment_barred c.requires.going c.args.p.context.flagged (c.args.p.stamp - 2) c.args.k c.args.from.now c.requires.segments c.ride_of-ride.result c.ride_of-ride.ensures c.permitted.result c.permitted.ensures (ap not c.if-not-permitted.true)

pub delay_of-adj-requires : goal.delay_of-adj-requires
delay_of-adj-requires c = c.requires.going.laid.netted.ground.delay_rows

pub scan_trip_forward-requires : goal.scan_trip_forward-requires
scan_trip_forward-requires c =
    record { netted = c.requires.going.laid.netted; riding = segment_riding c.requires.going c.args.p.context.flagged (c.args.p.stamp - 2) c.args.k c.args.from.now c.requires.segments c.ride_of-ride.result c.ride_of-ride.ensures c.delay_of-adj.result c.delay_of-adj.ensures.known; ready = segment_ready c.requires.going c.args.p.context.flagged (c.args.p.stamp - 2) c.args.k c.args.from.now c.requires.segments c.ride_of-ride.result c.ride_of-ride.ensures; is_open = c.requires.going.room }

pub shape_of-work : goal.shape_of-work
shape_of-work c = c.scan_trip_forward.ensures.same.size

pub shape_of-labels : goal.shape_of-labels
shape_of-labels c = c.scan_trip_forward.ensures.ready.sized.rows ∙ sym c.requires.going.ready.sized.rows

pub shape_of-label_distances : goal.shape_of-label_distances
shape_of-label_distances c = c.scan_trip_forward.ensures.ready.sized.metres ∙ sym c.requires.going.ready.sized.metres

pub shape_of-queue : goal.shape_of-queue
shape_of-queue c = c.scan_trip_forward.ensures.size

pub returns : goal.returns
returns c =
    segment_ridden c.requires.going c.args.p.context.flagged (c.args.p.stamp - 2) c.args.k c.args.from.now c.requires.segments c.ride_of-ride.result c.ride_of-ride.ensures c.permitted.result c.permitted.ensures (ap not c.if-not-permitted.false) c.delay_of-adj.result c.delay_of-adj.ensures.meaning c.scan_trip_forward.ensures
