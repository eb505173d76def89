use Rattle.trip_scan.proofs.Taking.{take_skip, take_none, take_some, boards_in}
use Rattle.trip_scan.proofs.Queuing.{queue_as, queue_none}
use Rattle.event_transfers.specs.Transfers.{transfer_at}
use native.Mathlib.Omega.{arith}
use mathlib.Core.Path.{◌≡◌, ◌∙◌, ap, refl, sym}
use Prim.Native.Nat.{◌+◌}
use mathlib.Core.Bool.{not}
use Rattle.trip_scan.proofs.take_transfer.Goals as goal

pub returns-then-not-holds_target : goal.returns-then-not-holds_target
returns-then-not-holds_target c =
    queue_none _ _ _ c.requires.ready c.requires.is_open (λ T Q y. take_skip T Q c.args.s.ride.stamp c.args.v c.args.from (transfer_at c.args.transfers.now c.args.k) _ _ (c.holds_target.ensures T Q y.patterned y.target) (ap not c.if-not-holds_target.true))

pub overflow_add-v : goal.overflow_add-v
overflow_add-v c =
    let s = c.requires.run_in.small 0 (omega arith) in let e : c.args.k + 0 ≡ c.args.k = omega arith in omega (arith, rw e at s, c.requires.v_bound)

pub resolve-requires : goal.resolve-requires
resolve-requires c =
    let s = c.requires.run_in.small 0 (omega arith) in let e : c.args.k + 0 ≡ c.args.k = omega arith in record { on_ground = c.requires.netted.ground; after_bound = omega (arith, rw e at s, c.requires.v_bound); lines_held = c.requires.netted.held }

pub returns-in_default : goal.returns-in_default
returns-in_default c =
    queue_none _ _ _ c.requires.ready c.requires.is_open (λ T Q y. take_none T Q c.args.s.ride.stamp c.args.v c.args.from (transfer_at c.args.transfers.now c.args.k) _ _ _ (c.holds_target.ensures T Q y.patterned y.target) (ap not c.if-not-holds_target.false) c.in_default.is (c.resolve.ensures T Q _ y.agree y.asks y.lines (record { trip = refl; place = refl })))

pub take_boarding-requires : goal.take_boarding-requires
take_boarding-requires c =
    record { counts_agree = record { sane = c.requires.netted.ground.sane; stops = c.requires.netted.stops; trips = c.requires.netted.trips }; boarded_at = boards_in c.requires.netted.T c.requires.netted.Q c.requires.netted.door c.args.tables.now c.args.s.context.counts.timetable c.requires.netted.nets.agree.timetable (transfer_at c.args.transfers.now c.args.k) _ _ _ _ _ c.in-Some.is (c.resolve.ensures c.requires.netted.T c.requires.netted.Q (transfer_at c.args.transfers.now c.args.k) c.requires.netted.nets.agree c.requires.netted.nets.asks c.requires.netted.nets.lines (record { trip = refl; place = refl })) refl; ready = c.requires.ready; is_open = c.requires.is_open }

pub shape_of-work : goal.shape_of-work
shape_of-work c = c.take_boarding.ensures.same.size

pub shape_of-labels : goal.shape_of-labels
shape_of-labels c = c.take_boarding.ensures.ready.sized.rows ∙ sym c.requires.ready.sized.rows

pub shape_of-label_distances : goal.shape_of-label_distances
shape_of-label_distances c = c.take_boarding.ensures.ready.sized.metres ∙ sym c.requires.ready.sized.metres

pub shape_of-queue : goal.shape_of-queue
shape_of-queue c = c.take_boarding.ensures.size

pub returns : goal.returns
returns c =
    queue_as _ c.take_boarding.ensures (λ T Q y. (y.egress, y.agree.timetable)) (λ T Q y. take_some T Q c.args.s.ride.stamp c.args.v c.args.from (transfer_at c.args.transfers.now c.args.k) _ _ _ _ _ (c.holds_target.ensures T Q y.patterned y.target) (ap not c.if-not-holds_target.false) c.in-Some.is (c.resolve.ensures T Q (transfer_at c.args.transfers.now c.args.k) y.agree y.asks y.lines (record { trip = refl; place = refl })) refl)
