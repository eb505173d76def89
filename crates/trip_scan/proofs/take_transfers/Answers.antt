use Rattle.trip_scan.proofs.Taking.{from_grows, from_start, from_turn, from_end, take_from}
use Prim.Native.Nat.{◌+◌}
use mathlib.Core.Path.{◌∙◌, sym}
use Rattle.trip_scan.proofs.Queuing.{queuing_start, queuing_turn, queuing_over, queuing_end}
use Rattle.trip_scan.proofs.Keeping.{nets_kept, netted_kept, run_one}
use Rattle.trip_scan.proofs.take_transfers.Goals as goal

pub loop-j-init : goal.loop-j-init
loop-j-init c =
    queuing_start _ _ _ _ c.requires.ready c.requires.is_open (λ T Q y z. from_start T Q c.args.s.ride.stamp c.args.v c.args.from c.args.transfers.now c.args.run.first c.args.run.length z)

pub take_transfer-x-requires : goal.take_transfer-x-requires
take_transfer-x-requires c =
    let i = c.loop-j.invariant in record { netted = netted_kept i.same c.requires.netted; run_in = run_one c.requires.run_in _ c.loop-j-test.true; ready = i.ready; is_open = i.room; v_bound = c.requires.v_bound }

pub shape_of-work-then-x : goal.shape_of-work-then-x
shape_of-work-then-x c = c.take_transfer-x.ensures.same.size ∙ c.loop-j.invariant.same.size

pub shape_of-labels-then-x : goal.shape_of-labels-then-x
shape_of-labels-then-x c = c.take_transfer-x.ensures.ready.sized.rows ∙ sym c.requires.ready.sized.rows

pub shape_of-label_distances-then-x : goal.shape_of-label_distances-then-x
shape_of-label_distances-then-x c = c.take_transfer-x.ensures.ready.sized.metres ∙ sym c.requires.ready.sized.metres

pub shape_of-queue-then-x : goal.shape_of-queue-then-x
shape_of-queue-then-x c = c.take_transfer-x.ensures.size ∙ c.loop-j.invariant.size

pub returns-then-x : goal.returns-then-x
returns-then-x c =
    queuing_over (λ T Q. take_from T Q c.args.s.ride.stamp c.args.v c.args.from c.args.transfers.now c.args.run.first c.args.run.length (c.loop-j.j + 1)) c.loop-j.invariant c.take_transfer-x.ensures (λ T Q y. nets_kept c.loop-j.invariant.same c.requires.netted.past y) (λ T Q y. from_turn T Q c.args.s.ride.stamp c.args.v c.args.from c.args.transfers.now c.args.run.first c.args.run.length _ _ c.loop-j-test.true) c.if-x.true (λ T Q z. from_grows T Q c.args.s.ride.stamp c.args.v c.args.from c.args.transfers.now c.args.run.first c.args.run.length _ z)

pub loop-j-preserved : goal.loop-j-preserved
loop-j-preserved c =
    queuing_turn _ c.loop-j.invariant c.take_transfer-x.ensures (λ T Q y. nets_kept c.loop-j.invariant.same c.requires.netted.past y) (λ T Q y. from_turn T Q c.args.s.ride.stamp c.args.v c.args.from c.args.transfers.now c.args.run.first c.args.run.length _ _ c.loop-j-test.true) c.if-x.false

pub shape_of-work : goal.shape_of-work
shape_of-work c = c.loop-j.invariant.same.size

pub shape_of-labels : goal.shape_of-labels
shape_of-labels c = c.loop-j.invariant.ready.sized.rows ∙ sym c.requires.ready.sized.rows

pub shape_of-label_distances : goal.shape_of-label_distances
shape_of-label_distances c = c.loop-j.invariant.ready.sized.metres ∙ sym c.requires.ready.sized.metres

pub shape_of-queue : goal.shape_of-queue
shape_of-queue c = c.loop-j.invariant.size

pub returns : goal.returns
returns c =
    queuing_end _ c.loop-j.invariant (λ T Q y. from_end T Q c.args.s.ride.stamp c.args.v c.args.from c.args.transfers.now c.args.run.first c.args.run.length _ _ c.loop-j-test.false)
