use Rattle.ride_step.proofs.Later.{segments_later}
use Rattle.ride_step.proofs.Keep.{rides_kept}
use Rattle.ride_step.proofs.Phased.{going_on}
use native.Mathlib.Omega.{arith}
use mathlib.Core.Path.{◌∙◌, sym}
use Rattle.ride_phase.proofs.Segmented.{segments_from, segments_end, segments_fewer, segments_start, segments_turn}
use Prim.Native.Nat.{◌-◌, ◌+◌}
use Rattle.ride_step.proofs.Riding.{ride_end, ride_over, ride_start, ride_turn}
use Rattle.ride_phase.proofs.ride_segments.Goals as goal

pub loop-k-init : goal.loop-k-init
loop-k-init c =
    ride_start _ _ _ _ c.requires.going.ready c.requires.going.chains c.requires.going.room (λ T Q y s. segments_start T Q c.args.p.context.flagged (c.args.p.stamp - 2) c.args.p.stamp c.args.from.now c.args.m s)

pub ride_segment-g-requires : goal.ride_segment-g-requires
ride_segment-g-requires c =
    let p = c.loop-k.invariant in record { going = going_on c.requires.going p; segments = segments_fewer _ c.requires.segments (omega (arith, c.loop-k-test.true)) }

pub shape_of-work-then-g : goal.shape_of-work-then-g
shape_of-work-then-g c = let p = c.loop-k.invariant in c.ride_segment-g.ensures.step.kept.size ∙ p.kept.size

pub shape_of-labels-then-g : goal.shape_of-labels-then-g
shape_of-labels-then-g c = let p = c.loop-k.invariant in c.ride_segment-g.ensures.step.ready.sized.rows ∙ sym c.requires.going.ready.sized.rows

pub shape_of-label_distances-then-g : goal.shape_of-label_distances-then-g
shape_of-label_distances-then-g c = let p = c.loop-k.invariant in c.ride_segment-g.ensures.step.ready.sized.metres ∙ sym c.requires.going.ready.sized.metres

pub shape_of-queue-then-g : goal.shape_of-queue-then-g
shape_of-queue-then-g c = let p = c.loop-k.invariant in c.ride_segment-g.ensures.step.size ∙ p.size

pub returns-then-g : goal.returns-then-g
returns-then-g c =
    let p = c.loop-k.invariant in ride_over (λ T Q. segments_from T Q c.args.p.context.flagged (c.args.p.stamp - 2) c.args.p.stamp c.args.from.now c.args.m (c.loop-k.k + 1)) p c.ride_segment-g.ensures (λ T Q y. rides_kept c.requires.going.laid p.kept y) (λ T Q y s e. segments_turn T Q c.args.p.context.flagged (c.args.p.stamp - 2) c.args.p.stamp c.args.from.now c.args.m c.loop-k.k s c.loop-k-test.true) c.if-g.true (λ T Q s. (segments_later T Q c.args.p.context.flagged (c.args.p.stamp - 2) c.args.p.stamp _ s).queue)

pub loop-k-preserved : goal.loop-k-preserved
loop-k-preserved c =
    let p = c.loop-k.invariant in ride_turn _ p c.ride_segment-g.ensures (λ T Q y. rides_kept c.requires.going.laid p.kept y) (λ T Q y s e. segments_turn T Q c.args.p.context.flagged (c.args.p.stamp - 2) c.args.p.stamp c.args.from.now c.args.m c.loop-k.k s c.loop-k-test.true) c.if-g.false

pub shape_of-work : goal.shape_of-work
shape_of-work c = let p = c.loop-k.invariant in p.kept.size

pub shape_of-labels : goal.shape_of-labels
shape_of-labels c = let p = c.loop-k.invariant in p.ready.sized.rows ∙ sym c.requires.going.ready.sized.rows

pub shape_of-label_distances : goal.shape_of-label_distances
shape_of-label_distances c = let p = c.loop-k.invariant in p.ready.sized.metres ∙ sym c.requires.going.ready.sized.metres

pub shape_of-queue : goal.shape_of-queue
shape_of-queue c = let p = c.loop-k.invariant in p.size

pub returns : goal.returns
returns c =
    let p = c.loop-k.invariant in ride_end _ p (λ T Q y s e. segments_end T Q c.args.p.context.flagged (c.args.p.stamp - 2) c.args.p.stamp c.args.from.now c.args.m c.loop-k.k s c.loop-k-test.false)
