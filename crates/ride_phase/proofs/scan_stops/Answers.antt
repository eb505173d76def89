use Rattle.ride_step.proofs.Later.{stops_later}
use Rattle.ride_phase.proofs.Stopping.{stops_end, stops_turn}
use Rattle.search_state.proofs.Lists.{listed_kept, other_in, other_length}
use Rattle.ride_step.proofs.Phased.{going_on}
use Rattle.ride_step.proofs.Keep.{changing_kept, kept_other}
use native.Mathlib.Omega.{arith}
use mathlib.Core.Path.{◌∙◌, refl, sym}
use Rattle.model.specs.Search.{scan_stops}
use Rattle.search_state.specs.Part.{part}
use lib.ListN.{drop}
use Prim.Native.Nat.{◌-◌, ◌+◌}
use Rattle.ride_step.proofs.Riding.{ride_end, ride_over, ride_start, ride_turn}
use Rattle.ride_phase.proofs.scan_stops.Goals as goal

pub loop-i-init : goal.loop-i-init
loop-i-init c = ride_start _ _ _ _ c.requires.going.ready c.requires.going.chains c.requires.going.room (λ T Q y s. refl)

pub overflow_add-at : goal.overflow_add-at
overflow_add-at c =
    let p = c.loop-i.invariant in let W = listed_kept c.requires.stops_listed (kept_other p.kept) p.falls in let s = p.ready.sized.sections in omega (arith, s.other_fits, s.stops, s.trips, W.few, c.loop-i-test.true)

pub offset_bounds-work-at : goal.offset_bounds-work-at
offset_bounds-work-at c =
    let p = c.loop-i.invariant in let W = listed_kept c.requires.stops_listed (kept_other p.kept) p.falls in let s = p.ready.sized.sections in omega (arith, s.other_fits, s.stops, s.trips, W.few, c.loop-i-test.true)

pub bounds-work-at : goal.bounds-work-at
bounds-work-at c =
    let p = c.loop-i.invariant in let W = listed_kept c.requires.stops_listed (kept_other p.kept) p.falls in let s = p.ready.sized.sections in omega (arith, s.other_fits, s.words, W.few, c.loop-i-test.true)

pub overflow_cast-x : goal.overflow_cast-x
overflow_cast-x c =
    let p = c.loop-i.invariant in let W = listed_kept c.requires.stops_listed (kept_other p.kept) p.falls in let s = p.ready.sized.sections in omega (arith, W.inside c.loop-i.i c.loop-i-test.true, s.stops)

pub scan_stop-g-requires : goal.scan_stop-g-requires
scan_stop-g-requires c =
    let p = c.loop-i.invariant in let W = listed_kept c.requires.stops_listed (kept_other p.kept) p.falls in let s = p.ready.sized.sections in record { going = going_on c.requires.going p; x_bound = omega (arith, W.inside c.loop-i.i c.loop-i-test.true, c.requires.going.laid.netted.stops); work_word = W.early c.loop-i.i c.loop-i-test.true; change_bound = c.requires.change_bound }

pub shape_of-work-then-g : goal.shape_of-work-then-g
shape_of-work-then-g c = let p = c.loop-i.invariant in c.scan_stop-g.ensures.step.kept.size ∙ p.kept.size

pub shape_of-labels-then-g : goal.shape_of-labels-then-g
shape_of-labels-then-g c = let p = c.loop-i.invariant in c.scan_stop-g.ensures.step.ready.sized.rows ∙ sym c.requires.going.ready.sized.rows

pub shape_of-label_distances-then-g : goal.shape_of-label_distances-then-g
shape_of-label_distances-then-g c = let p = c.loop-i.invariant in c.scan_stop-g.ensures.step.ready.sized.metres ∙ sym c.requires.going.ready.sized.metres

pub shape_of-queue-then-g : goal.shape_of-queue-then-g
shape_of-queue-then-g c = let p = c.loop-i.invariant in c.scan_stop-g.ensures.step.size ∙ p.size

pub returns-then-g : goal.returns-then-g
returns-then-g c =
    let p = c.loop-i.invariant in ride_over (λ T Q. scan_stops T Q c.args.p.context.flagged (c.args.p.stamp - 2) c.args.p.stamp (drop (c.loop-i.i + 1) (part c.args.work.now c.args.p.context.lay.other c.args.count))) p c.scan_stop-g.ensures (λ T Q y. changing_kept c.requires.going.laid p.kept y) (λ T Q y s v. stops_turn T Q c.args.p.context.flagged (c.args.p.stamp - 2) c.args.p.stamp (part c.args.work.now c.args.p.context.lay.other c.args.count) c.loop-i.i _ s (other_in c.loop-i.i c.requires.stops_listed (kept_other p.kept) c.loop-i-test.true) (omega (arith, other_length c.requires.stops_listed c.requires.going.ready.sized.sections, c.loop-i-test.true))) c.if-g.true (λ T Q s. (stops_later T Q c.args.p.context.flagged (c.args.p.stamp - 2) c.args.p.stamp _ s).queue)

pub loop-i-preserved : goal.loop-i-preserved
loop-i-preserved c =
    let p = c.loop-i.invariant in ride_turn _ p c.scan_stop-g.ensures (λ T Q y. changing_kept c.requires.going.laid p.kept y) (λ T Q y s v. stops_turn T Q c.args.p.context.flagged (c.args.p.stamp - 2) c.args.p.stamp (part c.args.work.now c.args.p.context.lay.other c.args.count) c.loop-i.i _ s (other_in c.loop-i.i c.requires.stops_listed (kept_other p.kept) c.loop-i-test.true) (omega (arith, other_length c.requires.stops_listed c.requires.going.ready.sized.sections, c.loop-i-test.true))) c.if-g.false

pub shape_of-work : goal.shape_of-work
shape_of-work c = let p = c.loop-i.invariant in p.kept.size

pub shape_of-labels : goal.shape_of-labels
shape_of-labels c = let p = c.loop-i.invariant in p.ready.sized.rows ∙ sym c.requires.going.ready.sized.rows

pub shape_of-label_distances : goal.shape_of-label_distances
shape_of-label_distances c = let p = c.loop-i.invariant in p.ready.sized.metres ∙ sym c.requires.going.ready.sized.metres

pub shape_of-queue : goal.shape_of-queue
shape_of-queue c = let p = c.loop-i.invariant in p.size

pub returns : goal.returns
returns c =
    let p = c.loop-i.invariant in ride_end _ p (λ T Q y s v. stops_end T Q c.args.p.context.flagged (c.args.p.stamp - 2) c.args.p.stamp (part c.args.work.now c.args.p.context.lay.other c.args.count) c.loop-i.i s (omega (arith, other_length c.requires.stops_listed c.requires.going.ready.sized.sections, c.loop-i-test.false)))
