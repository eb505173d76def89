use Rattle.trip_boarding.specs.Reads.{Event}
use Rattle.departures.specs.declared.DepartureRow.{DepartureRow}
use Rattle.ride_step.proofs.Keep.{rides_kept}
use Rattle.ride_step.proofs.Phased.{going_on}
use mathlib.Core.Bool.{false, true}
use Rattle.ride_step.proofs.Later.{departures_later}
use native.Mathlib.Omega.{arith}
use Rattle.departure_scan.proofs.Departing.{scan_from, from_end, from_late, from_start, from_turn, late_seen}
use lib.ListN.{length}
use mathlib.Core.Path.{◌∙◌, refl, subst, sym}
use Prim.Native.Nat.{◌-◌, ◌/◌, ◌+◌}
use Rattle.ride_step.proofs.Riding.{ride_end, ride_over, ride_start, ride_turn}
use Rattle.departure_scan.proofs.scan_departures.Goals as goal

pub loop-i-init : goal.loop-i-init
loop-i-init c =
    (refl, ride_start _ _ _ _ c.requires.going.ready c.requires.going.chains c.requires.going.room (λ T Q y s. from_start T Q c.args.p.context.flagged c.args.at.has_freq (c.args.p.stamp - 2) c.args.p.stamp c.args.at.stop c.args.at.after c.args.list.now (length c.args.list.now / 2) s))

pub too_late-requires : goal.too_late-requires
too_late-requires c =
    let p = c.loop-i.invariant.1 in let e = c.requires.rows_known.known c.loop-i.i (omega (arith, c.loop-i-test.true, c.loop-i.invariant.0)) in record { sane = c.requires.going.laid.netted.ground.sane; event = subst (λ (z : DepartureRow). Event c.args.tables.now c.args.p.context.counts.timetable z.trip z.offset) (sym c.departure_row-d.ensures) (record { trip = e.trip; offset = e.offset }) }

pub shape_of-work-then-too_late : goal.shape_of-work-then-too_late
shape_of-work-then-too_late c = let p = c.loop-i.invariant.1 in p.kept.size

pub shape_of-labels-then-too_late : goal.shape_of-labels-then-too_late
shape_of-labels-then-too_late c = let p = c.loop-i.invariant.1 in p.ready.sized.rows ∙ sym c.requires.going.ready.sized.rows

pub shape_of-label_distances-then-too_late : goal.shape_of-label_distances-then-too_late
shape_of-label_distances-then-too_late c = let p = c.loop-i.invariant.1 in p.ready.sized.metres ∙ sym c.requires.going.ready.sized.metres

pub shape_of-queue-then-too_late : goal.shape_of-queue-then-too_late
shape_of-queue-then-too_late c = let p = c.loop-i.invariant.1 in p.size

pub returns-then-too_late : goal.returns-then-too_late
returns-then-too_late c =
    let p = c.loop-i.invariant.1 in ride_end _ p (λ T Q y s v. from_late T Q c.args.p.context.flagged c.args.at.has_freq (c.args.p.stamp - 2) c.args.p.stamp c.args.at.stop c.args.at.after c.args.list.now (length c.args.list.now / 2) c.loop-i.i s (omega (arith, c.loop-i-test.true, c.loop-i.invariant.0)) c.departure_row-d.result c.departure_row-d.ensures (late_seen v c.args.at.has_freq _ _ c.too_late.result true (c.too_late.ensures T Q y.nets.agree.timetable y.nets.asks) c.if-too_late.true))

pub take_departure-g-requires : goal.take_departure-g-requires
take_departure-g-requires c =
    let p = c.loop-i.invariant.1 in let e = c.requires.rows_known.known c.loop-i.i (omega (arith, c.loop-i-test.true, c.loop-i.invariant.0)) in record { going = going_on c.requires.going p; event = subst (λ (z : DepartureRow). Event c.args.tables.now c.args.p.context.counts.timetable z.trip z.offset) (sym c.departure_row-d.ensures) (record { trip = e.trip; offset = e.offset }); after_bound = c.requires.after_bound }

pub shape_of-work-then-g : goal.shape_of-work-then-g
shape_of-work-then-g c = let p = c.loop-i.invariant.1 in c.take_departure-g.ensures.step.kept.size ∙ p.kept.size

pub shape_of-labels-then-g : goal.shape_of-labels-then-g
shape_of-labels-then-g c = let p = c.loop-i.invariant.1 in c.take_departure-g.ensures.step.ready.sized.rows ∙ sym c.requires.going.ready.sized.rows

pub shape_of-label_distances-then-g : goal.shape_of-label_distances-then-g
shape_of-label_distances-then-g c = let p = c.loop-i.invariant.1 in c.take_departure-g.ensures.step.ready.sized.metres ∙ sym c.requires.going.ready.sized.metres

pub shape_of-queue-then-g : goal.shape_of-queue-then-g
shape_of-queue-then-g c = let p = c.loop-i.invariant.1 in c.take_departure-g.ensures.step.size ∙ p.size

pub returns-then-g : goal.returns-then-g
returns-then-g c =
    let p = c.loop-i.invariant.1 in ride_over (λ T Q. scan_from T Q c.args.p.context.flagged c.args.at.has_freq (c.args.p.stamp - 2) c.args.p.stamp c.args.at.stop c.args.at.after c.args.list.now (length c.args.list.now / 2) (c.loop-i.i + 1)) p c.take_departure-g.ensures (λ T Q y. rides_kept c.requires.going.laid p.kept y) (λ T Q y s v. from_turn T Q c.args.p.context.flagged c.args.at.has_freq (c.args.p.stamp - 2) c.args.p.stamp c.args.at.stop c.args.at.after c.args.list.now (length c.args.list.now / 2) c.loop-i.i s (omega (arith, c.loop-i-test.true, c.loop-i.invariant.0)) c.departure_row-d.result c.departure_row-d.ensures (late_seen v c.args.at.has_freq _ _ c.too_late.result false (c.too_late.ensures T Q y.nets.agree.timetable y.nets.asks) c.if-too_late.false)) c.if-g.true (λ T Q s. (departures_later T Q c.args.p.context.flagged c.args.at.has_freq (c.args.p.stamp - 2) c.args.p.stamp c.args.at.stop c.args.at.after _ s).queue)

pub loop-i-preserved : goal.loop-i-preserved
loop-i-preserved c =
    let p = c.loop-i.invariant.1 in (c.loop-i.invariant.0, ride_turn _ p c.take_departure-g.ensures (λ T Q y. rides_kept c.requires.going.laid p.kept y) (λ T Q y s v. from_turn T Q c.args.p.context.flagged c.args.at.has_freq (c.args.p.stamp - 2) c.args.p.stamp c.args.at.stop c.args.at.after c.args.list.now (length c.args.list.now / 2) c.loop-i.i s (omega (arith, c.loop-i-test.true, c.loop-i.invariant.0)) c.departure_row-d.result c.departure_row-d.ensures (late_seen v c.args.at.has_freq _ _ c.too_late.result false (c.too_late.ensures T Q y.nets.agree.timetable y.nets.asks) c.if-too_late.false)) c.if-g.false)

pub shape_of-work : goal.shape_of-work
shape_of-work c = let p = c.loop-i.invariant.1 in p.kept.size

pub shape_of-labels : goal.shape_of-labels
shape_of-labels c = let p = c.loop-i.invariant.1 in p.ready.sized.rows ∙ sym c.requires.going.ready.sized.rows

pub shape_of-label_distances : goal.shape_of-label_distances
shape_of-label_distances c = let p = c.loop-i.invariant.1 in p.ready.sized.metres ∙ sym c.requires.going.ready.sized.metres

pub shape_of-queue : goal.shape_of-queue
shape_of-queue c = let p = c.loop-i.invariant.1 in p.size

pub returns : goal.returns
returns c =
    let p = c.loop-i.invariant.1 in ride_end _ p (λ T Q y s v. from_end T Q c.args.p.context.flagged c.args.at.has_freq (c.args.p.stamp - 2) c.args.p.stamp c.args.at.stop c.args.at.after c.args.list.now (length c.args.list.now / 2) c.loop-i.i s (omega (arith, c.loop-i-test.false, c.loop-i.invariant.0)))
