use Prim.Native.Nat.{◌-◌, ℕ}
use Rattle.trip_boarding.specs.Reads.{hit_of}
use Rattle.model.specs.Search.{alightings}
use Rattle.search_state.proofs.Steps.{egress_kept}
use Rattle.trip_scan.proofs.Alighting.{alight_cut, alight_end, alight_go, alight_shut, count_is}
use Rattle.trip_scan.proofs.Along.{along_end, along_skip, along_start, along_turn}
use mathlib.Core.Path.{◌∙◌, ap, refl, sym}
use native.Mathlib.Omega.{arith}
use Rattle.trip_scan.proofs.alightings.Goals as goal

pub overflow_cast-trip : goal.overflow_cast-trip
overflow_cast-trip c = omega (arith, c.requires.riding.trip, c.requires.riding.ground.sane.counts.trips)

pub trip-n-requires : goal.trip-n-requires
trip-n-requires c =
    record { counts_ok = c.requires.riding.ground.sane.counts; slices_ok = c.requires.riding.ground.sane.slices; i_bound = c.requires.riding.trip; k_bound = omega arith }

pub loop-o-init : goal.loop-o-init
loop-o-init c =
    let r = c.args.s.ride in (c.trip-n.ensures.value, refl, along_start _ _ _ c.requires.ready (λ T Q y z. ap (λ (k : ℕ). alightings T Q r.stamp (hit_of c.args.s.adj) r.shift r.trip r.stop r.offset (k - c.args.p) c.args.p z) (c.trip-n.ensures.value ∙ sym (count_is T c.args.tables.now c.args.s.context.counts.timetable r.trip y.agree.timetable))))

pub shut-requires : goal.shut-requires
shut-requires c =
    let r = c.args.s.ride in let i = c.loop-o.invariant in record { on_ground = c.requires.riding.ground; known = c.requires.riding.known; event = record { trip = c.requires.riding.trip; offset = omega (arith, i.0, c.loop-o-test.true) } }

pub loop-o-preserved-then-shut : goal.loop-o-preserved-then-shut
loop-o-preserved-then-shut c =
    let r = c.args.s.ride in let i = c.loop-o.invariant in (i.0, i.1, along_skip _ i.2 (λ T Q y q. alight_shut T Q r.stamp (hit_of c.args.s.adj) r.shift r.trip r.stop r.offset _ c.loop-o.o _ c.loop-o-test.true _ (c.shut.ensures T Q y.agree) c.if-shut.true))

pub arrival_now-v-requires : goal.arrival_now-v-requires
arrival_now-v-requires c =
    let r = c.args.s.ride in let i = c.loop-o.invariant in record { on_ground = c.requires.riding.ground; known = c.requires.riding.known; event = record { trip = c.requires.riding.trip; offset = omega (arith, i.0, c.loop-o-test.true) }; size_of = c.requires.riding.shift }

pub shape_of-labels-then-x-v : goal.shape_of-labels-then-x-v
shape_of-labels-then-x-v c = c.loop-o.invariant.2.ready.sized.rows ∙ sym c.requires.ready.sized.rows

pub shape_of-label_distances-then-x-v : goal.shape_of-label_distances-then-x-v
shape_of-label_distances-then-x-v c = c.loop-o.invariant.2.ready.sized.metres ∙ sym c.requires.ready.sized.metres

pub returns-then-x-v : goal.returns-then-x-v
returns-then-x-v c =
    let r = c.args.s.ride in let i = c.loop-o.invariant in along_end _ i.2 (λ T Q y q. alight_cut T Q r.stamp (hit_of c.args.s.adj) r.shift r.trip r.stop r.offset _ c.loop-o.o _ c.loop-o-test.true _ (c.shut.ensures T Q y.agree) _ c.if-shut.false (c.arrival_now-v.ensures.meaning T Q y.agree) c.if-x-v.true)

pub alight-x-requires : goal.alight-x-requires
alight-x-requires c =
    let r = c.args.s.ride in let i = c.loop-o.invariant in record { alight_at = record { sane = c.requires.riding.ground.sane; stops = c.requires.riding.stops; trip = c.requires.riding.trip; offset = omega (arith, i.0, c.loop-o-test.true) }; ready = i.2.ready; v_bound = omega (arith, c.arrival_now-v.ensures.bound) }

pub loop-o-preserved : goal.loop-o-preserved
loop-o-preserved c =
    let r = c.args.s.ride in let i = c.loop-o.invariant in (i.0, i.1, along_turn _ i.2 c.alight-x.ensures (λ T Q y. (egress_kept i.2.same y.egress, y.agree.timetable)) (λ T Q y q. alight_go T Q r.stamp (hit_of c.args.s.adj) r.shift r.trip r.stop r.offset _ c.loop-o.o _ c.loop-o-test.true _ (c.shut.ensures T Q y.agree) _ c.if-shut.false (c.arrival_now-v.ensures.meaning T Q y.agree) c.if-x-v.false))

pub shape_of-labels : goal.shape_of-labels
shape_of-labels c = c.loop-o.invariant.2.ready.sized.rows ∙ sym c.requires.ready.sized.rows

pub shape_of-label_distances : goal.shape_of-label_distances
shape_of-label_distances c = c.loop-o.invariant.2.ready.sized.metres ∙ sym c.requires.ready.sized.metres

pub returns : goal.returns
returns c =
    let r = c.args.s.ride in let i = c.loop-o.invariant in along_end _ i.2 (λ T Q y q. alight_end T Q r.stamp (hit_of c.args.s.adj) r.shift r.trip r.stop r.offset _ c.loop-o.o _ c.loop-o-test.false)
