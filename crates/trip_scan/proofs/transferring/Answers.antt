use Prim.Native.Nat.{◌+◌, ℕ, ◌-◌}
use Rattle.trip_scan.proofs.Queuing.{queuing_start, queuing_skip, queuing_turn, queuing_over, queuing_end}
use Rattle.trip_scan.proofs.Transfers.{transfer_from, transfer_shut, transfer_cut, transfer_go, transfer_end, transferring_grows}
use Rattle.trip_scan.proofs.Keeping.{nets_kept, netted_kept}
use Rattle.trip_scan.proofs.Alighting.{count_is}
use Rattle.trip_boarding.specs.Reads.{hit_of}
use Rattle.model.specs.Search.{transferring}
use mathlib.Core.Path.{◌∙◌, sym, ap}
use native.Mathlib.Omega.{arith}
use Rattle.trip_scan.proofs.transferring.Goals as goal

pub overflow_cast-trip : goal.overflow_cast-trip
overflow_cast-trip c = let r = c.args.s.ride in omega (arith, c.requires.riding.trip, c.requires.riding.ground.sane.counts.trips)

pub trip-n-requires : goal.trip-n-requires
trip-n-requires c =
    let r = c.args.s.ride in record { counts_ok = c.requires.riding.ground.sane.counts; slices_ok = c.requires.riding.ground.sane.slices; i_bound = c.requires.riding.trip; k_bound = omega arith }

pub loop-o-init : goal.loop-o-init
loop-o-init c =
    let r = c.args.s.ride in (c.trip-n.ensures.value, queuing_start _ _ _ _ c.requires.ready c.requires.is_open (λ T Q y z. ap (λ (k : ℕ). transferring T Q r.stamp (hit_of c.args.s.adj) r.shift r.trip (k - c.args.p) c.args.p z) (c.trip-n.ensures.value ∙ sym (count_is T c.args.tables.now c.args.s.context.counts.timetable r.trip y.agree.timetable))))

pub shut-requires : goal.shut-requires
shut-requires c =
    let r = c.args.s.ride in let i = c.loop-o.invariant in record { on_ground = c.requires.riding.ground; known = c.requires.riding.known; event = record { trip = c.requires.riding.trip; offset = omega (arith, i.0, c.loop-o-test.true) } }

pub loop-o-preserved-then-shut : goal.loop-o-preserved-then-shut
loop-o-preserved-then-shut c =
    let r = c.args.s.ride in let i = c.loop-o.invariant in (i.0, queuing_skip _ i.1 (λ T Q y. transfer_shut T Q r.stamp (hit_of c.args.s.adj) r.shift r.trip _ c.loop-o.o _ c.loop-o-test.true _ (c.shut.ensures T Q y.agree) c.if-shut.true))

pub arrival_now-v-requires : goal.arrival_now-v-requires
arrival_now-v-requires c =
    let r = c.args.s.ride in let i = c.loop-o.invariant in record { on_ground = c.requires.riding.ground; known = c.requires.riding.known; event = record { trip = c.requires.riding.trip; offset = omega (arith, i.0, c.loop-o-test.true) }; size_of = c.requires.riding.shift }

pub shape_of-work-then-x-v : goal.shape_of-work-then-x-v
shape_of-work-then-x-v c = c.loop-o.invariant.1.same.size

pub shape_of-labels-then-x-v : goal.shape_of-labels-then-x-v
shape_of-labels-then-x-v c = c.loop-o.invariant.1.ready.sized.rows ∙ sym c.requires.ready.sized.rows

pub shape_of-label_distances-then-x-v : goal.shape_of-label_distances-then-x-v
shape_of-label_distances-then-x-v c = c.loop-o.invariant.1.ready.sized.metres ∙ sym c.requires.ready.sized.metres

pub shape_of-queue-then-x-v : goal.shape_of-queue-then-x-v
shape_of-queue-then-x-v c = c.loop-o.invariant.1.size

pub returns-then-x-v : goal.returns-then-x-v
returns-then-x-v c =
    let r = c.args.s.ride in let i = c.loop-o.invariant in queuing_end _ i.1 (λ T Q y. transfer_cut T Q r.stamp (hit_of c.args.s.adj) r.shift r.trip _ c.loop-o.o _ c.loop-o-test.true _ (c.shut.ensures T Q y.agree) _ c.if-shut.false (c.arrival_now-v.ensures.meaning T Q y.agree) c.if-x-v.true)

pub take_event-x-requires : goal.take_event-x-requires
take_event-x-requires c =
    let r = c.args.s.ride in let i = c.loop-o.invariant in record { netted = netted_kept i.1.same c.requires.netted; event = record { trip = c.requires.riding.trip; offset = omega (arith, i.0, c.loop-o-test.true) }; ready = i.1.ready; is_open = i.1.room; v_bound = c.arrival_now-v.ensures.bound }

pub shape_of-work-then-x : goal.shape_of-work-then-x
shape_of-work-then-x c = c.take_event-x.ensures.same.size ∙ c.loop-o.invariant.1.same.size

pub shape_of-labels-then-x : goal.shape_of-labels-then-x
shape_of-labels-then-x c = c.take_event-x.ensures.ready.sized.rows ∙ sym c.requires.ready.sized.rows

pub shape_of-label_distances-then-x : goal.shape_of-label_distances-then-x
shape_of-label_distances-then-x c = c.take_event-x.ensures.ready.sized.metres ∙ sym c.requires.ready.sized.metres

pub shape_of-queue-then-x : goal.shape_of-queue-then-x
shape_of-queue-then-x c = c.take_event-x.ensures.size ∙ c.loop-o.invariant.1.size

pub returns-then-x : goal.returns-then-x
returns-then-x c =
    let r = c.args.s.ride in let i = c.loop-o.invariant in queuing_over (λ T Q. transfer_from T Q r.stamp (hit_of c.args.s.adj) r.shift r.trip c.trip-n.result (c.loop-o.o + 1)) i.1 c.take_event-x.ensures (λ T Q y. nets_kept i.1.same c.requires.netted.past y) (λ T Q y. transfer_go T Q r.stamp (hit_of c.args.s.adj) r.shift r.trip _ c.loop-o.o _ c.loop-o-test.true _ (c.shut.ensures T Q y.agree) _ c.if-shut.false (c.arrival_now-v.ensures.meaning T Q y.agree) c.if-x-v.false) c.if-x.true (λ T Q z. transferring_grows T Q r.stamp (hit_of c.args.s.adj) r.shift r.trip _ _ z)

pub loop-o-preserved : goal.loop-o-preserved
loop-o-preserved c =
    let r = c.args.s.ride in let i = c.loop-o.invariant in (i.0, queuing_turn _ i.1 c.take_event-x.ensures (λ T Q y. nets_kept i.1.same c.requires.netted.past y) (λ T Q y. transfer_go T Q r.stamp (hit_of c.args.s.adj) r.shift r.trip _ c.loop-o.o _ c.loop-o-test.true _ (c.shut.ensures T Q y.agree) _ c.if-shut.false (c.arrival_now-v.ensures.meaning T Q y.agree) c.if-x-v.false) c.if-x.false)

pub shape_of-work : goal.shape_of-work
shape_of-work c = c.loop-o.invariant.1.same.size

pub shape_of-labels : goal.shape_of-labels
shape_of-labels c = c.loop-o.invariant.1.ready.sized.rows ∙ sym c.requires.ready.sized.rows

pub shape_of-label_distances : goal.shape_of-label_distances
shape_of-label_distances c = c.loop-o.invariant.1.ready.sized.metres ∙ sym c.requires.ready.sized.metres

pub shape_of-queue : goal.shape_of-queue
shape_of-queue c = c.loop-o.invariant.1.size

pub returns : goal.returns
returns c =
    let r = c.args.s.ride in let i = c.loop-o.invariant in queuing_end _ i.1 (λ T Q y. transfer_end T Q r.stamp (hit_of c.args.s.adj) r.shift r.trip _ c.loop-o.o _ c.loop-o-test.false)
