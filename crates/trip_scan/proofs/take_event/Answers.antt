use Rattle.search_state.specs.View.{memory, arrivals_of}
use Rattle.trip_scan.proofs.Queuing.{queue_as}
use Rattle.trip_scan.proofs.Keeping.{run_read}
use Rattle.trip_scan.proofs.Alighting.{stop_read}
use Rattle.trip_scan.specs.Scan.{RunIn}
use Rattle.event_transfers.specs.Transfers.{Transfer, transfers_at}
use Rattle.model.specs.Search.{take_transfers}
use mathlib.Core.Path.{◌∙◌, sym, ap, ap₂, subst, refl}
use mathlib.Core.List.{List}
use native.Mathlib.Omega.{arith}
use Prim.Native.Nat.{ℕ, ◌+◌}
use Rattle.trip_scan.proofs.take_event.Goals as goal

pub overflow_cast-trip : goal.overflow_cast-trip
overflow_cast-trip c = omega (arith, c.requires.event.trip, c.requires.netted.ground.sane.counts.trips)

pub trip-i-requires : goal.trip-i-requires
trip-i-requires c =
    record { counts_ok = c.requires.netted.ground.sane.counts; slices_ok = c.requires.netted.ground.sane.slices; i_bound = c.requires.event.trip; k_bound = omega arith }

pub overflow_add-i : goal.overflow_add-i
overflow_add-i c =
    let k = c.requires.netted.ground.sane.runs.run c.args.s.ride.trip c.requires.event.trip in omega (arith, c.trip-i.ensures.value, k, c.requires.event.offset, c.requires.netted.ground.sane.counts.times)

pub time-from-requires : goal.time-from-requires
time-from-requires c =
    let k = c.requires.netted.ground.sane.runs.run c.args.s.ride.trip c.requires.event.trip in record { counts_ok = c.requires.netted.ground.sane.counts; slices_ok = c.requires.netted.ground.sane.slices; i_bound = omega (arith, c.trip-i.ensures.value, k, c.requires.event.offset); k_bound = omega arith }

pub overflow_add-at : goal.overflow_add-at
overflow_add-at c =
    let k = c.requires.netted.ground.sane.runs.run c.args.s.ride.trip c.requires.event.trip in omega (arith, c.requires.netted.events, c.requires.ready.sized.sections.words, c.requires.ready.sized.sections.stops, c.requires.ready.sized.sections.trips, c.requires.ready.sized.sections.lines, c.requires.event.trip)

pub bounds-work-s : goal.bounds-work-s
bounds-work-s c =
    let k = c.requires.netted.ground.sane.runs.run c.args.s.ride.trip c.requires.event.trip in omega (arith, c.requires.netted.events, c.requires.event.trip)

pub overflow_add-at-2 : goal.overflow_add-at-2
overflow_add-at-2 c =
    let k = c.requires.netted.ground.sane.runs.run c.args.s.ride.trip c.requires.event.trip in omega (arith, c.type_inv.work (c.args.s.context.net.events + c.args.s.ride.trip), k, c.requires.event.offset, c.requires.netted.ground.sane.counts.times)

pub overflow_mul-at : goal.overflow_mul-at
overflow_mul-at c =
    let k = c.requires.netted.ground.sane.runs.run c.args.s.ride.trip c.requires.event.trip in omega (arith, c.type_inv.work (c.args.s.context.net.events + c.args.s.ride.trip), k, c.requires.event.offset, c.requires.netted.ground.sane.counts.times)

pub overflow_add-at-3 : goal.overflow_add-at-3
overflow_add-at-3 c =
    let k = c.requires.netted.ground.sane.runs.run c.args.s.ride.trip c.requires.event.trip in let z = c.requires.netted.words c.args.s.ride.trip c.args.off c.requires.event.trip c.requires.event.offset in omega (arith, z, c.well_formed.1.1.1.0.0)

pub bounds-built-at : goal.bounds-built-at
bounds-built-at c =
    let k = c.requires.netted.ground.sane.runs.run c.args.s.ride.trip c.requires.event.trip in let z = c.requires.netted.words c.args.s.ride.trip c.args.off c.requires.event.trip c.requires.event.offset in omega (arith, z)

pub offset_bounds-built-at : goal.offset_bounds-built-at
offset_bounds-built-at c =
    let k = c.requires.netted.ground.sane.runs.run c.args.s.ride.trip c.requires.event.trip in let z = c.requires.netted.words c.args.s.ride.trip c.args.off c.requires.event.trip c.requires.event.offset in omega (arith, z, c.well_formed.1.1.1.0.0)

pub overflow_add-length : goal.overflow_add-length
overflow_add-length c =
    let k = c.requires.netted.ground.sane.runs.run c.args.s.ride.trip c.requires.event.trip in let z = c.requires.netted.words c.args.s.ride.trip c.args.off c.requires.event.trip c.requires.event.offset in omega (arith, z, c.well_formed.1.1.1.0.0)

pub bounds-built-at-2 : goal.bounds-built-at-2
bounds-built-at-2 c =
    let k = c.requires.netted.ground.sane.runs.run c.args.s.ride.trip c.requires.event.trip in let z = c.requires.netted.words c.args.s.ride.trip c.args.off c.requires.event.trip c.requires.event.offset in omega (arith, z)

pub offset_bounds-built-at-2 : goal.offset_bounds-built-at-2
offset_bounds-built-at-2 c =
    let k = c.requires.netted.ground.sane.runs.run c.args.s.ride.trip c.requires.event.trip in let z = c.requires.netted.words c.args.s.ride.trip c.args.off c.requires.event.trip c.requires.event.offset in omega (arith, z, c.well_formed.1.1.1.0.0)

pub take_transfers-requires : goal.take_transfers-requires
take_transfers-requires c =
    let k = c.requires.netted.ground.sane.runs.run c.args.s.ride.trip c.requires.event.trip in record { netted = c.requires.netted; run_in = subst (λ r. RunIn c.args.transfers.now r.first r.length) (run_read c.args.s.context.net c.args.built.now c.args.work.now c.args.s.ride.trip c.args.off _ _ _ refl refl refl) (c.requires.netted.run c.args.s.ride.trip c.args.off c.requires.event.trip c.requires.event.offset); ready = c.requires.ready; is_open = c.requires.is_open; v_bound = c.requires.v_bound }

pub shape_of-work : goal.shape_of-work
shape_of-work c = c.take_transfers.ensures.same.size

pub shape_of-labels : goal.shape_of-labels
shape_of-labels c = c.take_transfers.ensures.ready.sized.rows ∙ sym c.requires.ready.sized.rows

pub shape_of-label_distances : goal.shape_of-label_distances
shape_of-label_distances c = c.take_transfers.ensures.ready.sized.metres ∙ sym c.requires.ready.sized.metres

pub shape_of-queue : goal.shape_of-queue
shape_of-queue c = c.take_transfers.ensures.size

pub returns : goal.returns
returns c =
    let k = c.requires.netted.ground.sane.runs.run c.args.s.ride.trip c.requires.event.trip in queue_as _ c.take_transfers.ensures (λ T Q y. y) (λ T Q y. ap₂ (λ (s : ℕ) (l : List Transfer). take_transfers T Q c.args.s.ride.stamp c.args.v s l (arrivals_of c.args.s.context.lay (memory c.args.work.now c.args.labels.now c.args.label_distances.now c.args.h) c.args.queue.now)) (stop_read T c.args.tables.now c.args.s.context.counts.timetable c.args.s.ride.trip c.args.off _ _ y.agree.timetable c.trip-i.ensures.value c.time-from.ensures.value) (sym (y.transfers c.args.s.ride.trip c.args.off c.requires.event.trip c.requires.event.offset ∙ ap (transfers_at c.args.transfers.now) (run_read c.args.s.context.net c.args.built.now c.args.work.now c.args.s.ride.trip c.args.off _ _ _ refl refl refl))))
