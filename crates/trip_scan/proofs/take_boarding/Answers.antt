use Rattle.trip_scan.proofs.Taking.{boarding_is}
use native.Mathlib.Omega.{arith}
use Prim.Native.Nat.{◌+◌}
use mathlib.Core.Path.{◌∙◌, sym}
use Rattle.trip_scan.proofs.take_boarding.Goals as goal

pub trip-first-requires : goal.trip-first-requires
trip-first-requires c =
    record { counts_ok = c.requires.counts_agree.sane.counts; slices_ok = c.requires.counts_agree.sane.slices; i_bound = c.requires.boarded_at.trip_in; k_bound = omega arith }

pub overflow_add-first : goal.overflow_add-first
overflow_add-first c =
    let k = c.requires.counts_agree.sane.runs.run c.args.trip c.requires.boarded_at.trip_in in omega (arith, c.trip-first.ensures.value, k, c.requires.boarded_at.offset_in, c.requires.counts_agree.sane.counts.times)

pub time-stop-requires : goal.time-stop-requires
time-stop-requires c =
    let k = c.requires.counts_agree.sane.runs.run c.args.trip c.requires.boarded_at.trip_in in record { counts_ok = c.requires.counts_agree.sane.counts; slices_ok = c.requires.counts_agree.sane.slices; i_bound = omega (arith, c.trip-first.ensures.value, k, c.requires.boarded_at.offset_in); k_bound = omega arith }

pub trip-plain-requires : goal.trip-plain-requires
trip-plain-requires c =
    record { counts_ok = c.requires.counts_agree.sane.counts; slices_ok = c.requires.counts_agree.sane.slices; i_bound = c.requires.boarded_at.trip_in; k_bound = omega arith }

pub transfer-requires : goal.transfer-requires
transfer-requires c =
    let k = c.requires.counts_agree.sane.runs.run c.args.trip c.requires.boarded_at.trip_in in let n = c.requires.counts_agree.sane.numbers.stop (c.trip-first.result + c.args.off) (omega (arith, c.trip-first.ensures.value, k, c.requires.boarded_at.offset_in)) in record { ready = c.requires.ready; trip_bound = omega (arith, c.requires.boarded_at.trip_in, c.requires.counts_agree.trips); stop_bound = omega (arith, c.time-stop.ensures.value, n, c.requires.counts_agree.stops); v_bound = c.requires.boarded_at.early; full_is = c.requires.is_open.none; queued_bound = c.requires.is_open.room }

pub shape_of-work : goal.shape_of-work
shape_of-work c = c.transfer.ensures.same.size

pub shape_of-labels : goal.shape_of-labels
shape_of-labels c = c.transfer.ensures.ready.sized.rows ∙ sym c.requires.ready.sized.rows

pub shape_of-label_distances : goal.shape_of-label_distances
shape_of-label_distances c = c.transfer.ensures.ready.sized.metres ∙ sym c.requires.ready.sized.metres

pub shape_of-queue : goal.shape_of-queue
shape_of-queue c = c.transfer.ensures.size

pub returns : goal.returns
returns c =
    boarding_is c.args.tables.now c.args.s.context.counts.timetable c.args.from c.args.off c.args.time c.args.trip c.args.b _ _ _ c.transfer.ensures c.trip-first.ensures.value c.time-stop.ensures.value c.trip-plain.ensures.value
