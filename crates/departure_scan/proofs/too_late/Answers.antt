use native.Mathlib.Omega.{arith}
use Rattle.departure_scan.proofs.too_late.Goals as goal

pub time-dep-requires : goal.time-dep-requires
time-dep-requires c =
    record { counts_ok = c.requires.sane.counts; slices_ok = c.requires.sane.slices; i_bound = omega (arith, c.trip-first.ensures.value, c.requires.sane.runs.run _ c.requires.event.trip, c.requires.event.offset); k_bound = omega arith }
