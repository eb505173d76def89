use Prim.Native.Nat.{◌+◌, ℕ}
use Rattle.tables.specs.Tables.{time_of}
use Rattle.trip_scan.proofs.Alighting.{drop_off_is}
use mathlib.Core.Path.{◌∙◌, ap}
use native.Mathlib.Omega.{arith}
use Rattle.trip_scan.proofs.no_drop_off.Goals as goal

pub overflow_add-first : goal.overflow_add-first
overflow_add-first c =
    let k = c.requires.on_ground.sane.runs.run c.args.trip c.requires.event.trip in omega (arith, c.trip-first.ensures.value, k, c.requires.event.offset, c.requires.on_ground.sane.counts.times)

pub time-requires : goal.time-requires
time-requires c =
    let k = c.requires.on_ground.sane.runs.run c.args.trip c.requires.event.trip in record { counts_ok = c.requires.on_ground.sane.counts; slices_ok = c.requires.on_ground.sane.slices; i_bound = omega (arith, c.trip-first.ensures.value, k, c.requires.event.offset); k_bound = omega arith }

pub returns : goal.returns
returns c =
    λ T Q y. drop_off_is T c.args.tables.now c.args.c c.args.trip c.args.off _ y.timetable (c.time.ensures.value ∙ ap (λ (f : ℕ). time_of c.args.tables.now (f + c.args.off) 5) c.trip-first.ensures.value)
