use Rattle.event_transfers.proofs.Events.{trip_length, trips_again, trips_left}
use native.Mathlib.Omega.{arith}
use Rattle.event_transfers.specs.Packed.{prepared, trip_keys, area_walk}
use Rattle.event_transfers.proofs.all_events.Goals as goal

pub loop-ti-preserved : goal.loop-ti-preserved
loop-ti-preserved c =
    (omega (arith, c.trip-e.ensures.value, c.requires.sane.counts.times, c.requires.sane.runs.run c.loop-ti.ti (omega arith)), c.trip_events-n.ensures.bound, omega arith, omega arith, trips_again c.args.time c.loop-ti.e c.loop-ti.ti c.args.c.trips c.trip-e.result (trip_keys (prepared c.args.tables.now c.args.c c.args.runs.now c.args.work.now c.args.time)) (area_walk c.loop-ti.n c.loop-ti.area c.loop-ti.transfer_runs) c.loop-ti.invariant.4 c.trip_events-n.ensures.area_walk (trip_length _ _ _ c.trip-e.ensures.value) (omega arith))

pub returns-clause-area_walk : goal.returns-clause-area_walk
returns-clause-area_walk c =
    trips_left c.args.time c.loop-ti.e c.loop-ti.ti c.args.c.trips (trip_keys (prepared c.args.tables.now c.args.c c.args.runs.now c.args.work.now c.args.time)) c.loop-ti.invariant.4 (omega arith)
