use Rattle.event_transfers.proofs.Events.{most_again, most_all_start, most_left}
use Rattle.event_transfers.specs.Packed.{prepared, trip_keys}
use mathlib.Core.List.{flatten}
use native.Mathlib.Omega.{arith}
use mathlib.Core.Path.{refl}
use Rattle.event_transfers.proofs.most_all.Goals as goal

pub loop-ti-init : goal.loop-ti-init
loop-ti-init c = most_all_start _ _ refl

pub loop-ti-preserved : goal.loop-ti-preserved
loop-ti-preserved c =
    most_again (λ k. flatten (trip_keys (prepared c.args.tables.now c.args.c c.args.runs.now c.args.work.now c.args.time) k)) 0 _ c.loop-ti.ti c.args.c.trips c.loop-ti.n c.most_trip-n.result c.loop-ti.invariant c.most_trip-n.ensures (omega arith)

pub returns : goal.returns
returns c =
    most_left (λ k. flatten (trip_keys (prepared c.args.tables.now c.args.c c.args.runs.now c.args.work.now c.args.time) k)) 0 _ c.loop-ti.ti c.args.c.trips c.loop-ti.n c.loop-ti.invariant (omega arith)
