use mathlib.Core.List.{flatten}
use Rattle.loops.specs.Count.{tab_from}
use lib.ListN.{length}
use Rattle.event_transfers.specs.Packed.{all_keys, lay_events, prepared, trip_keys, area_walk}
use mathlib.Core.Path.{◌≡◌}
use Prim.Native.Nat.{◌*◌, ◌-◌, ◌≤◌}
use Rattle.event_transfers.proofs.all_events.Given as goal

abbrev pub invariant-loop-ti : goal.invariant-loop-ti
invariant-loop-ti l = (l.e ≤ l.ti * 65536) × (l.n ≤ 65537) × (length l.area ≡ length l.initial.area) × (length l.transfer_runs ≡ length l.initial.transfer_runs) × (lay_events l.time 0 (all_keys (prepared l.tables l.c l.runs l.work l.time)) (area_walk 0 l.initial.area l.initial.transfer_runs) ≡ lay_events l.time l.e (flatten (tab_from (trip_keys (prepared l.tables l.c l.runs l.work l.time)) l.ti (l.c.trips - l.ti))) (area_walk l.n l.area l.transfer_runs))
