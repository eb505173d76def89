use lib.ListN.{length}
use Rattle.event_transfers.specs.Packed.{event_keys, lay_events, prepared, trip_keys, area_walk}
use Rattle.tables.specs.Tables.{count_of}
use mathlib.Core.Path.{◌≡◌}
use Prim.Native.Nat.{◌+◌, ◌-◌, ◌≤◌}
use Rattle.loops.specs.Count.{tab_from}
use Rattle.event_transfers.proofs.trip_events.Given as goal

abbrev pub invariant-loop-off : goal.invariant-loop-off
invariant-loop-off l = (l.count ≡ count_of l.tables l.c l.ti) × (l.m ≤ 65537) × (length l.area ≡ length l.initial.area) × (length l.transfer_runs ≡ length l.initial.transfer_runs) × (lay_events l.time l.e (trip_keys (prepared l.tables l.c l.runs l.work l.time) l.ti) (area_walk l.n l.initial.area l.initial.transfer_runs) ≡ lay_events l.time (l.e + l.off) (tab_from (event_keys (prepared l.tables l.c l.runs l.work l.time) l.ti) l.off (l.count - l.off)) (area_walk l.m l.area l.transfer_runs))
