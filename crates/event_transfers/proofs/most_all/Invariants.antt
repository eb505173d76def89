use Rattle.event_transfers.specs.Packed.{Most, all_keys, prepared, trip_keys}
use Rattle.loops.specs.Count.{tab_from}
use lib.ListN.{length}
use mathlib.Core.List.{flatten}
use Prim.Native.Nat.{◌-◌}
use Rattle.event_transfers.proofs.most_all.Given as goal

abbrev pub invariant-loop-ti : goal.invariant-loop-ti
invariant-loop-ti l = Most 0 (length (flatten (all_keys (prepared l.tables l.c l.runs l.work l.time)))) l.n (length (flatten (tab_from (λ k. flatten (trip_keys (prepared l.tables l.c l.runs l.work l.time) k)) l.ti (l.c.trips - l.ti))))
