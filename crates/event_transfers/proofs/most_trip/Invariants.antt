use Rattle.event_transfers.specs.Packed.{Most, event_keys, prepared, trip_keys}
use Rattle.loops.specs.Count.{tab_from}
use Rattle.tables.specs.Tables.{count_of, first_of}
use lib.ListN.{length}
use mathlib.Core.List.{flatten}
use mathlib.Core.Path.{◌≡◌}
use Prim.Native.Nat.{◌-◌}
use Rattle.event_transfers.proofs.most_trip.Given as goal

abbrev pub invariant-loop-off : goal.invariant-loop-off
invariant-loop-off l = (l.count ≡ count_of l.tables l.c l.ti) × (l.first ≡ first_of l.tables l.c l.ti) × Most l.n (length (flatten (trip_keys (prepared l.tables l.c l.runs l.work l.time) l.ti))) l.m (length (flatten (tab_from (event_keys (prepared l.tables l.c l.runs l.work l.time) l.ti) l.off (l.count - l.off))))
