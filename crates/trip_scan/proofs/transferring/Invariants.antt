use Prim.Native.Nat.{◌-◌}
use Rattle.trip_scan.proofs.Queuing.{Queuing}
use Rattle.trip_scan.proofs.Transfers.{transfer_from}
use Rattle.trip_scan.specs.Scan.{Nets}
use Rattle.trip_boarding.specs.Reads.{hit_of}
use Rattle.model.specs.Search.{transferring}
use Rattle.model.specs.Tables.{stop_count}
use Rattle.search_state.specs.View.{memory}
use Rattle.tables.specs.Tables.{count_of}
use mathlib.Core.Path.{◌≡◌}
use Rattle.query_types.specs.Slices.{slices}
use Rattle.trip_scan.proofs.transferring.Given as goal

abbrev pub invariant-loop-o : goal.invariant-loop-o
invariant-loop-o l =
    (l.n ≡ count_of l.tables l.s.context.counts.timetable l.s.ride.trip) × Queuing l.s.context.lay l.s.ride.stamp (Nets l.s.context (slices l.tables l.delay_rows l.stop_rows l.built l.patterns l.transfers) l.initial.work)
    (λ T Q. transferring T Q l.s.ride.stamp (hit_of l.s.adj) l.s.ride.shift l.s.ride.trip (stop_count T l.s.ride.trip - l.p) l.p)
    (λ T Q. transfer_from T Q l.s.ride.stamp (hit_of l.s.adj) l.s.ride.shift l.s.ride.trip l.n l.o) (memory l.initial.work l.initial.labels l.initial.label_distances l.initial.x) (memory l.work l.labels l.label_distances l.x) l.initial.queue l.queue
