use Prim.Native.Nat.{◌-◌}
use Rattle.trip_boarding.specs.Reads.{hit_of}
use Rattle.model.specs.Search.{alightings}
use Rattle.model.specs.Tables.{stop_count}
use Rattle.search_state.specs.View.{memory}
use Rattle.tables.specs.Tables.{count_of}
use Rattle.trip_scan.proofs.Alighting.{alight_from}
use Rattle.trip_scan.proofs.Along.{Along}
use Rattle.trip_scan.specs.Scan.{Reads}
use mathlib.Core.Path.{◌≡◌}
use Rattle.trip_scan.proofs.alightings.Given as goal

abbrev pub invariant-loop-o : goal.invariant-loop-o
invariant-loop-o l =
    (l.n ≡ count_of l.tables l.s.context.counts.timetable l.s.ride.trip) × (l.trip ≡ l.s.ride.trip) × Along l.s.context.lay l.s.ride.stamp (Reads l.tables l.s.context.counts.timetable l.delay_rows l.stop_rows l.s.context.lay l.initial.work) (λ T Q. alightings T Q l.s.ride.stamp (hit_of l.s.adj) l.s.ride.shift l.s.ride.trip l.s.ride.stop l.s.ride.offset (stop_count T l.s.ride.trip - l.p) l.p)
    (λ T Q. alight_from T Q l.s.ride.stamp (hit_of l.s.adj) l.s.ride.shift l.s.ride.trip l.s.ride.stop l.s.ride.offset l.n l.o) (memory l.initial.work l.initial.labels l.initial.label_distances l.initial.x) (memory l.work l.labels l.label_distances l.x)
