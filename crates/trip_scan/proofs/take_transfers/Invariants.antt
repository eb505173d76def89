use Rattle.trip_scan.proofs.Taking.{take_from}
use Rattle.trip_scan.proofs.Queuing.{Queuing}
use Rattle.model.specs.Search.{take_transfers}
use Rattle.event_transfers.specs.Transfers.{transfers_at}
use Rattle.search_state.specs.View.{memory}
use Rattle.trip_scan.specs.Scan.{Nets}
use Rattle.query_types.specs.Slices.{slices}
use Rattle.trip_scan.proofs.take_transfers.Given as goal

abbrev pub invariant-loop-j : goal.invariant-loop-j
invariant-loop-j l =
    Queuing l.s.context.lay l.s.ride.stamp (Nets l.s.context (slices l.tables l.delay_rows l.stop_rows l.built l.patterns l.transfers) l.initial.work) (λ T Q. take_transfers T Q l.s.ride.stamp l.v l.from (transfers_at l.transfers l.run))
    (λ T Q. take_from T Q l.s.ride.stamp l.v l.from l.transfers l.run.first l.run.length l.j) (memory l.initial.work l.initial.labels l.initial.label_distances l.initial.x) (memory l.work l.labels l.label_distances l.x) l.initial.queue l.queue
