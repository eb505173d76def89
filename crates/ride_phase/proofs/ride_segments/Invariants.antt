use Rattle.ride_phase.proofs.Segmented.{segments_from}
use Rattle.model.specs.Search.{ride_segments}
use Rattle.search_state.specs.View.{memory, queue_of}
use Prim.Native.Nat.{◌-◌}
use Rattle.ride_step.proofs.Riding.{Riding}
use Rattle.ride_step.specs.Laid.{Rides}
use Rattle.query_types.specs.Slices.{slices}
use Rattle.ride_phase.proofs.ride_segments.Given as goal

abbrev pub invariant-loop-k : goal.invariant-loop-k
invariant-loop-k l =
    Riding l.p.context.lay l.p.stamp (Rides l.p.context (slices l.tables l.delay_rows l.stop_rows l.built l.patterns l.transfers) l.initial.work) (λ T Q. ride_segments T Q l.p.context.flagged (l.p.stamp - 2) l.p.stamp (queue_of l.from l.m)) (λ T Q. segments_from T Q l.p.context.flagged (l.p.stamp - 2) l.p.stamp l.from l.m l.k) (memory l.initial.work l.initial.labels l.initial.label_distances l.initial.g) (memory l.work l.labels l.label_distances l.g) l.initial.queue l.queue
