use Rattle.model.specs.Search.{scan_stops}
use Rattle.search_state.specs.Part.{part}
use Rattle.search_state.specs.View.{memory}
use lib.ListN.{drop}
use Prim.Native.Nat.{◌-◌}
use Rattle.ride_step.proofs.Riding.{Riding}
use Rattle.ride_step.specs.Going.{Changing}
use Rattle.query_types.specs.Slices.{slices}
use Rattle.ride_phase.proofs.scan_stops.Given as goal

abbrev pub invariant-loop-i : goal.invariant-loop-i
invariant-loop-i l =
    Riding l.p.context.lay l.p.stamp (Changing l.p.context (slices l.tables l.delay_rows l.stop_rows l.built l.patterns l.transfers) (l.p.stamp - 2) l.p.change l.initial.work) (λ T Q. scan_stops T Q l.p.context.flagged (l.p.stamp - 2) l.p.stamp (part l.initial.work l.p.context.lay.other l.count)) (λ T Q. scan_stops T Q l.p.context.flagged (l.p.stamp - 2) l.p.stamp (drop l.i (part l.initial.work l.p.context.lay.other l.count))) (memory l.initial.work l.initial.labels l.initial.label_distances l.initial.g) (memory l.work l.labels l.label_distances l.g) l.initial.queue l.queue
