use Rattle.departure_scan.proofs.Departing.{scan_from}
use Rattle.model.specs.Search.{scan_departures}
use Rattle.departures.specs.Departures.{rows_of}
use Rattle.search_state.specs.View.{memory}
use lib.ListN.{length}
use mathlib.Core.Path.{◌≡◌}
use Prim.Native.Nat.{◌-◌, ◌/◌}
use Rattle.ride_step.proofs.Riding.{Riding}
use Rattle.ride_step.specs.Laid.{Rides}
use Rattle.query_types.specs.Slices.{slices}
use Rattle.departure_scan.proofs.scan_departures.Given as goal

abbrev pub invariant-loop-i : goal.invariant-loop-i
invariant-loop-i l =
    (l.m ≡ length l.list / 2) × Riding l.p.context.lay l.p.stamp (Rides l.p.context (slices l.tables l.delay_rows l.stop_rows l.built l.patterns l.transfers) l.initial.work) (λ T Q. scan_departures T Q l.p.context.flagged l.at.has_freq (l.p.stamp - 2) l.p.stamp l.at.stop l.at.after (rows_of l.list (length l.list / 2))) (λ T Q. scan_from T Q l.p.context.flagged l.at.has_freq (l.p.stamp - 2) l.p.stamp l.at.stop l.at.after l.list (length l.list / 2) l.i) (memory l.initial.work l.initial.labels l.initial.label_distances l.initial.g) (memory l.work l.labels l.label_distances l.g) l.initial.queue l.queue
