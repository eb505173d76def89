use Rattle.ride_phase.proofs.Stopping.{all_scanned, late_scanned}
use Rattle.ride_phase.specs.Scanned.{list_at}
use Rattle.departure_scan.specs.Listed.{RowsOrdered}
use lib.ListN.{length}
use mathlib.Core.List.{List}
use mathlib.Core.Path.{subst, sym}
use Prim.Native.Nat.{ℕ, ◌/◌}
use Rattle.ride_phase.proofs.departures_from.Goals as goal

pub departures_at-list-requires : goal.departures_at-list-requires
departures_at-list-requires c =
    record { limits = c.requires.limits; marks_at = c.requires.marks_at; runs_listed = c.requires.runs_listed; x_bound = c.requires.x_bound }

pub returns-then-has_freq : goal.returns-then-has_freq
returns-then-has_freq c =
    let L = list_at c.args.built.now c.args.counts c.args.x in let whole = all_scanned c.args.tables.now c.args.counts.timetable L _ c.args.has_freq c.args.m c.departures_at-list.ensures c.if-has_freq.true c.requires.rows_ordered in record { rows_known = whole.0; meaning = whole.1 }

pub not_before-requires : goal.not_before-requires
not_before-requires c =
    subst (λ (l : List ℕ). RowsOrdered c.args.tables.now c.args.counts.timetable l (length l / 2)) (sym c.departures_at-list.ensures) c.requires.rows_ordered

pub returns-else-has_freq : goal.returns-else-has_freq
returns-else-has_freq c =
    let L = list_at c.args.built.now c.args.counts c.args.x in let whole = late_scanned c.args.tables.now c.args.counts.timetable L _ c.args.has_freq c.args.m c.departures_at-list.ensures c.if-has_freq.false c.not_before.result.now c.not_before.ensures.rows_ordered c.not_before.ensures.meaning in record { rows_known = whole.0; meaning = whole.1 }
