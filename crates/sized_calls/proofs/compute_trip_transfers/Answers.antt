use Rattle.sized_calls.specs.Shown.{shown_transfers_of}
use mathlib.Core.Path.{◌∙◌, ap}
use Rattle.tables.specs.declared.Counts.{Counts}
use Rattle.transfers_call.specs.Call.{transfer_areas, transfer_lent, transfers_outcome}
use Rattle.sized_calls.proofs.compute_trip_transfers.Goals as goal

pub returns : goal.returns
returns c =
    ap shown_transfers_of (c.compute_trip_transfers.ensures ∙ ap (λ (k : Counts). transfers_outcome (transfer_lent c.args.settings c.args.tables.now k c.args.line_count c.args.lines.now c.args.departures c.args.runs.now c.args.rows.now) (transfer_areas c.args.area.now c.args.transfer_runs.now)) c.counts-c.ensures)
