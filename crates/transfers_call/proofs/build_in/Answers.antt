use Rattle.transfers_call.proofs.Written.{settled_with, sorted_with}
use Rattle.transfers_call.specs.Call.{transfer_areas, transfer_lent}
use mathlib.Core.Path.{◌∙◌}
use Rattle.transfers_call.proofs.build_in.Goals as goal

pub settle-requires : goal.settle-requires
settle-requires c =
    record { sane = c.requires.transfers_admitted.sane; runs_listed = c.requires.transfers_admitted.listed.stops; sorted_runs = sorted_with (transfer_lent c.args.settings c.args.tables.now c.args.c c.args.line_count c.args.lines.now c.args.d c.args.runs.now c.args.rows.now) _ c.requires.transfers_admitted _ _ _ c.pack_lines.ensures c.sort_stops.ensures c.line_ends.ensures; time_bound = c.requires.transfers_admitted.time }

pub returns : goal.returns
returns c =
    c.settle.ensures ∙ settled_with (transfer_lent c.args.settings c.args.tables.now c.args.c c.args.line_count c.args.lines.now c.args.d c.args.runs.now c.args.rows.now) (transfer_areas c.args.area.now c.args.transfer_runs.now) c.requires.transfers_admitted _ _ c.pack_lines.ensures c.sort_stops.ensures
