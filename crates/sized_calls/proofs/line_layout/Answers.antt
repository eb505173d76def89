use Rattle.layout_call.specs.Call.{layout_areas, layout_outcome}
use mathlib.Core.Path.{◌∙◌, ap}
use Rattle.tables.specs.declared.Counts.{Counts}
use Rattle.sized_calls.proofs.line_layout.Goals as goal

pub returns : goal.returns
returns c =
    c.line_layout.ensures ∙ ap (λ (k : Counts). layout_outcome c.args.settings c.args.tables.now k c.args.lines c.args.entry_count c.args.runs.now c.args.entries.now (layout_areas c.args.positions.now c.args.fifo.now)) c.counts-c.ensures
