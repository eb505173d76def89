use Rattle.sized_calls.specs.Shown.{shown_of}
use mathlib.Core.Path.{◌∙◌, ap}
use Rattle.tables.specs.declared.Counts.{Counts}
use Rattle.lines_call.specs.Call.{line_areas, lines_outcome}
use Rattle.sized_calls.proofs.compute_line_groups.Goals as goal

pub returns : goal.returns
returns c =
    ap shown_of (c.compute_line_groups.ensures.lines_outcome_of ∙ ap (λ (k : Counts). lines_outcome c.args.settings c.args.tables.now k (line_areas c.args.lines.now c.args.runs.now c.args.entries.now c.args.work.now c.args.other.now)) c.counts-c.ensures)
