use Rattle.layout_call.specs.Call.{layout_areas}
use Rattle.layout_call.proofs.Outcome.{admitted}
use mathlib.Core.Path.{sym}
use Rattle.layout_call.proofs.line_layout.Goals as goal

pub lay_out-requires : goal.lay_out-requires
lay_out-requires c =
    admitted c.args.settings c.args.tables.now c.args.c c.args.lines _ c.args.runs.now c.args.entries.now (layout_areas c.args.positions.now c.args.fifo.now) (sym c.in_ok-questions.ensures)
