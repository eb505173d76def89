use Rattle.layout_call.specs.Call.{layout_areas}
use mathlib.Core.Path.{ap₂}
use Rattle.layout_call.proofs.lay_out.Goals as goal

pub returns : goal.returns
returns c = ap₂ layout_areas c.line_positions.ensures c.line_fifo.ensures
