use Rattle.event_transfers.proofs.Grouping.{line_group, line_inside, lines_again, lines_left}
use Rattle.event_transfers.specs.Packed.{laid}
use native.Mathlib.Omega.{arith}
use Rattle.event_transfers.proofs.to_lines.Goals as goal

pub to_line-m-requires-clause-group : goal.to_line-m-requires-clause-group
to_line-m-requires-clause-group c = line_group c.args.run.now c.loop-k.k c.line_end.result c.requires.keys c.line_end.ensures

pub loop-k-preserved : goal.loop-k-preserved
loop-k-preserved c =
    (line_inside c.args.run.now c.loop-k.k c.line_end.result c.requires.keys c.line_end.ensures (omega arith), omega arith, lines_again c.args.run.now c.loop-k.k c.line_end.result c.requires.keys c.line_end.ensures _ _ _ (laid c.loop-k.m c.loop-k.area) c.loop-k.invariant.2 c.to_line-m.ensures)

pub returns : goal.returns
returns c = lines_left c.args.time c.args.ti c.args.w c.loop-k.k c.args.run.now c.loop-k.invariant.2 (omega arith)
