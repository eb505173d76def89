use Rattle.event_transfers.proofs.Grouping.{after_again, after_left, line_inside}
use native.Mathlib.Omega.{arith}
use Rattle.event_transfers.proofs.lines_after.Goals as goal

pub loop-k-preserved : goal.loop-k-preserved
loop-k-preserved c =
    (line_inside c.args.run.now c.loop-k.k c.line_end.result c.requires.keys c.line_end.ensures (omega arith), omega (arith, c.ready-n.ensures.bound, c.line_end.ensures.some), after_again c.args.run.now c.args.w c.loop-k.n c.loop-k.k c.line_end.result c.ready-n.result c.requires.keys c.line_end.ensures c.ready-n.ensures.value c.loop-k.invariant.2)

pub returns : goal.returns
returns c = record { most = after_left c.args.run.now c.args.w c.loop-k.n c.loop-k.k c.loop-k.invariant.2 (omega arith); few = omega arith }
