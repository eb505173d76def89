use Rattle.tables.specs.Timetable.{timetable}
use Rattle.loops.proofs.Count.{tab_is}
use Rattle.line_layout.specs.Layout.{fifo_of}
use native.Mathlib.Omega.{arith}
use Rattle.line_layout.proofs.line_fifo.Goals as goal

pub returns : goal.returns
returns c =
    tab_is (fifo_of (timetable c.args.tables.now c.args.c) c.args.runs.now c.args.entries.now) _ _ (omega arith) (λ k x. c.loop-l.invariant.1 k (omega arith))
