use Rattle.line_pruning.proofs.Reading.{Walking}
use Rattle.line_pruning.proofs.some_before.Given as goal

abbrev pub invariant-loop-k : goal.invariant-loop-k
invariant-loop-k l = Walking l.lay l.work l.p l.off l.first l._k l.h
