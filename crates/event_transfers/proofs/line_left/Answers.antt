use Rattle.event_transfers.proofs.Grouping.{stretch_last, stretch_more, stretch_one}
use Rattle.event_transfers.specs.Packed.{line_x}
use native.Mathlib.Omega.{arith}
use Rattle.event_transfers.proofs.line_left.Goals.{else-i-work-via-then-i-work+else-work-i, else-i-work-via-else-i-work}
use Rattle.event_transfers.proofs.line_left.Goals as goal

pub returns-then-work-i-clause-stretch : goal.returns-then-work-i-clause-stretch
unfolding line_x
returns-then-work-i-clause-stretch c = stretch_more _ _ _ c.if-work-i.true (c.requires.i_bound_2 (omega arith))

pub returns-else-i-work-clause-stretch : goal.returns-else-i-work-clause-stretch
unfolding line_x
returns-else-i-work-clause-stretch c = elim c.else-i-work.branch [ else-i-work-via-then-i-work+else-work-i w ↦ stretch_one _ _ w.if-work-i.false | else-i-work-via-else-i-work w ↦ stretch_last _ _ w.if-i-work.false ]
