use Rattle.search_state.proofs.Part.{few_of}
use Rattle.line_pruning.proofs.Reading.{first_no, first-yes}
use Rattle.line_pruning.proofs.first_of.Goals as goal

pub line_stamps_at-requires : goal.line_stamps_at-requires
line_stamps_at-requires c = few_of c.requires.work_sized

pub returns-else-work-at : goal.returns-else-work-at
returns-else-work-at c = first_no c.args.lay c.args.stamp c.args.work.now c.args.line _ c.line_stamps_at.ensures c.if-work-at.false

pub heads_at-requires : goal.heads_at-requires
heads_at-requires c = few_of c.requires.work_sized

pub returns-then-work-at : goal.returns-then-work-at
returns-then-work-at c =
    first-yes c.args.lay c.args.stamp c.args.work.now c.args.line _ _ c.line_stamps_at.ensures c.heads_at.ensures c.if-work-at.true
