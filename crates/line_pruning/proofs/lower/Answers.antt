use Rattle.search_state.proofs.Part.{few_of}
use Rattle.line_pruning.proofs.Reading.{lowered_no, lowered_yes}
use Rattle.line_pruning.proofs.lower.Goals as goal

pub least_at-requires : goal.least_at-requires
least_at-requires c = few_of c.requires.work_sized

pub returns-then-work-least : goal.returns-then-work-least
returns-then-work-least c = lowered_no c.args.lay 0 0 c.args.trip c.args.off c.args.work.now _ c.least_at.ensures c.if-work-least.true

pub returns : goal.returns
returns c = lowered_yes c.args.lay 0 0 c.args.trip c.args.off c.args.work.now _ c.least_at.ensures c.if-work-least.false
