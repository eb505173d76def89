use Rattle.search_state.proofs.Marking.{entered_at}
use Rattle.search_state.proofs.enter.Goals as goal

pub returns : goal.returns
returns c =
    entered_at c.args.lay c.args.work.now c.requires.work_sized c.args.stamp c.args.s c.args.v c.args.count c.requires.s_bound c.requires.count_bound _ c.stamps_at.ensures
