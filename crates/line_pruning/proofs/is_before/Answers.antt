use Rattle.search_state.proofs.Part.{few_of}
use Rattle.line_pruning.proofs.is_before.Goals as goal

pub positions_at-requires : goal.positions_at-requires
positions_at-requires c = few_of c.requires.work_sized

pub least_at-requires : goal.least_at-requires
least_at-requires c = few_of c.requires.work_sized
