use Rattle.search_state.proofs.Part.{few_of}
use Rattle.search_begin.proofs.put_egress.Goals as goal

pub rest_at-requires : goal.rest_at-requires
rest_at-requires c = few_of c.requires.work_sized
