use Rattle.search_state.proofs.Part.{few_of}
use Rattle.line_pruning.proofs.Reading.{read_at, dominated_is}
use Rattle.line_pruning.proofs.dominated.Goals as goal

pub positions_at-requires : goal.positions_at-requires
positions_at-requires c = few_of c.requires.work_sized

pub some_before-requires : goal.some_before-requires
some_before-requires c =
    record { work_sized = c.requires.work_sized; inside = rw c.first_of-first.ensures (record { at = λ x z. c.requires.chains.inside c.args.line x c.requires.line_bound z }) }

pub returns : goal.returns
returns c =
    λ T Q k built b ag bk el. dominated_is T Q c.args.lay k built c.args.work.now c.args.stamp c.args.line c.args.trip c.args.off _ _ _ b ag bk el c.requires.line_bound c.requires.trip_bound (read_at c.args.work.now c.args.trip _ _ c.positions_at.ensures) c.first_of-first.ensures c.some_before.ensures
