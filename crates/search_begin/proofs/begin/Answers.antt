use Rattle.search_begin.proofs.Filling.{sized_same}
use Rattle.search_begin.proofs.Reading.{askable_as, layable}
use Rattle.search_begin.proofs.Beginning.{sized_as, access_needs, begins}
use borrow.Author.Rules.{rules}
use Rattle.search_begin.proofs.begin.Goals as goal

pub set_up-requires : goal.set_up-requires
set_up-requires c =
    record { layable = layable _ _ (askable_as c.requires.askable); lay_is = c.requires.lay_is; work_sized = sized_same c.requires.sized.sections (search rules) }

pub access-requires : goal.access-requires
access-requires c =
    let whole = access_needs c.args.counts c.args.tables.now c.args.built.now c.args.query.now c.args.distances.now c.args.lay _ _ _ _ _ _ c.turn.ensures c.requires.lay_is c.requires.askable (sized_as c.requires.sized (search rules) (search rules) (search rules)) c.reset-h.ensures.fresh c.set_up.ensures in record { origins = whole.0; count_is = whole.1.0; starting = whole.1.1 }

pub returns : goal.returns
returns c =
    begins c.args.counts c.args.tables.now c.args.built.now c.args.query.now c.args.distances.now c.args.lay _ _ _ _ _ _ _ _ _ _ c.turn.ensures c.requires.lay_is (sized_as c.requires.sized (search rules) (search rules) (search rules)) c.reset-h.ensures.fresh c.set_up.ensures c.access.ensures
