use Rattle.search_begin.proofs.Filling.{egress_none, egress_from, sized_same}
use Rattle.search_state.proofs.Part.{few_of}
use Rattle.std.specs.Prelude.{◌+◌, ◌-◌}
use native.Mathlib.Omega.{arith}
use borrow.Rule.Slice.PartMut.{put_mid}
use Rattle.words.specs.Filled.{Filled}
use Rattle.query_types.specs.Layout.{rest_at}
use Rattle.search_begin.proofs.Sections.{fill_part, filled_at}
use Rattle.search_begin.proofs.fill_egress.Goals.{After-fill}
use Rattle.search_begin.proofs.fill_egress.Goals as goal

pub rest_at-rest-requires : goal.rest_at-rest-requires
rest_at-rest-requires c = few_of c.requires.work_sized

-- the egress table cleared
cleared : (c : After-fill) → Filled (rest_at c.args.lay) (rest_at c.args.lay + c.args.lay.stops) 0 c.args.work.now (put_mid c.rest_at-rest.result (c.rest_at-rest.result + c.args.lay.stops - c.rest_at-rest.result) c.args.work.now c.fill.new.self)
cleared c =
    let r = c.rest_at-rest.result in
    filled_at _ c.rest_at-rest.ensures (fill_part r (r + c.args.lay.stops) 0 c.args.work.now c.fill.new.self (omega arith) (omega (arith, c.rest_at-rest.ensures, c.requires.work_sized.words)) (c.fill.ensures.after (λ y e. e)))

pub put_egresses-requires : goal.put_egresses-requires
put_egresses-requires c =
    let f = cleared (goal.at.put_egresses-requires c).After-fill in
    record { work_sized = sized_same c.requires.work_sized f.size; egress_rows = c.requires.egress_rows; egressed = egress_none c.args.lay c.args.work.now _ f }

pub returns : goal.returns
returns c = egress_from c.args.lay c.args.work.now _ _ _ (cleared (goal.at.returns c).After-fill) c.put_egresses.ensures
