use native.Mathlib.Omega.{arith}
use lib.ListN.{length-set}
use Rattle.search_state.proofs.Part.{few_of}
use Rattle.line_pruning.proofs.Reading.{linked_as}
use Rattle.line_pruning.proofs.link.Goals as goal

pub line_stamps_at-requires : goal.line_stamps_at-requires
line_stamps_at-requires c = few_of c.requires.work_sized

pub heads_at-requires : goal.heads_at-requires
heads_at-requires c = few_of c.requires.work_sized

pub links_at-requires : goal.links_at-requires
links_at-requires c = few_of c.requires.work_sized

pub least_at-requires : goal.least_at-requires
least_at-requires c = few_of c.requires.work_sized

pub bounds-work-least : goal.bounds-work-least
bounds-work-least c = simp length-set (omega (arith, c.requires.work_sized.words, c.requires.line_bound, c.requires.trip_bound, c.least_at.ensures))

pub bounds-work-head : goal.bounds-work-head
bounds-work-head c = simp length-set (omega (arith, c.requires.work_sized.words, c.requires.line_bound, c.requires.trip_bound, c.heads_at.ensures))

pub bounds-work-at : goal.bounds-work-at
bounds-work-at c =
    simp length-set (omega (arith, c.requires.work_sized.words, c.requires.line_bound, c.requires.trip_bound, c.line_stamps_at.ensures))

pub returns : goal.returns
returns c =
    linked_as c.args.lay c.args.stamp c.args.line c.args.trip c.args.off c.first_of-first.result _ _ _ _ c.args.work.now c.line_stamps_at.ensures c.heads_at.ensures c.links_at.ensures c.least_at.ensures c.first_of-first.ensures
