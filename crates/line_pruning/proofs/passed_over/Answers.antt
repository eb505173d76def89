use Rattle.std.proofs.Common.{rules}
use Rattle.std.specs.Prelude.{◌≡◌, ◌+◌, ◌&&◌, ◌||◌, get_or, ltb, eqb}
use borrow.Author.Tests.{tests}
use Rattle.line_pruning.proofs.passed_over.Goals.{then-dep-d, else-dep-d+then-dep-d-2, else-dep-d+else-dep-d-2}
use Rattle.search_state.proofs.Part.{few_of}
use Rattle.line_pruning.proofs.Reading.{passed_no, passed_yes}
use Rattle.line_pruning.proofs.passed_over.Goals as goal

pub trip_stamps_at-requires : goal.trip_stamps_at-requires
trip_stamps_at-requires c = few_of c.requires.work_sized

pub returns-then-work-at : goal.returns-then-work-at
returns-then-work-at c =
    λ T Q b bk. passed_no T Q c.args.lay c.args.stamp c.args.work.now b bk c.args.trip c.args.off c.args.dep c.requires.trip_bound _ c.trip_stamps_at.ensures c.if-work-at.true

pub boarded_offsets_at-requires : goal.boarded_offsets_at-requires
boarded_offsets_at-requires c = few_of c.requires.work_sized

pub boarded_departures_at-requires : goal.boarded_departures_at-requires
boarded_departures_at-requires c = few_of c.requires.work_sized

pub returns : goal.returns
returns c =
    let w = c.args.work.now in
    let d = get_or w (c.boarded_departures_at.result + c.args.trip) 0 in
    let o = get_or w (c.boarded_offsets_at.result + c.args.trip) 0 in
    let better : c.if-dep-d.result ≡ (ltb c.args.dep d || (eqb c.args.dep d && ltb c.args.off o)) =
    elim c.if-dep-d.branch [
      | then-dep-d v ↦ search (rules, tests)
      | else-dep-d+then-dep-d-2 v ↦ search (rules, tests)
      | else-dep-d+else-dep-d-2 v ↦ search (rules, tests)
    ] in
    λ T Q b bk. passed_yes T Q c.args.lay c.args.stamp w b bk c.args.trip c.args.off c.args.dep c.requires.trip_bound _ _ _ c.trip_stamps_at.ensures c.boarded_offsets_at.ensures c.boarded_departures_at.ensures _ c.if-work-at.false better
