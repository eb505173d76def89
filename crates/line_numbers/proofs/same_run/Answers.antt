use Rattle.std.proofs.Common.{rules, refl}
use Rattle.tables.specs.Timetable.{timetable}
use Rattle.line_numbers.specs.Grouping.{run_same}
use Rattle.loops.proofs.Chains.{every_from_all}
use borrow.Author.Tests.{tests}
use Rattle.line_numbers.proofs.same_run.Goals as goal

pub returns : goal.returns
returns c =
    every_from_all _ _ _ (run_same (timetable c.args.tables.now c.args.c) c.args.x c.args.y) 0 _ refl c.all.ensures.ran (λ x b q k. search (rules, tests))
