use Rattle.std.proofs.Common.{rules, refl, ◌+◌, ◌-◌}
use Rattle.tables.specs.Timetable.{timetable}
use lib.ListN.{get_or}
use Rattle.line_layout.specs.Layout.{neighbours}
use Rattle.loops.proofs.Chains.{every_from_all}
use borrow.Author.Tests.{tests}
use Rattle.line_layout.proofs.run_in_order.Goals as goal

pub returns : goal.returns
returns c =
    every_from_all _ _ _ (λ p. neighbours (timetable c.args.tables.now c.args.c) (get_or c.args.entries.now (c.args.first + (p - 1)) 0) (get_or c.args.entries.now (c.args.first + p) 0)) 1 _ refl c.all.ensures.ran (λ x b q k. search (rules, tests))
