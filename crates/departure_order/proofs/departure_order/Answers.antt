use Rattle.std.proofs.Common.{rules, refl}
use Rattle.tables.specs.Timetable.{timetable}
use Rattle.departures.specs.Departures.{departures_of, run_length}
use Rattle.departure_order.specs.Order.{departure_order, part_order}
use Rattle.loops.proofs.Chains.{every_from_all}
use borrow.Author.Tests.{tests}
use Rattle.departure_order.proofs.departure_order.Goals as goal

pub returns : goal.returns
unfolding departure_order
returns c =
    every_from_all _ _ _ (λ s. part_order (timetable c.args.tables.now c.args.c) (departures_of c.args.runs.now c.args.rows.now s) (run_length c.args.runs.now s)) 0 _ refl c.all.ensures.ran (λ x b q k. search (rules, tests))
