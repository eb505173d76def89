use Rattle.std.proofs.Common.{rules, refl}
use Rattle.loops.proofs.Chains.{every_from_all}
use Rattle.delay_rows.specs.Flat.{delay_row_at, stop_row_at}
use Rattle.delay_rows.specs.Door.{row_in_order, trips_rise, stops_rise}
use Rattle.delay_rows.proofs.Both.{both, not_both}
use borrow.Author.Tests.{tests}
use Rattle.delay_rows.proofs.order_ok.Goals as goal

pub returns-then-delays : goal.returns-then-delays
returns-then-delays c =
    both
    (every_from_all _ _ _ (λ i. row_in_order trips_rise (delay_row_at c.args.delay_rows.now) i) 0 _ refl c.all-delays.ensures.ran (λ x b q k. search (rules, tests)))
    (every_from_all _ _ _ (λ j. row_in_order stops_rise (stop_row_at c.args.stop_rows.now) j) 0 _ refl c.all-stops.ensures.ran (λ x b q k. search (rules, tests)))
    c.if-delays.true

pub returns-else-delays : goal.returns-else-delays
returns-else-delays c =
    not_both _
    (every_from_all _ _ _ (λ i. row_in_order trips_rise (delay_row_at c.args.delay_rows.now) i) 0 _ refl c.all-delays.ensures.ran (λ x b q k. search (rules, tests)))
    c.if-delays.false
