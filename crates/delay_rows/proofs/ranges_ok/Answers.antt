use Rattle.std.proofs.Common.{rules, refl}
use Rattle.loops.proofs.Chains.{every_from_all}
use Rattle.stop_delay.specs.Door.{size_ok}
use Rattle.delay_rows.specs.Flat.{delay_row_at, stop_row_at}
use Rattle.delay_rows.specs.Door.{stop_in_range}
use Rattle.delay_rows.proofs.Both.{both, not_both}
use borrow.Author.Tests.{tests}
use Rattle.delay_rows.proofs.ranges_ok.Goals as goal

pub returns-then-delays : goal.returns-then-delays
returns-then-delays c =
    both
    (every_from_all _ _ _ (λ i. size_ok (delay_row_at c.args.delay_rows.now i).delay) 0 _ refl c.all-delays.ensures.ran (λ x b q k. search (rules, tests)))
    (every_from_all _ _ _ (λ j. stop_in_range (stop_row_at c.args.stop_rows.now j)) 0 _ refl c.all-stops.ensures.ran (λ x b q k. search (rules, tests)))
    c.if-delays.true

pub returns-else-delays : goal.returns-else-delays
returns-else-delays c =
    not_both _
    (every_from_all _ _ _ (λ i. size_ok (delay_row_at c.args.delay_rows.now i).delay) 0 _ refl c.all-delays.ensures.ran (λ x b q k. search (rules, tests)))
    c.if-delays.false
