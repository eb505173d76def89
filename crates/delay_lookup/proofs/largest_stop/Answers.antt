use Rattle.std.proofs.Common.{rules, refl}
use Rattle.delay_rows.specs.Delays.{given_size, or_larger}
use Rattle.delay_rows.specs.Flat.{stop_row_at}
use Rattle.delay_lookup.proofs.Fold.{range_from_fold}
use borrow.Author.Tests.{tests}
use Rattle.delay_lookup.proofs.largest_stop.Goals as goal

pub returns : goal.returns
returns c = range_from_fold _ 0 _ (or_larger (λ j. given_size (stop_row_at c.args.stop_rows.now j))) 0 _ refl c.fold.ensures.ran (λ x i y q k. search (rules, tests))
