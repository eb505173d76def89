use Rattle.std.proofs.Common.{rules, refl}
use Rattle.stop_delay.specs.Times.{size_of}
use Rattle.delay_rows.specs.Delays.{or_larger}
use Rattle.delay_rows.specs.Flat.{delay_row_at}
use Rattle.delay_lookup.proofs.Fold.{range_from_fold}
use borrow.Author.Tests.{tests}
use Rattle.delay_lookup.proofs.largest_trip.Goals as goal

pub returns : goal.returns
returns c = range_from_fold _ 0 _ (or_larger (λ i. size_of (delay_row_at c.args.delay_rows.now i).delay)) 0 _ refl c.fold.ensures.ran (λ x i y q k. search (rules, tests))
