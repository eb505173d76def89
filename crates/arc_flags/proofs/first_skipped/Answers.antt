use Rattle.std.proofs.Common.{rules, refl}
use borrow.Author.Tests.{tests}
use Rattle.loops.proofs.Chains.{found_from_find}
use Rattle.arc_flags.specs.Skipping.{row_skipped}
use Rattle.arc_flags.proofs.first_skipped.Goals as goal

pub returns : goal.returns
returns c = λ T Q a. found_from_find _ _ _ (row_skipped T Q c.args.transfers.now) 0 _ refl c.find.ensures.ran (λ x b q k. search (rules, tests, a))
