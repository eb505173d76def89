use Rattle.std.proofs.Common.{rules, refl}
use lib.Dec.{ltb}
use lib.ListN.{get_or}
use Rattle.line_layout.specs.Listed.{entries_ok}
use Rattle.loops.proofs.Chains.{every_from_all}
use borrow.Author.Tests.{tests}
use Rattle.line_layout.proofs.entries_ok.Goals as goal

pub returns : goal.returns
unfolding entries_ok
returns c =
    every_from_all _ _ _ (λ p. ltb (get_or c.args.entries.now p 0) c.args.c.trips) 0 _ refl c.all.ensures.ran (λ x b q k. search (rules, tests))
