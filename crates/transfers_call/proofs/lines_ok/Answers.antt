use Rattle.std.proofs.Common.{rules, refl}
use lib.Dec.{ltb}
use lib.ListN.{get_or}
use Rattle.loops.proofs.Chains.{every_from_all}
use Rattle.transfers_call.specs.Call.{lines_ok}
use borrow.Author.Tests.{tests}
use Rattle.transfers_call.proofs.lines_ok.Goals as goal

pub returns : goal.returns
unfolding lines_ok
returns c = every_from_all _ _ _ (λ i. ltb (get_or c.args.lines.now i 0) c.args.line_count) 0 _ refl c.all.ensures.ran (λ x b q k. search (rules, tests))
