use Rattle.std.proofs.Common.{rules, refl}
use lib.Dec.{ltb}
use Rattle.loops.proofs.Chains.{every_from_all}
use Rattle.query_door.specs.Door.{column_at, column_below}
use borrow.Author.Tests.{tests}
use Rattle.query_door.proofs.column_below.Goals as goal

pub returns : goal.returns
unfolding column_below
returns c = every_from_all _ _ _ (λ i. ltb (column_at c.args.s.now c.args.first c.args.stride i) c.args.bound) 0 _ refl c.all.ensures.ran (λ x b q k. search (rules, tests))
