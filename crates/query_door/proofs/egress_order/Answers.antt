use Rattle.std.proofs.Common.{rules, refl}
use Prim.Native.Nat.{◌-◌}
use lib.Dec.{ltb}
use Rattle.loops.proofs.Chains.{every_from_all}
use Rattle.query_door.specs.Door.{column_at, column_rises}
use borrow.Author.Tests.{tests}
use Rattle.query_door.proofs.egress_order.Goals as goal

pub returns : goal.returns
unfolding column_rises
returns c = every_from_all _ _ _ (λ k. ltb (column_at c.args.query.now c.args.at 2 (k - 1)) (column_at c.args.query.now c.args.at 2 k)) 1 _ refl c.all.ensures.ran (λ x b q k. search (rules, tests))
