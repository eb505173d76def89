use Rattle.std.proofs.Common.{rules, refl}
use Rattle.tables.specs.declared.Check.TheVariants.{StopTimeNumbers}
use Rattle.tables.specs.Door.{row_ok}
use Rattle.loops.proofs.Chains.{every_from_all}
use borrow.Author.Tests.{tests}
use Rattle.tables.proofs.stop_times_known.Goals as goal

pub returns : goal.returns
returns c = every_from_all _ _ _ (row_ok c.args.tables.now c.args.c StopTimeNumbers) 0 _ refl c.all.ensures.ran (λ x b q k. search (rules, tests))
