use Rattle.std.proofs.Common.{rules, refl}
use Rattle.tables.specs.declared.Check.TheVariants.{TripRuns}
use Rattle.tables.specs.Door.{row_ok, runs_ok}
use Rattle.loops.proofs.Chains.{every_from_all}
use borrow.Author.Tests.{tests}
use Rattle.tables.proofs.runs_ok.Goals as goal

pub returns : goal.returns
unfolding runs_ok
returns c = every_from_all _ _ _ (row_ok c.args.tables.now c.args.c TripRuns) 0 _ refl c.all.ensures.ran (λ x b q k. search (rules, tests))
