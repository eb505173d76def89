use Rattle.std.proofs.Common.{rules, refl}
use borrow.Author.Tests.{tests}
use Rattle.loops.proofs.Chains.{some_from_any}
use Rattle.arc_flags.specs.Skipping.{run_has}
use Rattle.arc_flags.proofs.some_run_has.Goals as goal

pub returns : goal.returns
returns c = some_from_any _ _ _ (run_has c.args.transfer_runs.now c.args.k) 0 _ refl c.any.ensures.ran (λ x b q k. search (rules, tests))
