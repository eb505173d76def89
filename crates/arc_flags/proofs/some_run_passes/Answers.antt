use Rattle.std.proofs.Common.{rules, refl, ◌∙◌, ◌+◌}
use borrow.Author.Tests.{tests}
use lib.Dec.{ltb}
use Rattle.loops.specs.Count.{count}
use Rattle.loops.proofs.Chains.{some_from_any}
use Rattle.arc_flags.specs.Skipping.{event_run_first, event_run_length, within_run}
use Rattle.arc_flags.proofs.Laws.{runs_counted}
use Rattle.arc_flags.proofs.some_run_passes.Goals as goal

pub returns : goal.returns
returns c =
    λ f h. let g = within_run f c.args.from c.args.n in let runs = c.args.transfer_runs.now in some_from_any _ _ _ (λ e. ltb (count g (event_run_first runs e)) (count g (event_run_first runs e + event_run_length runs e))) 0 _ refl c.any.ensures.ran (λ x b q k. search (rules, tests, h)) ∙ runs_counted g runs
