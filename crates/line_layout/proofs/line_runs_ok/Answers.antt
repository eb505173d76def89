use Rattle.std.proofs.Common.{rules, refl}
use Rattle.line_layout.specs.Layout.{line_run_at}
use Rattle.line_layout.specs.Listed.{line_run_in, line_runs_ok}
use Rattle.loops.proofs.Chains.{every_from_all}
use borrow.Author.Tests.{tests}
use Rattle.line_layout.proofs.line_runs_ok.Goals as goal

pub returns : goal.returns
unfolding line_runs_ok
returns c =
    every_from_all _ _ _ (λ l. line_run_in c.args.n (line_run_at c.args.runs.now l)) 0 _ refl c.all.ensures.ran (λ x b q k. search (rules, tests))
