use Rattle.best_target.proofs.Laws.{reach_none, reach_some}
use Rattle.best_target.specs.Totals.{target_of}
use Rattle.best_target.proofs.with_reach.Goals as goal

pub returns-then-x-eq0 : goal.returns-then-x-eq0
returns-then-x-eq0 c = reach_none (target_of c.args.best) c.args.x c.args.stop c.args.walk c.if-x-eq0.true

pub returns-else-x-eq0 : goal.returns-else-x-eq0
returns-else-x-eq0 c = reach_some (target_of c.args.best) _ c.args.x c.args.stop c.args.walk c.if-x-eq0.false c.better.ensures
