use Rattle.best_target.proofs.Laws.{better_less, better_not}
use Rattle.best_target.specs.Totals.{target_of}
use Rattle.best_target.proofs.better.Goals as goal

pub returns-then-total-best : goal.returns-then-total-best
returns-then-total-best c = better_less (target_of c.args.best) c.args.total c.args.stop c.if-total-best.true

pub returns-else-total-best : goal.returns-else-total-best
returns-else-total-best c = better_not (target_of c.args.best) c.args.total c.args.stop c.if-total-best.false
