use Rattle.std.proofs.Common.{rules}
use borrow.Author.Tests.{tests}
use Rattle.walk_phase.proofs.skips.Goals as goal

pub returns-then-ctx : goal.returns-then-ctx
returns-then-ctx c = λ T Q g e. search (rules, tests, c.holds_target.ensures T Q g e)

pub returns-else-ctx : goal.returns-else-ctx
returns-else-ctx c = λ T Q g e. search (rules, tests)
