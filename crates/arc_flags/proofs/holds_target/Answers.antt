use mathlib.Core.Path.{◌∙◌}
use borrow.Author.Tests.{le-leb}
use Rattle.arc_flags.proofs.Laws.{holds_past, holds_in}
use Rattle.arc_flags.proofs.holds_target.Goals as goal

pub returns-then-count-p : goal.returns-then-count-p
returns-then-count-p c = λ T Q g et. le-leb _ _ c.if-count-p.true ∙ holds_past T Q c.args.patterns.now c.args.count g c.args.p c.if-count-p.true

pub returns-else-count-p : goal.returns-else-count-p
returns-else-count-p c = λ T Q g et. holds_in T Q c.args.patterns.now c.args.count g c.args.p c.args.target _ c.if-count-p.false et c.row_shares.ensures
