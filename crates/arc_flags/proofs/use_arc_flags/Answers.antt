use borrow.Author.Rules.{rules}
use borrow.Author.Tests.{tests}
use Rattle.arc_flags.proofs.Laws.{flags_is}
use Rattle.arc_flags.proofs.use_arc_flags.Goals as goal
use Rattle.arc_flags.proofs.use_arc_flags.Goals.{then-not-no_bit, else-not-no_bit}

pub returns-then-count-ne0 : goal.returns-then-count-ne0
returns-then-count-ne0 c =
    λ T Q ec eo et. flags_is T Q c.args.count c.args.target c.args.flags_off _ _ ec eo et c.no_bit.ensures (elim c.if-not-no_bit.branch [ then-not-no_bit w ↦ search (rules, tests) | else-not-no_bit w ↦ search (rules, tests) ])

pub returns-else-count-ne0 : goal.returns-else-count-ne0
returns-else-count-ne0 c =
    λ T Q ec eo et. flags_is T Q c.args.count c.args.target c.args.flags_off _ _ ec eo et c.no_bit.ensures (elim c.if-not-no_bit.branch [ then-not-no_bit w ↦ search (rules, tests) | else-not-no_bit w ↦ search (rules, tests) ])
