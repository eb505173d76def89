use Rattle.std.proofs.Common.{rules, refl}
use borrow.Author.Tests.{tests}
use Rattle.arc_flags.proofs.Laws.{flags_by}
use Rattle.arc_flags.proofs.flags_in_use.Goals as goal

pub returns-then-skips_edge : goal.returns-then-skips_edge
returns-then-skips_edge c =
    λ T Q e g h et eo. flags_by T Q (c.use_arc_flags.ensures T Q g.size eo et) (c.skips_edge.ensures T Q e g et) refl (search (rules, tests))

pub returns-else-skips_edge : goal.returns-else-skips_edge
returns-else-skips_edge c =
    λ T Q e g h et eo. flags_by T Q (c.use_arc_flags.ensures T Q g.size eo et) (c.skips_edge.ensures T Q e g et) (c.skips_transfer.ensures T Q g h et) (search (rules, tests))

pub returns-else-use_arc_flags : goal.returns-else-use_arc_flags
returns-else-use_arc_flags c = λ T Q e g h et eo. flags_by T Q (c.use_arc_flags.ensures T Q g.size eo et) refl refl (search (rules, tests))
