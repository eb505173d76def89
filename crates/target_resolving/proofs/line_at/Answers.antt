use Rattle.target_resolving.proofs.Lines.{line_past, line_known}
use mathlib.Core.Path.{refl}
use Rattle.target_resolving.proofs.line_at.Goals as goal

pub returns-then-trip-c-clause-meaning : goal.returns-then-trip-c-clause-meaning
returns-then-trip-c-clause-meaning c = λ T n work e h. line_known T c.args.c n c.args.built.now work e h c.args.trip _ c.if-trip-c.true refl

pub returns-else-trip-c-clause-meaning : goal.returns-else-trip-c-clause-meaning
returns-else-trip-c-clause-meaning c = λ T n work e h. line_past T c.args.c n c.args.built.now work e h c.args.trip c.if-trip-c.false
