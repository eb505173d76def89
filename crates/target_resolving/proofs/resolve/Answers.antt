use Rattle.target_resolving.proofs.Lines.{resolve_outside}
use Rattle.tables.specs.Timetable.{Timetable}
use native.Mathlib.Omega.{arith}
use mathlib.Core.Path.{ap}
use Rattle.target_resolving.proofs.resolve.Goals as goal

pub returns-then-lined-line : goal.returns-then-lined-line
returns-then-lined-line c =
    λ T Q e g q h m. resolve_outside T Q e c.args.after c.args.best c.args.lined c.line_at-line.result c.args.target c.args.off _ h.lines (c.line_at-line.ensures.meaning T c.args.lined c.args.work.now (ap (λ (X : Timetable). X.trips) g.timetable) h) c.if-lined-line.true m (c.resolve_alone.ensures T Q g q)

pub resolve_line-requires : goal.resolve_line-requires
resolve_line-requires c =
    record { on_ground = c.requires.on_ground; after_bound = c.requires.after_bound; lines_held = c.requires.lines_held; line_bound = c.if-lined-line.false; target_bound = c.line_at-line.ensures.bound_2 (omega (arith, c.if-lined-line.false, c.requires.lines_held.few)) }

pub returns : goal.returns
returns c =
    λ T Q e g q h m. c.resolve_line.ensures T Q e g q h m (c.line_at-line.ensures.meaning T c.args.lined c.args.work.now (ap (λ (X : Timetable). X.trips) g.timetable) h)
