use Rattle.target_resolving.proofs.Lines.{alone_none, alone_passed, alone_tried}
use Rattle.target_resolving.specs.declared.Tried.TheVariants.{Take}
use mathlib.Core.Path.{sym, ◌∙◌}
use Rattle.target_resolving.proofs.resolve_alone.Goals as goal

pub returns-then-terms-eq0 : goal.returns-then-terms-eq0
returns-then-terms-eq0 c =
    λ T Q g q. alone_none T Q c.args.is_fifo c.args.off c.args.after c.args.best c.args.target c.args.terms.line_scan q.line_scan c.if-terms-eq0.true

pub returns-in-Take : goal.returns-in-Take
returns-in-Take c =
    λ T Q g q. alone_tried T Q c.args.is_fifo c.args.off c.args.after c.args.best c.args.target c.args.terms.line_scan q.line_scan (Take c.in-Take.run') c.if-terms-eq0.false (sym c.in-Take.is ∙ c.try_trip-step.ensures T Q g q)

pub returns-in-Next : goal.returns-in-Next
returns-in-Next c =
    λ T Q g q. alone_passed T Q c.args.is_fifo c.args.off c.args.after c.args.best c.args.target c.args.terms.line_scan q.line_scan _ c.if-terms-eq0.false c.in-Next.is (c.try_trip-step.ensures T Q g q)
