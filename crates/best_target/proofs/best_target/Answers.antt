use Rattle.best_target.proofs.Laws.{best_first, best_step, best_end}
use Rattle.best_target.specs.Totals.{target_of}
use Rattle.model.specs.Tables.{never}
use mathlib.Core.Path.{refl, sym, ◌∙◌}
use native.Mathlib.Omega.{arith}
use Rattle.best_target.proofs.best_target.Goals as goal

pub loop-i-init : goal.loop-i-init
loop-i-init c = (refl, λ T Q a g. best_first T Q a c.args.egress.now _ (never, never) refl)

pub with_stop-best-requires : goal.with_stop-best-requires
with_stop-best-requires c =
    record { v_bound = c.requires.earliest_ok.small _ (c.requires.egress_ok.stop c.loop-i.i (omega (arith, c.loop-i.invariant.0))); walk_bound = c.requires.egress_ok.walk c.loop-i.i (omega (arith, c.loop-i.invariant.0)) }

pub loop-i-preserved : goal.loop-i-preserved
loop-i-preserved c =
    let w = c.loop-i in (w.invariant.0, λ T Q a g. w.invariant.1 T Q a g ∙ best_step T Q a c.args.egress.now _ w.i _ (target_of w.best) _ c.loop-i-test.true (sym (g.at _ (c.requires.egress_ok.stop w.i (omega (arith, w.invariant.0))))) c.with_stop-best.ensures)

pub returns : goal.returns
returns c =
    let w = c.loop-i in λ T Q a g. best_end T Q a c.args.egress.now _ w.i (target_of w.best) c.loop-i-test.false ∙ sym (w.invariant.1 T Q a g)
