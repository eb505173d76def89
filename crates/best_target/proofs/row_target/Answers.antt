use Rattle.best_target.proofs.Laws.{row_first, row_step, row_end}
use Rattle.best_target.specs.Totals.{target_of}
use Rattle.model.specs.Search.{reached_by}
use Rattle.model.specs.Tables.{never}
use mathlib.Core.Path.{refl, sym, ap, ◌∙◌}
use native.Mathlib.Omega.{arith}
use Rattle.best_target.proofs.row_target.Goals as goal

pub loop-i-init : goal.loop-i-init
loop-i-init c = (refl, λ T Q a g. row_first T Q a c.args.row c.args.egress.now _ (never, never) refl)

pub reached_in-x-requires : goal.reached_in-x-requires
reached_in-x-requires c =
    record { labels_ok = c.requires.labels_ok; stop_bound = c.requires.egress_ok.stop c.loop-i.i (omega (arith, c.loop-i.invariant.0)); row_bound = c.requires.row_bound }

pub with_reach-best-requires : goal.with_reach-best-requires
with_reach-best-requires c =
    record { x_bound = omega (arith, c.reached_in-x.ensures, c.requires.labels_ok.small _ c.args.row (c.requires.egress_ok.stop c.loop-i.i (omega (arith, c.loop-i.invariant.0))) c.requires.row_bound); walk_bound = c.requires.egress_ok.walk c.loop-i.i (omega (arith, c.loop-i.invariant.0)) }

pub loop-i-preserved : goal.loop-i-preserved
loop-i-preserved c =
    let w = c.loop-i in (w.invariant.0, λ T Q a g. w.invariant.1 T Q a g ∙ row_step T Q a c.args.row c.args.egress.now _ w.i _ (target_of w.best) _ c.loop-i-test.true (c.reached_in-x.ensures ∙ ap reached_by (sym (g.at _ c.args.row (c.requires.egress_ok.stop c.loop-i.i (omega (arith, c.loop-i.invariant.0))) c.requires.row_bound))) c.with_reach-best.ensures)

pub returns : goal.returns
returns c =
    let w = c.loop-i in λ T Q a g. row_end T Q a c.args.row c.args.egress.now _ w.i (target_of w.best) c.loop-i-test.false ∙ sym (w.invariant.1 T Q a g)
