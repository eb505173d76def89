use Rattle.loops.proofs.Iter.{every_again, every_left, every_no}
use Rattle.tables.specs.Door.{order_ok}
use native.Mathlib.Omega.{arith}
use mathlib.Core.Path.{sym, refl, ◌∙◌}
use Rattle.tables.proofs.order_ok.Goals as goal

pub loop-i-init : goal.loop-i-init
unfolding order_ok
loop-i-init c = (omega arith, refl)

pub returns-then-not-edge_rises : goal.returns-then-not-edge_rises
returns-then-not-edge_rises c = every_no _ _ _ c.loop-i.invariant.1 (sym c.edge_rises.ensures ∙ c.if-not-edge_rises.true) (omega arith)

pub loop-i-preserved : goal.loop-i-preserved
loop-i-preserved c = (omega arith, every_again _ _ _ c.loop-i.invariant.1 (sym c.edge_rises.ensures ∙ c.if-not-edge_rises.false) (omega arith))

pub returns : goal.returns
returns c = every_left _ _ _ c.loop-i.invariant.1 (omega arith)
