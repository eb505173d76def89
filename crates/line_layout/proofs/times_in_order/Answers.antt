use Rattle.line_layout.specs.Layout.{in_order}
use Rattle.loops.proofs.Iter.{every_again, every_left, every_no}
use native.Mathlib.Omega.{arith}
use mathlib.Core.Path.{◌∙◌, ap₂, refl, sym}
use Rattle.line_layout.proofs.times_in_order.Goals as goal

pub loop-k-init : goal.loop-k-init
loop-k-init c = (omega arith, refl)

pub returns-then-not-in_order : goal.returns-then-not-in_order
returns-then-not-in_order c =
    every_no _ _ _ c.loop-k.invariant.1 (sym (c.in_order.ensures ∙ ap₂ in_order c.stop_time_row-p.ensures c.stop_time_row-q.ensures) ∙ c.if-not-in_order.true) (omega arith)

pub loop-k-preserved : goal.loop-k-preserved
loop-k-preserved c =
    (omega arith, every_again _ _ _ c.loop-k.invariant.1 (sym (c.in_order.ensures ∙ ap₂ in_order c.stop_time_row-p.ensures c.stop_time_row-q.ensures) ∙ c.if-not-in_order.false) (omega arith))

pub returns : goal.returns
returns c = every_left _ _ _ c.loop-k.invariant.1 (omega arith)
