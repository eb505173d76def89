use Rattle.loops.proofs.Iter.{every_again, every_left, every_no}
use native.Mathlib.Omega.{arith}
use mathlib.Core.Path.{◌∙◌, refl, sym}
use Rattle.frequency_call.proofs.windows_in_range.Goals as goal

pub loop-i-init : goal.loop-i-init
loop-i-init c = (omega arith, refl)

pub returns-then-not-window_in_range : goal.returns-then-not-window_in_range
returns-then-not-window_in_range c = every_no _ _ _ c.loop-i.invariant.1 (sym c.window_in_range.ensures ∙ c.if-not-window_in_range.true) (omega arith)

pub loop-i-preserved : goal.loop-i-preserved
loop-i-preserved c =
    (omega arith, every_again _ _ _ c.loop-i.invariant.1 (sym c.window_in_range.ensures ∙ c.if-not-window_in_range.false) (omega arith))

pub returns : goal.returns
returns c = every_left _ _ _ c.loop-i.invariant.1 (omega arith)
