use Rattle.line_layout.proofs.Placing.{placed_again, placed_none}
use native.Mathlib.Omega.{arith}
use mathlib.Core.Path.{refl}
use Prim.Native.Nat.{◌+◌}
use Rattle.line_layout.proofs.place_run.Goals as goal

pub loop-p-init : goal.loop-p-init
loop-p-init c = placed_none c.args.entries.now c.args.r.first _ _ refl

pub loop-p-preserved : goal.loop-p-preserved
loop-p-preserved c =
    placed_again c.args.entries.now c.args.r.first c.loop-p.p _ _ c.loop-p.invariant refl (omega (arith, c.requires.entries_listed.trip (c.args.r.first + c.loop-p.p) (omega arith)))
