use borrow.Author.Tests.{le-leb, lt-leb}
use Rattle.loops.proofs.Search.{halved_end, halved_down, halved_start, halved_up}
use Rattle.delay_lookup.proofs.Search.{mul_below}
use native.Mathlib.Omega.{arith}
use Prim.Native.Nat.{◌+◌, ◌-◌, ◌/◌}
use Rattle.delay_lookup.proofs.first_from.Goals as goal

pub loop-lo-init : goal.loop-lo-init
loop-lo-init c = halved_start _ _

pub key_at-requires : goal.key_at-requires
key_at-requires c = omega (arith, mul_below (c.loop-lo.lo + (c.loop-lo.hi - c.loop-lo.lo) / 2) c.args.n c.args.width (omega arith))

pub loop-lo-preserved-then-key_at-key : goal.loop-lo-preserved-then-key_at-key
loop-lo-preserved-then-key_at-key c = halved_up _ _ _ _ _ c.requires.stays c.loop-lo.invariant (lt-leb _ _ (rw c.key_at.ensures at c.if-key_at-key.true)) (omega arith)

pub loop-lo-preserved : goal.loop-lo-preserved
loop-lo-preserved c =
    halved_down _ _ _ _ _ c.requires.stays c.loop-lo.invariant (le-leb _ _ (rw c.key_at.ensures at c.if-key_at-key.false)) (omega arith) (omega arith)

pub returns : goal.returns
returns c = halved_end _ _ _ _ c.loop-lo.invariant (omega arith)
