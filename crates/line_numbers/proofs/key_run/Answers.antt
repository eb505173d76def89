use Rattle.loops.proofs.Iter.{range_again, range_left}
use native.Mathlib.Omega.{arith}
use mathlib.Core.Path.{ap}
use Prim.Native.Nat.{◌%◌, ◌*◌, ◌+◌, ℕ}
use Rattle.line_numbers.proofs.key_run.Goals as goal

pub loop-k-preserved : goal.loop-k-preserved
loop-k-preserved c =
    (omega arith, range_again _ _ _ c.loop-k.invariant.1 (ap (λ (s : ℕ). (c.loop-k.h * 1000003 + s + 1) % 4294967296) c.time.ensures.value) c.loop-k-test.true)

pub returns-clause-value : goal.returns-clause-value
returns-clause-value c = range_left _ _ _ c.loop-k.invariant.1 (omega arith)
