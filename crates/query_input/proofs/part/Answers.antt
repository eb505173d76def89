use native.Mathlib.Omega.{arith}
use Prim.Native.Nat.{◌+◌}
use Rattle.sorts.proofs.Within.{part_slice}
use Rattle.query_input.proofs.part.Goals as goal

pub returns : goal.returns
returns c = part_slice c.args.first (c.args.first + c.args.count) c.args.s.now (omega arith) (omega arith)
