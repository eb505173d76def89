use Prim.Native.Nat.{◌≤◌}
use lib.ListN.{get_or}
use Rattle.cell_bitset.specs.CellSet.{byte_upto}
use Rattle.cell_bitset.proofs.Fill.{Filled}
use Rattle.cell_bitset.proofs.cleared.Given as goal

abbrev pub invariant-loop-i : goal.invariant-loop-i
invariant-loop-i l = (l.n ≤ l.i) × Filled (byte_upto l.n l.initial.bytes) (λ k. get_or l.initial.bytes k 0) l.i l.bytes
