use Prim.Native.Nat.{◌≤◌}
use lib.ListN.{get_or}
use lib.Bits.{bit_or}
use Rattle.cell_bitset.specs.CellSet.{byte_upto}
use Rattle.cell_bitset.proofs.Fill.{Filled}
use Rattle.cell_bitset.proofs.merged.Given as goal

abbrev pub invariant-loop-i : goal.invariant-loop-i
invariant-loop-i l = (l.i ≤ l.n) × Filled (λ k. bit_or (get_or l.initial.bytes k 0) (byte_upto l.n l.from k)) (λ k. get_or l.initial.bytes k 0) l.i l.bytes
