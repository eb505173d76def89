use Prim.Native.Nat.{◌≤◌}
use mathlib.Core.Path.{◌≡◌}
use lib.ListN.{get_or}
use Rattle.loops.specs.Iter.{range}
use Rattle.byte_words.proofs.Words.{or_with}
use Rattle.cell_bitset.proofs.CellBitSet.is_empty.Given as goal

abbrev pub invariant-loop-at : goal.invariant-loop-at
invariant-loop-at l = (l.at ≤ l.end) × (range (or_with (λ k. get_or l.self.bytes k 0)) 0 l.end 0 ≡ range (or_with (λ k. get_or l.self.bytes k 0)) l.at l.end l.found)
