use Prim.Native.Nat.{◌-◌, ◌%◌, ◌≤◌}
use mathlib.Core.Path.{◌≡◌}
use Rattle.loops.specs.Iter.{some_in}
use Rattle.byte_words.specs.ByteWord.{byte_in, both_have}
use Rattle.byte_words.proofs.share_bit.Given as goal

abbrev pub invariant-loop-from : goal.invariant-loop-from
invariant-loop-from l = let p = both_have (byte_in l.a) (byte_in l.b) in (l.from ≤ 64) × (l.from % 8 ≡ 0) × (some_in p 0 l.n ≡ some_in p l.from l.n)

abbrev pub decreases-loop-from : goal.decreases-loop-from
decreases-loop-from l = l.n - l.from
