use mathlib.Core.Path.{◌≡◌}
use Prim.Native.Nat.{◌+◌}
use lib.ListN.{get_or}
use lib.Bits.{bit_and}
use Rattle.loops.specs.Iter.{range}
use Rattle.byte_words.specs.ByteWord.{byte_in, eight_of}
use Rattle.byte_words.proofs.Words.{or_with}
use Rattle.byte_words.proofs.row_shares.Given as goal

abbrev pub invariant-loop-w : goal.invariant-loop-w
invariant-loop-w l =
    let h = or_with (λ k. bit_and (eight_of (λ i. byte_in l.bytes (l.at + i)) k) (get_or l.words k 0)) in range h 0 8 0 ≡ range h l.w 8 l.shared
