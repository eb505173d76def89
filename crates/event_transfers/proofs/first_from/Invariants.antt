use Rattle.loops.specs.Order.{Halved}
use Rattle.sorts.specs.Sort.{hi}
use lib.Dec.{leb}
use lib.ListN.{get_or, length}
use mathlib.Core.Path.{◌≡◌}
use Prim.Native.Nat.{◌+◌, ◌<◌}
use Rattle.event_transfers.proofs.first_from.Given as goal

abbrev pub invariant-loop-size : goal.invariant-loop-size
invariant-loop-size l = (l.n ≡ length l.part) × (0 < l.size) × Halved (λ i. leb l.key (hi (get_or l.part i 0))) (length l.part) l.lo (l.lo + l.size)

abbrev pub decreases-loop-size : goal.decreases-loop-size
decreases-loop-size l = l.size
