use lib.Dec.{leb}
use Rattle.delay_lookup.specs.Halving.{key_at}
use Prim.Native.Nat.{◌-◌}
use Rattle.loops.specs.Order.{Halved}
use Rattle.delay_lookup.proofs.first_from.Given as goal

abbrev pub invariant-loop-lo : goal.invariant-loop-lo
invariant-loop-lo l = Halved (λ i. leb l.key (key_at l.t l.width i)) l.n l.lo l.hi

abbrev pub decreases-loop-lo : goal.decreases-loop-lo
decreases-loop-lo l = l.hi - l.lo
