use Prim.Native.Nat.{◌-◌}
use lib.Dec.{leb}
use Rattle.loops.specs.Order.{Halved}
use Rattle.tables.specs.Tables.{edge_of}
use Rattle.walk_phase.proofs.first_edge.Given as goal

abbrev pub invariant-loop-lo : goal.invariant-loop-lo
invariant-loop-lo l = Halved (λ i. leb l.x (edge_of l.tables l.c i 0)) l.c.edges l.lo l.hi

abbrev pub decreases-loop-lo : goal.decreases-loop-lo
decreases-loop-lo l = l.hi - l.lo
