use Rattle.tables.specs.declared.Check.TheVariants.{EdgeOrder}
use Rattle.tables.specs.Door.{row_ok, order_ok}
use Rattle.loops.specs.Iter.{every_in}
use mathlib.Core.Path.{◌≡◌}
use Prim.Native.Nat.{◌≤◌}
use Rattle.tables.proofs.order_ok.Given as goal

abbrev pub invariant-loop-i : goal.invariant-loop-i
invariant-loop-i l = (l.i ≤ l.c.edges) × (order_ok l.tables l.c ≡ every_in (row_ok l.tables l.c EdgeOrder) l.i l.c.edges)
