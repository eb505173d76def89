use Rattle.tables.specs.declared.Check.TheVariants.{EdgeRanges}
use Rattle.tables.specs.Door.{row_ok, every_row}
use Rattle.loops.specs.Iter.{every_in}
use mathlib.Core.Path.{◌≡◌}
use Prim.Native.Nat.{◌≤◌}
use Rattle.tables.proofs.edges_in_range.Given as goal

abbrev pub invariant-loop-i : goal.invariant-loop-i
invariant-loop-i l = (l.i ≤ l.c.edges) × (every_row l.tables l.c EdgeRanges ≡ every_in (row_ok l.tables l.c EdgeRanges) l.i l.c.edges)
