use Rattle.tables.specs.Timetable.{timetable}
use Rattle.loops.specs.Iter.{range}
use Rattle.line_numbers.specs.Grouping.{key_step}
use mathlib.Core.Path.{◌≡◌}
use Prim.Native.Nat.{◌<◌}
use Rattle.line_numbers.proofs.key_run.Given as goal

abbrev pub invariant-loop-k : goal.invariant-loop-k
invariant-loop-k l = (l.h < 4294967296) × (range (key_step (timetable l.tables l.c) l.x) 0 l.n 0 ≡ range (key_step (timetable l.tables l.c) l.x) l.k l.n l.h)
