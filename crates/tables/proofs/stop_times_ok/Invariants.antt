use mathlib.Core.Path.{◌≡◌}
use mathlib.Core.Bool.{◌&&◌}
use Rattle.loops.specs.Iter.{every_in}
use Rattle.tables.proofs.Yes.{in_range, kept}
use Rattle.tables.proofs.stop_times_ok.Given as goal

abbrev pub invariant-loop-i : goal.invariant-loop-i
invariant-loop-i l = every_in (in_range l.tables l.c) 0 l.c.times ≡ kept l.c l.stops l.times l.codes && every_in (in_range l.tables l.c) l.i l.i-end
