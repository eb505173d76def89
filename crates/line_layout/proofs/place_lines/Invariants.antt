use Rattle.line_layout.specs.Layout.{line_trips_in, position_in}
use Rattle.loops.specs.Count.{tab}
use mathlib.Core.Path.{◌≡◌}
use Rattle.line_layout.proofs.place_lines.Given as goal

abbrev pub invariant-loop-l : goal.invariant-loop-l
invariant-loop-l l = l.positions ≡ tab (position_in (line_trips_in l.runs l.entries) l.l) l.c.trips
