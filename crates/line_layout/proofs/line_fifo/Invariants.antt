use Rattle.tables.specs.Timetable.{timetable}
use lib.ListN.{get_or, length}
use Rattle.line_layout.specs.Layout.{fifo_of}
use mathlib.Core.Path.{◌≡◌}
use Prim.Native.Nat.{◌<◌, ℕ}
use Rattle.line_layout.proofs.line_fifo.Given as goal

abbrev pub invariant-loop-l : goal.invariant-loop-l
invariant-loop-l l = (length l.fifo ≡ length l.initial.fifo) × ((j : ℕ) → j < l.l → get_or l.fifo j 0 ≡ fifo_of (timetable l.tables l.c) l.runs l.entries j)
