use Rattle.tables.specs.Timetable.{timetable}
use Rattle.line_numbers.specs.Grouping.{LeadsWalked}
use Rattle.line_numbers.proofs.find_line.Given as goal

abbrev pub invariant-loop-l : goal.invariant-loop-l
invariant-loop-l l = LeadsWalked (timetable l.tables l.c) l.leads l.n l.i l.l

abbrev pub decreases-loop-l : goal.decreases-loop-l
decreases-loop-l l = l.l
