use Rattle.tables.specs.Timetable.{timetable}
use Rattle.line_numbers.specs.Grouping.{Grouping}
use Rattle.line_numbers.proofs.number_lines.Given as goal

abbrev pub invariant-loop-i : goal.invariant-loop-i
invariant-loop-i l = Grouping (timetable l.tables l.c) l.lines l.leads l.work l.other l.n l.i
