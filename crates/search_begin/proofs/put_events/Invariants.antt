use Rattle.search_begin.proofs.Sections.{Running}
use Rattle.search_begin.proofs.put_events.Given as goal

abbrev pub invariant-loop-i : goal.invariant-loop-i
invariant-loop-i l = Running l.tables l.c l.a l.i-end l.initial.work l.work l.before l.i
