use Rattle.tables.specs.Timetable.{timetable}
use Rattle.line_numbers.proofs.Group.{found_below, group_join, group_new}
use native.Mathlib.Omega.{arith}
use mathlib.Core.Path.{◌∙◌, sym}
use Rattle.line_numbers.proofs.place.Goals as goal

pub overflow_cast-lines : goal.overflow_cast-lines
overflow_cast-lines c =
    omega (arith, c.requires.grouping.firsts.few, c.requires.sane.counts.trips, found_below (timetable c.args.tables.now c.args.c) c.args.leads.now c.args.n c.args.i c.in-Some.l (sym c.in-Some.is ∙ c.find_line.ensures))

pub returns-in-Some : goal.returns-in-Some
returns-in-Some c =
    group_join (timetable c.args.tables.now c.args.c) c.args.lines.now c.args.leads.now c.args.work.now c.args.other.now c.args.n c.args.i c.requires.grouping c.requires.i_bound c.in-Some.l (sym c.in-Some.is ∙ c.find_line.ensures)

pub returns-in-None : goal.returns-in-None
returns-in-None c =
    group_new (timetable c.args.tables.now c.args.c) c.args.lines.now c.args.leads.now c.args.work.now c.args.other.now c.args.n c.args.i c.requires.grouping c.requires.i_bound c.bucket-b.result (sym c.in-None.is ∙ c.find_line.ensures) c.bucket-b.ensures
