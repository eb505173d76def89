use Rattle.tables.specs.Timetable.{timetable}
use Rattle.line_numbers.proofs.Tally.{zeros}
use Rattle.loops.proofs.Count.{tab_is}
use Rattle.line_numbers.proofs.Group.{group_start}
use Rattle.loops.specs.Count.{count}
use native.Mathlib.Omega.{arith}
use mathlib.Core.Path.{◌∙◌, ap}
use Rattle.line_numbers.proofs.number_lines.Goals as goal

pub loop-i-init : goal.loop-i-init
loop-i-init c =
    group_start (timetable c.args.tables.now c.args.c) _ _ _ _ c.requires.lines_length c.requires.leads_length (zeros _ _ _ (c.fill.ensures.after (λ y e. e)) c.requires.work_length) c.requires.other_length

pub returns : goal.returns
returns c =
    record { lines_new = tab_is _ _ _ c.loop-i.invariant.size (λ k x. c.loop-i.invariant.done k (omega arith)); value = c.loop-i.invariant.firsts.lines ∙ ap (count _) (omega (arith, c.loop-i.invariant.firsts.within)) }
