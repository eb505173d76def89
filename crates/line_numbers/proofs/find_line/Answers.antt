use Rattle.tables.specs.Timetable.{timetable}
use mathlib.Core.Path.{◌∙◌, refl, sym}
use Prim.Native.Nat.{◌-◌}
use Rattle.line_numbers.proofs.Chain.{bucket_below, walked_start, next_less, walked_again, walked_hit, walked_none}
use native.Mathlib.Omega.{arith}
use Rattle.line_numbers.proofs.find_line.Goals as goal

pub offset_bounds-work-b : goal.offset_bounds-work-b
offset_bounds-work-b c =
    omega (arith, c.requires.sane.counts.trips, c.requires.b_is, bucket_below (timetable c.args.tables.now c.args.c) c.args.i (omega arith))

pub bounds-work-b : goal.bounds-work-b
bounds-work-b c =
    omega (arith, c.requires.chained.work_size, c.requires.b_is, bucket_below (timetable c.args.tables.now c.args.c) c.args.i (omega arith))

pub loop-l-init : goal.loop-l-init
loop-l-init c =
    walked_start (timetable c.args.tables.now c.args.c) c.args.leads.now c.args.n c.args.i c.args.work.now c.args.other.now c.args.b _ c.requires.chained c.requires.i_bound c.requires.b_is refl

pub returns-then-same_stops : goal.returns-then-same_stops
returns-then-same_stops c =
    walked_hit (timetable c.args.tables.now c.args.c) c.args.leads.now c.args.n c.args.i (c.loop-l.l - 1) c.loop-l.l c.requires.leads c.loop-l.invariant (omega arith) (sym c.same_stops.ensures ∙ c.if-same_stops.true)

pub loop-l-smaller : goal.loop-l-smaller
loop-l-smaller c =
    omega (arith, next_less (timetable c.args.tables.now c.args.c) c.args.leads.now c.args.n c.args.i c.args.work.now c.args.other.now (c.loop-l.l - 1) _ c.requires.chained (omega (arith, c.loop-l.invariant.below)) refl)

pub loop-l-preserved : goal.loop-l-preserved
loop-l-preserved c =
    walked_again (timetable c.args.tables.now c.args.c) c.args.leads.now c.args.n c.args.i c.args.work.now c.args.other.now (c.loop-l.l - 1) c.loop-l.l _ c.requires.chained c.loop-l.invariant (omega arith) (sym c.same_stops.ensures ∙ c.if-same_stops.false) refl

pub returns : goal.returns
returns c =
    walked_none (timetable c.args.tables.now c.args.c) c.args.leads.now c.args.n c.args.i c.loop-l.l c.loop-l.invariant (omega arith)
