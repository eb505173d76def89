use Rattle.target_resolving.proofs.Laws.{left_end, left_first, left_step}
use mathlib.Core.Path.{◌∙◌, sym}
use Rattle.target_resolving.proofs.resolve_in.Goals as goal

pub loop-j-init : goal.loop-j-init
loop-j-init c = λ T Q trip p g q l. left_first T Q c.args.is_fifo c.args.off c.args.after c.args.best trip c.args.k p

pub try_trip-step-requires : goal.try_trip-step-requires
try_trip-step-requires c = record { on_ground = c.requires.on_ground; after_bound = c.requires.after_bound }

pub loop-j-preserved : goal.loop-j-preserved
loop-j-preserved c =
    λ T Q trip p g q l. c.loop-j.invariant T Q trip p g q l ∙ left_step T Q c.args.is_fifo c.args.off c.args.after c.args.best trip c.args.k p c.loop-j.j _ _ c.loop-j-test.true (l.place c.loop-j.j c.loop-j-test.true) (sym c.in-Next.is ∙ c.try_trip-step.ensures T Q g q)

pub returns-in-Stop : goal.returns-in-Stop
returns-in-Stop c =
    λ T Q trip p g q l. sym (c.loop-j.invariant T Q trip p g q l ∙ left_step T Q c.args.is_fifo c.args.off c.args.after c.args.best trip c.args.k p c.loop-j.j _ _ c.loop-j-test.true (l.place c.loop-j.j c.loop-j-test.true) (sym c.in-Stop.is ∙ c.try_trip-step.ensures T Q g q))

pub returns-in-Take : goal.returns-in-Take
returns-in-Take c =
    λ T Q trip p g q l. sym (c.loop-j.invariant T Q trip p g q l ∙ left_step T Q c.args.is_fifo c.args.off c.args.after c.args.best trip c.args.k p c.loop-j.j _ _ c.loop-j-test.true (l.place c.loop-j.j c.loop-j-test.true) (sym c.in-Take.is ∙ c.try_trip-step.ensures T Q g q))

pub returns : goal.returns
returns c =
    λ T Q trip p g q l. left_end T Q c.args.is_fifo c.args.off c.args.after c.args.best trip c.args.k p c.loop-j.j c.loop-j-test.false ∙ sym (c.loop-j.invariant T Q trip p g q l)
