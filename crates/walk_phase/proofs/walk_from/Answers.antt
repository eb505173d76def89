use mathlib.Core.Path.{sym, ◌∙◌}
use Rattle.walk_phase.proofs.Along.{along_start, along_turn, along_end}
use Rattle.walk_phase.proofs.Edge.{agree_kept}
use Rattle.walk_phase.proofs.From.{left_start, left_turn, left_stop, left_end}
use Rattle.walk_phase.proofs.walk_from.Goals as goal

pub loop-e-init : goal.loop-e-init
loop-e-init c =
    along_start _ _ _ c.requires.ready (λ T Q y z. left_start T Q _ _ _ _ _ _ _ z y.timetable c.requires.walk_ground.order c.first_edge-e.ensures)

pub returns-then-edge-x : goal.returns-then-edge-x
returns-then-edge-x c =
    let p = c.loop-e.invariant in record { step = along_end _ p (λ T Q y z. left_stop T Q _ _ _ _ _ _ _ z (λ k. c.if-edge-x.true (c.edge.ensures.value ∙ k)) c.loop-e-test.true); falls = p.falls }

pub loop-e-preserved : goal.loop-e-preserved
loop-e-preserved c =
    let p = c.loop-e.invariant in along_turn _ p c.walk_edge-g.ensures.step c.walk_edge-g.ensures.falls (λ T Q y. agree_kept p.step.same y) (λ T Q y z. left_turn T Q _ _ _ _ _ _ _ z (sym c.edge.ensures.value ∙ c.if-edge-x.false) c.loop-e-test.true)

pub returns : goal.returns
returns c =
    let p = c.loop-e.invariant in record { step = along_end _ p (λ T Q y z. left_end T Q _ _ _ _ _ _ _ z c.loop-e-test.false); falls = p.falls }
