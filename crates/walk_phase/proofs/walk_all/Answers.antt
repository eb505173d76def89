use mathlib.Core.Path.{refl}
use native.Mathlib.Omega.{arith}
use Rattle.search_state.specs.Part.{part}
use Rattle.walk_phase.proofs.Along.{along_start, along_turn, along_end}
use Rattle.walk_phase.proofs.Edge.{agree_kept}
use Rattle.walk_phase.proofs.From.{all_turn, all_end, step_at}
use Rattle.search_state.proofs.Lists.{same_other, listed_kept, other_length, other_in}
use Rattle.walk_phase.proofs.walk_all.Goals as goal

pub loop-i-init : goal.loop-i-init
loop-i-init c = along_start _ _ _ c.requires.ready (λ T Q y z. refl)

pub bounds-work-x : goal.bounds-work-x
bounds-work-x c =
    let p = c.loop-i.invariant in let s = p.step.ready.sized in let k = listed_kept c.requires.stops_listed (same_other p.step.same) p.falls in let u = k.inside _ c.loop-i-test.true in omega (arith, u, s.sections.words)

pub walk_from-g-requires : goal.walk_from-g-requires
walk_from-g-requires c =
    let p = c.loop-i.invariant in let s = p.step.ready.sized in let k = listed_kept c.requires.stops_listed (same_other p.step.same) p.falls in let u = k.inside _ c.loop-i-test.true in record { ready = p.step.ready; walk_ground = c.requires.walk_ground; x_bound = u; v_bound = k.early _ c.loop-i-test.true }

pub loop-i-preserved : goal.loop-i-preserved
loop-i-preserved c =
    let p = c.loop-i.invariant in let s = p.step.ready.sized in let k = listed_kept c.requires.stops_listed (same_other p.step.same) p.falls in let u = k.inside _ c.loop-i-test.true in along_turn _ p (step_at _ _ _ u refl c.walk_from-g.ensures.step) c.walk_from-g.ensures.falls (λ T Q y. agree_kept p.step.same y) (λ T Q y z. all_turn T Q _ _ (part c.args.work.now c.args.lay.other c.args.n) c.loop-i.i _ z (other_in _ c.requires.stops_listed (same_other p.step.same) c.loop-i-test.true) (omega (arith, other_length c.requires.stops_listed c.requires.ready.sized.sections, c.loop-i-test.true)))

pub returns : goal.returns
returns c =
    let p = c.loop-i.invariant in record { step = along_end _ p (λ T Q y z. all_end T Q _ _ (part c.args.work.now c.args.lay.other c.args.n) c.loop-i.i z (omega (arith, other_length c.requires.stops_listed c.requires.ready.sized.sections, c.loop-i-test.false))); falls = p.falls }
