use mathlib.Core.Path.{◌≡◌, refl}
use native.Mathlib.Omega.{arith}
use Rattle.walk_phase.proofs.Appending.{append_start, append_turn, append_most, append_stop, append_sized}
use Rattle.walk_phase.proofs.append_stamped.Goals as goal

pub loop-i-init : goal.loop-i-init
loop-i-init c = append_start _ _ _ _

pub append_one-k-requires : goal.append_one-k-requires
append_one-k-requires c =
    let p = c.loop-i.invariant in let z = append_sized c.requires.work_sized p in record { work_sized = z; s_bound = append_stop _ c.requires.stops_listed p c.loop-i-test.true; count_bound = omega (arith, append_most _ _ _ _ c.requires.work_sized p (omega (arith, c.loop-i.auto.i-end, c.requires.stops_listed.few)), c.requires.count_bound, c.loop-i-test.true) }

pub loop-i-preserved : goal.loop-i-preserved
loop-i-preserved c =
    let p = c.loop-i.invariant in let z = append_sized c.requires.work_sized p in append_turn _ _ _ _ _ _ c.requires.work_sized c.requires.stops_listed p c.append_one-k.ensures refl c.loop-i-test.true

pub returns : goal.returns
returns c = let p = c.loop-i.invariant in let e : c.loop-i.i ≡ c.args.n = omega (arith, c.loop-i.auto.i-end, c.loop-i-test.false) in rw e at p
