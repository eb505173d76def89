use native.Mathlib.Omega.{arith}
use Rattle.search_begin.proofs.Starting.{going_again, going_done, going_none, going_on}
use Rattle.search_begin.proofs.access.Goals as goal

pub loop-k-init : goal.loop-k-init
loop-k-init c =
    (c.requires.count_is, c.requires.origins, going_none c.args.counts c.args.query.now c.args.distances.now c.args.lay _ c.requires.starting)

pub set_out_at-x-requires : goal.set_out_at-x-requires
set_out_at-x-requires c =
    let v = c.loop-k.invariant in let h = c.loop-k-test.true in record { origins = v.1; k_bound = h; starting = going_on c.args.counts c.args.query.now c.args.distances.now c.args.lay _ _ _ v.2 v.0 v.1.few h }

pub loop-k-preserved : goal.loop-k-preserved
loop-k-preserved c =
    let v = c.loop-k.invariant in (v.0, v.1, going_again c.args.counts c.args.query.now c.args.distances.now c.args.lay _ _ _ _ v.2 (omega (arith, c.loop-k-test.true)) c.set_out_at-x.ensures)

pub returns : goal.returns
returns c =
    let v = c.loop-k.invariant in going_done c.args.counts c.args.query.now c.args.distances.now c.args.lay _ _ _ v.2 (omega (arith, c.loop-k-test.false))
