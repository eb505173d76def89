use Prim.Native.Nat.{◌-◌, ◌<◌}
use native.Mathlib.Omega.{arith}
use Rattle.search_begin.proofs.Filling.{egress_again, sized_same, rows_end, all_rows}
use Rattle.search_begin.proofs.put_egresses.Goals as goal

pub loop-k-init : goal.loop-k-init
loop-k-init c =
    (omega arith, c.requires.work_sized, c.requires.egress_rows, rw (rows_end c.args.query.now c.args.first c.args.n) c.requires.egressed)

pub put_egress-requires : goal.put_egress-requires
put_egress-requires c =
    let v = c.loop-k.invariant in let k = c.loop-k.k - 1 in let h : k < c.args.n = omega (arith, v.0) in record { work_sized = v.1; at_bound = omega (arith, v.2.room); query_word = v.2.stop k h; query_word_2 = v.2.walk k h }

pub loop-k-preserved : goal.loop-k-preserved
loop-k-preserved c =
    let v = c.loop-k.invariant in let g = egress_again c.args.lay c.args.query.now c.args.first c.loop-k.k c.args.n c.args.work.now _ _ v.2 (omega (arith, c.requires.work_sized.words)) c.loop-k-test.true v.0 v.3 c.put_egress.ensures in (omega (arith, v.0), sized_same c.requires.work_sized g.size, v.2, g)

pub shape_of-work : goal.shape_of-work
shape_of-work c = c.loop-k.invariant.3.size

pub returns : goal.returns
returns c = let v = c.loop-k.invariant in rw (all_rows c.args.query.now c.args.first c.loop-k.k c.args.n (omega arith)) v.3
