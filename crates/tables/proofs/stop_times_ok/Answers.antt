use Rattle.tables.proofs.Yes.{kept_next}
use Rattle.tables.proofs.stop_times_ok.Goals as goal

pub loop-i-preserved : goal.loop-i-preserved
loop-i-preserved c =
    let l = c.loop-i in kept_next c.args.tables.now c.args.c l.i l.stops l.times l.codes l.invariant c.max-stops.ensures c.loop-i-test.true
