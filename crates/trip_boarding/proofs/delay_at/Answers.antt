use Rattle.delay_lookup.proofs.Rows.{row_bounded}
use Rattle.delay_rows.specs.Flat.{delay_tables}
use Rattle.trip_boarding.proofs.delay_at.Goals as goal

pub returns-in-Some-clause-bounded : goal.returns-in-Some-clause-bounded
returns-in-Some-clause-bounded c =
    rw c.stop_delay.ensures (row_bounded (delay_tables c.args.delay_rows.now c.args.stop_rows.now) c.requires.on_ground.delay_rows c.requires.on_ground.stop_rows _ _ (c.requires.known.below _ c.in-Some.is))
