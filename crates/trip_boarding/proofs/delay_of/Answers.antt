use Rattle.trip_boarding.proofs.Laws.{known_of}
use Rattle.trip_boarding.proofs.delay_of.Goals as goal

pub returns-clause-known : goal.returns-clause-known
returns-clause-known c = known_of c.args.delay_rows.now c.args.trip _ c.delay_row.ensures
