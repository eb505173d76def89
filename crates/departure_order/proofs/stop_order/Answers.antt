use Rattle.departures.proofs.Parts.{run_known}
use Rattle.departure_order.proofs.stop_order.Goals as goal

pub part_order-requires : goal.part_order-requires
part_order-requires c =
    run_known c.args.tables.now c.args.c c.args.runs.now c.args.rows.now c.args.d c.args.s c.requires.rows_listed.known c.requires.rows_listed.stops c.requires.s_bound c.stop_run-r.result c.stop_run-r.ensures.value _ c.departures_of.ensures
