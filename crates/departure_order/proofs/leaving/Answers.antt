use mathlib.Core.Path.{◌∙◌, sym}
use Rattle.departures.proofs.Yes.{row_known}
use Rattle.departure_order.proofs.leaving.Goals as goal

pub trip-requires-clause-i_bound : goal.trip-requires-clause-i_bound
trip-requires-clause-i_bound c =
    (row_known c.args.tables.now c.args.c c.args.r (sym c.row_numbers.ensures ∙ c.if-not-row_numbers.false)).trip
