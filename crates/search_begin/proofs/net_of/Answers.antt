use mathlib.Core.Path.{ap, ◌∙◌}
use Rattle.query_types.specs.declared.Lay.{Lay}
use Rattle.query_types.specs.Layout.{events_at}
use Rattle.query_input.proofs.Parts.{query_room}
use Rattle.search_begin.proofs.Reading.{askable_as, egress_in, egress_read, net_is, sane_of}
use native.Mathlib.Omega.{arith}
use Rattle.search_begin.proofs.net_of.Goals as goal

pub delay_rows-rows-requires : goal.delay_rows-rows-requires
delay_rows-rows-requires c = let A = askable_as c.requires in record { limits = A.limits; query_size = query_room A.sized }

pub stop_rows-stop_rows-requires : goal.stop_rows-stop_rows-requires
stop_rows-stop_rows-requires c = let A = askable_as c.requires in record { limits = A.limits; query_size = query_room A.sized }

pub egress_rows-egress-requires : goal.egress_rows-egress-requires
egress_rows-egress-requires c = let A = askable_as c.requires in record { limits = A.limits; query_size = query_room A.sized }

pub overflow_cast-counts : goal.overflow_cast-counts
overflow_cast-counts c = let A = askable_as c.requires in omega (arith, A.limits.cells)

pub target_cells-target-requires : goal.target_cells-target-requires
target_cells-target-requires c =
    let A = askable_as c.requires in record { sane = sane_of _ _ A; cells_bound = A.limits.cells; egress_in = egress_read (egress_in _ _ A) c.egress_rows-egress.ensures }

pub bounds-query-4 : goal.bounds-query-4
bounds-query-4 c = let A = askable_as c.requires in let r = query_room A.sized in omega (arith, r)

pub bounds-query-5 : goal.bounds-query-5
bounds-query-5 c = let A = askable_as c.requires in let r = query_room A.sized in omega (arith, r)

pub line_tables-lined-requires : goal.line_tables-lined-requires
line_tables-lined-requires c = let A = askable_as c.requires in record { counts_ok = A.limits.counts; lines_bound = A.limits.lines }

pub transfer_runs_at-requires : goal.transfer_runs_at-requires
transfer_runs_at-requires c = let A = askable_as c.requires in A.limits

pub lay_for-requires : goal.lay_for-requires
lay_for-requires c = let A = askable_as c.requires in record { stops_bound = A.limits.counts.stops; trips_bound = A.limits.counts.trips }

pub events_at-requires : goal.events_at-requires
events_at-requires c =
    let A = askable_as c.requires in rw c.lay_for.ensures (record { stops = A.limits.counts.stops; trips = A.limits.counts.trips; lines = A.limits.lines })

pub returns : goal.returns
returns c =
    λ x l B e. let A = askable_as c.requires in net_is c.args.counts c.args.tables.now c.args.built.now c.args.query.now c.args.distances.now x e (query_room A.sized) _ _ _ c.delay_rows-rows.ensures c.stop_rows-stop_rows.ensures c.egress_rows-egress.ensures _ _ _ _ _ c.line_tables-lined.ensures c.rt_margin-margin.ensures c.target_cells-target.ensures c.transfer_runs_at.ensures.value (c.events_at.ensures ∙ ap (λ (k : Lay). events_at k) c.lay_for.ensures)
