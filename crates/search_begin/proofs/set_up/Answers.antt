use mathlib.Core.Path.{◌∙◌}
use Rattle.search_begin.proofs.Filling.{sized_same}
use Rattle.search_begin.proofs.Laying.{egress_over, laid_out}
use Rattle.search_begin.proofs.set_up.Goals as goal

pub fill_egress-requires : goal.fill_egress-requires
fill_egress-requires c = record { work_sized = c.requires.work_sized; egress_rows = egress_over c.args.counts c.requires.lay_is c.requires.layable.egress }

pub put_positions-requires : goal.put_positions-requires
put_positions-requires c =
    record { lines_in = c.requires.layable.lines; lay_is = c.requires.lay_is; work_sized = sized_same c.requires.work_sized c.fill_egress.ensures.size }

pub put_fifo-requires : goal.put_fifo-requires
put_fifo-requires c =
    record { lines_in = c.requires.layable.lines; sane = c.requires.layable.sane; lay_is = c.requires.lay_is; work_sized = sized_same c.requires.work_sized (c.put_positions.ensures.size ∙ c.fill_egress.ensures.size) }

pub put_events-requires : goal.put_events-requires
put_events-requires c =
    record { sane = c.requires.layable.sane; lay_is = c.requires.lay_is; work_sized = sized_same c.requires.work_sized (c.put_fifo.ensures.size ∙ c.put_positions.ensures.size ∙ c.fill_egress.ensures.size) }

pub returns : goal.returns
returns c =
    laid_out c.args.counts c.args.tables.now c.args.built.now c.args.query.now c.args.lay c.args.work.now _ _ _ _ c.requires.lay_is c.fill_egress.ensures c.put_positions.ensures c.put_fifo.ensures c.put_events.ensures
