use Prim.Native.Nat.{◌+◌}
use Rattle.query_types.specs.declared.Lay.{Lay}
use Rattle.tables.specs.Timetable.{timetable}
use Rattle.query_input.specs.Lent.{line_entries, line_runs}
use Rattle.search_begin.proofs.Sections.{fifos_read, lines_read, part_long, put_part}
use native.Mathlib.Omega.{arith}
use mathlib.Core.Path.{ap, refl}
use Rattle.search_state.proofs.Part.{few_of}
use Rattle.search_begin.proofs.put_fifo.Goals as goal

pub fifo_at-a-requires : goal.fifo_at-a-requires
fifo_at-a-requires c = few_of c.requires.work_sized

pub line_fifo-requires : goal.line_fifo-requires
line_fifo-requires c =
    let e = ap (λ (k : Lay). k.lines) c.requires.lay_is in record { sane = c.requires.sane; lines_listed = lines_read c.requires.lines_in.lines c.line_runs-runs.ensures c.line_entries-entries.ensures; fifo_length = part_long c.fifo_at-a.result (c.fifo_at-a.result + c.args.lay.lines) c.args.counts.lines c.args.work.now (omega (arith, e)) (omega (arith, c.fifo_at-a.ensures, c.requires.work_sized.words)) }

pub returns : goal.returns
returns c =
    rw c.fifo_at-a.ensures (put_part _ _ c.args.lay.lines _ c.args.work.now _ refl (omega (arith, c.requires.work_sized.words)) (fifos_read (timetable c.args.tables.now c.args.counts.timetable) c.args.counts.lines c.args.lay.lines _ _ _ (line_runs c.args.built.now c.args.counts) (line_entries c.args.built.now c.args.counts) c.line_fifo.ensures c.line_runs-runs.ensures c.line_entries-entries.ensures (ap (λ (k : Lay). k.lines) c.requires.lay_is)))
