use Prim.Native.Nat.{◌+◌}
use Rattle.query_types.specs.declared.Lay.{Lay}
use Rattle.search_begin.proofs.Sections.{lines_read, part_long, positions_read, put_part}
use Rattle.query_input.specs.Lent.{line_entries, line_runs}
use native.Mathlib.Omega.{arith}
use mathlib.Core.Path.{ap, refl}
use Rattle.search_state.proofs.Part.{few_of}
use Rattle.search_begin.proofs.put_positions.Goals as goal

pub positions_at-a-requires : goal.positions_at-a-requires
positions_at-a-requires c = few_of c.requires.work_sized

pub line_positions-requires : goal.line_positions-requires
line_positions-requires c =
    let e = ap (λ (k : Lay). k.trips) c.requires.lay_is in record { lines_listed = lines_read c.requires.lines_in.lines c.line_runs-runs.ensures c.line_entries-entries.ensures; positions_length = part_long c.positions_at-a.result (c.positions_at-a.result + c.args.lay.trips) c.args.counts.timetable.trips c.args.work.now (omega (arith, e)) (omega (arith, c.positions_at-a.ensures, c.requires.work_sized.words)) }

pub returns : goal.returns
returns c =
    rw c.positions_at-a.ensures (put_part _ _ c.args.lay.trips _ c.args.work.now _ refl (omega (arith, c.requires.work_sized.words)) (positions_read c.args.counts.timetable c.args.counts.lines c.args.lay.trips _ _ _ (line_runs c.args.built.now c.args.counts) (line_entries c.args.built.now c.args.counts) c.line_positions.ensures c.line_runs-runs.ensures c.line_entries-entries.ensures (ap (λ (k : Lay). k.trips) c.requires.lay_is)))
