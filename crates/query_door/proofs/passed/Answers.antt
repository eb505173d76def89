use Rattle.departure_order.proofs.Turn.{never}
use Prim.Native.Nat.{ℕ}
use mathlib.Core.Path.{◌∙◌, ap, subst, sym}
use mathlib.Core.List.{List}
use lib.ListN.{length}
use Rattle.query_input.specs.Lent.{departure_rows}
use Rattle.departure_order.specs.Turn.{InTurn}
use Rattle.query_input.proofs.Parts.{marks_room, rows_size}
use Rattle.query_door.proofs.Once.{passed_yes}
use Rattle.query_door.proofs.passed.Goals as goal

pub returns-then-not-query_ok : goal.returns-then-not-query_ok
returns-then-not-query_ok c = λ h. never h

pub returns-then-not-tables_ok : goal.returns-then-not-tables_ok
returns-then-not-tables_ok c = λ h. never h

pub in_turn-requires : goal.in_turn-requires
in_turn-requires c =
    record { slices_ok = c.requires.read_sized.slices; runs_ok = c.requires.placed.trips; runs_listed = rw c.stop_runs-runs.ensures c.requires.placed.stops; rows_length = ap length c.departure_rows-listed.ensures ∙ rows_size c.args.built.now c.args.counts (marks_room c.requires.read_sized) }

pub returns : goal.returns
returns c =
    λ h. let t = c.args.tables.now in let b = c.args.built.now in let counts = c.args.counts in passed_yes t b c.args.transfers.now c.args.query.now counts c.args.transfer_rows (sym c.query_ok.ensures ∙ c.if-not-query_ok.false) (sym c.tables_ok.ensures ∙ c.if-not-tables_ok.false) (subst (λ (l : List ℕ). InTurn t counts.timetable l (departure_rows b counts) counts.departures) c.stop_runs-runs.ensures (subst (λ (l : List ℕ). InTurn t counts.timetable c.stop_runs-runs.result.now l counts.departures) c.departure_rows-listed.ensures (c.in_turn.ensures h)))
