use mathlib.Core.Path.{◌∙◌, sym}
use Rattle.event_transfers.proofs.Events.{most_barred, most_open, run_keys, run_lines}
use Rattle.event_transfers.specs.Packed.{prepared}
use native.Mathlib.Omega.{arith}
use Rattle.event_transfers.proofs.most_alight.Goals as goal

pub returns-then-barred : goal.returns-then-barred
returns-then-barred c =
    λ ti. most_barred (prepared c.args.tables.now c.args.c c.args.runs.now c.args.work.now c.args.time) ti c.args.at c.args.n (omega arith) (sym c.barred.ensures ∙ c.if-barred.true)

pub lines_after-requires-clause-keys : goal.lines_after-requires-clause-keys
lines_after-requires-clause-keys c =
    run_keys (prepared c.args.tables.now c.args.c c.args.runs.now c.args.work.now c.args.time) c.args.ends.now c.args.d c.args.at c.requires.sane c.requires.runs_listed c.requires.sorted_runs c.requires.most_at.below c.time-2.result c.time-2.ensures.value c.stop_run-r.result c.stop_run-r.ensures.value

pub lines_after-requires-clause-line_ends : goal.lines_after-requires-clause-line_ends
lines_after-requires-clause-line_ends c =
    run_lines (prepared c.args.tables.now c.args.c c.args.runs.now c.args.work.now c.args.time) c.args.ends.now c.args.d c.args.at c.requires.sane c.requires.runs_listed c.requires.sorted_runs c.requires.most_at.below c.time-2.result c.time-2.ensures.value c.stop_run-r.result c.stop_run-r.ensures.value

pub returns : goal.returns
returns c =
    most_open (prepared c.args.tables.now c.args.c c.args.runs.now c.args.work.now c.args.time) c.args.ends.now c.args.d c.args.at c.requires.sane c.requires.runs_listed c.requires.sorted_runs c.requires.most_at.below c.time-2.result c.time-2.ensures.value c.time.result c.stop_run-r.result c.args.n c.lines_after.result (sym c.barred.ensures ∙ c.if-barred.false) c.time.ensures.value c.stop_run-r.ensures.value (omega arith) c.lines_after.ensures
