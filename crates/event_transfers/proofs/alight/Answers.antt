use Rattle.event_transfers.specs.Packed.{prepared}
use Rattle.event_transfers.proofs.Events.{alight_barred, alight_full, alight_open, run_keys, run_lines}
use mathlib.Core.Path.{◌∙◌, sym}
use Rattle.event_transfers.proofs.alight.Goals as goal

pub returns-then-n-gt65536 : goal.returns-then-n-gt65536
returns-then-n-gt65536 c = alight_full _ _ _ _ _ c.if-n-gt65536.true

pub returns-then-barred : goal.returns-then-barred
returns-then-barred c = alight_barred _ _ _ _ _ (sym c.barred.ensures ∙ c.if-barred.true)

pub to_lines-requires-clause-keys : goal.to_lines-requires-clause-keys
to_lines-requires-clause-keys c =
    run_keys (prepared c.args.tables.now c.args.c c.args.runs.now c.args.work.now c.args.time) c.args.ends.now c.args.d c.args.at c.requires.sane c.requires.runs_listed c.requires.sorted_runs c.requires.at_bound c.time-2.result c.time-2.ensures.value c.stop_run-r.result c.stop_run-r.ensures.value

pub to_lines-requires-clause-line_ends : goal.to_lines-requires-clause-line_ends
to_lines-requires-clause-line_ends c =
    run_lines (prepared c.args.tables.now c.args.c c.args.runs.now c.args.work.now c.args.time) c.args.ends.now c.args.d c.args.at c.requires.sane c.requires.runs_listed c.requires.sorted_runs c.requires.at_bound c.time-2.result c.time-2.ensures.value c.stop_run-r.result c.stop_run-r.ensures.value

pub returns : goal.returns
returns c =
    c.to_lines.ensures ∙ alight_open (prepared c.args.tables.now c.args.c c.args.runs.now c.args.work.now c.args.time) c.args.ends.now c.args.d c.args.at c.requires.sane c.requires.runs_listed c.requires.sorted_runs c.requires.at_bound c.time-2.result c.time-2.ensures.value c.args.time c.args.ti c.time.result c.stop_run-r.result _ (sym c.barred.ensures ∙ c.if-barred.false) c.time.ensures.value c.stop_run-r.ensures.value
