use Rattle.arc_flags.proofs.Laws.{first_all, first_here, rows_none, run_skips, skips_events}
use Rattle.arc_flags.specs.Skipping.{row_skipped}
use mathlib.Core.Path.{sym, ◌∙◌}
use Rattle.arc_flags.proofs.skips_transfer.Goals as goal

pub returns-in-None : goal.returns-in-None
returns-in-None c =
    λ T Q g h et. rows_none T Q c.args.transfer_runs.now c.args.transfers.now h c.args.transfer_rows c.requires.runs_in (λ j l. first_all (row_skipped T Q c.args.transfers.now) c.args.transfer_rows j (sym c.in-None.is ∙ c.first_skipped.ensures T Q (record { patterned = g; aimed = et })) l)

pub returns-then-some_run_has : goal.returns-then-some_run_has
returns-then-some_run_has c =
    λ T Q g h et. c.if-some_run_has.true ∙ run_skips T Q c.args.transfer_runs.now c.args.transfers.now h c.in-Some.k (sym c.some_run_has.ensures ∙ c.if-some_run_has.true) (first_here (row_skipped T Q c.args.transfers.now) c.args.transfer_rows c.in-Some.k (sym c.in-Some.is ∙ c.first_skipped.ensures T Q (record { patterned = g; aimed = et })))

pub returns-else-some_run_has : goal.returns-else-some_run_has
returns-else-some_run_has c =
    λ T Q g h et. c.some_window_skips.ensures.says T Q (record { patterned = g; aimed = et }) ∙ sym (skips_events T Q c.args.transfer_runs.now c.args.transfers.now h)
