use Rattle.arc_flags.proofs.Laws.{window_none}
use Rattle.arc_flags.specs.Skipping.{row_skipped}
use Rattle.arc_flags.proofs.window_skips.Goals as goal

pub returns-else-counts-n-ne0 : goal.returns-else-counts-n-ne0
returns-else-counts-n-ne0 c =
    record { says = λ T Q a. rw c.if-counts-n-ne0.false (window_none (row_skipped T Q c.args.transfers.now) c.args.from c.args.n _ c.args.transfer_runs.now (c.count_skipped.ensures.counted T Q a) c.if-counts-n-ne0.false) }
