use Rattle.arc_flags.proofs.Laws.{NoneBelow}
use Rattle.arc_flags.specs.Skipping.{Aimed, row_skipped}
use Rattle.model.specs.Tables.{Tables, Query}
use Rattle.arc_flags.proofs.some_window_skips.Given as goal

abbrev pub invariant-loop-from : goal.invariant-loop-from
invariant-loop-from l = (T : Tables) (Q : Query) → Aimed T Q l.patterns l.count l.target → NoneBelow (row_skipped T Q l.transfers) l.transfer_runs l.from
