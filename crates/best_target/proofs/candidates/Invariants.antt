use Rattle.best_target.proofs.Laws.{rows_ahead}
use Rattle.best_target.specs.Totals.{Labelled, candidates_in, ZeroFrom}
use Rattle.arc_flags.specs.Flags.{egress_rows}
use Rattle.model.specs.Search.{Arrivals, candidates_from}
use Rattle.model.specs.Tables.{Tables, Query, never}
use lib.ListN.{length}
use Prim.Native.Nat.{suc, ◌+◌, ◌-◌, ◌≤◌}
use mathlib.Core.List.{◌++◌}
use mathlib.Core.Path.{◌≡◌}
use Rattle.best_target.proofs.candidates.Given as goal

abbrev pub invariant-loop-row : goal.invariant-loop-row
invariant-loop-row l =
    (l.row ≤ l.rounds + 1) × (l.m ≤ l.row) × (length l.candidates ≡ 39) × ZeroFrom l.candidates l.m
    × ((T : Tables) (Q : Query) (a : Arrivals) → Labelled a l.stops l.labels l.label_distances → Q.egress ≡ egress_rows l.egress → Q.settings.candidate_slack ≡ l.slack → candidates_from T Q a l.top (suc l.rounds) 0 never ≡ candidates_in l.candidates l.m ++ rows_ahead T Q a l.top (suc l.rounds) l.row l.last)
