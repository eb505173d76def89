-- The two calls as one, by which of them is made; what the parts of a search are given. Definitions only.
-- Inner: nobody has to believe this.
use Rattle.std.specs.Prelude.{ℕ, ◌+◌, ◌*◌, ◌≡◌, Bool, List, length}
use Rattle.tables.specs.Timetable.{timetable}
use Rattle.tables.specs.Sane.{Sane}
use Rattle.event_transfers.specs.Transfers.{events_before}
use Rattle.model.specs.Search.{SearchAnswer, use_arc_flags, flags_in_use, search_answer}
use Rattle.arc_flags.specs.Skipping.{PatternsOk, RowsIn, RunsIn}
use Rattle.query_types.specs.declared.QueryCounts.{QueryCounts}
use Rattle.query_input.specs.Lent.{Lent, tables_of, query_of, transfer_runs_at, transfer_runs, transfer_rows}
use Rattle.query_input.specs.Sane.{Limits, Admitted}
use Rattle.query_reply.specs.Outcome.{QueryAreas, QueryOutcome}
use Rattle.query_call.specs.declared.Mode.{Mode}
use Rattle.query_call.specs.declared.Mode.TheVariants.{RunTbr, Query}
use Rattle.query_call.specs.Call.{run_tbr_outcome, query_outcome}

-- the outcome of `run_tbr`, or of `query`
abbrev pub outcome_by : Mode → Lent → QueryAreas → QueryOutcome
outcome_by RunTbr x s = run_tbr_outcome x s
outcome_by Query x s = query_outcome x s

-- are arc flags in use? Of `run_tbr`, where they are not put off; of `query`, where besides they skip something
abbrev pub mode_by : Mode → Lent → Bool
mode_by RunTbr x = use_arc_flags (tables_of x) (query_of x)
mode_by Query x = flags_in_use (tables_of x) (query_of x)

-- the answer in this mode
abbrev pub answer_by : Mode → Lent → SearchAnswer
answer_by mode x = search_answer (tables_of x) (query_of x) (mode_by mode x)

-- what the test of the flags reads is as the door leaves it
pub record Flagging (n : QueryCounts) (t built transfers patterns : List ℕ) : Type 0 where
  pub limits : Limits n
  pub sane : Sane t n.timetable
  pub long : length built ≡ transfer_runs_at n + events_before (timetable t n.timetable) n.timetable.trips * 2
  pub patterns_ok : PatternsOk patterns n.patterns
  pub rows : RowsIn transfers (transfer_rows n (length transfers))
  pub runs : RunsIn (transfer_runs built n) (transfer_rows n (length transfers))

-- the door admits what is lent, with areas of these lengths
pub record AdmittedWith (x : Lent) (labels label_distances work queue_a queue_b : ℕ) : Type 0 where
  pub candidates : ℕ
  pub admitted : Admitted x (record {
    labels = labels;
    label_distances = label_distances;
    work = work;
    queue_a = queue_a;
    queue_b = queue_b;
    candidates = candidates;
  })
