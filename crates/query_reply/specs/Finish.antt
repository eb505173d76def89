-- What the inner functions of the two calls are given, and what they leave. Definitions only.
-- Inner: nobody has to believe this.
use Rattle.std.specs.Prelude.{ℕ, suc, ◌≤◌, ◌≡◌, Bool, true, false, List, [], length, get_or, eqb, Float}
use Rattle.walk_time.specs.Walk.{round_count}
use Rattle.model.specs.Tables.{Tables, Query, rounds_of, never}
use Rattle.model.specs.Search.{Arrivals, best_target, candidates_from}
use Rattle.arc_flags.specs.Flags.{egress_rows}
use Rattle.best_target.specs.Totals.{EgressOk, EarliestOk, LabelsOk, EarliestAre, Labelled}
use Rattle.query_types.specs.declared.QueryCounts.{QueryCounts}
use Rattle.query_input.specs.Lent.{query_size, egress_part}
use Rattle.query_input.specs.Sane.{Limits}
use Rattle.query_reply.specs.declared.Reply.{Reply}
use Rattle.query_reply.specs.Outcome.{QueryAreas, query_areas, QueryOutcome, reply, cleared, overflown, candidate_rows}

abbrev pub query_outcome_of : Reply → QueryAreas → QueryOutcome
query_outcome_of r s = record { reply = r; areas = s }

-- what the answer is read from is as the rounds leave it
pub record Ending (n : QueryCounts) (q work labels : List ℕ) (label_distances : List Float) : Type 0 where
  pub limits : Limits n
  pub long : query_size n ≤ length q
  pub earliest : EarliestOk n.timetable.stops work
  pub egress : EgressOk n.timetable.stops (egress_part q n)
  pub labels_ok : LabelsOk n.timetable.stops labels label_distances

-- tables, a query and its last state that agree with it
pub record AnswerAgrees (T : Tables) (Q : Query) (a : Arrivals) (n : QueryCounts) (q work labels : List ℕ)
    (label_distances : List Float) : Type 0 where
  pub reached : EarliestAre a n.timetable.stops work
  pub labelled : Labelled a n.timetable.stops labels label_distances
  pub egress : Q.egress ≡ egress_rows (egress_part q n)
  pub slack : Q.settings.candidate_slack ≡ n.settings.candidate_slack
  pub rounds : rounds_of Q ≡ round_count (get_or q 2 0) (get_or q 3 0)

-- the best total with its stop, and the candidates, of a query's last state
abbrev pub best_of : Tables → Query → Arrivals → ℕ × ℕ
best_of T Q a = best_target T Q a Q.egress (never, never)

abbrev pub chosen_of : Tables → Query → Arrivals → List (ℕ × ℕ × ℕ)
chosen_of T Q a = elim (eqb (best_of T Q a).0 never) [ true ↦ [] | false ↦ candidates_from T Q a (best_of T Q a).0 (suc (rounds_of Q)) 0 never ]

-- the reply and the candidate rows say them
pub record Replied (T : Tables) (Q : Query) (a : Arrivals) (r : Reply) (rows : List ℕ) : Type 0 where
  pub reply_is : r ≡ reply 0 (best_of T Q a).0 (best_of T Q a).1 (length (chosen_of T Q a))
  pub rows_are : rows ≡ candidate_rows (chosen_of T Q a)

-- the areas after an answer whose candidate rows are these: labels as they stand, workspace and queue zero
abbrev pub left : QueryAreas → List ℕ → QueryAreas
left s rows = query_areas s.labels s.label_distances (cleared s.work) (cleared s.queue_a) (cleared s.queue_b) rows

-- after the rounds, which left the areas so: 8 where a queue was full, else the answer
pub record Finished (n : QueryCounts) (q : List ℕ) (full : Bool) (s s' : QueryAreas) (r : Reply) : Type 0 where
  pub over : full ≡ true → query_outcome_of r s' ≡ overflown s
  pub replied : full ≡ false → (T : Tables) (Q : Query) (a : Arrivals) → AnswerAgrees T Q a n q s.work s.labels s.label_distances
      → Replied T Q a r s'.candidates
  pub rest : full ≡ false → s' ≡ left s s'.candidates
