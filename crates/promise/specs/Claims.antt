-- THE CLAIMS for a call, over all that is lent and all areas: `o` is the call's outcome and `a` the answer that the definitions give. Which calls
-- and which days they are made of, Demands says. Definitions only.
use Rattle.std.specs.Prelude.{ℕ, suc, ◌+◌, ◌/◌, ◌≤◌, ◌<◌, ◌≡◌, ◌⊎◌, Bool, false, length, get_or}
use mathlib.Core.List.{List, Memᴰ}
use Rattle.tally.specs.Screen.{for_screen}
use Rattle.model.specs.Search.{SearchAnswer}
use Rattle.answer_laws.specs.Lawful.{Lawful}
use Rattle.joined.specs.Joined.{Joined, JoinedByDeparture}
use Rattle.answer_laws.specs.Queue.{NoFrequency, all_stop_times}
use Rattle.model.specs.Promise.{TripTimes, Demand3, Pareto}
use Rattle.query_types.specs.declared.QueryCounts.{QueryCounts}
use Rattle.query_input.specs.Lent.{Lent, tables_of, query_of, line_runs, line_entries, stop_runs, departure_rows, marks_at}
use Rattle.query_door.specs.Door.{query_verdict}
use Rattle.query_reply.specs.Outcome.{QueryAreas, QueryOutcome, query_lengths, refused, overflown, answered}

-- DEMAND 1: the door
pub record DoorMet (x : Lent) (o : QueryAreas → QueryOutcome) (a : SearchAnswer) : Type 0 where
  -- the first of questions 1 to 6 that is answered no is the code, and nothing is written
  pub refused_by_first_no : (s : QueryAreas) (k : ℕ) → query_verdict x (query_lengths s) ≡ suc k → o s ≡ refused (suc k) s
  -- question 8 is answered no exactly where some round's queue has more segments than a half has rows
  pub full : (s : QueryAreas) → query_verdict x (query_lengths s) ≡ 0 → (m : ℕ) → Memᴰ m a.queued → length s.queue_a / 4 < m
      → o s ≡ overflown s
  pub fits : (s : QueryAreas) → query_verdict x (query_lengths s) ≡ 0 → ((m : ℕ) → Memᴰ m a.queued → m ≤ length s.queue_a / 4)
      → o s ≡ answered a s
  pub answered_or_full : (s : QueryAreas) → query_verdict x (query_lengths s) ≡ 0
      → (o s ≡ answered a s) ⊎ ((o s ≡ overflown s) × (m : ℕ) × Memᴰ m a.queued × (length s.queue_a / 4 < m))
  -- a code of 0 is given only with the answer
  pub only_answers : (s : QueryAreas) → (o s).reply.code ≡ 0 → (query_verdict x (query_lengths s) ≡ 0) × (o s ≡ answered a s)

-- when question 8 is never answered no: without arc flags in use; and without frequency trips where a half has a row for each stop time of each trip
pub record NeverFull (x : Lent) (o : QueryAreas → QueryOutcome) (a : SearchAnswer) (in_use : Bool) : Type 0 where
  pub unflagged : (s : QueryAreas) → query_verdict x (query_lengths s) ≡ 0 → in_use ≡ false → o s ≡ answered a s
  pub no_frequency : (s : QueryAreas) → query_verdict x (query_lengths s) ≡ 0 → NoFrequency (tables_of x)
      → all_stop_times (tables_of x) ≤ length s.queue_a / 4
      → o s ≡ answered a s

-- DEMAND 2, besides that the answer is the definitions': with code 0 it is given, and it is lawful
pub record LawsMet (x : Lent) (o : QueryAreas → QueryOutcome) (a : SearchAnswer) (in_use : Bool) : Type 0 where
  pub lawful : (s : QueryAreas) → (o s).reply.code ≡ 0 → Lawful (tables_of x) (query_of x) a × (o s ≡ answered a s)
  -- where a ride was boarded, a label is no later than its departure; without arc flags in use by the change time
  pub joined : (s : QueryAreas) → (o s).reply.code ≡ 0 → JoinedByDeparture (tables_of x) (query_of x) a.labels
  pub in_time : (s : QueryAreas) → (o s).reply.code ≡ 0 → in_use ≡ false → Joined (tables_of x) (query_of x) a.labels

-- DEMAND 3, by the trips' times W, and what we promise beyond it
pub record PromiseMet (x : Lent) (o : QueryAreas → QueryOutcome) (a : SearchAnswer) (W : TripTimes) : Type 0 where
  -- whatever passes the door is answered
  pub answers : (s : QueryAreas) → query_verdict x (query_lengths s) ≡ 0 → o s ≡ answered a s
  -- with code 0 the answer is given, and it keeps the demand
  pub demand3 : (s : QueryAreas) → (o s).reply.code ≡ 0 → Demand3 (tables_of x) (query_of x) W a × (o s ≡ answered a s)
  -- and its candidates are Pareto-complete
  pub pareto : (s : QueryAreas) → (o s).reply.code ≡ 0 → Pareto (tables_of x) (query_of x) W a

-- the same of areas s for which nothing is left to ask: the code is 0, the answer is given, and it keeps the demand
pub record PromiseKept (x : Lent) (s : QueryAreas) (o : QueryAreas → QueryOutcome) (a : SearchAnswer) (W : TripTimes) : Type 0 where
  pub code : (o s).reply.code ≡ 0
  pub answer : o s ≡ answered a s
  pub demand3 : Demand3 (tables_of x) (query_of x) W a
  pub pareto : Pareto (tables_of x) (query_of x) W a

-- THE SAME QUERY WITH OTHER TRANSFERS: so many, in this area, their runs at the end of this slice of what was built
abbrev pub recounted : QueryCounts → ℕ → QueryCounts
recounted n transfers =
    record {
      settings = n.settings;
      timetable = n.timetable;
      cells = n.cells;
      patterns = n.patterns;
      lines = n.lines;
      entries = n.entries;
      departures = n.departures;
      transfers = transfers;
      delays = n.delays;
      stop_rows = n.stop_rows;
      origins = n.origins;
      egress = n.egress;
    }

abbrev pub lent_with : Lent → ℕ → List ℕ → List ℕ → Lent
lent_with x transfers built area =
    record { n = recounted x.n transfers; t = x.t; built = built; transfers = area; patterns = x.patterns; distances = x.distances; q = x.q }

-- that slice says the same of lines, departures and marks
pub record SameButTransfers (x : Lent) (built : List ℕ) : Type 0 where
  pub line : (i : ℕ) → i < x.n.timetable.trips → get_or built i 0 ≡ get_or x.built i 0
  pub line-runs : line_runs built x.n ≡ line_runs x.built x.n
  pub entries : line_entries built x.n ≡ line_entries x.built x.n
  pub stop-runs : stop_runs built x.n ≡ stop_runs x.built x.n
  pub departures : departure_rows built x.n ≡ departure_rows x.built x.n
  pub mark : (s : ℕ) → s < x.n.timetable.stops → get_or built (marks_at x.n + s) 0 ≡ get_or x.built (marks_at x.n + s) 0

-- NO TRANSFER IS READ: where the door admits both, a call whose outcomes these are leaves the same
pub record TransfersUnread (x : Lent) (o : Lent → QueryAreas → QueryOutcome) : Type 0 where
  pub outcome : (transfers : ℕ) (built area : List ℕ) (s : QueryAreas) → SameButTransfers x built
      → query_verdict x (query_lengths s) ≡ 0 → query_verdict (lent_with x transfers built area) (query_lengths s) ≡ 0
      → o (lent_with x transfers built area) s ≡ o x s

-- THE CALL MADE FOR A SCREEN (request T-08), as it is exported: its own outcome, or refused by 15 with all areas as they came
abbrev pub call_for : ℕ → (QueryAreas → QueryOutcome) → QueryAreas → QueryOutcome
call_for screen o s = for_screen screen (refused 15 s) (o s)

pub record ScreenMet (x : Lent) (o : QueryAreas → QueryOutcome) (a : SearchAnswer) : Type 0 where
  -- 15 exactly where the screen is above 63: then nothing is written; for any other screen the outcome is the call's own, whose code is never 15
  pub no_screen : (screen : ℕ) (s : QueryAreas) → 63 < screen → call_for screen o s ≡ refused 15 s
  pub valid : (screen : ℕ) (s : QueryAreas) → screen ≤ 63 → call_for screen o s ≡ o s
  pub only_15 : (s : QueryAreas) → (((o s).reply.code ≡ 15) → ⊥)
  -- so a code of 0 is that of the call's own outcome, and what is promised of that is promised of the call made for a screen
  pub own_answer : (screen : ℕ) (s : QueryAreas) → (call_for screen o s).reply.code ≡ 0 → (screen ≤ 63) × (call_for screen o s ≡ o s)
  pub kept : (screen : ℕ) (s : QueryAreas) (W : TripTimes) → screen ≤ 63 → PromiseKept x s o a W → PromiseKept x s (call_for screen o) a W
