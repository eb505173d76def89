-- The call that builds the transfers: its questions, in order, and what it answers and writes. Definitions only.
use Rattle.std.specs.Prelude.{ℕ, zero, suc, ◌*◌, ◌≤◌, ◌<◌, ◌≡◌, Bool, ◌&&◌, cond, List, ◌++◌, length, get_or, drop, ltb, leb, eqb}
use Rattle.loops.specs.Iter.{every_in}
use Rattle.door.specs.declared.Answer.{Answer}
use Rattle.door.specs.Door.{ask, refusal, success}
use Rattle.door.specs.Settings.{settings_ok, transfer_time_limit}
use Rattle.door.specs.declared.Settings.{Settings}
use Rattle.tables.specs.declared.Counts.{Counts}
use Rattle.tables.specs.Timetable.{timetable}
use Rattle.tables.specs.Door.{counts_ok, slices_ok, runs_ok, numbers_ok, ranges_ok, order_ok}
use Rattle.tables.specs.Sane.{Sane}
use Rattle.departures.specs.Departures.{listed_at}
use Rattle.departures.specs.Listed.{stop_runs_ok, listed_ok, RowsListed}
use Rattle.event_transfers.specs.Transfers.{Input, all_transfers, events_of, events_before, transfer_words, runs_from}

-- what is lent: the settings, the timetable and its counts, each trip's line and how many lines there are, the listed departures
-- (a run for each stop, d rows)
pub record TransferLent : Type 0 where
  pub settings : Settings
  pub t : List ℕ
  pub c : Counts
  pub line_count : ℕ
  pub lines : List ℕ
  pub d : ℕ
  pub runs : List ℕ
  pub rows : List ℕ

abbrev pub transfer_lent : Settings → List ℕ → Counts → ℕ → List ℕ → ℕ → List ℕ → List ℕ → TransferLent
transfer_lent S t c n lines d runs rows = record { settings = S; t = t; c = c; line_count = n; lines = lines; d = d; runs = runs; rows = rows }

-- what it says; the transfer time is the setting
abbrev pub input_of : TransferLent → Input
input_of x =
    record {
      timetable = timetable x.t x.c;
      lines = x.line_count;
      line_of = λ i. get_or x.lines i 0;
      listed = listed_at x.runs x.rows;
      time = x.settings.transfer_time;
    }

-- what is lent to be written: the transfers' area, the events' runs
pub record TransferAreas : Type 0 where
  pub area : List ℕ
  pub transfer_runs : List ℕ

abbrev pub transfer_areas : List ℕ → List ℕ → TransferAreas
transfer_areas a b = record { area = a; transfer_runs = b }

-- 2: is every lent slice exactly as long as the counts say? (The area may have any length.)
unfoldable pub transfer_sizes_ok : (t : List ℕ) (c : Counts) (d lines runs rows transfer_runs : ℕ) → Bool
transfer_sizes_ok t c d lines runs rows transfer_runs =
    (eqb lines c.trips && eqb runs (c.stops * 2)) && (eqb rows (d * 2) && eqb transfer_runs (events_before (timetable t c) c.trips * 2))

-- 4: is each trip's line below the count?
unfoldable pub lines_ok : List ℕ → ℕ → ℕ → Bool
lines_ok lines trips line_count = every_in (λ i. ltb (get_or lines i 0) line_count) 0 trips

-- THE QUESTIONS. 1: are all counts within the limits?
unfoldable pub transfers_question1 : TransferLent → Bool
transfers_question1 x = counts_ok x.c && (leb x.line_count 4096 && leb x.d 65536)

-- 2: the timetable's own slice, and the others
unfoldable pub transfers_question2 : TransferLent → ℕ → Bool
transfers_question2 x transfer_runs =
    slices_ok x.t x.c && transfer_sizes_ok x.t x.c x.d (length x.lines) (length x.runs) (length x.rows) transfer_runs

-- 3: has every trip a stop time, and do all runs lie in their tables?
unfoldable pub transfers_question3 : TransferLent → Bool
transfers_question3 x = runs_ok x.t x.c && stop_runs_ok x.runs x.c x.d

-- 4: is every stop, trip and line number below its count, and each departure's stop time its trip's and at its stop?
unfoldable pub transfers_question4 : TransferLent → Bool
transfers_question4 x =
    numbers_ok x.t x.c && (lines_ok x.lines x.c.trips x.line_count && listed_ok x.t x.c x.runs x.rows x.d)

-- 5: is every time and code in its range?
unfoldable pub transfers_question5 : TransferLent → Bool
transfers_question5 x = ranges_ok x.t x.c

-- 6: are the walk edges in order of from-stop? (The departures may come in any order.)
unfoldable pub transfers_question6 : TransferLent → Bool
transfers_question6 x = order_ok x.t x.c

-- the number of the first of 1, 14 (is every setting in its range?) and 2 to 6 that is answered no, or 0
unfoldable pub transfers_verdict : TransferLent → ℕ → ℕ
transfers_verdict x transfer_runs =
    ask 1 (transfers_question1 x)
    (ask 14 (settings_ok x.settings)
    (ask 2 (transfers_question2 x transfer_runs)
    (ask 3 (transfers_question3 x)
    (ask 4 (transfers_question4 x)
    (ask 5 (transfers_question5 x)
    (ask 6 (transfers_question6 x) 0))))))

-- 7: are there at most 65,536, and does the area hold all of them?
unfoldable pub room_ok : ℕ → ℕ → Bool
room_ok n area = leb n 65536 && leb (n * 4) area

-- WHAT IS WRITTEN: the transfers' words, past which the area keeps its own, and every event's run
unfoldable pub area_with : Input → List ℕ → List ℕ
area_with x area = transfer_words (all_transfers x) ++ drop (length (all_transfers x) * 4) area

abbrev pub written : Input → TransferAreas → TransferAreas
written x s = transfer_areas (area_with x s.area) (runs_from 0 (events_of x))

-- THE OUTCOME: the answer as document 01 numbers it, the question answered no, or 0 and how many transfers were written; and the slices at exit.
-- A refusal leaves both slices as they came.
pub record TransfersOutcome : Type 0 where
  pub answer : Answer
  pub areas : TransferAreas

abbrev pub transfers_outcome_of : Answer → TransferAreas → TransfersOutcome
transfers_outcome_of a s = record { answer = a; areas = s }

unfoldable pub transfers_settled : Input → TransferAreas → TransfersOutcome
transfers_settled x s =
    cond (room_ok (length (all_transfers x)) (length s.area))
    (transfers_outcome_of (success (length (all_transfers x))) (written x s))
    (transfers_outcome_of (refusal 7) s)

abbrev pub transfers_settle : ℕ → Input → TransferAreas → TransfersOutcome
transfers_settle zero x s = transfers_settled x s
transfers_settle (suc n) x s = transfers_outcome_of (refusal (suc n)) s

abbrev pub transfers_outcome : TransferLent → TransferAreas → TransfersOutcome
transfers_outcome x s = transfers_settle (transfers_verdict x (length s.transfer_runs)) (input_of x) s

-- what the questions 1, 14 and 2 to 6 give where all are answered yes
pub record LinesBelow (lines : List ℕ) (trips line_count : ℕ) : Type 0 where
  pub size : length lines ≡ trips
  pub few : line_count ≤ 4096
  pub line : (i : ℕ) → i < trips → get_or lines i 0 < line_count

pub record TransfersAdmitted (x : TransferLent) (transfer_runs : ℕ) : Type 0 where
  pub sane : Sane x.t x.c
  pub listed : RowsListed x.t x.c x.runs x.rows x.d
  pub lines : LinesBelow x.lines x.c.trips x.line_count
  pub time : x.settings.transfer_time ≤ transfer_time_limit
  pub events : transfer_runs ≡ events_before (timetable x.t x.c) x.c.trips * 2
