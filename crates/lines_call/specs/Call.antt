-- The call that makes the lines: its questions, in order, and what it answers and writes. Definitions only.
use Rattle.std.specs.Prelude.{ℕ, zero, suc, ◌*◌, ◌≡◌, Bool, ◌&&◌, List, length, replicate, eqb}
use Rattle.loops.specs.Count.{tab}
use Rattle.door.specs.declared.Answer.{Answer}
use Rattle.door.specs.Door.{ask, refusal, success}
use Rattle.door.specs.Settings.{settings_ok}
use Rattle.door.specs.declared.Settings.{Settings}
use Rattle.tables.specs.declared.Counts.{Counts}
use Rattle.tables.specs.Sane.{Sane}
use Rattle.tables.specs.Timetable.{timetable}
use Rattle.tables.specs.Door.{counts_ok, slices_ok, runs_ok, numbers_ok, ranges_ok, order_ok}
use Rattle.line_numbers.specs.Lines.{line_of, lines_of, entries_of, runs_of}
use Rattle.lines_call.specs.declared.LineLengths.{LineLengths}

-- the lent slices: each trip's line; each line's run (first entry, count); the entries; the workspace
pub record LineAreas : Type 0 where
  pub lines : List ℕ
  pub runs : List ℕ
  pub entries : List ℕ
  pub work : List ℕ
  pub other : List ℕ

abbrev pub line_areas : List ℕ → List ℕ → List ℕ → List ℕ → List ℕ → LineAreas
line_areas a b d e f = record { lines = a; runs = b; entries = d; work = e; other = f }

abbrev pub line_lengths : LineAreas → LineLengths
line_lengths s =
    record {
      lines = length s.lines;
      runs = length s.runs;
      entries = length s.entries;
      work = length s.work;
      other = length s.other;
    }

-- each is as long as there are trips; the runs have two words for each line, with room for as many lines as trips
unfoldable pub line_sizes_ok : Counts → LineLengths → Bool
line_sizes_ok c z =
    (eqb z.lines c.trips && eqb z.runs (c.trips * 2))
    && (eqb z.entries c.trips && (eqb z.work c.trips && eqb z.other c.trips))

-- THE QUESTIONS 1, 14 and 2 to 6: the number of the first that is answered no, or 0. 6 is of the walk edges.
unfoldable pub lines_verdict : Settings → List ℕ → Counts → LineLengths → ℕ
lines_verdict S t c z =
    ask 1 (counts_ok c)
    (ask 14 (settings_ok S)
    (ask 2 (slices_ok t c && line_sizes_ok c z)
    (ask 3 (runs_ok t c)
    (ask 4 (numbers_ok t c)
    (ask 5 (ranges_ok t c)
    (ask 6 (order_ok t c) 0))))))

-- what is made; the workspace is left zero
unfoldable pub lines_made : List ℕ → Counts → LineAreas → LineAreas
lines_made t c s =
    line_areas (tab (line_of (timetable t c)) c.trips) (runs_of (timetable t c) s.runs) (entries_of (timetable t c))
    (replicate c.trips 0) (replicate c.trips 0)

-- the answer as document 01 numbers it, the question answered no, or 0 and how many lines; and the lent slices as they are left
pub record LinesOutcome : Type 0 where
  pub answer : Answer
  pub areas : LineAreas

abbrev pub lines_outcome_of : Answer → LineAreas → LinesOutcome
lines_outcome_of a s = record { answer = a; areas = s }

-- how many lines there are, and what is made; a refusal leaves every slice as it came
abbrev pub lines_settle : ℕ → List ℕ → Counts → LineAreas → LinesOutcome
lines_settle zero t c s = lines_outcome_of (success (lines_of (timetable t c))) (lines_made t c s)
lines_settle (suc n) t c s = lines_outcome_of (refusal (suc n)) s

abbrev pub lines_outcome : Settings → List ℕ → Counts → LineAreas → LinesOutcome
lines_outcome S t c s = lines_settle (lines_verdict S t c (line_lengths s)) t c s

-- the call was admitted: the timetable is sound, and the slices are as long as they should be
pub record LinesAdmitted (t : List ℕ) (c : Counts) (s : LineAreas) : Type 0 where
  pub sound : Sane t c
  pub lines : length s.lines ≡ c.trips
  pub runs : length s.runs ≡ c.trips * 2
  pub entries : length s.entries ≡ c.trips
  pub work : length s.work ≡ c.trips
  pub other : length s.other ≡ c.trips
