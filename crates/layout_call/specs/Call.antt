-- The call that lays out the lines: its questions, in order, and what it answers and writes. Definitions only.
use Rattle.std.specs.Prelude.{ℕ, zero, suc, ◌*◌, ◌≡◌, Bool, ◌&&◌, List, length, leb, eqb}
use Rattle.door.specs.Door.{ask}
use Rattle.door.specs.Settings.{settings_ok}
use Rattle.door.specs.declared.Settings.{Settings}
use Rattle.tables.specs.declared.Counts.{Counts}
use Rattle.tables.specs.Door.{counts_ok, slices_ok, runs_ok, numbers_ok, ranges_ok, order_ok}
use Rattle.tables.specs.Sane.{Sane}
use Rattle.tables.specs.Timetable.{timetable}
use Rattle.line_layout.specs.Layout.{positions_of, fifos_of}
use Rattle.line_layout.specs.Listed.{line_runs_ok, entries_ok, LinesListed}

-- what is lent to be written
pub record LayoutAreas : Type 0 where
  pub positions : List ℕ
  pub fifo : List ℕ

abbrev pub layout_areas : List ℕ → List ℕ → LayoutAreas
layout_areas p f = record { positions = p; fifo = f }

-- 2: is every lent slice exactly as long as the counts say?
unfoldable pub layout_sizes_ok : (c : Counts) (lines n runs entries positions fifo : ℕ) → Bool
layout_sizes_ok c lines n runs entries positions fifo =
    (eqb runs (lines * 2) && eqb entries n) && (eqb positions c.trips && eqb fifo lines)

abbrev pub layout_areas_ok : Counts → ℕ → ℕ → List ℕ → List ℕ → LayoutAreas → Bool
layout_areas_ok c lines n runs entries s = layout_sizes_ok c lines n (length runs) (length entries) (length s.positions) (length s.fifo)

-- THE QUESTIONS 1, 14 and 2 to 6: the number of the first that is answered no, or 0. 6 is of the walk edges.
unfoldable pub layout_verdict : Settings → List ℕ → Counts → ℕ → ℕ → List ℕ → List ℕ → Bool → ℕ
layout_verdict S t c lines n runs entries sizes =
    ask 1 (counts_ok c && (leb lines 4096 && leb n 4096))
    (ask 14 (settings_ok S)
    (ask 2 (slices_ok t c && sizes)
    (ask 3 (runs_ok t c && line_runs_ok runs lines n)
    (ask 4 (numbers_ok t c && entries_ok c entries n)
    (ask 5 (ranges_ok t c)
    (ask 6 (order_ok t c) 0))))))

-- WHAT IS WRITTEN: every trip's position, every line's FIFO flag
abbrev pub layout_made : List ℕ → Counts → ℕ → List ℕ → List ℕ → LayoutAreas
layout_made t c lines runs entries = layout_areas (positions_of c lines runs entries) (fifos_of (timetable t c) lines runs entries)

-- THE OUTCOME: the answer and the slices at exit. A refusal leaves both slices as they came.
pub record LayoutOutcome : Type 0 where
  pub answer : ℕ
  pub areas : LayoutAreas

abbrev pub layout_outcome_of : ℕ → LayoutAreas → LayoutOutcome
layout_outcome_of v s = record { answer = v; areas = s }

abbrev pub layout_settle : ℕ → List ℕ → Counts → ℕ → List ℕ → List ℕ → LayoutAreas → LayoutOutcome
layout_settle zero t c lines runs entries s = layout_outcome_of 0 (layout_made t c lines runs entries)
layout_settle (suc v) t c lines runs entries s = layout_outcome_of (suc v) s

abbrev pub layout_outcome : Settings → List ℕ → Counts → ℕ → ℕ → List ℕ → List ℕ → LayoutAreas → LayoutOutcome
layout_outcome S t c lines n runs entries s =
    layout_settle (layout_verdict S t c lines n runs entries (layout_areas_ok c lines n runs entries s)) t c lines runs entries s

-- what the questions give where all are answered yes
pub record LayoutAdmitted (t : List ℕ) (c : Counts) (lines : ℕ) (runs entries : List ℕ) (s : LayoutAreas) : Type 0 where
  pub sane : Sane t c
  pub listed : LinesListed c lines runs entries
  pub positions : length s.positions ≡ c.trips
  pub fifo : length s.fifo ≡ lines
