-- Which tables and queries agree with patterns, egress rows and transfers as the slices hold them; whether flags skip a row, and counts of such rows.
-- Definitions only.
-- Inner: nobody has to believe this.
use Rattle.std.specs.Prelude.{ℕ, ◌+◌, ◌*◌, ◌/◌, ◌<◌, ◌≤◌, ◌≡◌, Bool, not, ◌&&◌, Option, List, length, get_or, ltb, leb}
use Rattle.loops.specs.Iter.{some_in, first_in, found}
use Rattle.loops.specs.Count.{count, tab}
use Rattle.cell_bitset.specs.CellWords.{cell_words}
use Rattle.tables.specs.declared.Counts.{Counts}
use Rattle.event_transfers.specs.Transfers.{transfer_at, events_before}
use Rattle.model.specs.Tables.{Tables, Query}
use Rattle.model.specs.Search.{target_cells, holds_target}
use Rattle.arc_flags.specs.Flags.{pattern_at}

-- the patterns of tables are these
pub record Patterned (T : Tables) (patterns : List ℕ) (count : ℕ) : Type 0 where
  pub size : T.patterns ≡ count
  pub pattern : (p : ℕ) → p < count → T.pattern p ≡ pattern_at patterns p

-- the words of the target cells: what a query keeps of them
abbrev pub target_words : Tables → Query → List ℕ
target_words T Q = cell_words (target_cells T Q)

-- and the words of the target cells of tables and query are these
pub record Aimed (T : Tables) (Q : Query) (patterns : List ℕ) (count : ℕ) (target : List ℕ) : Type 0 where
  pub patterned : Patterned T patterns count
  pub aimed : target ≡ target_words T Q

-- as long as the count says
pub record PatternsOk (patterns : List ℕ) (count : ℕ) : Type 0 where
  pub few : count ≤ 4096
  pub long : length patterns ≡ count * 64

-- every egress stop is below the count
pub record EgressIn (c : Counts) (rows : List ℕ) : Type 0 where
  pub few : length rows ≤ 8192
  pub stop : (i : ℕ) → i < length rows / 2 → get_or rows (i * 2) 0 < c.stops

-- the first transfer of event e, and how many it has
abbrev pub event_run_first : List ℕ → ℕ → ℕ
event_run_first runs e = get_or runs (e * 2) 0

abbrev pub event_run_length : List ℕ → ℕ → ℕ
event_run_length runs e = get_or runs (e * 2 + 1) 0

-- the transfers of tables are these, an event's by its run; each event has one
pub record Transferring (T : Tables) (runs area : List ℕ) : Type 0 where
  pub events : length runs ≡ events_before T.timetable T.timetable.trips * 2
  pub transfers : (i o : ℕ) → i < T.timetable.trips → o < (T.timetable.trip i).count
      → T.transfers i o ≡ tab (λ k. transfer_at area (event_run_first runs (events_before T.timetable i + o) + k))
      (event_run_length runs (events_before T.timetable i + o))

-- the area has so many rows
pub record RowsIn (area : List ℕ) (rows : ℕ) : Type 0 where
  pub few : rows ≤ 65536
  pub fit : rows * 4 ≤ length area

-- every run lies in so many rows
pub record RunsIn (runs : List ℕ) (rows : ℕ) : Type 0 where
  pub inside : (e : ℕ) → e < length runs / 2 → event_run_first runs e + event_run_length runs e ≤ rows

-- has the run of event e row k?
abbrev pub run_has : List ℕ → ℕ → ℕ → Bool
run_has runs k e = leb (event_run_first runs e) k && ltb k (event_run_first runs e + event_run_length runs e)

-- do the flags skip row k of the area?
abbrev pub row_skipped : Tables → Query → List ℕ → ℕ → Bool
row_skipped T Q area k = not (holds_target T Q (transfer_at area k).pattern)

-- the first of so many rows that they skip
abbrev pub first_skipped : Tables → Query → List ℕ → ℕ → Option ℕ
first_skipped T Q area rows = found (first_in (row_skipped T Q area) 0 rows)

-- does a row of event e's run pass? A row of some event's run?
abbrev pub run_some : (ℕ → Bool) → List ℕ → ℕ → Bool
run_some f runs e = some_in (λ k. f (event_run_first runs e + k)) 0 (event_run_length runs e)

abbrev pub some_run : (ℕ → Bool) → List ℕ → Bool
some_run f runs = some_in (run_some f runs) 0 (length runs / 2)

-- a window: the n rows from `from` on; does row k lie in it and pass?
abbrev pub within_run : (ℕ → Bool) → ℕ → ℕ → ℕ → Bool
within_run f from n k = (leb from k && ltb k (from + n)) && f k

-- number k of the counts says how many of the window's first k rows pass
pub record CountedFrom (f : ℕ → Bool) (from n : ℕ) (counts : List ℕ) : Type 0 where
  pub before : (k : ℕ) → k ≤ n → get_or counts k 0 ≡ count (λ j. f (from + j)) k

-- how many the flags skip, for all tables and queries that agree
pub record SkippedCounted (area patterns : List ℕ) (count : ℕ) (target : List ℕ) (from n : ℕ) (counts : List ℕ) : Type 0 where
  pub counted : (T : Tables) (Q : Query) → Aimed T Q patterns count target → CountedFrom (row_skipped T Q area) from n counts

-- r says whether some event's run has a row of the window that the flags skip; whether some event's run has a row that they skip
pub record WindowSkips (runs area patterns : List ℕ) (count : ℕ) (target : List ℕ) (from n : ℕ) (r : Bool) : Type 0 where
  pub says : (T : Tables) (Q : Query) → Aimed T Q patterns count target → r ≡ some_run (within_run (row_skipped T Q area) from n) runs

pub record RunsSkip (runs area patterns : List ℕ) (count : ℕ) (target : List ℕ) (r : Bool) : Type 0 where
  pub says : (T : Tables) (Q : Query) → Aimed T Q patterns count target → r ≡ some_run (row_skipped T Q area) runs
