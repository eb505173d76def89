-- The questions of document 01 that concern the listed departures, and what a yes gives. Definitions only.
use Rattle.std.specs.Prelude.{ℕ, ◌+◌, ◌*◌, ◌<◌, ◌≤◌, ◌≡◌, Bool, ◌&&◌, List, length, ltb, leb, eqb}
use Rattle.loops.specs.Iter.{every_in}
use Rattle.tables.specs.declared.Counts.{Counts}
use Rattle.tables.specs.Tables.{count_of, stop_of}
use Rattle.tables.specs.Sane.{CountsOk, SlicesOk, RunsOk}
use Rattle.departures.specs.declared.DepartureRow.{DepartureRow}
use Rattle.departures.specs.declared.StopRun.{StopRun}
use Rattle.departures.specs.Departures.{row_at, run_at, run_first, run_length, run_end, departures_of}

-- 3: does the run lie in the list of d rows?
unfoldable pub run_in : ℕ → StopRun → Bool
run_in d r = leb (r.first + r.length) d

unfoldable pub stop_runs_ok : List ℕ → Counts → ℕ → Bool
stop_runs_ok runs c d = every_in (λ s. run_in d (run_at runs s)) 0 c.stops

-- 4: is the row's trip below the count, its offset below the trip's count? Asked of every row, in a run or not.
unfoldable pub row_numbers : List ℕ → Counts → DepartureRow → Bool
row_numbers t c r = ltb r.trip c.trips && ltb r.offset (count_of t c r.trip)

unfoldable pub rows_ok : List ℕ → Counts → List ℕ → ℕ → Bool
rows_ok t c rows d = every_in (λ k. row_numbers t c (row_at rows k)) 0 d

-- 4: is that stop time at the stop? Asked of the rows of each stop.
unfoldable pub row_at_stop : List ℕ → Counts → ℕ → DepartureRow → Bool
row_at_stop t c s r = eqb (stop_of t c r.trip r.offset) s

abbrev pub at_stop : List ℕ → Counts → ℕ → List ℕ → ℕ → Bool
at_stop t c s rows k = row_at_stop t c s (row_at rows k)

unfoldable pub stop_rows_ok : List ℕ → Counts → List ℕ → List ℕ → ℕ → Bool
stop_rows_ok t c runs rows s = every_in (at_stop t c s (departures_of runs rows s)) 0 (run_length runs s)

unfoldable pub at_stops_ok : List ℕ → Counts → List ℕ → List ℕ → Bool
at_stops_ok t c runs rows = every_in (stop_rows_ok t c runs rows) 0 c.stops

unfoldable pub listed_ok : List ℕ → Counts → List ℕ → List ℕ → ℕ → Bool
listed_ok t c runs rows d = rows_ok t c rows d && at_stops_ok t c runs rows

-- WHAT A YES GIVES. The runs of the stops:
pub record RunsListed (c : Counts) (runs : List ℕ) (d : ℕ) : Type 0 where
  pub counts : CountsOk c
  pub few : d ≤ 65536
  pub size : length runs ≡ c.stops * 2
  pub run : (s : ℕ) → s < c.stops → run_end runs s ≤ d

-- a row whose trip and stop time exist, and a list of n such rows: the whole list, or a stop's part of it
pub record RowKnown (t : List ℕ) (c : Counts) (r : DepartureRow) : Type 0 where
  pub trip : r.trip < c.trips
  pub offset : r.offset < count_of t c r.trip

pub record RowsKnown (t : List ℕ) (c : Counts) (rows : List ℕ) (n : ℕ) : Type 0 where
  pub counts : CountsOk c
  pub slices : SlicesOk t c
  pub runs : RunsOk t c
  pub few : n ≤ 65536
  pub size : length rows ≡ n * 2
  pub known : (k : ℕ) → k < n → RowKnown t c (row_at rows k)

-- the list of departures: its rows exist, its runs lie in it, and each row of a stop's run is at the stop
pub record RowsListed (t : List ℕ) (c : Counts) (runs rows : List ℕ) (d : ℕ) : Type 0 where
  pub stops : RunsListed c runs d
  pub known : RowsKnown t c rows d
  pub at : (s k : ℕ) → s < c.stops → k < run_length runs s
      → stop_of t c (row_at rows (run_first runs s + k)).trip (row_at rows (run_first runs s + k)).offset ≡ s
