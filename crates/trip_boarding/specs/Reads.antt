-- What boarding reads, and which tables and queries agree with it. Definitions only.
-- Inner: nobody has to believe this.
use Rattle.std.specs.Prelude.{ℕ, ◌<◌, ◌≡◌, List, Option, None, Some}
use Rattle.loops.specs.Iter.{Hit, hit, miss}
use Rattle.tables.specs.declared.Counts.{Counts}
use Rattle.tables.specs.Tables.{count_of}
use Rattle.tables.specs.Timetable.{timetable}
use Rattle.tables.specs.Sane.{Sane}
use Rattle.delay_rows.specs.Delays.{margin}
use Rattle.delay_rows.specs.Flat.{delay_row_count, stop_row_count, delay_row_at, stop_row_at, delay_tables}
use Rattle.delay_lookup.specs.Sane.{DelayRows, StopRows}
use Rattle.model.specs.Tables.{Tables, Query}
use Rattle.query_types.specs.declared.Terms.{Terms}

-- a delay row found, as the model has it
abbrev pub hit_of : Option ℕ → Hit
hit_of (Some i) = hit i
hit_of None = miss

-- a delay row found is one of the table's
pub record Known (rows : List ℕ) (adj : Option ℕ) : Type 0 where
  pub below : (i : ℕ) → adj ≡ Some i → i < delay_row_count rows

-- the slices that boarding reads are as the door leaves them
pub record Ground (t : List ℕ) (c : Counts) (rows stops : List ℕ) : Type 0 where
  pub sane : Sane t c
  pub delay_rows : DelayRows (delay_row_count rows) (delay_row_at rows)
  pub stop_rows : StopRows (stop_row_count stops) (stop_row_at stops)

-- a stop time of a trip: trip i, offset o
pub record Event (t : List ℕ) (c : Counts) (i o : ℕ) : Type 0 where
  pub trip : i < c.trips
  pub offset : o < count_of t c i

-- tables and query that hold what stands in these slices
pub record Agree (T : Tables) (Q : Query) (t : List ℕ) (c : Counts) (rows stops : List ℕ) : Type 0 where
  pub timetable : T.timetable ≡ timetable t c
  pub delays : Q.delays ≡ delay_tables rows stops

-- a query whose numbers are these
pub record Asks (Q : Query) (w : Terms) : Type 0 where
  pub modes : Q.modes ≡ w.modes
  pub wheelchair : Q.wheelchair ≡ w.wheelchair
  pub margin : margin Q.delays Q.settings.margin_cap ≡ w.margin
  pub line_scan : Q.settings.line_scan ≡ w.line_scan
