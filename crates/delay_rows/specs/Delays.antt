-- The delay tables by their rows' numbers (document 01, item 4): what they say of one stop time, and the margin. No memory is
-- mentioned here; specs/Flat makes the tables from two lent slices. Definitions only.
use Rattle.std.specs.Prelude.{ℕ, min, max, cond, ◌&&◌, eqb}
use Rattle.loops.specs.Iter.{Hit, hit, miss, first_in, range}
use Rattle.stop_delay.specs.declared.StopDelay.{StopDelay}
use Rattle.stop_delay.specs.Times.{departure_given, arrival_given, no_delay, size_of}
use Rattle.delay_rows.specs.declared.DelayRow.{DelayRow}
use Rattle.delay_rows.specs.declared.StopRow.{StopRow}

-- delay rows and stop rows, by their numbers
pub record DelayTables : Type 0 where
  pub delays : ℕ
  pub delay : ℕ → DelayRow
  pub stop_rows : ℕ
  pub stop_row : ℕ → StopRow

-- the trip of a delay row that no trip of the timetable has: an unknown trip
abbrev pub unknown_trip : ℕ
unknown_trip = 4294967295

-- a trip's delay row: the first row of that trip
abbrev pub delay_row : DelayTables → ℕ → Hit
delay_row D trip = first_in (λ i. eqb (D.delay i).trip trip) 0 D.delays

-- the stop row of a delay row at a sequence
abbrev pub stop_row : DelayTables → ℕ → ℕ → Hit
stop_row D row sequence = first_in (λ j. eqb (D.stop_row j).row row && eqb (D.stop_row j).sequence sequence) 0 D.stop_rows

-- the trip's delay beside its stop row, if there is one
abbrev pub beside_trip : DelayTables → ℕ → Hit → StopDelay
beside_trip D delay miss = record { trip_delay = delay; flags = 0; departure_delay = 0; arrival_delay = 0 }
beside_trip D delay (hit j) =
    record {
      trip_delay = delay;
      flags = (D.stop_row j).flags;
      departure_delay = (D.stop_row j).departure_delay;
      arrival_delay = (D.stop_row j).arrival_delay;
    }

-- what the tables say of the stop time with this sequence, of a trip whose delay row is this
abbrev pub stop_delay : DelayTables → Hit → ℕ → StopDelay
stop_delay D miss sequence = no_delay
stop_delay D (hit i) sequence = beside_trip D (D.delay i).delay (stop_row D i sequence)

-- the larger size of the given delays of a stop row
abbrev pub given_size : StopRow → ℕ
given_size r =
    max (cond (departure_given r.flags) (size_of r.departure_delay) 0)
    (cond (arrival_given r.flags) (size_of r.arrival_delay) 0)

-- the largest of f 0, f 1, .., n of them; 0 where there is none
abbrev pub or_larger : (ℕ → ℕ) → ℕ → ℕ → ℕ
or_larger f i most = max most (f i)

abbrev pub largest : (ℕ → ℕ) → ℕ → ℕ
largest f n = range (or_larger f) 0 n 0

-- the largest size among trip delays, unknown trips included, and given stop delays
abbrev pub largest_delay : DelayTables → ℕ
largest_delay D = max (largest (λ i. size_of (D.delay i).delay) D.delays) (largest (λ j. given_size (D.stop_row j)) D.stop_rows)

-- .. at most the cap
abbrev pub margin : DelayTables → ℕ → ℕ
margin D cap = min cap (largest_delay D)
