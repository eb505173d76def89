-- The questions at the door that concern the delay tables, and what the calls answer. Definitions only.
use Rattle.std.specs.Prelude.{ℕ, ◌-◌, Bool, ◌&&◌, ◌||◌, ltb, leb, eqb}
use Rattle.loops.specs.Iter.{every_in}
use Rattle.stop_delay.specs.Door.{size_ok}
use Rattle.delay_rows.specs.declared.DelayRow.{DelayRow}
use Rattle.delay_rows.specs.declared.StopRow.{StopRow}
use Rattle.delay_rows.specs.Delays.{DelayTables, unknown_trip}

-- 4: is every trip and delay-row number below its count? (Unknown trips pass.)
abbrev pub trip_numbered : ℕ → DelayRow → Bool
trip_numbered trips r = ltb r.trip trips || eqb r.trip unknown_trip

abbrev pub row_numbered : ℕ → StopRow → Bool
row_numbered n r = ltb r.row n

abbrev pub delay_numbers : ℕ → DelayTables → Bool
delay_numbers trips D =
    every_in (λ i. trip_numbered trips (D.delay i)) 0 D.delays && every_in (λ j. row_numbered D.delays (D.stop_row j)) 0 D.stop_rows

-- 5: is every delay and code in its range? (A stop row's delays, given or not.)
abbrev pub stop_in_range : StopRow → Bool
stop_in_range r = leb r.flags 7 && (size_ok r.departure_delay && size_ok r.arrival_delay)

abbrev pub delay_ranges : DelayTables → Bool
delay_ranges D = every_in (λ i. size_ok (D.delay i).delay) 0 D.delays && every_in (λ j. stop_in_range (D.stop_row j)) 0 D.stop_rows

-- 6: are delay rows and stop rows in order? Trips strictly rise, but unknown ones may repeat at the end; stop rows strictly
-- rise by row, then sequence.
abbrev pub trips_rise : DelayRow → DelayRow → Bool
trips_rise a b = ltb a.trip b.trip || (eqb a.trip unknown_trip && eqb b.trip unknown_trip)

abbrev pub stops_rise : StopRow → StopRow → Bool
stops_rise a b = ltb a.row b.row || (eqb a.row b.row && ltb a.sequence b.sequence)

-- row i is the first, or rises from the row before it
abbrev pub row_in_order : {R : Type 0} → (R → R → Bool) → (ℕ → R) → ℕ → Bool
row_in_order rise at i = eqb i 0 || rise (at (i - 1)) (at i)

abbrev pub delay_order : DelayTables → Bool
delay_order D = every_in (row_in_order trips_rise D.delay) 0 D.delays && every_in (row_in_order stops_rise D.stop_row) 0 D.stop_rows

-- What the calls answer
