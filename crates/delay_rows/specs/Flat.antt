-- The delay tables made from two lent slices of numbers. Definitions only.
use Rattle.std.specs.Prelude.{ℕ, ◌+◌, ◌*◌, ◌/◌, List, [], length, get_or}
use Rattle.delay_rows.specs.declared.DelayRow.{DelayRow}
use Rattle.delay_rows.specs.declared.StopRow.{StopRow}
use Rattle.delay_rows.specs.Delays.{DelayTables}

-- how many delay rows: two numbers each
abbrev pub delay_row_count : List ℕ → ℕ
delay_row_count rows = length rows / 2

-- how many stop rows: five numbers each
abbrev pub stop_row_count : List ℕ → ℕ
stop_row_count stops = length stops / 5

-- delay row i: trip, signed delay
abbrev pub delay_row_at : List ℕ → ℕ → DelayRow
delay_row_at rows i = record { trip = get_or rows (i * 2) 0; delay = get_or rows (i * 2 + 1) 0 }

-- stop row j: delay row, sequence, flags, signed departure delay, signed arrival delay
abbrev pub stop_row_at : List ℕ → ℕ → StopRow
stop_row_at stops j =
    record {
      row = get_or stops (j * 5) 0;
      sequence = get_or stops (j * 5 + 1) 0;
      flags = get_or stops (j * 5 + 2) 0;
      departure_delay = get_or stops (j * 5 + 3) 0;
      arrival_delay = get_or stops (j * 5 + 4) 0;
    }

-- both tables
abbrev pub delay_tables : List ℕ → List ℕ → DelayTables
delay_tables rows stops = record { delays = delay_row_count rows; delay = delay_row_at rows; stop_rows = stop_row_count stops; stop_row = stop_row_at stops }

-- one of them, where the other is not read
abbrev pub delays_alone : List ℕ → DelayTables
delays_alone rows = delay_tables rows []

abbrev pub stops_alone : List ℕ → DelayTables
stops_alone stops = delay_tables [] stops
