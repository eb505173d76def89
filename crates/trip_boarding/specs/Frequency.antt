-- The boarding of a frequency trip at one of its stop times, by the timetable's windows. Definitions only.
-- Inner: nobody has to believe this.
use Rattle.std.specs.Prelude.{ℕ, ◌+◌, Option}
use Rattle.frequency.specs.declared.BoardedRun.{BoardedRun}
use Rattle.frequency.specs.Gtfs.{window_from, earliest_freq_board}
use Rattle.tables.specs.Timetable.{Timetable, time_at}

-- the earliest run of a frequency trip, whose effective departure at the boarding stop is dep
abbrev pub freq_board_at : Timetable → ℕ → ℕ → ℕ → Option BoardedRun
freq_board_at T trip dep after =
    earliest_freq_board (T.trip trip).windows
    (λ i. let w = T.window ((T.trip trip).window + i) in window_from w.start w.end w.headway)
    (time_at T trip 0).departure dep after
