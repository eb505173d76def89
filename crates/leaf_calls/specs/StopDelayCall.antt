-- The calls of the effective times: questions 14 and 5, and what each answers. The times themselves: `stop_delay` specs/Times. Definitions only.
use Rattle.std.specs.Prelude.{ℕ, Bool, ◌&&◌, leb}
use Rattle.loops.specs.Count.{one}
use Rattle.door.specs.declared.Answer.{Answer}
use Rattle.door.specs.Door.{answer, time_limit}
use Rattle.door.specs.Settings.{ranges_asked}
use Rattle.door.specs.declared.Settings.{Settings}
use Rattle.stop_delay.specs.Times.{skipped_at, effective_departure, effective_arrival}
use Rattle.stop_delay.specs.Door.{size_ok}

-- 5, of an effective time: the time, the flags, the trip delay and the stop's own
abbrev pub time_in_range : (time flags trip own : ℕ) → Bool
time_in_range time flags trip own = (leb time time_limit && leb flags 7) && (size_ok trip && size_ok own)

abbrev pub departure_outcome : (S : Settings) (departure trip flags own : ℕ) → Answer
departure_outcome S departure trip flags own =
    answer (ranges_asked S (time_in_range departure flags trip own))
    (effective_departure departure (record { trip_delay = trip; flags = flags; departure_delay = own; arrival_delay = 0 }))

abbrev pub arrival_outcome : (S : Settings) (arrival shift trip flags own : ℕ) → Answer
arrival_outcome S arrival shift trip flags own =
    answer (ranges_asked S (time_in_range arrival flags trip own && size_ok shift))
    (effective_arrival arrival shift (record { trip_delay = trip; flags = flags; departure_delay = 0; arrival_delay = own }))

-- is the stop skipped: 1, else 0
abbrev pub skipped_outcome : Settings → ℕ → Answer
skipped_outcome S flags = answer (ranges_asked S (leb flags 7)) (one (skipped_at flags))
