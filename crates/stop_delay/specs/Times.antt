-- What delays do to one stop time (document 01, item 4): flags and effective times. Definitions only.
use Rattle.std.specs.Prelude.{ℕ, ◌/◌, ◌%◌, Bool, cond, ◌||◌, eqb, pos, nat_abs, ◌+ℤ◌}
use Rattle.signed.specs.Signed.{of_bits, floored}
use Rattle.stop_delay.specs.declared.StopDelay.{StopDelay}

-- Flags: 1 departure given, 2 arrival given, 4 skipped
abbrev pub departure_given : ℕ → Bool
departure_given flags = eqb (flags % 2) 1

abbrev pub arrival_given : ℕ → Bool
arrival_given flags = eqb (flags / 2 % 2) 1

abbrev pub skipped_at : ℕ → Bool
skipped_at flags = eqb (flags / 4 % 2) 1

-- no delay row: no delay, nothing given, not skipped
abbrev pub no_delay : StopDelay
no_delay = record { trip_delay = 0; flags = 0; departure_delay = 0; arrival_delay = 0 }

-- the size of a signed delay: 3 for 3 and for -3
abbrev pub size_of : ℕ → ℕ
size_of bits = nat_abs (of_bits bits)

-- a time moved by signed seconds, floored at 0
abbrev pub shifted : ℕ → ℕ → ℕ
shifted time bits = floored (pos time +ℤ of_bits bits)

-- the departure moved by its own delay where one is given, else by the trip's
abbrev pub effective_departure : ℕ → StopDelay → ℕ
effective_departure departure d = shifted departure (cond (departure_given d.flags) d.departure_delay d.trip_delay)

-- if the stop row gives either time: the arrival moved by its own delay where one is given, else by the trip's; else by the shift
abbrev pub effective_arrival : ℕ → ℕ → StopDelay → ℕ
effective_arrival arrival shift d =
    shifted arrival
    (cond (departure_given d.flags || arrival_given d.flags)
    (cond (arrival_given d.flags) d.arrival_delay d.trip_delay)
    shift)
