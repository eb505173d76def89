-- The calls that read the delay tables, the look-up and the margin: their questions in order, and what each answers. Definitions only.
use Rattle.std.specs.Prelude.{ℕ, zero, suc, ◌*◌, Bool, true, ◌&&◌, Option, None, Some, Result, Ok, Err, List, length, ltb, leb, eqb}
use Rattle.loops.specs.Iter.{Hit, hit, miss}
use Rattle.door.specs.declared.Answer.{Answer}
use Rattle.door.specs.declared.Refusal.{Refusal}
use Rattle.door.specs.Door.{ask, answer, number_of}
use Rattle.door.specs.Settings.{settings_ok}
use Rattle.door.specs.declared.Settings.{Settings}
use Rattle.stop_delay.specs.Times.{no_delay}
use Rattle.stop_delay.specs.declared.StopDelay.{StopDelay}
use Rattle.delay_call.specs.declared.DelayAt.{DelayAt}
use Rattle.delay_rows.specs.Delays.{delay_row, stop_delay, margin}
use Rattle.delay_rows.specs.Flat.{delay_tables}
use Rattle.delay_rows.specs.Door.{delay_numbers, delay_ranges, delay_order}

-- 1: are all counts within the limits?
abbrev pub delay_counts : ℕ → ℕ → ℕ → Bool
delay_counts trips n m = leb trips 4096 && (leb n 4096 && leb m 4096)

-- 2: is every slice exactly as long as its count says?
abbrev pub delay_lengths : ℕ → ℕ → List ℕ → List ℕ → Bool
delay_lengths n m rows stops = eqb (length rows) (2 * n) && eqb (length stops) (5 * m)

-- The door of the delay tables, questions 1, 14, 2, 4, 5 and 6: the number of the first no. A call that has a trip number of its own asks of it
-- in question 4.
unfoldable pub delays_door : Settings → ℕ → ℕ → ℕ → List ℕ → List ℕ → Bool → ℕ
delays_door S trips n m rows stops numbered =
    ask 1 (delay_counts trips n m)
    (ask 14 (settings_ok S)
    (ask 2 (delay_lengths n m rows stops)
    (ask 4 (delay_numbers trips (delay_tables rows stops) && numbered)
    (ask 5 (delay_ranges (delay_tables rows stops))
    (ask 6 (delay_order (delay_tables rows stops)) 0)))))

-- the margin; its cap is the setting
abbrev pub margin_outcome : (S : Settings) (trips n m : ℕ) (rows stops : List ℕ) → Answer
margin_outcome S trips n m rows stops = answer (delays_door S trips n m rows stops true) (margin (delay_tables rows stops) S.margin_cap)

-- has the trip a delay row?
abbrev pub known_of : Hit → ℕ
known_of (hit i) = 1
known_of miss = 0

-- an answer in its parts
abbrev pub told : ℕ → ℕ → StopDelay → DelayAt
told code known d =
    record {
      code = code;
      known = known;
      trip_delay = d.trip_delay;
      flags = d.flags;
      departure_delay = d.departure_delay;
      arrival_delay = d.arrival_delay;
    }

-- an outcome of the look-up, as a caller in C reads it
abbrev pub delay_at_of : Result (Option StopDelay) Refusal → DelayAt
delay_at_of (Ok (Some d)) = told 0 1 d
delay_at_of (Ok None) = told 0 0 no_delay
delay_at_of (Err q) = told (number_of q) 0 no_delay

-- a refusal writes no answer: all else is 0
abbrev pub delay_answer : ℕ → ℕ → StopDelay → DelayAt
delay_answer zero known d = told 0 known d
delay_answer (suc n) known d = told (suc n) 0 no_delay

-- what the tables say of the stop time of a trip; the trip is in question 4
abbrev pub delay_at_outcome : (S : Settings) (trips n m : ℕ) (rows stops : List ℕ) (trip sequence : ℕ) → DelayAt
delay_at_outcome S trips n m rows stops trip sequence =
    let D = delay_tables rows stops in
    delay_answer (delays_door S trips n m rows stops (ltb trip trips)) (known_of (delay_row D trip)) (stop_delay D (delay_row D trip) sequence)
