-- Question 14 of the calls that take numbers alone, as computed checks.
use mathlib.Core.Path.{◌≡◌, refl}
use mathlib.Core.Bool.{true, ◌&&◌}
use lib.Dec.{eqb}
use Rattle.door.specs.Settings.{default_settings, settings_ok}
use Rattle.door.proofs.House.{no_trip_tried}
use Rattle.leaf_calls.specs.WalkCall.{walk_duration, rounds_answer}
use Rattle.leaf_calls.specs.StopDelayCall.{departure_outcome, arrival_outcome, skipped_outcome}
use Rattle.leaf_calls.specs.ClockCall.{service_second}

-- the rounds: a value of 0 where they are refused
pub rounds_asked : (rounds_answer no_trip_tried 5 0 ≡ record { code = 14; value = 0 }) × ((rounds_answer default_settings 5 0).code ≡ 0)
unfolding settings_ok
rounds_asked = (refl, refl)

-- 14 is asked before 5
pub before_5 : eqb (walk_duration no_trip_tried 30 8 1).code 14 && eqb (service_second no_trip_tried 48 0 0).code 14 && eqb (skipped_outcome no_trip_tried 8).code 14
    && eqb (departure_outcome no_trip_tried 0 0 8 0).code 14 && eqb (arrival_outcome no_trip_tried 0 0 0 8 0).code 14 ≡ true
unfolding settings_ok
before_5 = refl
