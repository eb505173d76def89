-- Worked examples of effective times as one computed check; the first is the row of document 01.
use Prim.Native.Nat.{ℕ}
use mathlib.Core.Path.{◌≡◌, refl}
use mathlib.Core.Bool.{Bool, true, ◌&&◌}
use mathlib.Core.List.{List, [], ◌∷◌}
use lib.Dec.{eqb}
use Rattle.door.specs.Settings.{default_settings, settings_ok}
use Rattle.door.specs.declared.Answer.{Answer}
use Rattle.leaf_calls.specs.StopDelayCall.{departure_outcome, arrival_outcome, skipped_outcome}

-- the delays of a stop time that arrives at 200 and departs at 230, the shift, and what the calls answer: their code, and the three values
pub record Case : Type 0 where
  pub trip : ℕ
  pub flags : ℕ
  pub departure : ℕ
  pub arrival : ℕ
  pub shift : ℕ
  pub code : ℕ
  pub arrives : ℕ
  pub departs : ℕ
  pub skipped : ℕ

pub same : Answer → ℕ → ℕ → Bool
same a code value = eqb a.code code && eqb a.value value

right : Case → Bool
right c =
    same (arrival_outcome default_settings 200 c.shift c.trip c.flags c.arrival) c.code c.arrives
    && (same (departure_outcome default_settings 230 c.trip c.flags c.departure) c.code c.departs && same (skipped_outcome default_settings c.flags) c.code c.skipped)

pub all : List Case → Bool
all [] = true
all (c ∷ cs) = right c && all cs

given : ℕ → ℕ → ℕ → ℕ → ℕ → ℕ → ℕ → ℕ → Case
given t f d a s x y z =
    record { trip = t; flags = f; departure = d; arrival = a; shift = s; code = 0; arrives = x; departs = y; skipped = z }

-- the bits of -20 and -300 are 4294967276 and 4294966996
pub cases : List Case
cases =
    -- shift 50, trip delay 10, only a departure delay of 40 at the stop
    given 10 1 40 0 50 210 270 0
    -- an own arrival delay: no shift; the departure goes by the trip's delay
    ∷ given 10 2 99 4294967276 50 180 240 0
    -- both, and skipped
    ∷ given 10 7 40 4294967276 50 180 270 1
    -- neither given: the shift counts, the delays at the stop do not
    ∷ given 10 4 99 99 50 250 240 1
    -- earlier than 0 is 0
    ∷ given 4294966996 0 0 0 4294966996 0 0 0
    -- the largest delays, and flags 8: refused
    ∷ given 1048575 3 1048575 1048575 0 1048775 1048805 0
    ∷ record { trip = 0; flags = 8; departure = 0; arrival = 0; shift = 0; code = 5; arrives = 0; departs = 0; skipped = 0 }
    ∷ []

-- every case is right; so are the times and sizes just past their limit
pub worked : all cases
    && (same (departure_outcome default_settings 1048576 0 0 0) 5 0 && (same (arrival_outcome default_settings 1048576 0 0 0 0) 5 0
    && (same (departure_outcome default_settings 0 1048576 0 0) 5 0 && (same (departure_outcome default_settings 0 0 0 4293918720) 5 0
    && (same (arrival_outcome default_settings 0 1048576 0 0 0) 5 0 && same (arrival_outcome default_settings 0 0 0 0 1048576) 5 0))))) ≡ true
unfolding settings_ok all right cases same given
worked = refl
