-- Worked readings, as one computed check.
use Prim.Native.Nat.{ℕ}
use mathlib.Core.Path.{◌≡◌, refl}
use mathlib.Core.Bool.{Bool, true, ◌&&◌}
use mathlib.Core.List.{List, [], ◌∷◌}
use lib.Dec.{eqb}
use Rattle.door.specs.Settings.{default_settings, settings_ok}
use Rattle.leaf_calls.specs.ClockCall.{service_second}

-- hours, minutes and seconds, and the code and value that they must give
pub record Case : Type 0 where
  pub hour : ℕ
  pub minute : ℕ
  pub second : ℕ
  pub code : ℕ
  pub value : ℕ

pub right : Case → Bool
right c =
    let a = service_second default_settings c.hour c.minute c.second in
    eqb a.code c.code && eqb a.value c.value

pub all : List Case → Bool
all [] = true
all (c ∷ cs) = right c && all cs

pub cases : List Case
cases =
    record { hour = 0; minute = 0; second = 0; code = 0; value = 0 }
    ∷ record { hour = 1; minute = 30; second = 0; code = 0; value = 5400 }
    ∷ record { hour = 25; minute = 10; second = 7; code = 0; value = 90607 }
    ∷ record { hour = 47; minute = 59; second = 59; code = 0; value = 172799 }
    ∷ record { hour = 48; minute = 0; second = 0; code = 5; value = 0 }
    ∷ record { hour = 0; minute = 60; second = 0; code = 5; value = 0 }
    ∷ record { hour = 0; minute = 0; second = 60; code = 5; value = 0 }
    ∷ []

pub worked : all cases ≡ true
unfolding settings_ok all right cases
worked = refl
