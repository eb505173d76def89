-- The worked rows of document 01 on walks, with the edges of the ranges, as one computed check.
use Prim.Native.Nat.{ℕ}
use mathlib.Core.Path.{◌≡◌, refl}
use mathlib.Core.Bool.{Bool, true, ◌&&◌}
use mathlib.Core.List.{List, [], ◌∷◌}
use lib.Dec.{eqb}
use Rattle.door.specs.Settings.{default_settings, settings_ok}
use Rattle.walk_time.specs.Walk.{effective_duration}
use Rattle.leaf_calls.specs.WalkCall.{walk_duration}

-- P: duration, pathway mode and wheelchair, and the code and the value that they must give
pub record Walk : Type 0 where
  pub duration : ℕ
  pub mode : ℕ
  pub wheelchair : ℕ
  pub code : ℕ
  pub value : ℕ

pub walks_right : List Walk → Bool
walks_right [] = true
walks_right (c ∷ cs) =
    let a = walk_duration default_settings c.duration c.mode c.wheelchair in
    eqb a.code c.code && eqb a.value c.value && walks_right cs

pub walks : List Walk
walks =
    record { duration = 30; mode = 2; wheelchair = 1; code = 0; value = 3000 }
    ∷ record { duration = 30; mode = 3; wheelchair = 1; code = 0; value = 30 }
    ∷ record { duration = 30; mode = 4; wheelchair = 1; code = 0; value = 3000 }
    ∷ record { duration = 30; mode = 2; wheelchair = 0; code = 0; value = 30 }
    ∷ record { duration = 30; mode = 0; wheelchair = 1; code = 0; value = 30 }
    ∷ record { duration = 1048575; mode = 4; wheelchair = 1; code = 0; value = 104857500 }
    ∷ record { duration = 30; mode = 8; wheelchair = 1; code = 5; value = 0 }
    ∷ record { duration = 30; mode = 2; wheelchair = 2; code = 5; value = 0 }
    ∷ record { duration = 1048576; mode = 0; wheelchair = 0; code = 5; value = 0 }
    ∷ []

pub walks_worked : walks_right walks ≡ true
unfolding settings_ok walks_right walks effective_duration
walks_worked = refl
