-- The worked rows of document 01 on walks and rounds, with the edges of the ranges, each as one computed check.
use Prim.Native.Nat.{ℕ}
use mathlib.Core.Path.{◌≡◌, refl}
use mathlib.Core.Bool.{Bool, true, ◌&&◌}
use mathlib.Core.List.{List, [], ◌∷◌}
use lib.Dec.{eqb}
use Rattle.walk_time.specs.Walk.{round_count}

-- P: wanted rounds and transfers, and the round count
pub record Rounds : Type 0 where
  pub wanted : ℕ
  pub transfers : ℕ
  pub count : ℕ

pub rounds_right : List Rounds → Bool
rounds_right [] = true
rounds_right (c ∷ cs) = eqb (round_count c.wanted c.transfers) c.count && rounds_right cs

pub rounds : List Rounds
rounds =
    record { wanted = 0; transfers = 0; count = 4 }
    ∷ record { wanted = 0; transfers = 3; count = 5 }
    ∷ record { wanted = 20; transfers = 0; count = 12 }
    ∷ record { wanted = 7; transfers = 5; count = 7 }
    ∷ record { wanted = 0; transfers = 4294967295; count = 12 }
    ∷ []

pub rounds_worked : rounds_right rounds ≡ true
unfolding rounds_right rounds round_count
rounds_worked = refl
