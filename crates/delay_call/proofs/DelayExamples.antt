-- The door of the delay tables on tables that fail one question each, as one computed check.
use Prim.Native.Nat.{ℕ}
use mathlib.Core.Path.{◌≡◌, refl}
use mathlib.Core.Bool.{Bool, true, ◌&&◌}
use mathlib.Core.List.{List, [], ◌∷◌}
use lib.Dec.{eqb}
use Rattle.loops.specs.Iter.{iter, first, every}
use Rattle.door.specs.Settings.{default_settings, settings_ok}
use Rattle.door.proofs.House.{no_trip_tried}
use Rattle.delay_call.specs.DelayCall.{delays_door}

-- counts and tables, and the number of the first no
pub record Entry : Type 0 where
  pub trips : ℕ
  pub count : ℕ
  pub stop_count : ℕ
  pub rows : List ℕ
  pub stops : List ℕ
  pub number : ℕ

answered : Entry → Bool
answered d = eqb (delays_door default_settings d.trips d.count d.stop_count d.rows d.stops true) d.number

pub all_answered : List Entry → Bool
all_answered [] = true
all_answered (d ∷ ds) = answered d && all_answered ds

pub entries : List Entry
entries =
    -- unknown trips repeat at the end; sequences rise within a delay row
    record { trips = 4; count = 3; stop_count = 3; rows = 3 ∷ 1048575 ∷ 4294967295 ∷ 0 ∷ 4294967295 ∷ 0 ∷ []; stops = 0 ∷ 8 ∷ 7 ∷ 0 ∷ 0 ∷ 0 ∷ 9 ∷ 0 ∷ 0 ∷ 0 ∷ 2 ∷ 4 ∷ 0 ∷ 0 ∷ 4293918721 ∷ []; number = 0 }
    ∷ record { trips = 0; count = 0; stop_count = 0; rows = []; stops = []; number = 0 }
    ∷ record { trips = 4097; count = 0; stop_count = 0; rows = []; stops = []; number = 1 }
    ∷ record { trips = 4; count = 1; stop_count = 0; rows = 3 ∷ 0 ∷ 0 ∷ []; stops = []; number = 2 }
    -- a trip and a delay row equal to their counts
    ∷ record { trips = 4; count = 1; stop_count = 0; rows = 4 ∷ 0 ∷ []; stops = []; number = 4 }
    ∷ record { trips = 4; count = 1; stop_count = 1; rows = 3 ∷ 0 ∷ []; stops = 1 ∷ 0 ∷ 0 ∷ 0 ∷ 0 ∷ []; number = 4 }
    -- sizes of 1,048,576, and flags 8
    ∷ record { trips = 4; count = 1; stop_count = 0; rows = 3 ∷ 4293918720 ∷ []; stops = []; number = 5 }
    ∷ record { trips = 4; count = 1; stop_count = 1; rows = 3 ∷ 0 ∷ []; stops = 0 ∷ 0 ∷ 0 ∷ 0 ∷ 1048576 ∷ []; number = 5 }
    ∷ record { trips = 4; count = 1; stop_count = 1; rows = 3 ∷ 0 ∷ []; stops = 0 ∷ 0 ∷ 8 ∷ 0 ∷ 0 ∷ []; number = 5 }
    -- a trip twice, a trip after an unknown one, a sequence twice
    ∷ record { trips = 4; count = 2; stop_count = 0; rows = 3 ∷ 0 ∷ 3 ∷ 0 ∷ []; stops = []; number = 6 }
    ∷ record { trips = 4; count = 2; stop_count = 0; rows = 4294967295 ∷ 0 ∷ 3 ∷ 0 ∷ []; stops = []; number = 6 }
    ∷ record { trips = 4; count = 1; stop_count = 2; rows = 3 ∷ 0 ∷ []; stops = 0 ∷ 7 ∷ 0 ∷ 0 ∷ 0 ∷ 0 ∷ 7 ∷ 0 ∷ 0 ∷ 0 ∷ []; number = 6 }
    -- question 4 comes before 5, of any row
    ∷ record { trips = 4; count = 2; stop_count = 0; rows = 3 ∷ 1048576 ∷ 4 ∷ 0 ∷ []; stops = []; number = 4 }
    ∷ []

pub entries_worked : all_answered entries ≡ true
unfolding settings_ok all_answered answered entries delays_door iter first every
entries_worked = refl

-- 14 is asked after 1 and before 2
pub settings-asked : eqb (delays_door no_trip_tried 4 1 0 [] [] true) 14 && eqb (delays_door no_trip_tried 4097 1 0 [] [] true) 1 ≡ true
unfolding settings_ok delays_door
settings-asked = refl
