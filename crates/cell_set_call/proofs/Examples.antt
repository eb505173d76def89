-- Question 1 of a number of cells, at its limit, and question 14, as computed checks.
use mathlib.Core.Path.{◌≡◌, refl}
use mathlib.Core.Bool.{true, ◌&&◌}
use lib.Dec.{eqb}
use Rattle.door.specs.Settings.{default_settings, settings_ok}
use Rattle.door.proofs.House.{no_trip_tried}
use Rattle.cell_bitset.specs.CellSet.{empty_set}
use Rattle.cell_set_call.specs.CellSetCall.{created, resized, with_cell_answer, union_answer, empty_answer}

-- question 1: 512 cells are made, 513 are not; then 14
pub asked : eqb (created default_settings 0).code 0 && eqb (created default_settings 512).code 0 && eqb (created default_settings 513).code 1
    && eqb (created default_settings 513).set.reserved 0 && eqb (created no_trip_tried 513).code 1 && eqb (created no_trip_tried 512).code 14 ≡ true
unfolding settings_ok
asked = refl

-- 14: a set comes back as it came, a value is 0
pub sets_kept : (resized no_trip_tried (empty_set 64) 512 ≡ record { code = 14; set = empty_set 64 })
    × (with_cell_answer no_trip_tried (empty_set 64) 3 ≡ record { code = 14; set = empty_set 64 })
    × (union_answer no_trip_tried (empty_set 64) (empty_set 512) ≡ record { code = 14; set = empty_set 64 })
unfolding settings_ok
sets_kept = (refl, refl, refl)

pub value_0 : empty_answer no_trip_tried (empty_set 64) ≡ record { code = 14; value = 0 }
unfolding settings_ok
value_0 = refl
