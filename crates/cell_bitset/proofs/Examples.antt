-- Worked examples of document 01's cell set, as computed checks.
use Prim.Native.Nat.{ℕ}
use mathlib.Core.Path.{◌≡◌, refl}
use mathlib.Core.Bool.{Bool, true, false, ◌&&◌, beq}
use mathlib.Core.List.{List, [], ◌∷◌}
use Rattle.loops.specs.Iter.{some}
use Rattle.loops.specs.Count.{tab_from}
use Rattle.cell_bitset.specs.declared.CellBitSet.{CellBitSet}
use Rattle.cell_bitset.specs.CellSet.{empty_set, with_cell, held, kept, meets, holds_none, union, sized}

-- the set of n cells with the cell c
abbrev one : ℕ → ℕ → CellBitSet
one n c = with_cell (empty_set n) c

-- a set of `cells` cells: whether it keeps `cell`
pub record Room : Type 0 where
  pub cells : ℕ
  pub cell : ℕ
  pub keeps : Bool

-- the cell is kept, or dropped when it is set, and the room for it is the same in a set that grew
room_right : Room → Bool
room_right r =
    beq (kept (empty_set r.cells) r.cell) r.keeps && beq (held (one r.cells r.cell) r.cell) r.keeps
    && beq (kept (sized (empty_set 0) r.cells) r.cell) r.keeps

pub room_all : List Room → Bool
room_all [] = true
room_all (r ∷ rs) = room_right r && room_all rs

-- with 65 cells, 127 is kept and 128 dropped
pub rooms : List Room
rooms =
    record { cells = 65; cell = 127; keeps = true } ∷ record { cells = 65; cell = 128; keeps = false } ∷ record { cells = 0; cell = 0; keeps = false }
    ∷ record { cells = 1; cell = 0; keeps = true } ∷ record { cells = 1; cell = 63; keeps = true } ∷ record { cells = 1; cell = 64; keeps = false }
    ∷ record { cells = 64; cell = 63; keeps = true } ∷ record { cells = 64; cell = 64; keeps = false } ∷ record { cells = 512; cell = 511; keeps = true }
    ∷ record { cells = 512; cell = 512; keeps = false } ∷ record { cells = 512; cell = 4294967295; keeps = false } ∷ []

pub rooms_right : room_all rooms ≡ true
unfolding room_all room_right rooms tab_from
rooms_right = refl

-- two sets of one cell each, or none where it is dropped: whether they meet
pub record Pair : Type 0 where
  pub first : CellBitSet
  pub second : CellBitSet
  pub meet : Bool

pair_right : Pair → Bool
pair_right p = beq (meets p.first p.second) p.meet && beq (holds_none (union p.first p.second)) false

pub pair_all : List Pair → Bool
pair_all [] = true
pair_all (p ∷ ps) = pair_right p && pair_all ps

-- sets of unlike lengths; a cell past the shorter set; a bit that stands past the reserved bytes; the same where a caller says 9 bytes: cell 64 stands in
-- the last of them, cell 72 in the byte past them, of the same word
pub pairs : List Pair
pairs =
    record { first = one 65 127; second = one 65 127; meet = true } ∷ record { first = one 1 3; second = one 512 3; meet = true }
    ∷ record { first = one 1 3; second = one 1 4; meet = false } ∷ record { first = one 65 127; second = one 64 127; meet = false }
    ∷ record { first = one 128 64; second = record { bytes = (one 128 64).bytes; reserved = 8 }; meet = false }
    ∷ record { first = one 128 64; second = record { bytes = (one 128 64).bytes; reserved = 9 }; meet = true }
    ∷ record { first = one 128 72; second = record { bytes = (one 128 72).bytes; reserved = 9 }; meet = false } ∷ []

pub pairs_right : pair_all pairs ≡ true
unfolding pair_all pair_right pairs some tab_from
pairs_right = refl
