-- A cell set (document 01, leaf 1): cell c stands at bit c % 8 of byte c / 8. The reserved bytes come first, 8 for each
-- group of 64 cells; a cell past them is dropped. A set is any 64 bytes with any number as `reserved`: past the 64 there
-- is nothing to reserve, and what stands past the reserved bytes is in no set. Definitions only.
use Rattle.std.specs.Prelude.{ℕ, ◌+◌, ◌*◌, ◌/◌, ◌%◌, ◌^◌, ◌≤◌, min, max, ◌≡◌, Bool, true, not, ◌&&◌, cond, List, length, get_or, set, replicate, ltb, eqb}
use Rattle.std.specs.Int.Bits.{bit_or}
use Rattle.loops.specs.Iter.{some_in}
use Rattle.loops.specs.Count.{tab}
use Rattle.cell_bitset.specs.declared.CellBitSet.{CellBitSet}

-- the most cells that a set has room for
abbrev pub cell_limit : ℕ
cell_limit = 512

-- n / 64 rounded up: the whole groups of 64 cells that n cells take
abbrev pub groups : ℕ → ℕ
groups n = (n + 63) / 64

-- the set of n cells that holds none of them
abbrev pub empty_set : ℕ → CellBitSet
empty_set n = record { bytes = replicate 64 0; reserved = 8 * groups n }

-- how many of its bytes a set has reserved
abbrev pub reserved_of : CellBitSet → ℕ
reserved_of s = min s.reserved 64

-- a cell past the reserved groups is dropped
abbrev pub kept : CellBitSet → ℕ → Bool
kept s c = ltb (c / 8) (reserved_of s)

-- bit k of a byte
abbrev pub bit : ℕ → ℕ → Bool
bit b k = eqb (b / 2 ^ k % 2) 1

-- cell c is in the set: its byte is reserved, and its bit there is set
abbrev pub held : CellBitSet → ℕ → Bool
held s c = kept s c && bit (get_or s.bytes (c / 8) 0) (c % 8)

-- the set with the cell c; a cell that is not kept leaves it as it is
abbrev pub with_cell : CellBitSet → ℕ → CellBitSet
with_cell s c =
    cond (kept s c)
    (record { bytes = set s.bytes (c / 8) (bit_or (get_or s.bytes (c / 8) 0) (2 ^ (c % 8))); reserved = s.reserved })
    s

-- some cell is in both: what `intersects` asks. Past the shorter set's groups no cell is
abbrev pub meets : CellBitSet → CellBitSet → Bool
meets s t = some_in (λ c. held s c && held t c) 0 cell_limit

-- a cell that is in both: what `meets` finds
pub record InBoth (s t : CellBitSet) : Type 0 where
  pub cell : ℕ
  pub first : held s cell ≡ true
  pub second : held t cell ≡ true

-- no cell is in it
abbrev pub holds_none : CellBitSet → Bool
holds_none s = not (some_in (held s) 0 cell_limit)

-- byte i of l where it is one of the first n, else 0
abbrev pub byte_upto : ℕ → List ℕ → ℕ → ℕ
byte_upto n l i = cond (ltb i n) (get_or l i 0) 0

-- byte i of a set, 0 where it is not reserved
abbrev pub byte_of : CellBitSet → ℕ → ℕ
byte_of s i = byte_upto (reserved_of s) s.bytes i

-- the cells of either, with room for those of both
abbrev pub union : CellBitSet → CellBitSet → CellBitSet
union s t = record { bytes = tab (λ i. bit_or (byte_of s i) (byte_of t i)) 64; reserved = max (reserved_of s) (reserved_of t) }

-- the same cells, with room for n cells at least
abbrev pub sized : CellBitSet → ℕ → CellBitSet
sized s n = record { bytes = tab (byte_of s) 64; reserved = max (reserved_of s) (8 * groups n) }

-- A set as the Rust's words: whole groups, and nothing past them. No call asks for it.
pub record WellFormed (s : CellBitSet) : Type 0 where
  pub long : length s.bytes ≡ 64
  pub room : s.reserved ≤ 64
  pub whole : s.reserved % 8 ≡ 0
  pub past : (i : ℕ) → s.reserved ≤ i → get_or s.bytes i 0 ≡ 0
