-- Patterns and egress rows as the slices hold them. Definitions only.
use Rattle.std.specs.Prelude.{ℕ, ◌+◌, ◌*◌, ◌/◌, List, length, get_or}
use Rattle.loops.specs.Count.{tab}
use Rattle.cell_bitset.specs.declared.CellBitSet.{CellBitSet}

-- pattern p of a table of patterns, 64 bytes each
abbrev pub pattern_at : List ℕ → ℕ → CellBitSet
pattern_at patterns p = record { bytes = tab (λ i. get_or patterns (p * 64 + i) 0) 64; reserved = 64 }

-- egress rows: stop, duration of its walk
abbrev pub egress_row_at : List ℕ → ℕ → ℕ × ℕ
egress_row_at rows i = (get_or rows (i * 2) 0, get_or rows (i * 2 + 1) 0)

abbrev pub egress_rows : List ℕ → List (ℕ × ℕ)
egress_rows rows = tab (egress_row_at rows) (length rows / 2)
