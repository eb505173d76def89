-- The calls of cell sets: question 1 of a number of cells, 14 of the settings, and what each answers. What a set then holds: `cell_bitset`
-- specs/CellSet. Definitions only.
use Rattle.std.specs.Prelude.{ℕ, zero, suc, Bool, Result, Ok, Err, leb}
use Rattle.loops.specs.Count.{one}
use Rattle.door.specs.Door.{ask, answer, number_of}
use Rattle.door.specs.Settings.{settings_asked}
use Rattle.door.specs.declared.Settings.{Settings}
use Rattle.door.specs.declared.Answer.{Answer}
use Rattle.door.specs.declared.Refusal.{Refusal}
use Rattle.cell_bitset.specs.declared.CellBitSet.{CellBitSet}
use Rattle.cell_set_call.specs.declared.CellSetAnswer.{CellSetAnswer}
use Rattle.cell_bitset.specs.CellSet.{cell_limit, empty_set, sized, with_cell, held, meets, union, holds_none}

-- questions 1 (are all counts within the limits?) of a number of cells, and 14: 0 is yes
abbrev pub count_asked : Settings → ℕ → ℕ
count_asked S n = ask 1 (leb n cell_limit) (settings_asked S)

-- the answer of a call whose questions gave this number: the set that it makes, or the one that a refusal gives back
abbrev pub set_answer : ℕ → CellBitSet → CellBitSet → CellSetAnswer
set_answer zero made back = record { code = 0; set = made }
set_answer (suc n) made back = record { code = suc n; set = back }

-- an outcome with a set, as a caller in C reads it: refused, a set is handed back
abbrev pub set_of : Result CellBitSet Refusal → CellBitSet → CellSetAnswer
set_of (Ok made) back = record { code = 0; set = made }
set_of (Err q) back = record { code = number_of q; set = back }

-- a new set of n cells; refused: the set of no group
abbrev pub created : Settings → ℕ → CellSetAnswer
created S n = set_answer (count_asked S n) (empty_set n) (empty_set 0)

-- the set with room for n cells at least; refused: the set as it came
abbrev pub resized : Settings → CellBitSet → ℕ → CellSetAnswer
resized S set n = set_answer (count_asked S n) (sized set n) set

-- the set with this cell, and with the cells of another; refused: the set as it came
abbrev pub with_cell_answer : Settings → CellBitSet → ℕ → CellSetAnswer
with_cell_answer S set cell = set_answer (settings_asked S) (with_cell set cell) set

abbrev pub union_answer : Settings → CellBitSet → CellBitSet → CellSetAnswer
union_answer S set other = set_answer (settings_asked S) (union set other) set

-- yes as 1, no as 0; refused: 0
abbrev pub truth_answer : Settings → Bool → Answer
truth_answer S b = answer (settings_asked S) (one b)

-- is the cell in the set? Have two sets a cell in common? Does the set hold no cell?
abbrev pub held_answer : Settings → CellBitSet → ℕ → Answer
held_answer S set cell = truth_answer S (held set cell)

abbrev pub meets_answer : Settings → CellBitSet → CellBitSet → Answer
meets_answer S set other = truth_answer S (meets set other)

abbrev pub empty_answer : Settings → CellBitSet → Answer
empty_answer S set = truth_answer S (holds_none set)
