-- A column of numbers in a list. Definitions only.
-- Inner: nobody has to believe this.
use Rattle.std.specs.Prelude.{ℕ, ◌+◌, ◌*◌, ◌<◌}

-- a column of so many numbers lies in a list of this length
pub record Column (size first stride count : ℕ) : Type 0 where
  pub inside : (i : ℕ) → i < count → first + i * stride < size
