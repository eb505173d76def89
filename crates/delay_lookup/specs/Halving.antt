-- What the search by halving goes by. Definitions only.
-- Inner: nobody has to believe this.
use Rattle.std.specs.Prelude.{ℕ, ◌+◌, ◌*◌, ◌≤◌, List, length, get_or, leb}
use Rattle.loops.specs.Order.{Stays}

-- the key of row i of a table whose rows are this wide: its first two numbers, the first decides
abbrev pub key_at : List ℕ → ℕ → ℕ → ℕ
key_at t width i = get_or t (i * width) 0 * 4294967296 + get_or t (i * width + 1) 0

-- n rows of this width in which a row whose key is not below this one stays so
pub record Keyed (t : List ℕ) (width n key : ℕ) : Type 0 where
  pub two : 2 ≤ width
  pub inside : n * width ≤ length t
  pub stays : Stays (λ i. leb key (key_at t width i)) n
