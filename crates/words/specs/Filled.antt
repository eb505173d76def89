-- A part of a slice filled. Definitions only.
-- Inner: nobody has to believe this.
use Rattle.std.specs.Prelude.{ℕ, ◌≤◌, ◌<◌, ◌≡◌, List, length, get_or}

-- the numbers from a up to b are v, all else is as it came
pub record Filled (a b v : ℕ) (w w' : List ℕ) : Type 0 where
  pub size : length w' ≡ length w
  pub inside : (i : ℕ) → a ≤ i → i < b → get_or w' i 0 ≡ v
  pub below : (i : ℕ) → i < a → get_or w' i 0 ≡ get_or w i 0
  pub above : (i : ℕ) → b ≤ i → get_or w' i 0 ≡ get_or w i 0
