-- A section of a slice's numbers, and how many of a list's numbers are a given one. Definitions only.
-- Inner: nobody has to believe this.
use Rattle.std.specs.Prelude.{ℕ, ◌+◌, List, [], ◌∷◌, take, drop, eqb}
use Rattle.loops.specs.Count.{one}

-- n numbers from a on
unfoldable pub part : List ℕ → ℕ → ℕ → List ℕ
part w a n = take n (drop a w)

-- how many are x
unfoldable pub tally : ℕ → List ℕ → ℕ
tally x [] = 0
tally x (y ∷ l) = one (eqb y x) + tally x l
