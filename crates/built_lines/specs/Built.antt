-- Built lines (document 01, items 6 and 7): a line table as `compute_line_groups` writes it. Definitions only.
use Rattle.std.specs.Prelude.{ℕ, ◌<◌, ◌≡◌, List, length, get_or, eqb}
use Rattle.loops.specs.Iter.{first_in, found_or}
use Rattle.tables.specs.Timetable.{Timetable}
use Rattle.line_numbers.specs.Lines.{line_of, lines_of, line_trips}
use Rattle.line_layout.specs.Layout.{LineTrips}

-- each line lists its trips, in their order
pub record AsBuilt (T : Timetable) (line : ℕ → LineTrips) : Type 0 where
  pub count : (l : ℕ) → l < lines_of T → (line l).count ≡ length (line_trips T l)
  pub trip : (l p : ℕ) → l < lines_of T → p < (line l).count → (line l).trip p ≡ get_or (line_trips T l) p 0

-- where a first stands in a list
unfoldable pub place_in : List ℕ → ℕ → ℕ
place_in l a = found_or (first_in (λ p. eqb (get_or l p 0) a) 0 (length l)) (length l)

-- trip a's place in its line
abbrev pub place_of : Timetable → ℕ → ℕ
place_of T a = place_in (line_trips T (line_of T a)) a
