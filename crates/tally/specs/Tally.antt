-- THE TALLY (request T-08): answered and refused calls of the screens 0 to 63, 128 numbers that the box owns. The answered calls of screen s stand
-- at s, its refused calls at s + 64. Definitions only.
use Rattle.std.specs.Prelude.{ℕ, zero, suc, ◌+◌, min, List, ◌++◌, get_or, set}
use Rattle.tally.specs.declared.Tally.{Tally}
use Rattle.tally.specs.declared.ScreenTally.{ScreenTally}

-- the box's record as the numbers that are lent
abbrev pub tally_words : Tally → List ℕ
tally_words t = t.answered ++ t.refused

-- a count and one more; at 4,294,967,295 it stays
abbrev pub one_more : ℕ → ℕ
one_more n = min (n + 1) 4294967295

-- one screen's tally with one call more, which ended with this code: 0 is answered ("no way" is answered), any other refused
abbrev pub with_call : ScreenTally → ℕ → ScreenTally
with_call t zero = record { answered = one_more t.answered; refused = t.refused }
with_call t (suc k) = record { answered = t.answered; refused = one_more t.refused }

-- what a screen's tally shows
abbrev pub shown_at : List ℕ → ℕ → ScreenTally
shown_at ws screen = record { answered = get_or ws screen 0; refused = get_or ws (screen + 64) 0 }

-- the box's tally with this one for a screen
abbrev pub put_at : List ℕ → ℕ → ScreenTally → List ℕ
put_at ws screen t = set (set ws screen t.answered) (screen + 64) t.refused

-- the box's tally with one call more of a screen
unfoldable pub tally_with : List ℕ → ℕ → ℕ → List ℕ
tally_with ws screen code = put_at ws screen (with_call (shown_at ws screen) code)
