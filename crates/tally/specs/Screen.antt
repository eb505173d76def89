-- A CALL FOR A SCREEN (request T-08): question 15, asked before all others: is the screen one of 0 to 63? Definitions only.
use Rattle.std.specs.Prelude.{ℕ, Bool, cond, List, leb}
use Rattle.tally.specs.Tally.{tally_with}

-- question 15
abbrev pub screen_ok : ℕ → Bool
screen_ok screen = leb screen 63

-- what a call for this screen gives: its own outcome, or that of refusal 15 where there is no such screen
unfoldable pub for_screen : {A : Type 0} → ℕ → A → A → A
for_screen screen refused own = cond (screen_ok screen) own refused

-- the box's tally after a call for this screen that ended with this code; where there is no such screen it is as it came
unfoldable pub tally_after : List ℕ → ℕ → ℕ → List ℕ
tally_after ws screen code = for_screen screen ws (tally_with ws screen code)
