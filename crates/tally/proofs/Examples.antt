-- Rows of the tally by computation, worked out by hand first. Assumes nothing.
use mathlib.Core.Path.{◌≡◌, refl}
use mathlib.Core.Bool.{true, false}
use mathlib.Core.List.{List, [], ◌∷◌}
use Prim.Native.Nat.{ℕ}
use Rattle.tally.specs.declared.ScreenTally.{ScreenTally}
use Rattle.tally.specs.Tally.{with_call, shown_at, tally_with}
use Rattle.tally.specs.Screen.{screen_ok, for_screen, tally_after}
use Rattle.tally.specs.Laws.{ScreenCall, tally_of, codes_of, valid_calls, tally_sum, zero_tally}

abbrev call : ℕ → ℕ → ScreenCall
call screen code = record { screen = screen; code = code }

abbrev shows : ℕ → ℕ → ScreenTally
shows answered refused = record { answered = answered; refused = refused }

-- screen 0 answered, refused by 6 and by 1, screen 63 answered twice, screen 1 refused by 8; two calls for no screen
abbrev morning : List ScreenCall
morning = call 0 0 ∷ call 63 0 ∷ call 64 15 ∷ call 0 6 ∷ call 1 8 ∷ call 63 0 ∷ call 4294967295 15 ∷ call 0 1 ∷ []

-- the same calls of screen 0, among others of the other screens
abbrev evening : List ScreenCall
evening = call 5 0 ∷ call 0 0 ∷ call 0 6 ∷ call 62 14 ∷ call 0 1 ∷ []

-- a tally whose screen 2 has the greatest count of answered calls and one below it of refused ones
abbrev full : ScreenTally
full = shows 4294967295 4294967294

pub record Worked : Type 0 where
  pub first : shown_at (tally_of zero_tally morning) 0 ≡ shows 1 2
  pub last : shown_at (tally_of zero_tally morning) 63 ≡ shows 2 0
  pub second : shown_at (tally_of zero_tally morning) 1 ≡ shows 0 1
  pub unused : shown_at (tally_of zero_tally morning) 2 ≡ shows 0 0
  pub sum : tally_sum (tally_of zero_tally morning) ≡ 6
  pub calls : valid_calls morning ≡ 6
  -- screen 0's own calls are the same in both, and so is what it shows
  pub codes : codes_of 0 morning ≡ codes_of 0 evening
  pub alike : shown_at (tally_of zero_tally evening) 0 ≡ shows 1 2
  -- at the greatest a count stays
  pub stays : with_call full 0 ≡ full
  pub up : with_call full 5 ≡ shows 4294967295 4294967295
  pub stays_refused : with_call (with_call full 5) 5 ≡ shows 4294967295 4294967295
  -- question 15
  pub admitted : screen_ok 63 ≡ true
  pub past : screen_ok 64 ≡ false
  pub farthest : screen_ok 4294967295 ≡ false
  -- a call for screen 64 leaves the tally, and its outcome is the refusal
  pub uncounted : tally_after zero_tally 64 15 ≡ zero_tally
  pub refusal : ◌≡◌ {A = ℕ} (for_screen 64 15 0) 15
  pub answer : ◌≡◌ {A = ℕ} (for_screen 63 15 0) 0

pub worked : Worked
unfolding tally_of codes_of tally_sum valid_calls for_screen tally_after tally_with
worked =
    record {
      first = refl;
      last = refl;
      second = refl;
      unused = refl;
      sum = refl;
      calls = refl;
      codes = refl;
      alike = refl;
      stays = refl;
      up = refl;
      stays_refused = refl;
      admitted = refl;
      past = refl;
      farthest = refl;
      uncounted = refl;
      refusal = refl;
      answer = refl;
    }
