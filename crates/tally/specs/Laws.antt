-- WHAT IS CLAIMED of a call for a screen, and of the box's tally over sequences of calls (request T-08). Definitions only; proofs/Laws
-- `the_screen` and `the_tally` prove the claims.
use Rattle.std.specs.Prelude.{ℕ, zero, suc, ◌+◌, ◌≤◌, ◌<◌, min, ◌≡◌, cond, List, [], ◌∷◌, eqb, length, get_or, replicate}
use Rattle.tally.specs.declared.Tally.{Tally}
use Rattle.tally.specs.Tally.{with_call, tally_words, shown_at}
use Rattle.tally.specs.Screen.{screen_ok, for_screen, tally_after}

-- A CALL FOR A SCREEN, whatever its outcomes are, which have a code
pub record ScreenLaws (A : Type 0) (code_of : A → ℕ) : Type 0 where
  -- a screen above 63: the refusal; any other: the call's own outcome
  pub no_screen : (screen : ℕ) (refused own : A) → 63 < screen → for_screen screen refused own ≡ refused
  pub valid : (screen : ℕ) (refused own : A) → screen ≤ 63 → for_screen screen refused own ≡ own
  -- so a code of 0 is that of the call's own outcome, where the refusal's is 15
  pub answered : (screen : ℕ) (refused own : A) → code_of refused ≡ 15 → code_of (for_screen screen refused own) ≡ 0
      → (screen ≤ 63) × (for_screen screen refused own ≡ own)

-- a call: the screen that it was made for, and the code that it ended with
pub record ScreenCall : Type 0 where
  pub screen : ℕ
  pub code : ℕ

-- the box's tally after these calls, in their order: each step is the one that the contract of every exported call has (`counts`)
unfoldable pub tally_of : List ℕ → List ScreenCall → List ℕ
tally_of ws [] = ws
tally_of ws (c ∷ cs) = tally_of (tally_after ws c.screen c.code) cs

-- a screen's own calls: their codes, in their order
unfoldable pub codes_of : ℕ → List ScreenCall → List ℕ
codes_of s [] = []
codes_of s (c ∷ cs) = cond (eqb c.screen s) (c.code ∷ codes_of s cs) (codes_of s cs)

-- how many of these codes are answers, and how many are refusals
unfoldable pub answers_in : List ℕ → ℕ
answers_in [] = 0
answers_in (zero ∷ ks) = suc (answers_in ks)
answers_in (suc k ∷ ks) = answers_in ks

unfoldable pub refusals_in : List ℕ → ℕ
refusals_in [] = 0
refusals_in (zero ∷ ks) = refusals_in ks
refusals_in (suc k ∷ ks) = suc (refusals_in ks)

-- how many calls are made with a valid screen number
unfoldable pub valid_calls : List ScreenCall → ℕ
valid_calls [] = 0
valid_calls (c ∷ cs) = cond (screen_ok c.screen) (suc (valid_calls cs)) (valid_calls cs)

-- the sum over all screens of both counts
unfoldable pub tally_sum : List ℕ → ℕ
tally_sum [] = 0
tally_sum (n ∷ ns) = n + tally_sum ns

-- a count's greatest value
abbrev pub greatest : ℕ
greatest = 4294967295

-- 128 counts
pub record IsTally (ws : List ℕ) : Type 0 where
  pub size : length ws ≡ 128
  pub fits : (i : ℕ) → get_or ws i 0 ≤ greatest

-- a tally that the box has zeroed
abbrev pub zero_tally : List ℕ
zero_tally = replicate 128 0

-- THE TALLY over calls
pub record TallyLaws : Type 0 where
  -- the record shows of a screen what stands at the screen's number in its two parts
  pub record_shows : (t : Tally) → length t.answered ≡ 64 → (s : ℕ) → s ≤ 63
      → shown_at (tally_words t) s ≡ record { answered = get_or t.answered s 0; refused = get_or t.refused s 0 }
  -- a call for a screen above 63 counts nowhere
  pub nowhere : (ws : List ℕ) (screen code : ℕ) → 63 < screen → tally_after ws screen code ≡ ws
  -- any other call: its screen shows one more, every other screen what it showed; and a tally it stays
  pub own : (ws : List ℕ) → IsTally ws → (screen code : ℕ) → screen ≤ 63
      → shown_at (tally_after ws screen code) screen ≡ with_call (shown_at ws screen) code
  pub others : (ws : List ℕ) → IsTally ws → (screen code s : ℕ) → s ≤ 63 → ((screen ≡ s) → ⊥) → shown_at (tally_after ws screen code) s ≡ shown_at ws s
  pub kept : (ws : List ℕ) → IsTally ws → (screen code : ℕ) → IsTally (tally_after ws screen code)
  -- after any calls a screen shows its own answered and refused calls more, each count cut at the greatest
  pub shows : (ws : List ℕ) → IsTally ws → (cs : List ScreenCall) (s : ℕ) → s ≤ 63
      → shown_at (tally_of ws cs) s
      ≡ record {
        answered = min (get_or ws s 0 + answers_in (codes_of s cs)) greatest;
        refused = min (get_or ws (s + 64) 0 + refusals_in (codes_of s cs)) greatest;
      }
  -- it shows the same however the other screens' calls are changed, as long as its own calls meet the same outcomes
  pub independent : (ws : List ℕ) → IsTally ws → (s : ℕ) → s ≤ 63 → (cs ds : List ScreenCall) → codes_of s cs ≡ codes_of s ds
      → shown_at (tally_of ws cs) s ≡ shown_at (tally_of ws ds) s
  -- over at most 4,294,967,295 calls from a zero tally the sum is the number of calls with a valid screen; over more it is never above
  pub sums : (cs : List ScreenCall) → length cs ≤ greatest → tally_sum (tally_of zero_tally cs) ≡ valid_calls cs
  pub never_above : (cs : List ScreenCall) → tally_sum (tally_of zero_tally cs) ≤ valid_calls cs
  -- a tally that the box has zeroed is one
  pub zeroed : IsTally zero_tally
