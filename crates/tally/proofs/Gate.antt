-- A call for a screen by its two cases: there is no such screen, and its own outcome. Assumes nothing.
--     shut, opened             what the call gives
--     shut_tally, open_tally   the tally after it
use mathlib.Core.Path.{◌≡◌}
use Prim.Native.Nat.{ℕ, ◌≤◌, ◌<◌}
use mathlib.Core.List.{List}
use borrow.Author.Tests.{le-leb, lt-leb}
use Rattle.tally.specs.Screen.{for_screen, tally_after}
use Rattle.tally.specs.Tally.{tally_with}

module _ {A : Type 0} (screen : ℕ) (refused own : A) where
  pub shut : {r : A} → 63 < screen → r ≡ refused → r ≡ for_screen screen refused own
  unfolding for_screen
  shut h e = simp (lt-leb _ _ h) e

  pub opened : {r : A} → screen ≤ 63 → r ≡ own → r ≡ for_screen screen refused own
  unfolding for_screen
  opened h e = simp (le-leb _ _ h) e

module _ (ws : List ℕ) (screen code : ℕ) where
  pub shut_tally : {zs : List ℕ} → 63 < screen → zs ≡ ws → zs ≡ tally_after ws screen code
  unfolding tally_after
  shut_tally h e = shut screen ws (tally_with ws screen code) h e

  pub open_tally : {zs : List ℕ} → screen ≤ 63 → zs ≡ tally_with ws screen code → zs ≡ tally_after ws screen code
  unfolding tally_after
  open_tally h e = opened screen ws (tally_with ws screen code) h e
