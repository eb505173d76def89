-- The outcomes, by what was answered.
use Prim.Native.Nat.{ℕ}
use mathlib.Core.Path.{◌≡◌, refl}
use mathlib.Core.List.{List}
use lib.ListN.{length, replicate}
use lib.Ieee.{Float}
use Rattle.label.specs.Label.{no_distance}
use Rattle.query_reply.specs.Outcome.{query_areas, reply, cleared, overflown}
use Rattle.query_reply.specs.Finish.{query_outcome_of, left}

-- the areas after a full queue, and after an answer
module _ (l : List ℕ) (d : List Float) (w a b c : List ℕ) where
  pub over_is : {n : ℕ} {l' w' a' b' : List ℕ} {d' : List Float} → n ≡ 8 → l' ≡ cleared l → d' ≡ replicate (length d) no_distance → w' ≡ cleared w → a' ≡ cleared a → b' ≡ cleared b
      → query_outcome_of (reply n 0 0 0) (query_areas l' d' w' a' b' c) ≡ overflown (query_areas l d w a b c)
  over_is en el ed ew ea eb = rw (en, el, ed, ew, ea, eb) refl

  pub rest_is : {w' a' b' c' : List ℕ} → w' ≡ cleared w → a' ≡ cleared a → b' ≡ cleared b → query_areas l d w' a' b' c' ≡ left (query_areas l d w a b c) c'
  rest_is ew ea eb = rw (ew, ea, eb) refl
