-- What the calls answer, and what the slices hold then. Definitions only.
use Rattle.std.specs.Prelude.{ℕ, zero, suc, Bool, true, ◌&&◌, Result, Ok, Err, List, length, leb, ltb, Float}
use Rattle.door.specs.Door.{ask, number_of}
use Rattle.door.specs.Settings.{settings_ok}
use Rattle.door.specs.declared.Settings.{Settings}
use Rattle.door.specs.declared.Refusal.{Refusal}
use Rattle.label.specs.declared.Label.{Label}
use Rattle.label.specs.declared.LabelRow.{LabelRow}
use Rattle.label.specs.declared.Label.TheVariants.{Empty, Access, Transit, Walk}
use Rattle.label_call.specs.declared.LabelAnswer.{LabelAnswer}
use Rattle.label.specs.Label.{row_of}
use Rattle.label.specs.Table.{record_of, put_words, put_distance, kind_at, loaded, lengths_right}

-- question 4 of a label: the stop numbers in it are below the count. (Its times and other numbers are not judged: they are results.)
abbrev pub stops_below : Label → ℕ → Bool
stops_below Empty stops = true
stops_below (Access stop arrival walk distance) stops = ltb stop stops
stops_below (Transit arrival trip board_stop board_off alight_off prev_round shift) stops = ltb board_stop stops
stops_below (Walk arrival from to duration distance prev_round) stops = ltb from stops && ltb to stops

-- the questions about a row in slices of these lengths: 1 at most 4,096 stops, 14 the settings, 2 the slices' lengths, 4 whether the stop
-- numbers are below the count, 5 the row
unfoldable pub place_code : (S : Settings) (below : Bool) (stops row words label_distances : ℕ) → ℕ
place_code S below stops row words label_distances =
    ask 1 (leb stops 4096) (ask 14 (settings_ok S) (ask 2 (lengths_right stops words label_distances) (ask 4 below (ask 5 (leb row 12) 0))))

-- of a store: 4 is of the stop and of the stop numbers in the label
abbrev pub store_code : (S : Settings) (x : Label) (stops stop row words label_distances : ℕ) → ℕ
store_code S x stops stop row words label_distances = place_code S (ltb stop stops && stops_below x stops) stops row words label_distances

-- of a load: 4 is of the stop
abbrev pub load_code : (S : Settings) (stops stop row words label_distances : ℕ) → ℕ
load_code S stops stop row words label_distances = place_code S (ltb stop stops) stops row words label_distances

-- a storing call's code, and both slices as it leaves them
pub record LabelOutcome : Type 0 where
  pub code : ℕ
  pub labels : List ℕ
  pub label_distances : List Float

abbrev pub label_outcome : ℕ → List ℕ → List Float → LabelOutcome
label_outcome n l d = record { code = n; labels = l; label_distances = d }

-- a refusal leaves both slices as they came
abbrev pub label_settle : ℕ → Label → ℕ → List ℕ → List Float → LabelOutcome
label_settle zero x k l d = label_outcome 0 (put_words (row_of x) l k) (put_distance (row_of x) d k)
label_settle (suc n) x k l d = label_outcome (suc n) l d

-- label x is stored at a stop's row
unfoldable pub store_outcome : Settings → Label → ℕ → ℕ → ℕ → List ℕ → List Float → LabelOutcome
store_outcome S x stops stop row l d = label_settle (store_code S x stops stop row (length l) (length d)) x (record_of stop row) l d

-- a refused load gives an empty row
abbrev pub refused_label : ℕ → LabelAnswer
refused_label n = record { code = n; row = row_of Empty }

-- a load's outcome, as a caller in C reads it
abbrev pub label_of_outcome : Result LabelRow Refusal → LabelAnswer
label_of_outcome (Ok r) = record { code = 0; row = r }
label_of_outcome (Err q) = refused_label (number_of q)

abbrev pub given_label : Label → LabelAnswer
given_label x = record { code = 0; row = row_of x }

abbrev pub answer_label : ℕ → Label → LabelAnswer
answer_label zero x = given_label x
answer_label (suc n) x = refused_label (suc n)

-- questions asked after those that gave this number
abbrev pub and_then : ℕ → ℕ → ℕ
and_then zero later = later
and_then (suc n) later = suc n

-- the label at a stop's row is loaded. Question 5 is also of its kind.
unfoldable pub load_answer : Settings → ℕ → ℕ → ℕ → List ℕ → List Float → LabelAnswer
load_answer S stops stop row l d =
    let k = record_of stop row in
    answer_label (and_then (load_code S stops stop row (length l) (length d)) (ask 5 (leb (kind_at l k) 3) 0)) (loaded l d k)
