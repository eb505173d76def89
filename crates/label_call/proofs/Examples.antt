-- A label of each kind stored and loaded in a table of two stops, and refusals, as computed checks.
use Prim.Native.Nat.{ℕ, ◌+◌, ◌*◌}
use mathlib.Core.Path.{◌≡◌, refl}
use mathlib.Core.Bool.{Bool, true, false, ◌&&◌}
use mathlib.Core.List.{List, [], ◌∷◌}
use lib.ListN.{length, get_or, take, drop, replicate}
use lib.Dec.{eqb}
use lib.IntN.{pos, negsuc}
use lib.Ieee.{Float, fin, nan}
use lib.Ieee
use Rattle.door.specs.Settings.{default_settings, settings_ok}
use Rattle.door.specs.declared.Settings.{Settings}
use Rattle.door.proofs.House.{no_trip_tried}
use Rattle.label.specs.declared.Label.{Label}
use Rattle.label.specs.declared.Label.TheVariants.{Empty, Access, Transit, Walk}
use Rattle.label.specs.Table.{put_words, put_distance, loaded, words_of}
use Rattle.label_call.specs.Calls.{place_code, store_outcome, load_answer}

pub same : List ℕ → List ℕ → Bool
same [] [] = true
same [] (y ∷ ys) = false
same (x ∷ xs) [] = false
same (x ∷ xs) (y ∷ ys) = eqb x y && same xs ys

-- the slices before a store: every word 7, which is no kind, and every distance 1.0
pub words : List ℕ
words = replicate 208 7

pub one : Float
one = fin false 1 (pos 0)

pub distances : List Float
distances = replicate 26 one

-- 2.5
pub metres : Float
metres = fin false 5 (negsuc 0)

-- a label, the stop's row where it goes, where its words then begin, the words and the distance
pub record Case : Type 0 where
  pub label : Label
  pub stop : ℕ
  pub row : ℕ
  pub at : ℕ
  pub words : List ℕ
  pub distance : Float

pub right : Case → Bool
right c =
    let o = store_outcome default_settings c.label 2 c.stop c.row words distances in
    let a = load_answer default_settings 2 c.stop c.row o.labels o.label_distances in
    let past = drop (c.at + 8) o.labels in
    eqb o.code 0
    && eqb a.code 0
    && same (take 8 (drop c.at o.labels)) c.words
    && same (words_of a.row) c.words
    && Ieee.eq a.row.distance c.distance
    && same (take c.at o.labels) (replicate c.at 7)
    && same past (replicate (length past) 7)
    && Ieee.eq (get_or o.label_distances (13 * c.stop + c.row + 1) nan) one

pub all : List Case → Bool
all [] = true
all (c ∷ cs) = right c && all cs

pub cases : List Case
cases =
    record { label = Access 1 400 60 metres; stop = 0; row = 0; at = 0; words = 1 ∷ 1 ∷ 400 ∷ 60 ∷ 0 ∷ 0 ∷ 0 ∷ 0 ∷ []; distance = metres }
    ∷ record { label = Transit 500 9 1 1 4 0 4294967286; stop = 1; row = 1; at = 112; words = 2 ∷ 500 ∷ 9 ∷ 1 ∷ 1 ∷ 4 ∷ 0 ∷ 4294967286 ∷ []; distance = fin false 0 (pos 0) }
    ∷ record { label = Walk 4294967295 0 1 60 metres 1; stop = 0; row = 12; at = 96; words = 3 ∷ 4294967295 ∷ 0 ∷ 1 ∷ 60 ∷ 1 ∷ 0 ∷ 0 ∷ []; distance = metres }
    ∷ record { label = Empty; stop = 1; row = 0; at = 104; words = 0 ∷ 0 ∷ 0 ∷ 0 ∷ 0 ∷ 0 ∷ 0 ∷ 0 ∷ []; distance = fin false 0 (pos 0) }
    ∷ []

pub worked : all cases ≡ true
unfolding settings_ok all right cases same words distances one metres store_outcome load_answer place_code put_words put_distance loaded Ieee.eq
worked = refl

-- settings, stops, stop and row of a load, and its code: the counts first, then the settings, the lengths, the stop, the row and the kind
pub record Refusal : Type 0 where
  pub settings : Settings
  pub stops : ℕ
  pub stop : ℕ
  pub row : ℕ
  pub code : ℕ

pub refused : List Refusal → Bool
refused [] = true
refused (r ∷ rs) =
    let a = load_answer r.settings r.stops r.stop r.row words distances in
    eqb a.code r.code && same (words_of a.row) (replicate 8 0) && refused rs

pub refusals : List Refusal
refusals =
    record { settings = default_settings; stops = 4097; stop = 4097; row = 13; code = 1 }
    ∷ record { settings = no_trip_tried; stops = 4097; stop = 4097; row = 13; code = 1 }
    ∷ record { settings = no_trip_tried; stops = 1; stop = 2; row = 13; code = 14 }
    ∷ record { settings = default_settings; stops = 1; stop = 2; row = 13; code = 2 }
    ∷ record { settings = default_settings; stops = 2; stop = 2; row = 13; code = 4 }
    ∷ record { settings = default_settings; stops = 2; stop = 1; row = 13; code = 5 }
    ∷ record { settings = default_settings; stops = 2; stop = 1; row = 12; code = 5 }
    ∷ []

pub refusals_worked : refused refusals ≡ true
unfolding settings_ok refused refusals same words distances one load_answer place_code loaded
refusals_worked = refl

-- stores that are refused, in a table of two stops: the settings, the label, the stop's row and the code. A stop number in the label that is the
-- count, and before the row; the row; both slices as they came.
pub record StoreRefusal : Type 0 where
  pub settings : Settings
  pub label : Label
  pub stop : ℕ
  pub row : ℕ
  pub code : ℕ

pub kept : List StoreRefusal → Bool
kept [] = true
kept (r ∷ rs) =
    let o = store_outcome r.settings r.label 2 r.stop r.row words distances in
    eqb o.code r.code && same o.labels words && Ieee.eq (get_or o.label_distances (13 * r.stop + r.row) one) one && kept rs

pub store_refusals : List StoreRefusal
store_refusals =
    record { settings = no_trip_tried; label = Access 1 400 60 metres; stop = 2; row = 13; code = 14 }
    ∷ record { settings = default_settings; label = Access 1 400 60 metres; stop = 2; row = 13; code = 4 }
    ∷ record { settings = default_settings; label = Access 2 400 60 metres; stop = 0; row = 13; code = 4 }
    ∷ record { settings = default_settings; label = Transit 500 9 2 1 4 0 0; stop = 1; row = 1; code = 4 }
    ∷ record { settings = default_settings; label = Walk 560 2 1 60 metres 1; stop = 0; row = 12; code = 4 }
    ∷ record { settings = default_settings; label = Walk 560 1 2 60 metres 1; stop = 0; row = 12; code = 4 }
    ∷ record { settings = default_settings; label = Walk 560 1 0 60 metres 1; stop = 0; row = 13; code = 5 }
    ∷ []

pub store_refusals_worked : kept store_refusals ≡ true
unfolding settings_ok kept store_refusals same words distances one metres store_outcome place_code put_words put_distance Ieee.eq
store_refusals_worked = refl
