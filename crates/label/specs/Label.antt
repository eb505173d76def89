-- A label and its row (document 01, item 10, "Label rows"). Definitions only.
-- A row has a kind (0 empty, 1 Access, 2 Transit, 3 Walk), seven words and a distance. The words are the label's fields
-- in the order of `TbrReach`, its distance left out; unused words are 0 and an unused distance is +0.0.
use Rattle.std.specs.Prelude.{ℕ, false, cond, pos, eqb, Float}
use Rattle.std.specs.Float.{fin}
use Rattle.label.specs.declared.Label.{Label}
use Rattle.label.specs.declared.Label.TheVariants.{Empty, Access, Transit, Walk}
use Rattle.label.specs.declared.LabelRow.{LabelRow}

-- +0.0
abbrev pub no_distance : Float
no_distance = fin false 0 (pos 0)

abbrev pub label_row : (k a b c d e f g : ℕ) (x : Float) → LabelRow
label_row k a b c d e f g x =
    record { kind = k; word1 = a; word2 = b; word3 = c; word4 = d; word5 = e; word6 = f; word7 = g; distance = x }

-- a label's row
abbrev pub row_of : Label → LabelRow
row_of Empty = label_row 0 0 0 0 0 0 0 0 no_distance
row_of (Access stop arrival walk distance) = label_row 1 stop arrival walk 0 0 0 0 distance
row_of (Transit arrival trip board_stop board_off alight_off prev_round shift) =
    label_row 2 arrival trip board_stop board_off alight_off prev_round shift no_distance
row_of (Walk arrival from to duration distance prev_round) = label_row 3 arrival from to duration prev_round 0 0 distance

-- a row's label, by its kind; any kind but 1, 2 and 3 is read as empty
abbrev pub label_of : LabelRow → Label
label_of r =
    cond (eqb r.kind 1) (Access r.word1 r.word2 r.word3 r.distance)
    (cond (eqb r.kind 2) (Transit r.word1 r.word2 r.word3 r.word4 r.word5 r.word6 r.word7)
    (cond (eqb r.kind 3) (Walk r.word1 r.word2 r.word3 r.word4 r.distance r.word5) Empty))
