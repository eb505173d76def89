-- Where labels lie: 13 records to a stop, of eight words in one slice and a distance in another. Definitions only.
use Rattle.std.specs.Prelude.{ℕ, ◌+◌, ◌*◌, ◌≤◌, ◌<◌, Bool, ◌&&◌, List, [], ◌∷◌, ◌++◌, length, get_or, set, eqb, Float}
use Rattle.std.proofs.lemmas.List.Edits.{sets}
use Rattle.std.specs.Float.{nan}
use Rattle.label.specs.declared.Label.{Label}
use Rattle.label.specs.declared.LabelRow.{LabelRow}
use Rattle.label.specs.Label.{label_row, row_of, label_of}

-- the record of a stop's row
abbrev pub record_of : ℕ → ℕ → ℕ
record_of stop row = 13 * stop + row

-- record k lies in both slices
pub record InTable (labels : List ℕ) (label_distances : List Float) (k : ℕ) : Type 0 where
  pub words : 8 * k + 8 ≤ length labels
  pub distance : k < length label_distances

-- the eight words of a row
abbrev pub words_of : LabelRow → List ℕ
words_of r = r.kind ∷ r.word1 ∷ r.word2 ∷ r.word3 ∷ r.word4 ∷ r.word5 ∷ r.word6 ∷ r.word7 ∷ []

-- the slices with this row at record k: its words one after another from 8 * k on, its distance at k
unfoldable pub put_words : LabelRow → List ℕ → ℕ → List ℕ
put_words r labels k = sets labels (8 * k) (words_of r)

unfoldable pub put_distance : LabelRow → List Float → ℕ → List Float
put_distance r label_distances k = set label_distances k r.distance

-- record k's kind, and its word i, 1 to 7
abbrev pub kind_at : List ℕ → ℕ → ℕ
kind_at labels k = get_or labels (8 * k) 0

abbrev pub word : List ℕ → ℕ → ℕ → ℕ
word labels k i = get_or labels (8 * k + i) 0

-- the row at record k. (What `get_or` gives past the end of a slice is never read.)
abbrev pub label_row_at : List ℕ → List Float → ℕ → LabelRow
label_row_at l label_distances k =
    label_row (kind_at l k) (word l k 1) (word l k 2) (word l k 3) (word l k 4) (word l k 5) (word l k 6) (word l k 7) (get_or label_distances k nan)

-- the label at record k
unfoldable pub loaded : List ℕ → List Float → ℕ → Label
loaded labels label_distances k = label_of (label_row_at labels label_distances k)

-- the words of labels, record by record
unfoldable pub words_of_all : List Label → List ℕ
words_of_all [] = []
words_of_all (x ∷ xs) = words_of (row_of x) ++ words_of_all xs

-- their distances
unfoldable pub distances_of_all : List Label → List Float
distances_of_all [] = []
distances_of_all (x ∷ xs) = (row_of x).distance ∷ distances_of_all xs

-- a table of this many stops has 13 records for each: eight words and a distance to a record
abbrev pub lengths_right : ℕ → ℕ → ℕ → Bool
lengths_right stops words label_distances = eqb words (stops * 13 * 8) && eqb label_distances (stops * 13)
