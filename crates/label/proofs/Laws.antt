-- What holds of every label table: a stored label is loaded again, no other record changes, records are apart.
-- Assumes nothing.
use Prim.Native.Nat.{ℕ, zero, suc, ◌+◌, ◌*◌, ◌≤◌, ◌<◌}
use mathlib.Core.Path.{◌≡◌, refl, sym, ◌∙◌, ap}
use mathlib.Core.Bool.{Bool, true, false}
use mathlib.Core.List.{List, [], ◌∷◌}
use native.Mathlib.Omega.{arith}
use lib.ListN.{length, get_or, set, length-set}
use lib.Seq.{sets, length-sets, get_or-set_same, get_or-set_other}
use lib.Dec.{ltb}
use lib.Ieee.{Float, nan}
use borrow.Author.Tests.{ltb-true, ltb-false}
use Rattle.label.specs.declared.Label.{Label}
use Rattle.label.specs.declared.Label.TheVariants.{Empty, Access, Transit, Walk}
use Rattle.label.specs.declared.LabelRow.{LabelRow}
use Rattle.label.specs.Label.{label_row, row_of, label_of}
use Rattle.label.specs.Table.{InTable, record_of, words_of, put_words, put_distance, kind_at, word, label_row_at, loaded}

-- a label is its row's label
pub label-row : (x : Label) → label_of (row_of x) ≡ x
label-row Empty = refl
label-row (Access s t w x) = refl
label-row (Transit t r s b a p z) = refl
label-row (Walk t f s w x p) = refl

-- in slices of the right lengths every row of every stop has its record
pub table_record : (stops stop row : ℕ) (l : List ℕ) (d : List Float) → length l ≡ stops * 13 * 8 → length d ≡ stops * 13
    → stop < stops → row ≤ 12 → InTable l d (record_of stop row)
table_record stops stop row l d p q u v = record { words = omega arith; distance = omega arith }

-- a run of stores, read before it, past it and in it
below : {A : Type 0} (vs l : List A) (at j : ℕ) (z : A) → j < at → get_or (sets l at vs) j z ≡ get_or l j z
below [] l at j z h = refl
below (v ∷ vs) l at j z h = below vs (set l at v) (suc at) j z (omega arith) ∙ get_or-set_other l at j v z (omega arith)

above : {A : Type 0} (vs l : List A) (at j : ℕ) (z : A) → at + length vs ≤ j → get_or (sets l at vs) j z ≡ get_or l j z
above [] l at j z h = refl
above (v ∷ vs) l at j z h = above vs (set l at v) (suc at) j z (omega arith) ∙ get_or-set_other l at j v z (omega arith)

within : {A : Type 0} (vs l : List A) (at i : ℕ) (z : A) → at + length vs ≤ length l → i < length vs
    → get_or (sets l at vs) (at + i) z ≡ get_or vs i z
within [] l at i z h u = absurd (omega arith)
within (v ∷ vs) l at zero z h u =
    let e : at + zero ≡ at = omega arith in
    rw e (below vs (set l at v) (suc at) at z (omega arith) ∙ get_or-set_same l at v z (omega arith))
within (v ∷ vs) l at (suc i) z h u =
    let e : at + suc i ≡ suc at + i = omega arith in
    rw e (within vs (set l at v) (suc at) i z (simp length-set (omega arith)) (omega arith))

-- the words of a record that was put, from 8 * k on
pub put_word : (r : LabelRow) (l : List ℕ) (k i : ℕ) → 8 * k + 8 ≤ length l → i < 8 → word (put_words r l k) k i ≡ get_or (words_of r) i 0
unfolding put_words
put_word r l k i h u = within (words_of r) l (8 * k) i 0 h u

-- every word of every other record is as it was
pub other_word : (r : LabelRow) (l : List ℕ) (k j i : ℕ) → (j ≡ k → ⊥) → i < 8 → word (put_words r l k) j i ≡ word l j i
unfolding put_words
other_word r l k j i n u = go (ltb j k) refl
  where
    go : (t : Bool) → ltb j k ≡ t → get_or (sets l (8 * k) (words_of r)) (8 * j + i) 0 ≡ get_or l (8 * j + i) 0
    go true e = let b = ltb-true j k e in below (words_of r) l (8 * k) (8 * j + i) 0 (omega arith)
    go false e = let b = ltb-false j k e in above (words_of r) l (8 * k) (8 * j + i) 0 (omega arith)

-- and so is its distance
pub other_distance : (r : LabelRow) (d : List Float) (k j : ℕ) (z : Float) → (j ≡ k → ⊥) → get_or (put_distance r d k) j z ≡ get_or d j z
unfolding put_distance
other_distance r d k j z n = get_or-set_other d k j r.distance z n

-- the distance of a record that was put, at k
pub put-distance : (r : LabelRow) (d : List Float) (k : ℕ) (z : Float) → k < length d → get_or (put_distance r d k) k z ≡ r.distance
unfolding put_distance
put-distance r d k z h = get_or-set_same d k r.distance z h

-- a store keeps the slices' lengths
pub put_words_length : (r : LabelRow) (l : List ℕ) (k : ℕ) → length (put_words r l k) ≡ length l
unfolding put_words
put_words_length r l k = length-sets l (8 * k) (words_of r)

pub put_distance_length : (r : LabelRow) (d : List Float) (k : ℕ) → length (put_distance r d k) ≡ length d
unfolding put_distance
put_distance_length r d k = length-set d k r.distance

-- the kind is word 0
kind_word : (l : List ℕ) (k : ℕ) → kind_at l k ≡ word l k 0
kind_word l k = let e : 8 * k + 0 ≡ 8 * k = omega arith in rw e

-- a row that was put is there
pub row_back : (r : LabelRow) (l : List ℕ) (d : List Float) (k : ℕ) → InTable l d k → label_row_at (put_words r l k) (put_distance r d k) k ≡ r
row_back r l d k h =
    let w : (i : ℕ) → i < 8 → word (put_words r l k) k i ≡ get_or (words_of r) i 0 = λ i u. put_word r l k i h.words u in
    λ p. label_row ((kind_word (put_words r l k) k ∙ w 0 (omega arith)) p) (w 1 (omega arith) p) (w 2 (omega arith) p) (w 3 (omega arith) p)
    (w 4 (omega arith) p) (w 5 (omega arith) p) (w 6 (omega arith) p) (w 7 (omega arith) p)
    (put-distance r d k nan h.distance p)

-- any other record's kind and row are as they were
pub other_kind : (r : LabelRow) (l : List ℕ) (k j : ℕ) → (j ≡ k → ⊥) → kind_at (put_words r l k) j ≡ kind_at l j
other_kind r l k j n = kind_word (put_words r l k) j ∙ other_word r l k j 0 n (omega arith) ∙ sym (kind_word l j)

pub row_other : (r : LabelRow) (l : List ℕ) (d : List Float) (k j : ℕ) → (j ≡ k → ⊥)
    → label_row_at (put_words r l k) (put_distance r d k) j ≡ label_row_at l d j
row_other r l d k j n =
    let w : (i : ℕ) → i < 8 → word (put_words r l k) j i ≡ word l j i = λ i u. other_word r l k j i n u in
    λ p. label_row (other_kind r l k j n p) (w 1 (omega arith) p) (w 2 (omega arith) p) (w 3 (omega arith) p)
    (w 4 (omega arith) p) (w 5 (omega arith) p) (w 6 (omega arith) p) (w 7 (omega arith) p) (other_distance r d k j nan n p)

-- load of store is the label
pub load_store : (x : Label) (l : List ℕ) (d : List Float) (k : ℕ) → InTable l d k
    → loaded (put_words (row_of x) l k) (put_distance (row_of x) d k) k ≡ x
unfolding loaded
load_store x l d k h = ap label_of (row_back (row_of x) l d k h) ∙ label-row x

-- a store leaves any other record's label
pub load_other : (x : Label) (l : List ℕ) (d : List Float) (k j : ℕ) → (j ≡ k → ⊥)
    → loaded (put_words (row_of x) l k) (put_distance (row_of x) d k) j ≡ loaded l d j
unfolding loaded
load_other x l d k j n = ap label_of (row_other (row_of x) l d k j n)

-- rows of a stop have a record each, and stops share none
pub records_apart : (s r s' r' : ℕ) → r ≤ 12 → r' ≤ 12 → record_of s r ≡ record_of s' r' → (s ≡ s') × (r ≡ r')
records_apart s r s' r' u v e = (omega arith, omega arith)

-- the eight stores of the code are a run of stores
pub eight : (r : LabelRow) (l : List ℕ) (at : ℕ)
    → set (set (set (set (set (set (set (set l at r.kind) (at + 1) r.word1) (at + 2) r.word2) (at + 3) r.word3) (at + 4) r.word4) (at + 5) r.word5) (at + 6) r.word6) (at + 7) r.word7
    ≡ sets l at (words_of r)
eight r l at =
    let e1 : at + 1 ≡ suc at = omega arith in
    let e2 : at + 2 ≡ suc (suc at) = omega arith in
    let e3 : at + 3 ≡ suc (suc (suc at)) = omega arith in
    let e4 : at + 4 ≡ suc (suc (suc (suc at))) = omega arith in
    let e5 : at + 5 ≡ suc (suc (suc (suc (suc at)))) = omega arith in
    let e6 : at + 6 ≡ suc (suc (suc (suc (suc (suc at))))) = omega arith in
    let e7 : at + 7 ≡ suc (suc (suc (suc (suc (suc (suc at)))))) = omega arith in
    rw (e1, e2, e3, e4, e5, e6, e7)
