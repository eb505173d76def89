-- Laws of the list of labels: a store is one entry changed; the slices are the words and distances of the labels. Assumes nothing.
use Prim.Native.Nat.{ℕ, zero, suc, ◌+◌, ◌*◌, ◌≤◌, ◌<◌}
use mathlib.Core.Path.{◌≡◌, refl, sym, ap, ap₂, ◌∙◌}
use mathlib.Core.List.{List, ◌∷◌, ◌++◌}
use native.Mathlib.Omega.{arith}
use lib.ListN.{length, get_or, set, drop}
use lib.Seq.{ext_get_or, drop-cons, drop-length}
use lib.Ieee.{Float, nan}
use Rattle.loops.specs.Count.{tab_from}
use Rattle.loops.proofs.Count.{length_tab_from, get_d_tab}
use Rattle.label.specs.declared.Label.{Label}
use Rattle.label.specs.declared.LabelRow.{LabelRow}
use Rattle.label.specs.Label.{row_of}
use Rattle.label.specs.Table.{InTable, words_of, label_row_at, loaded, put_words, put_distance, words_of_all, distances_of_all}
use Rattle.label.proofs.Laws.{row_back, row_other, load_store, load_other}
use Rattle.search_state.specs.View.{labels_of, Written}
use Rattle.words.proofs.Filling.{same_or}

tab_same : {A : Type 0} (f g : ℕ → A) (i n : ℕ) → ((x : ℕ) → i ≤ x → f x ≡ g x) → tab_from f i n ≡ tab_from g i n
unfolding tab_from
tab_same f g i zero h = refl
tab_same f g i (suc n) h = rw (h i (omega arith), tab_same f g (suc i) n (λ x l. h x (omega arith))) refl

-- two lists of values that differ at one number
pub tab_set : {A : Type 0} (f g : ℕ → A) (a : A) (i n j : ℕ) → ((x : ℕ) → (x ≡ i + j → ⊥) → f x ≡ g x) → f (i + j) ≡ a → j < n
    → tab_from f i n ≡ set (tab_from g i n) j a
unfolding tab_from
tab_set f g a i zero j h e l = absurd (omega arith)
tab_set f g a i (suc n) zero h e l =
    let z : i + 0 ≡ i = omega arith in
    rw (tab_same f g (suc i) n (λ x m. h x (λ y. omega arith)), ← e, z) refl
tab_set f g a i (suc n) (suc j) h e l =
    let z : suc i + j ≡ i + suc j = omega arith in
    rw (h i (λ y. omega arith), tab_set f g a (suc i) n j (λ x m. h x (λ y. m (omega arith))) (ap f z ∙ e) (omega arith)) refl

-- a label stored at record k is the list of labels with that one set
pub labels_put : (x : Label) (l : List ℕ) (d : List Float) (k n : ℕ) → InTable l d k → k < n
    → labels_of (put_words (row_of x) l k) (put_distance (row_of x) d k) n ≡ set (labels_of l d n) k x
unfolding labels_of
labels_put x l d k n q h =
    let z : 0 + k ≡ k = omega arith in
    tab_set (loaded (put_words (row_of x) l k) (put_distance (row_of x) d k)) (loaded l d) x 0 n k
    (λ j e. load_other x l d k j (λ y. e (omega arith)))
    (ap (loaded (put_words (row_of x) l k) (put_distance (row_of x) d k)) z ∙ load_store x l d k q) h

-- and every record is its label's row still
pub written_put : (x : Label) (l : List ℕ) (d : List Float) (k n : ℕ) → InTable l d k → Written n l d
    → Written n (put_words (row_of x) l k) (put_distance (row_of x) d k)
written_put x l d k n q w =
    record {
      row = λ j h. same_or j k
          (λ e. rw e (row_back (row_of x) l d k q ∙ ap row_of (sym (load_store x l d k q))))
          (λ no. row_other (row_of x) l d k j no ∙ w.row j h ∙ ap row_of (sym (load_other x l d k j no)));
    }

-- record k's eight words, and those after it
row_words : (l : List ℕ) (d : List Float) (k : ℕ) → 8 * k + 8 ≤ length l → drop (8 * k) l ≡ words_of (label_row_at l d k) ++ drop (8 * suc k) l
row_words l d k h =
    let at : (i : ℕ) → i < 8 → drop (8 * k + i) l ≡ get_or l (8 * k + i) 0 ∷ drop (8 * k + suc i) l =
    λ i u. let e : suc (8 * k + i) ≡ 8 * k + suc i = omega arith in drop-cons l (8 * k + i) 0 (omega arith) ∙ ap (λ (j : ℕ). get_or l (8 * k + i) 0 ∷ drop j l) e in
    let e : 8 * k + 8 ≡ 8 * suc k = omega arith in
    let z : suc (8 * k) ≡ 8 * k + 1 = omega arith in
    drop-cons l (8 * k) 0 (omega arith) ∙ ap (λ (r : List ℕ). get_or l (8 * k) 0 ∷ r)
    (ap (λ (j : ℕ). drop j l) z ∙ rw (at 1 (omega arith), at 2 (omega arith), at 3 (omega arith), at 4 (omega arith), at 5 (omega arith), at 6 (omega arith), at 7 (omega arith), e) refl)

-- all words from record i on
words_from : (f : ℕ → Label) (l : List ℕ) (d : List Float) (i n : ℕ) → length l ≡ (i + n) * 8 → ((k : ℕ) → i ≤ k → k < i + n → label_row_at l d k ≡ row_of (f k))
    → drop (8 * i) l ≡ words_of_all (tab_from f i n)
unfolding tab_from words_of_all
words_from f l d i zero e h = let z : 8 * i ≡ length l = omega arith in ap (λ (j : ℕ). drop j l) z ∙ drop-length l
words_from f l d i (suc n) e h =
    row_words l d i (omega arith)
    ∙ ap₂ (λ (r : LabelRow) (t : List ℕ). words_of r ++ t) (h i (omega arith) (omega arith)) (words_from f l d (suc i) n (omega arith) (λ k x y. h k (omega arith) (omega arith)))

distances_from : (f : ℕ → Label) (i n : ℕ) → distances_of_all (tab_from f i n) ≡ tab_from (λ k. (row_of (f k)).distance) i n
unfolding tab_from distances_of_all
distances_from f i zero = refl
distances_from f i (suc n) = ap (λ (t : List Float). (row_of (f i)).distance ∷ t) (distances_from f (suc i) n)

-- where every record is its label's row, the labels say all words and distances
pub labels_are : {n : ℕ} {l : List ℕ} {m : List Float} → Written n l m → length l ≡ n * 8 → length m ≡ n → (xs : List Label) → labels_of l m n ≡ xs
    → (l ≡ words_of_all xs) × (m ≡ distances_of_all xs)
unfolding labels_of
labels_are {n} {l} {m} w e g xs q = (
  words_from (loaded l m) l m 0 n (omega (arith, e)) (λ k x y. w.row k (omega (arith, y))) ∙ ap words_of_all q,
  ext_get_or nan m (tab_from (λ k. (row_of (loaded l m k)).distance) 0 n) (g ∙ sym (length_tab_from _ 0 n))
      (λ k u. ap (λ (r : LabelRow). r.distance) (w.row k (omega (arith, u, g))) ∙ sym (get_d_tab (λ k. (row_of (loaded l m k)).distance) n k nan (omega (arith, u, g))))
      ∙ sym (distances_from (loaded l m) 0 n) ∙ ap distances_of_all q,
)
