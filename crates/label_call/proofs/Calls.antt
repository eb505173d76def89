-- The calls' questions and answers, case by case. Assumes nothing.
use Prim.Native.Nat.{ℕ, zero, suc, ◌≤◌, ◌<◌, ◌*◌}
use mathlib.Core.Path.{◌≡◌, refl, sym, ◌∙◌, ap, ap₂}
use mathlib.Core.Bool.{Bool, true, false, ◌&&◌, and-eq-true_iff}
use mathlib.Core.List.{List}
use native.Mathlib.Omega.{arith}
use lib.ListN.{length}
use lib.Dec.{ltb, leb, eqb}
use lib.Ieee.{Float}
use borrow.Author.Tests.{ltb-true, leb-true, eqb-true, le-leb, lt-leb}
use Rattle.door.specs.Door.{ask}
use Rattle.door.specs.Settings.{settings_ok}
use Rattle.door.specs.declared.Settings.{Settings}
use Rattle.door.proofs.Laws.{ask_yes, ask_later}
use Rattle.label.specs.declared.Label.{Label}
use Rattle.label.specs.declared.LabelRow.{LabelRow}
use Rattle.label.specs.declared.Label.TheVariants.{Empty, Access, Transit, Walk}
use Rattle.label.specs.Label.{row_of, label_of}
use Rattle.label.specs.Table.{InTable, record_of, put_words, put_distance, kind_at, label_row_at, loaded, lengths_right}
use Rattle.label_call.specs.Calls.{stops_below, place_code, store_code, load_code, LabelOutcome, label_outcome, label_settle, store_outcome, refused_label, given_label, answer_label, and_then, load_answer}
use Rattle.label.proofs.Laws.{table_record, load_store, load_other, row_back, other_kind, put_words_length, put_distance_length}

-- where all questions are answered yes and 4 is of two tests, they are answered yes with the first of the two alone
pub one_asked : (S : Settings) (a b : Bool) (stops row words distances : ℕ) → place_code S (a && b) stops row words distances ≡ 0 → place_code S a stops row words distances ≡ 0
unfolding place_code
one_asked S true true stops row words distances e = e
one_asked S true false stops row words distances e =
    let right = lengths_right stops words distances in
    let later = ask 4 false (ask 5 (leb row 12) 0) in
    let house = ask 14 (settings_ok S) (ask 2 right later) in
    absurd (omega (arith, ask_later 1 right later (ask_later 13 (settings_ok S) (ask 2 right later) (ask_later 0 (leb stops 4096) house e))))
one_asked S false b stops row words distances e = e

module _ (S : Settings) (stops stop row : ℕ) (l : List ℕ) (d : List Float) where
  -- where all questions are answered yes, the record lies in both slices
  pub in_table : load_code S stops stop row (length l) (length d) ≡ 0 → InTable l d (record_of stop row)
  unfolding place_code
  in_table e =
      let l5 = ask 5 (leb row 12) 0 in
      let l4 = ask 4 (ltb stop stops) l5 in
      let right = lengths_right stops (length l) (length d) in
      let house = ask 14 (settings_ok S) (ask 2 right l4) in
      let e2 = ask_later 13 (settings_ok S) (ask 2 right l4) (ask_later 0 (leb stops 4096) house e) in
      let e4 = ask_later 1 right l4 e2 in
      let lengths = (and-eq-true_iff (eqb (length l) (stops * 13 * 8)) (eqb (length d) (stops * 13))).0 (ask_yes 1 right l4 e2) in
      table_record stops stop row l d (eqb-true _ _ lengths.0) (eqb-true _ _ lengths.1)
      (ltb-true _ _ (ask_yes 3 (ltb stop stops) l5 e4)) (leb-true _ _ (ask_yes 4 (leb row 12) 0 (ask_later 3 (ltb stop stops) l5 e4)))

  -- also where question 4 asks more than of the stop
  pub in_table_too : (known more : Bool) → known ≡ (ltb stop stops && more) → place_code S known stops row (length l) (length d) ≡ 0 → InTable l d (record_of stop row)
  in_table_too known more k e =
      in_table (one_asked S (ltb stop stops) more stops row (length l) (length d) (ap (λ (b : Bool). place_code S b stops row (length l) (length d)) (sym k) ∙ e))

  -- a store's questions ask more than a load's
  pub load_admitted : (x : Label) → store_code S x stops stop row (length l) (length d) ≡ 0 → load_code S stops stop row (length l) (length d) ≡ 0
  load_admitted x e = one_asked S (ltb stop stops) (stops_below x stops) stops row (length l) (length d) e

  -- a store's questions, as the code joins them
  pub store_asked : (x : Label) {k b : Bool} {n : ℕ} → n ≡ place_code S k stops row (length l) (length d) → k ≡ (ltb stop stops && b) → b ≡ stops_below x stops
      → n ≡ store_code S x stops stop row (length l) (length d)
  store_asked x p q r = p ∙ ap (λ (k : Bool). place_code S k stops row (length l) (length d)) (q ∙ ap (λ (b : Bool). ltb stop stops && b) r)

  -- a store that is refused
  pub store_refused : (x : Label) (n : ℕ) → n ≡ store_code S x stops stop row (length l) (length d) → (n ≡ 0 → ⊥)
      → label_outcome n l d ≡ store_outcome S x stops stop row l d
  unfolding store_outcome
  store_refused x zero e h = absurd (h refl)
  store_refused x (suc n) e h = ap (λ (m : ℕ). label_settle m x (record_of stop row) l d) e

  -- a load that is refused for its place
  pub load_refused : (n : ℕ) → n ≡ load_code S stops stop row (length l) (length d) → (n ≡ 0 → ⊥)
      → refused_label n ≡ load_answer S stops stop row l d
  unfolding load_answer
  load_refused zero e h = absurd (h refl)
  load_refused (suc n) e h =
      ap (λ (m : ℕ). answer_label (and_then m (ask 5 (leb (kind_at l (record_of stop row)) 3) 0)) (loaded l d (record_of stop row))) e

  -- a store that is made
  pub store_made : (x : Label) → store_code S x stops stop row (length l) (length d) ≡ 0 → (k : ℕ) → k ≡ record_of stop row
      → (l' : List ℕ) (d' : List Float) → l' ≡ put_words (row_of x) l k → d' ≡ put_distance (row_of x) d k
      → label_outcome 0 l' d' ≡ store_outcome S x stops stop row l d
  unfolding store_outcome
  store_made x ok k at l' d' p q =
      ap₂ (label_outcome 0) p q
      ∙ ap (λ (j : ℕ). label_outcome 0 (put_words (row_of x) l j) (put_distance (row_of x) d j)) at
      ∙ ap (λ (m : ℕ). label_settle m x (record_of stop row) l d) (sym ok)

  module _ (ok : load_code S stops stop row (length l) (length d) ≡ 0) (k : ℕ) (at : k ≡ record_of stop row) where
    -- a load at a place that is there, by whether the kind is one
    at_place : (t : Bool) → leb (kind_at l k) 3 ≡ t → answer_label (ask 5 t 0) (loaded l d k) ≡ load_answer S stops stop row l d
    unfolding load_answer
    at_place t q =
        ap (λ (b : Bool). answer_label (ask 5 b 0) (loaded l d k)) (sym q)
        ∙ ap (λ (j : ℕ). answer_label (ask 5 (leb (kind_at l j) 3) 0) (loaded l d j)) at
        ∙ ap (λ (m : ℕ). answer_label (and_then m (ask 5 (leb (kind_at l (record_of stop row)) 3) 0)) (loaded l d (record_of stop row))) (sym ok)

    -- a load that is refused for the kind found, and one that is made
    pub load_no_kind : (r : LabelRow) → r ≡ label_row_at l d k → 3 < r.kind → refused_label 5 ≡ load_answer S stops stop row l d
    load_no_kind r e h = at_place false (sym (ap (λ (s : LabelRow). leb s.kind 3) e) ∙ lt-leb _ _ h)

    pub load_made : (r : LabelRow) → r ≡ label_row_at l d k → r.kind ≤ 3 → given_label (label_of r) ≡ load_answer S stops stop row l d
    unfolding loaded
    load_made r e h =
        ap (λ (s : LabelRow). given_label (label_of s)) e ∙ at_place true (sym (ap (λ (s : LabelRow). leb s.kind 3) e) ∙ le-leb _ _ h)

-- what a store's answer is made of, and a load's
pub ruleset store_steps = (store_asked, store_refused, store_made)

pub ruleset load_steps = (in_table, load_refused, load_no_kind, load_made)

-- a stored label's kind is one
kind_small : (x : Label) → (row_of x).kind ≤ 3
kind_small Empty = omega arith
kind_small (Access s t w z) = omega arith
kind_small (Transit t r s b a p z) = omega arith
kind_small (Walk t f s w z p) = omega arith

module _ (S : Settings) (x : Label) (stops stop row : ℕ) (l : List ℕ) (d : List Float) where
  -- after a store that is made, a load at its place gives the label
  pub load_after_store : store_code S x stops stop row (length l) (length d) ≡ 0
      → load_answer S stops stop row (store_outcome S x stops stop row l d).labels (store_outcome S x stops stop row l d).label_distances ≡ given_label x
  unfolding loaded
  load_after_store ok =
      let k = record_of stop row in
      let l' = put_words (row_of x) l k in
      let d' = put_distance (row_of x) d k in
      let asked = load_admitted S stops stop row l d x ok in
      let there = in_table S stops stop row l d asked in
      let back = row_back (row_of x) l d k there in
      let ok' : load_code S stops stop row (length l') (length d') ≡ 0 =
      ap₂ (load_code S stops stop row) (put_words_length (row_of x) l k) (put_distance_length (row_of x) d k) ∙ asked in
      let small : (label_row_at l' d' k).kind ≤ 3 = omega (arith, ap (λ (r : LabelRow). r.kind) back, kind_small x) in
      ap (λ (o : LabelOutcome). load_answer S stops stop row o.labels o.label_distances) (sym (store_made S stops stop row l d x ok k refl l' d' refl refl))
      ∙ sym (load_made S stops stop row l' d' ok' k refl (label_row_at l' d' k) refl small)
      ∙ ap given_label (load_store x l d k there)

  -- a store, made or refused, changes no load of another record
  pub load_elsewhere : (stop' row' : ℕ) → (record_of stop' row' ≡ record_of stop row → ⊥)
      → load_answer S stops stop' row' (store_outcome S x stops stop row l d).labels (store_outcome S x stops stop row l d).label_distances
      ≡ load_answer S stops stop' row' l d
  unfolding store_outcome load_answer
  load_elsewhere stop' row' h = go (store_code S x stops stop row (length l) (length d))
    where
      k : ℕ
      k = record_of stop row

      go : (n : ℕ) → load_answer S stops stop' row' (label_settle n x k l d).labels (label_settle n x k l d).label_distances ≡ load_answer S stops stop' row' l d
      go zero =
          cc (put_words_length (row_of x) l k, put_distance_length (row_of x) d k, other_kind (row_of x) l k (record_of stop' row') h, load_other x l d k (record_of stop' row') h)
      go (suc n) = refl
