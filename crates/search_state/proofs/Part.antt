-- Laws of a section: what is read in it, a store in it, below it, above it, just past it. Assumes nothing.
use Prim.Native.Nat.{ℕ, zero, suc, ◌+◌, ◌≤◌, ◌<◌, ◌-◌}
use mathlib.Core.Path.{◌≡◌, refl, ap, ◌∙◌, sym}
use mathlib.Core.List.{List, [], ◌∷◌, ◌++◌}
use native.Mathlib.Omega.{arith}
use lib.ListN.{length, get_or, replicate, set, take, drop, length-drop}
use Rattle.loops.specs.Count.{tab_from}
use Rattle.search_state.specs.Part.{part, tally}
use native.Mathlib.Numerals.{add-one}
use lib.Dec.{eqb}
use lib.Seq.{length-take-le, get_or-take, get_or-drop, drop-set-add, drop-set-lt, take-set-lt, take-set-le, take-suc-set}
use borrow.Author.Tests.{eq-eqb, ne_eqb}
use Rattle.loops.proofs.Count.{one_le}
use Rattle.words.proofs.Filling.{all_same}
use Rattle.query_types.specs.declared.Lay.{Lay}
use Rattle.query_types.specs.Layout.{Few}
use Rattle.search_state.specs.Places.{WorkSized}

pub tab_one : {A : Type 0} (v : A) (i n : ℕ) → tab_from (λ k. v) i n ≡ replicate n v
unfolding tab_from
tab_one v i zero = refl
tab_one v i (suc n) = ap (λ r. v ∷ r) (tab_one v (suc i) n)

module _ (w : List ℕ) (a n : ℕ) where
  pub part_at : (i : ℕ) → i < n → get_or (part w a n) i 0 ≡ get_or w (a + i) 0
  unfolding part
  part_at i h = get_or-take n (drop a w) i 0 h ∙ get_or-drop a w i 0

  pub part_in : (i v : ℕ) → i < n → part (set w (a + i) v) a n ≡ set (part w a n) i v
  unfolding part
  part_in i v h = ap (take n) (drop-set-add a w i v) ∙ take-set-lt n (drop a w) i v h

  pub part_below : (i v : ℕ) → i < a → part (set w i v) a n ≡ part w a n
  unfolding part
  part_below i v h = ap (take n) (drop-set-lt a w i v h)

  pub part_above : (i v : ℕ) → a + n ≤ i → part (set w i v) a n ≡ part w a n
  unfolding part
  part_above i v h =
      let e : i ≡ a + (i - a) = omega arith in
      ap (λ (x : ℕ). take n (drop a (set w x v))) e ∙ ap (take n) (drop-set-add a w (i - a) v) ∙ take-set-le n (drop a w) (i - a) v (omega arith)

  pub part_more : (v : ℕ) → a + n < length w → part (set w (a + n) v) a (n + 1) ≡ part w a n ++ (v ∷ [])
  unfolding part
  part_more v h =
      ap (take (n + 1)) (drop-set-add a w n v) ∙ ap (λ (x : ℕ). take x (set (drop a w) n v)) (add-one n)
      ∙ take-suc-set (drop a w) n v (simp length-drop (omega arith))

  pub part_length : a + n ≤ length w → length (part w a n) ≡ n
  unfolding part
  part_length h = length-take-le n (drop a w) (simp length-drop (omega arith))

-- a section of one value
pub part_same : (w : List ℕ) (a n v : ℕ) → a + n ≤ length w → ((i : ℕ) → i < n → get_or w (a + i) 0 ≡ v) → part w a n ≡ replicate n v
part_same w a n v r h = all_same (part w a n) n v 0 (part_length w a n r) (λ k u. part_at w a n k u ∙ h k u)

-- a section from the start on
pub first_at : (w : List ℕ) (n i : ℕ) → i < n → get_or (part w 0 n) i 0 ≡ get_or w i 0
first_at w n i h = let e : 0 + i ≡ i = omega arith in rw e at (part_at w 0 n i h)

pub first-in : (w : List ℕ) (n i v : ℕ) → i < n → part (set w i v) 0 n ≡ set (part w 0 n) i v
first-in w n i v h = let e : 0 + i ≡ i = omega arith in rw e at (part_in w 0 n i v h)

-- where all from r on is as it was, so is each number there
pub drop_at : (w w' : List ℕ) (r i : ℕ) → drop r w' ≡ drop r w → get_or w' (r + i) 0 ≡ get_or w (r + i) 0
drop_at w w' r i e = sym (get_or-drop r w' i 0) ∙ ap (λ (l : List ℕ). get_or l i 0) e ∙ get_or-drop r w i 0

pub tally_le : (x : ℕ) (l : List ℕ) → tally x l ≤ length l
unfolding tally
tally_le x [] = omega arith
tally_le x (y ∷ l) = omega (arith, one_le (eqb y x), tally_le x l)

-- a number that is not x leaves room for one more
pub tally_room : (x : ℕ) (l : List ℕ) (s : ℕ) → s < length l → (get_or l s 0 ≡ x → ⊥) → tally x l < length l
unfolding tally
tally_room x [] s h n = absurd (omega arith)
tally_room x (y ∷ l) zero h n = rw (ne_eqb y x n) (let z = tally_le x l in omega arith)
tally_room x (y ∷ l) (suc s) h n = omega (arith, one_le (eqb y x), tally_room x l s (omega arith) n)

pub tally_set : (x : ℕ) (l : List ℕ) (s : ℕ) → s < length l → (get_or l s 0 ≡ x → ⊥) → tally x (set l s x) ≡ suc (tally x l)
unfolding tally
tally_set x [] s h n = absurd (omega arith)
tally_set x (y ∷ l) zero h n = rw (ne_eqb y x n, eq-eqb x x refl) (omega arith)
tally_set x (y ∷ l) (suc s) h n = omega (arith, tally_set x l s (omega arith) n)

-- the counts of a workspace that is so long are few
pub few_of : {lay : Lay} {n : ℕ} → WorkSized lay n → Few lay
few_of s = record { stops = s.stops; trips = s.trips; lines = s.lines }
