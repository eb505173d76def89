-- Writing the positions: one turn of each loop, as the definitions say.
use Prim.Native.Nat.{ℕ, suc, ◌+◌, ◌<◌}
use mathlib.Core.Path.{◌≡◌, refl, ◌∙◌, sym, ap}
use mathlib.Core.Bool.{Bool, true, false}
use mathlib.Core.List.{List}
use native.Mathlib.Numerals.{add-one}
use native.Mathlib.Omega.{arith}
use lib.ListN.{length, get_or, set, length-set, replicate, length-replicate, get_or-replicate}
use lib.Seq.{get_or-set_same, get_or-set_other}
use lib.Dec.{eqb}
use borrow.Author.Tests.{eqb-true, eqb-false, eq-eqb, ne_eqb}
use Rattle.loops.specs.Iter.{Hit, found_or}
use Rattle.loops.specs.Count.{tab}
use Rattle.loops.proofs.Count.{tab_is, tab_ext, get_d_tab, length_tab_from}
use Rattle.line_layout.proofs.Last.{last_yes, last_no}
use Rattle.line_layout.specs.Layout.{LineTrips, run, trips_in, last_in, last_place, placed, position_in, unlisted}

pub length_tab : (f : ℕ → ℕ) (n : ℕ) → length (tab f n) ≡ n
length_tab f n = length_tab_from f 0 n

-- a list of values in which one is changed
pub set_tab : (f g : ℕ → ℕ) (n i v : ℕ) → i < n → g i ≡ v → ((k : ℕ) → (k ≡ i → ⊥) → g k ≡ f k) → set (tab f n) i v ≡ tab g n
set_tab f g n i v u e h = tab_is g n (set (tab f n) i v) (length-set (tab f n) i v ∙ length_tab f n) (λ k x. go k x (eqb k i) refl)
  where
    go : (k : ℕ) → k < n → (b : Bool) → eqb k i ≡ b → get_or (set (tab f n) i v) k 0 ≡ g k
    go k x true q =
        let r = eqb-true k i q in
        ap (λ (m : ℕ). get_or (set (tab f n) i v) m 0) r ∙ get_or-set_same (tab f n) i v 0 (rw (length_tab f n) u) ∙ sym e ∙ ap g (sym r)
    go k x false q =
        let r = eqb-false k i q in
        get_or-set_other (tab f n) i k v 0 r ∙ get_d_tab f n k 0 x ∙ sym (h k r)

-- as if no trip were listed
pub all_unlisted : (s : List ℕ) (n m : ℕ) → s ≡ replicate n unlisted → n ≡ m → s ≡ tab (λ a. unlisted) m
all_unlisted s n m e f =
    tab_is (λ a. unlisted) m s (ap length e ∙ length-replicate n unlisted ∙ f) (λ k u. ap (λ (l : List ℕ). get_or l k 0) e ∙ get_or-replicate n k unlisted 0 (omega arith))

-- a run as it begins, and one place on
pub placed_none : (entries : List ℕ) (first : ℕ) (s : List ℕ) (n : ℕ) → length s ≡ n → s ≡ tab (placed (trips_in entries (run first 0)) s) n
unfolding placed last_in
placed_none entries first s n e = tab_is (placed (trips_in entries (run first 0)) s) n s e (λ k x. refl)

pub placed_again : (entries : List ℕ) (first p : ℕ) (s : List ℕ) (n : ℕ) {x y : List ℕ} → x ≡ tab (placed (trips_in entries (run first p)) s) n
    → y ≡ set x (get_or entries (first + p) 0) p → get_or entries (first + p) 0 < n → y ≡ tab (placed (trips_in entries (run first (p + 1))) s) n
unfolding placed
placed_again entries first p s n {x} {y} i e u =
    rw add-one
    (e ∙ ap (λ (l : List ℕ). set l trip p) i
    ∙ set_tab (placed (trips_in entries (run first p)) s) (placed (trips_in entries (run first (suc p))) s) n trip p u
    (ap (λ (h : Hit). found_or h (get_or s trip 0)) (last_yes (at trip) p (eq-eqb trip trip refl)))
    (λ k d. ap (λ (h : Hit). found_or h (get_or s k 0)) (last_no (at k) p (ne_eqb trip k (λ z. d (sym z))))))
  where
    trip : ℕ
    trip = get_or entries (first + p) 0

    at : ℕ → ℕ → Bool
    at a q = eqb (get_or entries (first + q) 0) a

-- the lines as they begin, and one line on
pub positions_none : (line : ℕ → LineTrips) (n : ℕ) {x : List ℕ} → x ≡ tab (λ a. unlisted) n → x ≡ tab (position_in line 0) n
unfolding position_in
positions_none line n e = e ∙ tab_ext (λ a. unlisted) (position_in line 0) n (λ k u. refl)

pub positions_again : (line : ℕ → LineTrips) (l n : ℕ) {x y : List ℕ} → x ≡ tab (position_in line l) n → y ≡ tab (placed (line l) x) n → y ≡ tab (position_in line (l + 1)) n
unfolding placed position_in
positions_again line l n {x} {y} i e =
    rw add-one
    (e ∙ tab_ext (placed (line l) x) (position_in line (suc l)) n
    (λ k u. ap (found_or (last_place (line l) k)) (ap (λ (m : List ℕ). get_or m k 0) i ∙ get_d_tab (position_in line l) n k 0 u)))
