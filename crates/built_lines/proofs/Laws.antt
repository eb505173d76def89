-- Built lines list every trip once; what their layout then says. Of any timetable.
use Prim.Native.Nat.{ℕ, zero, suc, ◌+◌, ◌*◌, ◌≤◌, ◌<◌}
use mathlib.Core.Path.{◌≡◌, sym, ◌∙◌, ap}
use mathlib.Core.Bool.{true}
use mathlib.Core.List.{List, [], ◌∷◌, ◌++◌, flat_map}
use native.Mathlib.Nat.{add-zero, add-suc, suc-add, zero-add}
use native.Mathlib.Omega.{arith}
use lib.ListN.{length, get_or, drop}
use lib.Dec.{eqb}
use borrow.Author.Tests.{eq-eqb, ne_eqb}
use Rattle.loops.specs.Iter.{found_or, Hit}
use Rattle.loops.specs.Count.{tab_from}
use Rattle.loops.proofs.Search.{first_is}
use Rattle.tables.specs.Timetable.{Timetable}
use Rattle.line_numbers.specs.Lines.{entries_of, line_count, line_first, line_of, lines_of, line_trips, runs_of}
use Rattle.line_numbers.proofs.Laws.{InLine, in_line, line_is_one, run_entry, trips_count}
use Rattle.line_layout.specs.Layout.{LineTrips, fifo_line, line_trips_in, position_in}
use Rattle.line_layout.specs.Claims.{ListedOnce, NotLater}
use Rattle.line_layout.proofs.Laws.{fifo_positions, position_once}
use Rattle.built_lines.specs.Built.{AsBuilt, place_in, place_of}

-- the two words of row k, in a table of pairs
pair_first : (f g : ℕ → ℕ) (i n k : ℕ) (rest : List ℕ) → k < n → get_or (flat_map (λ l. f l ∷ g l ∷ []) (tab_from (λ j. j) i n) ++ rest) (k * 2) 0 ≡ f (i + k)
unfolding tab_from flat_map
pair_first f g i zero k rest h = absurd (omega arith)
pair_first f g i (suc n) zero rest h = ap f (sym (add-zero i))
pair_first f g i (suc n) (suc k) rest h =
    let e : suc k * 2 ≡ suc (suc (k * 2)) = omega arith in
    rw e (pair_first f g (suc i) n k rest (omega arith) ∙ ap f (rw (suc-add, add-suc)))

pair_second : (f g : ℕ → ℕ) (i n k : ℕ) (rest : List ℕ) → k < n → get_or (flat_map (λ l. f l ∷ g l ∷ []) (tab_from (λ j. j) i n) ++ rest) (k * 2 + 1) 0 ≡ g (i + k)
unfolding tab_from flat_map
pair_second f g i zero k rest h = absurd (omega arith)
pair_second f g i (suc n) zero rest h = ap g (sym (add-zero i))
pair_second f g i (suc n) (suc k) rest h =
    let e : suc k * 2 + 1 ≡ suc (suc (k * 2 + 1)) = omega arith in
    rw e (pair_second f g (suc i) n k rest (omega arith) ∙ ap g (rw (suc-add, add-suc)))

-- WHAT THE LINES CALL WRITES lists as built
module _ (T : Timetable) (old : List ℕ) where
  pub run-first : (l : ℕ) → l < lines_of T → get_or (runs_of T old) (l * 2) 0 ≡ line_first T l
  unfolding runs_of
  run-first l h = pair_first (line_first T) (line_count T) 0 (lines_of T) l (drop (lines_of T * 2) old) h ∙ ap (line_first T) (zero-add l)

  pub run_count : (l : ℕ) → l < lines_of T → get_or (runs_of T old) (l * 2 + 1) 0 ≡ line_count T l
  unfolding runs_of
  run_count l h = pair_second (line_first T) (line_count T) 0 (lines_of T) l (drop (lines_of T * 2) old) h ∙ ap (line_count T) (zero-add l)

  pub built_lists : AsBuilt T (line_trips_in (runs_of T old) (entries_of T))
  built_lists =
      record {
        count = λ l h. run_count l h ∙ sym (trips_count T l);
        trip = λ l p h u. ap (λ (k : ℕ). get_or (entries_of T) (k + p) 0) (run-first l h) ∙ run_entry T l p h (omega (arith, run_count l h));
      }

-- the one place of a trip in its line's list is its place
pub place_is : (T : Timetable) (a : ℕ) (u : a < T.trips) → place_of T a ≡ (in_line T a u).place
unfolding place_in
place_is T a u =
    ap (λ (h : Hit). found_or h (length own))
    (first_is (λ p. eqb (get_or own p 0) a) (length own) d.place (eq-eqb (get_or own d.place 0) a d.here)
    (λ p v. ne_eqb (get_or own p 0) a (λ e. omega (arith, d.below, d.once_place (line_of T a) p (omega (arith, d.below)) e))) d.below)
  where
    own : List ℕ
    own = line_trips T (line_of T a)

    d : InLine T a
    d = in_line T a u

module _ (T : Timetable) (line : ℕ → LineTrips) (b : AsBuilt T line) where
  -- BUILT LINES LIST EVERY TRIP ONCE: in its line, at its place there
  pub built_once : ListedOnce T.trips (lines_of T) line (line_of T) (place_of T)
  built_once =
      record {
        known = λ a u. line_is_one T a u;
        place = place;
        here = λ a u. b.trip (line_of T a) (place_of T a) (line_is_one T a u) (place a u) ∙ ap (λ (p : ℕ). get_or (line_trips T (line_of T a)) p 0) (place_is T a u) ∙ (in_line T a u).here;
        once_line = λ a l p u v w e. (in_line T a u).once_line l p (omega (arith, b.count l v)) (sym (b.trip l p v w) ∙ e);
        once_place = λ a l p u v w e. (in_line T a u).once_place l p (omega (arith, b.count l v)) (sym (b.trip l p v w) ∙ e) ∙ sym (place_is T a u);
      }
    where
      place : (a : ℕ) → a < T.trips → place_of T a < (line (line_of T a)).count
      place a u = omega (arith, place_is T a u, (in_line T a u).below, b.count (line_of T a) (line_is_one T a u))

  -- A TRIP'S POSITION in built lines is its place in its line
  pub built_position : (a : ℕ) → a < T.trips → position_in line (lines_of T) a ≡ place_of T a
  built_position a u = position_once T.trips (lines_of T) line (line_of T) (place_of T) built_once a u

  -- FIFO of built lines: of two trips of a FIFO line, the one whose position is not higher arrives and departs nowhere later, and
  -- pickup and drop-off are equal at every offset
  pub built_fifo : (a d : ℕ) → a < T.trips → d < T.trips → line_of T a ≡ line_of T d → fifo_line T (line (line_of T a)) ≡ true
      → position_in line (lines_of T) a ≤ position_in line (lines_of T) d → NotLater T a d
  built_fifo a d u v e f l = fifo_positions T.trips (lines_of T) line (line_of T) (place_of T) built_once T a d u v e f l
