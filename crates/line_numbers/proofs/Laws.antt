-- THE LAWS of the lines, of any timetable.
use Prim.Native.Nat.{ℕ, zero, suc, ◌+◌, ◌-◌, ◌<◌, ◌≤◌}
use mathlib.Core.Path.{◌≡◌, sym, ap, ◌∙◌, subst}
use mathlib.Core.List.{List, ◌++◌, flat_map}
use mathlib.Core.Logic.{⊎_elim}
use native.Mathlib.Omega.{arith}
use native.Mathlib.Nat.{eq-or-lt_of_le, zero-add}
use lib.ListN.{drop, get_or, length, take}
use lib.Seq.{drop_at, get_or-drop, get_or-take, take_at}
use lib.Dec.{eqb}
use borrow.Author.Tests.{eq-eqb, eqb-true, le-ltb, lt-ltb, ne_eqb}
use Rattle.loops.specs.Iter.{Hit, found_or}
use Rattle.loops.specs.Count.{count, tab_from, upto}
use Rattle.loops.proofs.Count.{count_inj, count_le, count_sum}
use Rattle.loops.proofs.Search.{first_is, split}
use Rattle.sorts.specs.Orders.{All, keep}
use Rattle.sorts.proofs.Orders.{sort-all}
use Rattle.sorts.proofs.Places.{all_at, keep_all, sort_tally, tally}
use Rattle.sorts.proofs.Stable.{length_sort_by}
use Rattle.tables.specs.Timetable.{Timetable, time_at}
use Rattle.line_numbers.specs.Lines.{InLineRun, entries_of, entry_at, first_departure, first_trip, is_lead, lead_of, line_below, line_count, line_first, line_is, line_of, line_trips, lines_of, stops_of}
use Rattle.line_numbers.proofs.Same.{is_own, lead_is, lead_lead, line-below, line_same, lists_same, same_line, same_lists, same_yes}
use Rattle.line_numbers.proofs.Parts.{flat_length, flat_split}
use Rattle.line_numbers.proofs.Tally.{below_split, lines_few}
use Rattle.line_numbers.proofs.Lists.{all_upto, Before, Nth, all_imp, count_each, count_none, flat_tally, length_keep, nth, one_is, pairs_at, sort_kept, tally_found, tally_keep, tally_none, tally_two, tally_upto}

-- two trips have one line exactly if they have the same stops in the same order
pub one_line : (T : Timetable) (i j : ℕ) → stops_of T i ≡ stops_of T j → line_of T i ≡ line_of T j
one_line T i j h = line_same T i j (lists_same T i j h)

pub one_pattern : (T : Timetable) (i j : ℕ) → line_of T i ≡ line_of T j → stops_of T i ≡ stops_of T j
one_pattern T i j h = same_lists T i j (same_line T i j h)

-- trips of one line have as many stops, and the same one at each offset
pub line_counts : (T : Timetable) (a b : ℕ) → line_of T a ≡ line_of T b → (T.trip a).count ≡ (T.trip b).count
line_counts T a b h = (same_yes T a b (same_line T a b h)).counts

pub line_stops : (T : Timetable) (a b k : ℕ) → line_of T a ≡ line_of T b → k < (T.trip a).count → (time_at T a k).stop ≡ (time_at T b k).stop
line_stops T a b k h u = (same_yes T a b (same_line T a b h)).stops k u

-- every trip's line is one of the lines, of which there are no more than trips
pub line_is_one : (T : Timetable) (i : ℕ) → i < T.trips → line_of T i < lines_of T
line_is_one T i h = line-below T i h

pub lines_at_most : (T : Timetable) → lines_of T ≤ T.trips
lines_at_most T = lines_few T

-- LINES ARE NUMBERED BY FIRST TRIP: each has one, and line l's is before line l + 1's
first_is_nth : (T : Timetable) (l : ℕ) (r : Nth (is_lead T) T.trips l) → first_trip T l ≡ r.at
unfolding first_trip line_of
first_is_nth T l r =
    ap (λ (h : Hit). found_or h T.trips)
    (first_is (line_is T l) T.trips r.at (eq-eqb (line_of T r.at) l own) (λ j u. ne_eqb (line_of T j) l (λ z. before j u z)) r.below)
  where
    own : line_of T r.at ≡ l
    own = ap (count (is_lead T)) (is_own T r.at r.passes) ∙ r.number

    before : (j : ℕ) → j < r.at → line_of T j ≡ l → ⊥
    before j u z =
        let e : lead_of T j ≡ r.at = count_inj (is_lead T) (lead_of T j) r.at (lead_lead T j) r.passes (z ∙ sym r.number) in
        omega (arith, (lead_is T j).le)

pub has_first : (T : Timetable) (l : ℕ) → l < lines_of T → (first_trip T l < T.trips) × (line_of T (first_trip T l) ≡ l)
unfolding line_of
has_first T l h =
    let r = nth (is_lead T) T.trips l h in
    let e = first_is_nth T l r in
    (omega (arith, e, r.below), ap (line_of T) e ∙ ap (count (is_lead T)) (is_own T r.at r.passes) ∙ r.number)

pub by_first_trip : (T : Timetable) (l : ℕ) → l + 1 < lines_of T → first_trip T l < first_trip T (l + 1)
by_first_trip T l h =
    let a = nth (is_lead T) T.trips l (omega arith) in
    let b = nth (is_lead T) T.trips (l + 1) h in
    let p = first_is_nth T l a in
    let q = first_is_nth T (l + 1) b in
    ⊎_elim (λ (u : a.at < b.at). omega (arith, p, q)) (λ (u : b.at ≤ a.at). absurd (omega (arith, a.number, b.number, count_le (is_lead T) b.at a.at u))) (split a.at b.at)

-- RUNS: line 0's begins at the first entry, each begins where the one before it ends, the last one ends with the entries
pub first_zero : (T : Timetable) → line_first T 0 ≡ 0
unfolding line_first
first_zero T = count_none (line_below T 0) T.trips (λ k u. le-ltb (line_of T k) 0 (omega arith))

pub first_next : (T : Timetable) (l : ℕ) → line_first T (suc l) ≡ line_first T l + line_count T l
unfolding line_first line_count
first_next T l = count_sum (line_below T l) (line_is T l) (line_below T (suc l)) T.trips (λ k. below_split (line_of T k) l)

pub first_last : (T : Timetable) → line_first T (lines_of T) ≡ T.trips
unfolding line_first
first_last T = count_each (line_below T (lines_of T)) T.trips (λ k u. lt-ltb (line_of T k) (lines_of T) (line-below T k u))

-- THE TRIPS OF A LINE: as many as it has, each one of it
pub trips_count : (T : Timetable) (l : ℕ) → length (line_trips T l) ≡ line_count T l
unfolding line_trips line_count
trips_count T l = length_sort_by (first_departure T) (keep (line_is T l) (upto T.trips)) ∙ length_keep (line_is T l) (upto T.trips) ∙ tally_upto (line_is T l) T.trips

-- trip a is one of line l
pub record OfLine (T : Timetable) (l a : ℕ) : Type 0 where
  pub trip : a < T.trips
  pub line : line_of T a ≡ l

all_of : (T : Timetable) (l : ℕ) → All (OfLine T l) (line_trips T l)
unfolding line_trips
all_of T l =
    sort-all (first_departure T) (keep (line_is T l) (upto T.trips))
    (all_imp (keep (line_is T l) (upto T.trips)) (λ x k. record { trip = k.0; line = eqb-true (line_of T x) l k.1 }) (keep_all (λ x. x < T.trips) (line_is T l) (upto T.trips) (all_upto T.trips)))

pub of-line : (T : Timetable) (l p : ℕ) → p < length (line_trips T l) → OfLine T l (get_or (line_trips T l) p 0)
of-line T l p u = all_at (OfLine T l) (line_trips T l) p 0 (all_of T l) u

-- .. and each trip of it once
own_tally : (T : Timetable) (a : ℕ) → a < T.trips → tally (λ y. eqb y a) (line_trips T (line_of T a)) ≡ 1
unfolding line_trips
own_tally T a h =
    sort_tally (λ y. eqb y a) (first_departure T) (keep (line_is T (line_of T a)) (upto T.trips))
    ∙ tally_keep (line_is T (line_of T a)) (λ y. eqb y a) (upto T.trips) (λ x e. eq-eqb (line_of T x) (line_of T a) (ap (line_of T) (eqb-true x a e)))
    ∙ tally_upto (λ y. eqb y a) T.trips ∙ one_is a T.trips h

other_tally : (T : Timetable) (a l : ℕ) → (l ≡ line_of T a → ⊥) → tally (λ y. eqb y a) (line_trips T l) ≡ 0
other_tally T a l h =
    tally_none (λ y. eqb y a) (line_trips T l) (all_imp (line_trips T l) (λ x o. ne_eqb x a (λ e. h (sym o.line ∙ ap (line_of T) e))) (all_of T l))

one_place : (l : List ℕ) (a p q : ℕ) → tally (λ y. eqb y a) l ≡ 1 → p < length l → q < length l → get_or l p 0 ≡ a → get_or l q 0 ≡ a → p ≡ q
one_place l a p q n u v e f =
    ⊎_elim (λ (z : p < q). absurd (omega (arith, tally_two (λ y. eqb y a) l p q z v (eq-eqb (get_or l p 0) a e) (eq-eqb (get_or l q 0) a f))))
    (λ (z : q ≤ p). ⊎_elim (λ (w : q ≡ p). sym w)
    (λ (w : q < p). absurd (omega (arith, tally_two (λ y. eqb y a) l q p w u (eq-eqb (get_or l q 0) a f) (eq-eqb (get_or l p 0) a e)))) (eq-or-lt_of_le z))
    (split p q)

-- trip a stands in its line's list, at one place of it, and in no other line's
pub record InLine (T : Timetable) (a : ℕ) : Type 0 where
  pub place : ℕ
  pub below : place < length (line_trips T (line_of T a))
  pub here : get_or (line_trips T (line_of T a)) place 0 ≡ a
  pub once_line : (l p : ℕ) → p < length (line_trips T l) → get_or (line_trips T l) p 0 ≡ a → l ≡ line_of T a
  pub once_place : (l p : ℕ) → p < length (line_trips T l) → get_or (line_trips T l) p 0 ≡ a → p ≡ place

pub in_line : (T : Timetable) (a : ℕ) → a < T.trips → InLine T a
in_line T a h =
    let r = tally_found (λ y. eqb y a) (line_trips T (line_of T a)) (omega (arith, own_tally T a h)) in
    let e : get_or (line_trips T (line_of T a)) r.at 0 ≡ a = eqb-true (get_or (line_trips T (line_of T a)) r.at 0) a r.passes in
    record {
      place = r.at;
      below = r.below;
      here = e;
      once_line = line;
      once_place = λ l p u f.
          let z = line l p u f in
          one_place (line_trips T (line_of T a)) a p r.at (own_tally T a h) (subst (λ (k : ℕ). p < length (line_trips T k)) z u) r.below (ap (λ (k : ℕ). get_or (line_trips T k) p 0) (sym z) ∙ f) e;
    }
  where
    line : (l p : ℕ) → p < length (line_trips T l) → get_or (line_trips T l) p 0 ≡ a → l ≡ line_of T a
    line l p u f = sym (of-line T l p u).line ∙ ap (line_of T) f

-- INSIDE A LINE first departures do not fall, and trips with the same first departure stand in the order of their numbers
pub line_order : (T : Timetable) (l p q : ℕ) → p < q → q < length (line_trips T l) → Before (first_departure T) (get_or (line_trips T l) p 0) (get_or (line_trips T l) q 0)
unfolding line_trips
line_order T l p q u v = pairs_at (Before (first_departure T)) (line_trips T l) p q (sort_kept (first_departure T) (line_is T l) T.trips) u v

-- the entries before line l are as many as its run's first; then come its trips
before_size : (T : Timetable) (l : ℕ) → length (flat_map (line_trips T) (upto l)) ≡ line_first T l
before_size T l =
    let e : (k : ℕ) → line_first T (suc k) ≡ line_first T k + length (line_trips T k) = λ k. omega (arith, first_next T k, trips_count T k) in
    let z : 0 + l ≡ l = omega arith in
    omega (arith, first_zero T, flat_length (line_trips T) (line_first T) e l 0, ap (line_first T) z)

entries_split : (T : Timetable) (l r : ℕ) → lines_of T ≡ l + suc r
    → entries_of T ≡ flat_map (line_trips T) (upto l) ++ (line_trips T l ++ flat_map (line_trips T) (tab_from (λ j. j) (suc l) r))
unfolding entries_of flat_map tab_from
entries_split T l r n =
    ap (λ (k : ℕ). flat_map (line_trips T) (upto k)) n
    ∙ flat_split (line_trips T) l 0 (suc r)
    ∙ ap (λ (k : ℕ). flat_map (line_trips T) (upto l) ++ flat_map (line_trips T) (tab_from (λ j. j) k (suc r))) (zero-add l)

-- the entries of a line's run are its trips: in number order, stably sorted by first departure
pub run_is : (T : Timetable) (l : ℕ) → l < lines_of T → take (line_count T l) (drop (line_first T l) (entries_of T)) ≡ line_trips T l
run_is T l h =
    let later = flat_map (line_trips T) (tab_from (λ j. j) (suc l) (lines_of T - suc l)) in
    ap (λ (m : List ℕ). take (line_count T l) (drop (line_first T l) m)) (entries_split T l (lines_of T - suc l) (omega arith))
    ∙ ap (take (line_count T l)) (drop_at (flat_map (line_trips T) (upto l)) (line_trips T l ++ later) (line_first T l) (before_size T l))
    ∙ take_at (line_trips T l) later (line_count T l) (trips_count T l)

pub run_entry : (T : Timetable) (l k : ℕ) → l < lines_of T → k < line_count T l → entry_at T (line_first T l + k) ≡ get_or (line_trips T l) k 0
run_entry T l k h u =
    sym (get_or-take (line_count T l) (drop (line_first T l) (entries_of T)) k 0 u ∙ get_or-drop (line_first T l) (entries_of T) k 0)
    ∙ ap (λ (m : List ℕ). get_or m k 0) (run_is T l h)

-- THE ENTRIES: as many as trips, each one a trip, each trip once
pub entries_length : (T : Timetable) → length (entries_of T) ≡ T.trips
unfolding entries_of
entries_length T = before_size T (lines_of T) ∙ first_last T

pub each_once : (T : Timetable) (i : ℕ) → i < T.trips → tally (λ y. eqb y i) (entries_of T) ≡ 1
unfolding entries_of
each_once T i h =
    flat_tally (λ y. eqb y i) (line_trips T) (line_of T i) 0 (lines_of T) (omega arith) (omega (arith, line-below T i h)) (λ k u. other_tally T i k u) ∙ own_tally T i h

module _ (T : Timetable) (p : ℕ) (h : p < T.trips) where
  -- some line's run has place p
  record Held : Type 0 where
    line : ℕ
    known : line < lines_of T
    run : InLineRun T line p

  held : Held
  held = go (lines_of T) (omega arith) (omega (arith, first_last T))
    where
      go : (l : ℕ) → l ≤ lines_of T → p < line_first T l → Held
      go zero u v = absurd (omega (arith, first_zero T))
      go (suc l) u v =
          ⊎_elim (λ (w : p < line_first T l). go l (omega arith) w)
          (λ (w : line_first T l ≤ p). record { line = l; known = omega arith; run = record { from = w; before = omega (arith, first_next T l) } })
          (split p (line_first T l))

  -- the run's line is one of the lines
  run_known : (l : ℕ) → InLineRun T l p → l < lines_of T
  unfolding line_first
  run_known l r =
      ⊎_elim (λ (u : l < lines_of T). u)
      (λ (u : lines_of T ≤ l). absurd (omega (arith, r.from, count_each (line_below T l) T.trips (λ k v. lt-ltb (line_of T k) l (omega (arith, line-below T k v))))))
      (split l (lines_of T))

  run_trip : (l : ℕ) → InLineRun T l p → entry_at T p ≡ get_or (line_trips T l) (p - line_first T l) 0
  run_trip l r =
      let e : line_first T l + (p - line_first T l) ≡ p = omega (arith, r.from) in
      ap (entry_at T) (sym e) ∙ run_entry T l (p - line_first T l) (run_known l r) (omega (arith, r.from, r.before))

  run_of_line : (l : ℕ) → InLineRun T l p → OfLine T l (entry_at T p)
  run_of_line l r = rw (run_trip l r) (of-line T l (p - line_first T l) (omega (arith, trips_count T l, r.from, r.before)))

  pub entry_trip : entry_at T p < T.trips
  entry_trip = (run_of_line held.line held.run).trip

  -- what stands at p has line l exactly where p is in l's run
  pub in_run : (l : ℕ) → InLineRun T l p → line_of T (entry_at T p) ≡ l
  in_run l r = (run_of_line l r).line

  pub run_of : InLineRun T (line_of T (entry_at T p)) p
  run_of = subst (λ (l : ℕ). InLineRun T l p) (sym (in_run held.line held.run)) held.run

-- trip i stands at a place of its line's run
pub record Standing (T : Timetable) (i : ℕ) : Type 0 where
  pub at : ℕ
  pub below : at < T.trips
  pub entry : entry_at T at ≡ i
  pub run : InLineRun T (line_of T i) at

pub stands : (T : Timetable) (i : ℕ) → i < T.trips → Standing T i
stands T i h =
    let r = tally_found (λ y. eqb y i) (entries_of T) (omega (arith, each_once T i h)) in
    let u : r.at < T.trips = omega (arith, r.below, entries_length T) in
    let e : entry_at T r.at ≡ i = eqb-true (entry_at T r.at) i r.passes in
    record { at = r.at; below = u; entry = e; run = rw e at (run_of T r.at u) }

-- inside a line's run, as inside the line
pub in_order : (T : Timetable) (p q : ℕ) → p < q → q < T.trips → line_of T (entry_at T p) ≡ line_of T (entry_at T q) → Before (first_departure T) (entry_at T p) (entry_at T q)
in_order T p q u v e =
    let x : p < T.trips = omega arith in
    let l = line_of T (entry_at T p) in
    let r : InLineRun T l p = run_of T p x in
    let s : InLineRun T l q = subst (λ (k : ℕ). InLineRun T k q) (sym e) (run_of T q v) in
    subst (λ (y : ℕ). Before (first_departure T) y (entry_at T q)) (sym (run_trip T p x l r))
    (subst (λ (y : ℕ). Before (first_departure T) (get_or (line_trips T l) (p - line_first T l) 0) y) (sym (run_trip T q v l s))
    (line_order T l (p - line_first T l) (q - line_first T l) (omega (arith, r.from)) (omega (arith, s.from, s.before, trips_count T l))))
