-- What a yes to each question gives.
use Prim.Native.Nat.{ℕ, suc, max, ◌+◌, ◌-◌, ◌*◌, ◌^◌, ◌<◌, ◌≤◌}
use mathlib.Core.Path.{◌≡◌, ◌∙◌, ap, ap₂, refl}
use mathlib.Core.Bool.{Bool, true, false, ◌&&◌}
use mathlib.Core.List.{List}
use native.Mathlib.Omega.{arith}
use native.Mathlib.Numerals.{add-one}
use lib.ListN.{length, get_or}
use lib.Dec.{leb, ltb}
use lib.Bits.{bit_or}
use borrow.Author.Tests.{eqb-true, leb-true, ltb-true}
use Rattle.loops.specs.Iter.{every_in}
use Rattle.loops.proofs.Iter.{and_left, and_right, every_in_at, every_keep, every_kept, every_both}
use Rattle.loops.proofs.Most.{max_most, or_most}
use Rattle.tables.specs.declared.Counts.{Counts}
use Rattle.tables.specs.declared.Check.{Check}
use Rattle.tables.specs.declared.Check.TheVariants.{TripRuns, StopTimeNumbers, EdgeNumbers, StopTimeRanges, TripRanges, WindowRanges, EdgeRanges, EdgeOrder}
use Rattle.tables.specs.Tables.{count_of, first_of, timetable_size, trip_of, edge_of, time_of, window_of}
use Rattle.tables.specs.Door.{counts_ok, slices_ok, trip_runs, stop_time_numbers, edge_numbers, stop_time_ranges, trip_ranges, window_ranges, edge_ranges, edge_rises, row_count_of, row_ok, every_row, runs_ok, numbers_ok, ranges_ok, order_ok}
use Rattle.tables.specs.Sane.{CountsOk, SlicesOk, RunsOk, NumbersOk, RangesOk, OrderOk, Sane}

-- two, and four, tests joined
pub record Two (a b : Bool) : Type 0 where
  pub one : a ≡ true
  pub two : b ≡ true

pub two : (a b : Bool) → a && b ≡ true → Two a b
two a b h = record { one = and_left a b h; two = and_right a b h }

-- the first is yes, not both are: the second is no
pub second_no : (a b : Bool) → a && b ≡ false → a ≡ true → b ≡ false
second_no true b h e = h
second_no false b h e = let z : ◌≡◌ {A = ℕ} 0 1 = cc in absurd (omega arith)

row : (t : List ℕ) (c : Counts) (k : Check) (i : ℕ) → every_row t c k ≡ true → i < row_count_of k c → row_ok t c k i ≡ true
row t c k i h l = every_in_at (row_ok t c k) (row_count_of k c) i h l

pub counts_yes : (c : Counts) → counts_ok c ≡ true → CountsOk c
unfolding counts_ok
counts_yes c h =
    let x = two (leb c.stops 4096 && leb c.trips 4096) ((leb c.times 65536 && leb c.windows 65536) && leb c.edges 65536) h in
    let a = two (leb c.stops 4096) (leb c.trips 4096) x.one in
    let y = two (leb c.times 65536 && leb c.windows 65536) (leb c.edges 65536) x.two in
    let b = two (leb c.times 65536) (leb c.windows 65536) y.one in
    record {
      stops = leb-true _ _ a.one;
      trips = leb-true _ _ a.two;
      times = leb-true _ _ b.one;
      windows = leb-true _ _ b.two;
      edges = leb-true _ _ y.two;
    }

pub slices_yes : (t : List ℕ) (c : Counts) → slices_ok t c ≡ true → SlicesOk t c
unfolding slices_ok
slices_yes t c h = record { size = eqb-true (length t) (timetable_size c) h }

pub runs_yes : (t : List ℕ) (c : Counts) → runs_ok t c ≡ true → RunsOk t c
unfolding runs_ok trip_runs
runs_yes t c h = record { some = λ i l. ltb-true _ _ (all i l).one; run = λ i l. leb-true _ _ (rest i l).one; windows = λ i l. leb-true _ _ (rest i l).two }
  where
    all : (i : ℕ) → i < c.trips → Two (ltb 0 (count_of t c i)) (leb (first_of t c i + count_of t c i) c.times && leb (trip_of t c i 4 + trip_of t c i 5) c.windows)
    all i l = two (ltb 0 (count_of t c i)) (leb (first_of t c i + count_of t c i) c.times && leb (trip_of t c i 4 + trip_of t c i 5) c.windows) (row t c TripRuns i h l)

    rest : (i : ℕ) → i < c.trips → Two (leb (first_of t c i + count_of t c i) c.times) (leb (trip_of t c i 4 + trip_of t c i 5) c.windows)
    rest i l = two (leb (first_of t c i + count_of t c i) c.times) (leb (trip_of t c i 4 + trip_of t c i 5) c.windows) (all i l).two

pub numbers_yes : (t : List ℕ) (c : Counts) → numbers_ok t c ≡ true → NumbersOk t c
unfolding numbers_ok stop_time_numbers edge_numbers
numbers_yes t c h =
    record { stop = λ i l. ltb-true _ _ (row t c StopTimeNumbers i x.one l); from = λ i l. ltb-true _ _ (both i l).one; to = λ i l. ltb-true _ _ (both i l).two }
  where
    x : Two (every_row t c StopTimeNumbers) (every_row t c EdgeNumbers)
    x = two (every_row t c StopTimeNumbers) (every_row t c EdgeNumbers) h

    both : (i : ℕ) → i < c.edges → Two (ltb (edge_of t c i 0) c.stops) (ltb (edge_of t c i 1) c.stops)
    both i l = two (ltb (edge_of t c i 0) c.stops) (ltb (edge_of t c i 1) c.stops) (row t c EdgeNumbers i x.two l)

pub ranges_yes : (t : List ℕ) (c : Counts) → ranges_ok t c ≡ true → RangesOk t c
unfolding ranges_ok stop_time_ranges trip_ranges window_ranges edge_ranges
ranges_yes t c h =
    record {
      arrival = λ i l. leb-true _ _ (times i l).one;
      departure = λ i l. leb-true _ _ (times i l).two;
      pickup = λ i l. leb-true _ _ (codes i l).one;
      drop_off = λ i l. leb-true _ _ (codes i l).two;
      mode = λ i l. leb-true _ _ (kinds i l).one;
      wheelchair = λ i l. leb-true _ _ (kinds i l).two;
      active = λ i l. leb-true _ _ (bytes i l).one;
      excluded = λ i l. leb-true _ _ (bytes i l).two;
      start = λ i l. leb-true _ _ (begins i l).one;
      end = λ i l. leb-true _ _ (ends i l).one;
      headway = λ i l. leb-true _ _ (ends i l).two;
      duration = λ i l. leb-true _ _ (walks i l).one;
      pathway = λ i l. leb-true _ _ (walks i l).two;
    }
  where
    x : Two (every_row t c StopTimeRanges && every_row t c TripRanges) (every_row t c WindowRanges && every_row t c EdgeRanges)
    x = two (every_row t c StopTimeRanges && every_row t c TripRanges) (every_row t c WindowRanges && every_row t c EdgeRanges) h

    a : Two (every_row t c StopTimeRanges) (every_row t c TripRanges)
    a = two (every_row t c StopTimeRanges) (every_row t c TripRanges) x.one

    b : Two (every_row t c WindowRanges) (every_row t c EdgeRanges)
    b = two (every_row t c WindowRanges) (every_row t c EdgeRanges) x.two

    timed : (i : ℕ) → i < c.times → Two (leb (time_of t i 1) 1048575 && leb (time_of t i 2) 1048575) (leb (time_of t i 4) 3 && leb (time_of t i 5) 3)
    timed i l = two (leb (time_of t i 1) 1048575 && leb (time_of t i 2) 1048575) (leb (time_of t i 4) 3 && leb (time_of t i 5) 3) (row t c StopTimeRanges i a.one l)

    times : (i : ℕ) → i < c.times → Two (leb (time_of t i 1) 1048575) (leb (time_of t i 2) 1048575)
    times i l = two (leb (time_of t i 1) 1048575) (leb (time_of t i 2) 1048575) (timed i l).one

    codes : (i : ℕ) → i < c.times → Two (leb (time_of t i 4) 3) (leb (time_of t i 5) 3)
    codes i l = two (leb (time_of t i 4) 3) (leb (time_of t i 5) 3) (timed i l).two

    coded : (i : ℕ) → i < c.trips → Two (leb (trip_of t c i 2) 6 && leb (trip_of t c i 3) 2) (leb (trip_of t c i 6) 1 && leb (trip_of t c i 7) 1)
    coded i l = two (leb (trip_of t c i 2) 6 && leb (trip_of t c i 3) 2) (leb (trip_of t c i 6) 1 && leb (trip_of t c i 7) 1) (row t c TripRanges i a.two l)

    kinds : (i : ℕ) → i < c.trips → Two (leb (trip_of t c i 2) 6) (leb (trip_of t c i 3) 2)
    kinds i l = two (leb (trip_of t c i 2) 6) (leb (trip_of t c i 3) 2) (coded i l).one

    bytes : (i : ℕ) → i < c.trips → Two (leb (trip_of t c i 6) 1) (leb (trip_of t c i 7) 1)
    bytes i l = two (leb (trip_of t c i 6) 1) (leb (trip_of t c i 7) 1) (coded i l).two

    begins : (i : ℕ) → i < c.windows → Two (leb (window_of t c i 0) 1048575) (leb (window_of t c i 1) 1048575 && leb (window_of t c i 2) 1048575)
    begins i l = two (leb (window_of t c i 0) 1048575) (leb (window_of t c i 1) 1048575 && leb (window_of t c i 2) 1048575) (row t c WindowRanges i b.one l)

    ends : (i : ℕ) → i < c.windows → Two (leb (window_of t c i 1) 1048575) (leb (window_of t c i 2) 1048575)
    ends i l = two (leb (window_of t c i 1) 1048575) (leb (window_of t c i 2) 1048575) (begins i l).two

    walks : (i : ℕ) → i < c.edges → Two (leb (edge_of t c i 2) 1048575) (leb (edge_of t c i 3) 7)
    walks i l = two (leb (edge_of t c i 2) 1048575) (leb (edge_of t c i 3) 7) (row t c EdgeRanges i b.two l)

pub order_yes : (t : List ℕ) (c : Counts) → order_ok t c ≡ true → OrderOk t c
unfolding order_ok edge_rises
order_yes t c h = record { rise = λ i l. rw add-one (leb-true (edge_of t c i 0) (edge_of t c (suc i) 0) (row t c EdgeOrder (suc i) h (omega arith))) }

-- questions 1 to 5 together
pub sane : (t : List ℕ) (c : Counts) → counts_ok c ≡ true → slices_ok t c ≡ true → runs_ok t c ≡ true → numbers_ok t c ≡ true → ranges_ok t c ≡ true → Sane t c
sane t c a b d e f = record { counts = counts_yes c a; slices = slices_yes t c b; runs = runs_yes t c d; numbers = numbers_yes t c e; ranges = ranges_yes t c f }

-- questions 4 and 5 of a stop time, and what the loop over the stop times keeps of those that it passed: the greatest stop plus one, all
-- bits of the times and of the codes
abbrev pub in_range : List ℕ → Counts → ℕ → Bool
in_range t c i = row_ok t c StopTimeNumbers i && row_ok t c StopTimeRanges i

abbrev pub kept : Counts → ℕ → ℕ → ℕ → Bool
kept c stops times codes = leb stops c.stops && (leb times 1048575 && leb codes 3)

pub kept_turn : (t : List ℕ) (c : Counts) (i m a k : ℕ)
    → kept c (max m (time_of t i 0 + 1)) (bit_or a (bit_or (time_of t i 1) (time_of t i 2))) (bit_or k (bit_or (time_of t i 4) (time_of t i 5))) ≡ kept c m a k && in_range t c i
unfolding stop_time_numbers stop_time_ranges
kept_turn t c i m a k =
    ap₂ ◌&&◌ (max_most m (time_of t i 0 + 1) c.stops ∙ ap (λ (x : ℕ). leb m c.stops && leb x c.stops) (add-one (time_of t i 0))) (ap₂ ◌&&◌ (bits 20 1048575 refl a (time_of t i 1) (time_of t i 2)) (bits 2 3 refl k (time_of t i 4) (time_of t i 5)))
    ∙ go (leb m c.stops) (ltb (time_of t i 0) c.stops) (leb a 1048575) (leb (time_of t i 1) 1048575 && leb (time_of t i 2) 1048575) (leb k 3) (leb (time_of t i 4) 3 && leb (time_of t i 5) 3)
  where
    bits : (e n : ℕ) → n + 1 ≡ 2 ^ e → (x y z : ℕ) → leb (bit_or x (bit_or y z)) n ≡ leb x n && (leb y n && leb z n)
    bits e n h x y z = or_most e x (bit_or y z) n h ∙ ap (λ (b : Bool). leb x n && b) (or_most e y z n h)

    go : (m s a x k p : Bool) → (m && s) && ((a && x) && (k && p)) ≡ (m && (a && k)) && (s && (x && p))
    go false s a x k p = refl
    go true true false x k p = refl
    go true true true true k p = refl
    go true true true false true p = refl
    go true true true false false p = refl
    go true false false x k p = refl
    go true false true x true p = refl
    go true false true x false p = refl

-- one turn of that loop, by the numbers as they were read, and its end
pub kept_next : (t : List ℕ) (c : Counts) (i m a k : ℕ) {whole : Bool} {l : ℕ} → whole ≡ kept c m a k && every_in (in_range t c) i c.times → l ≡ max m (get_or t (i * 6) 0 + 1) → i < c.times
    → whole ≡ kept c l (bit_or a (bit_or (get_or t (i * 6 + 1) 0) (get_or t (i * 6 + 2) 0))) (bit_or k (bit_or (get_or t (i * 6 + 4) 0) (get_or t (i * 6 + 5) 0))) && every_in (in_range t c) (i + 1) c.times
unfolding time_of
kept_next t c i m a k h e u =
    let z : i * 6 ≡ i * 6 + 0 = omega arith in
    let q = e ∙ ap (λ (x : ℕ). max m (get_or t x 0 + 1)) z in
    every_keep (in_range t c) i c.times (kept c m a k) h (rw q (kept_turn t c i m a k)) u

pub kept_all : (t : List ℕ) (c : Counts) (i m a k : ℕ) → every_in (in_range t c) 0 c.times ≡ kept c m a k && every_in (in_range t c) i c.times → c.times ≤ i
    → kept c m a k ≡ every_row t c StopTimeNumbers && every_row t c StopTimeRanges
kept_all t c i m a k h u =
    every_kept (in_range t c) i c.times (kept c m a k) h u ∙ every_both (row_ok t c StopTimeNumbers) (row_ok t c StopTimeRanges) 0 (c.times - 0)
