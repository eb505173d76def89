-- A trip's stop times and its windows by the numbers that the slices hold.
use Prim.Native.Nat.{ℕ, ◌+◌, ◌*◌, ◌-◌, ◌<◌, ◌≤◌}
use mathlib.Core.Path.{◌≡◌, refl, ap, sym, ◌∙◌}
use mathlib.Core.List.{List}
use native.Mathlib.Omega.{arith}
use native.Mathlib.Nat.{add-zero}
use lib.ListN.{length, get_or, take, drop, length-drop}
use lib.Seq.{get_or-drop, get_or-take, length-take-le}
use Rattle.loops.proofs.Iter.{iter_as}
use Rattle.tables.specs.Sane.{Sane}
use Rattle.frequency.specs.Gtfs.{Window, window_from, window_count, window_in, earliest_freq_board, board_next, earlier_of, window_board, Nominal}
use Rattle.loops.specs.Iter.{found}
use Rattle.loops.proofs.Search.{hit_below}
use Rattle.tables.specs.declared.Counts.{Counts}
use Rattle.tables.specs.Tables.{time_of, trip_of, first_of, windows_at, window_of as table_window}
use Rattle.tables.specs.Timetable.{timetable}
use Rattle.std.specs.Prelude.{Option, None}
use Rattle.delay_lookup.proofs.Search.{found_hit}
use Rattle.delay_rows.specs.Delays.{delay_row}
use Rattle.delay_rows.specs.Flat.{delays_alone}
use Rattle.frequency.specs.declared.BoardedRun.{BoardedRun}
use Rattle.trip_boarding.specs.Reads.{Known, Event}
use Rattle.trip_boarding.specs.Frequency.{freq_board_at}

-- boardings over windows that agree
pub windows_ext : (n : ℕ) (w v : ℕ → Window) (base dep after : ℕ) → ((k : ℕ) → k < n → w k ≡ v k) → earliest_freq_board n w base dep after ≡ earliest_freq_board n v base dep after
unfolding earliest_freq_board
windows_ext n w v base dep after h =
    iter_as (λ x. x) (board_next w base dep after) (board_next v base dep after) 0 (n - 0) None
    (λ k x l u. ap (λ (y : Window). earlier_of x (window_board y k base dep after)) (h k (omega arith)))

pub known_of : (rows : List ℕ) (trip : ℕ) (r : Option ℕ) → r ≡ found (delay_row (delays_alone rows) trip) → Known rows r
known_of rows trip r e = record { below = λ i q. hit_below _ _ i (found_hit (delay_row (delays_alone rows) trip) i (sym e ∙ q)) }

-- a trip's stop time is one of the table's
pub event_time : (t : List ℕ) (c : Counts) (i o : ℕ) → Sane t c → Event t c i o → first_of t c i + o < c.times
event_time t c i o s e = omega (arith, s.runs.run i e.trip, e.offset)

-- the windows of a trip are a part of the timetable's slice
abbrev pub piece : ℕ → ℕ → List ℕ → List ℕ
piece f e l = take (e - f) (drop f l)

piece_at : (f e : ℕ) (l : List ℕ) (k : ℕ) → f + k < e → get_or (piece f e l) k 0 ≡ get_or l (f + k) 0
piece_at f e l k h = get_or-take (e - f) (drop f l) k 0 (omega arith) ∙ get_or-drop f l k 0

piece_length : (f e : ℕ) (l : List ℕ) → e ≤ length l → length (piece f e l) ≡ e - f
piece_length f e l h = length-take-le (e - f) (drop f l) (simp length-drop (omega arith))

module _ (t : List ℕ) (c : Counts) (i from end : ℕ) (s : Sane t c) (u : i < c.trips) (ef : from ≡ windows_at c + trip_of t c i 4 * 3) (ee : end ≡ from + trip_of t c i 5 * 3) where
  pub part_fits : end ≤ length t
  part_fits = omega (arith, s.runs.windows i u, s.slices.size)

  pub part_count : window_count (piece from end t) ≡ trip_of t c i 5
  part_count = let q : length (piece from end t) ≡ trip_of t c i 5 * 3 = piece_length from end t part_fits ∙ omega arith in omega arith

  word_is : (k j : ℕ) → k < trip_of t c i 5 → j < 3 → get_or (piece from end t) (3 * k + j) 0 ≡ table_window t c (trip_of t c i 4 + k) j
  unfolding table_window
  word_is k j l m =
      piece_at from end t (3 * k + j) (omega arith)
      ∙ ap (λ (x : ℕ). get_or t x 0) (omega arith)

  word_first : (k : ℕ) → k < trip_of t c i 5 → get_or (piece from end t) (3 * k) 0 ≡ table_window t c (trip_of t c i 4 + k) 0
  word_first k l = ap (λ (x : ℕ). get_or (piece from end t) x 0) (sym (add-zero (3 * k))) ∙ word_is k 0 l (omega arith)

  pub part_window : (k : ℕ) → k < trip_of t c i 5 → window_in (piece from end t) k ≡ window_from (table_window t c (trip_of t c i 4 + k) 0) (table_window t c (trip_of t c i 4 + k) 1) (table_window t c (trip_of t c i 4 + k) 2)
  part_window k l =
      rw (word_first k l, word_is k 1 l (omega arith), word_is k 2 l (omega arith)) refl

  pub part_nominal : (base dep after : ℕ) → base ≤ 1048575 → dep ≤ 2097150 → after < 134217728 → Nominal (window_count (piece from end t)) (window_in (piece from end t)) base dep after
  part_nominal base dep after hb hd ha =
      let w = s.runs.windows i u in
      record {
        few = rw part_count (omega (arith, s.counts.windows));
        starts = λ k l. let m : k < trip_of t c i 5 = rw part_count at l in rw (word_first k m) (s.ranges.start (trip_of t c i 4 + k) (omega arith));
        ends = λ k l. let m : k < trip_of t c i 5 = rw part_count at l in rw (word_is k 1 m (omega arith)) (s.ranges.end (trip_of t c i 4 + k) (omega arith));
        headways = λ k l. let m : k < trip_of t c i 5 = rw part_count at l in rw (word_is k 2 m (omega arith)) (s.ranges.headway (trip_of t c i 4 + k) (omega arith));
        template = hb;
        departs = omega arith;
        ready = ha;
      }

  pub part_board : (base dep after : ℕ) (r : Option BoardedRun) → base ≡ time_of t (first_of t c i + 0) 2 → r ≡ earliest_freq_board (window_count (piece from end t)) (window_in (piece from end t)) base dep after
      → r ≡ freq_board_at (timetable t c) i dep after
  part_board base dep after r eb er =
      er ∙ ap (λ (n : ℕ). earliest_freq_board n (window_in (piece from end t)) base dep after) part_count
      ∙ windows_ext (trip_of t c i 5) (window_in (piece from end t)) (λ k. window_from (table_window t c (trip_of t c i 4 + k) 0) (table_window t c (trip_of t c i 4 + k) 1) (table_window t c (trip_of t c i 4 + k) 2)) base dep after part_window
      ∙ ap (λ (b : ℕ). earliest_freq_board (trip_of t c i 5) (λ k. window_from (table_window t c (trip_of t c i 4 + k) 0) (table_window t c (trip_of t c i 4 + k) 1) (table_window t c (trip_of t c i 4 + k) 2)) b dep after) eb
