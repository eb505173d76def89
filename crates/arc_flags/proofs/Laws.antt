-- The model's arc flags by what the slices hold.
use Prim.Native.Nat.{ℕ, zero, suc, ◌+◌, ◌*◌, ◌-◌, ◌/◌, ◌<◌, ◌≤◌, min}
use Rattle.std.specs.Prelude.{Option, None, Some, is_some}
use Rattle.std.specs.Option.{unwrap_or}
use mathlib.Core.Path.{◌≡◌, refl, ap, ap₂, sym, ◌∙◌}
use mathlib.Core.Bool.{Bool, true, false, not, ◌&&◌, ◌||◌}
use mathlib.Core.List.{List, [], ◌∷◌}
use native.Mathlib.Omega.{arith}
use native.Mathlib.Numerals.{add-one}
use lib.ListN.{length, get_or}
use lib.Dec.{ltb, leb, eqb}
use borrow.Author.Tests.{lt-ltb, le-ltb, le-leb, lt-leb, leb-true, leb-false, ltb-true, ltb-false}
use Rattle.loops.specs.Iter.{some, some_in, first_in, found, Hit, hit, miss}
use Rattle.loops.specs.Count.{tab_from, count, one}
use Rattle.loops.proofs.Iter.{and_left, and_right, first_found, first_none, some_at, some_none, some_found, some_ext}
use Rattle.loops.proofs.Search.{clash}
use Rattle.loops.proofs.Count.{count_mono, count_lt}
use Rattle.cell_bitset.specs.declared.CellBitSet.{CellBitSet}
use Rattle.cell_bitset.specs.CellSet.{empty_set, with_cell, byte_of, meets, holds_none}
use Rattle.cell_bitset.proofs.Laws.{bytes_new, bytes_set, bytes_of, meets_row, none_words}
use Rattle.byte_words.specs.ByteWord.{Bytes, byte_in, words_of, has_bit, both_have}
use Rattle.tables.specs.declared.Counts.{Counts}
use Rattle.tables.specs.Tables.{cell_of, stops_at, edge_of}
use Rattle.tables.specs.Timetable.{Timetable, timetable}
use Rattle.model.specs.Tables.{Tables, Query}
use Rattle.model.specs.Search.{some_transfer, targets_from, target_cells, holds_target, use_arc_flags, skips_edge, skips_transfer, flags_in_use}
use Rattle.arc_flags.specs.Flags.{egress_row_at, egress_rows}
use Rattle.arc_flags.specs.Skipping.{target_words, Patterned, event_run_first, event_run_length, RunsIn, run_has, row_skipped, run_some, some_run, within_run, CountedFrom, Transferring}
use Rattle.event_transfers.specs.Transfers.{Transfer, transfer_at, events_before}
use native.Mathlib.Nat.{min-eq_left, min-eq_right, add-zero, add-suc, suc-add, zero-add}

pub cell_is : (T : Tables) (t : List ℕ) (c : Counts) → T.timetable ≡ timetable t c → (s : ℕ) → T.timetable.cell s ≡ get_or t (stops_at c + s) 0
unfolding cell_of
cell_is T t c e s = ap (λ (X : Timetable). X.cell s) e

-- the egress rows one by one
module _ (T : Tables) (egress : List ℕ) (n : ℕ) where
  abbrev pub ahead : ℕ → CellBitSet → CellBitSet
  ahead i s = targets_from T (tab_from (egress_row_at egress) i (n - i)) s

  pub ahead_first : (Q : Query) (cells : ℕ) (s : CellBitSet) → n ≡ length egress / 2 → T.cells ≡ cells → Q.egress ≡ egress_rows egress → s ≡ empty_set cells → target_cells T Q ≡ ahead 0 s
  unfolding target_cells
  ahead_first Q cells s en ec eq es =
      let z : length egress / 2 - 0 ≡ n - 0 = omega arith in
      ap₂ (λ (l : List (ℕ × ℕ)) (k : ℕ). targets_from T l (empty_set k)) eq ec
      ∙ ap₂ (λ (m : ℕ) (x : CellBitSet). targets_from T (tab_from (egress_row_at egress) 0 m) x) (omega arith) (sym es)

  pub ahead_step : (i cell : ℕ) (s s' : CellBitSet) → i < n → cell ≡ T.timetable.cell (get_or egress (i * 2) 0) → s' ≡ with_cell s cell → ahead i s ≡ ahead (i + 1) s'
  unfolding targets_from tab_from
  ahead_step i cell s s' h ec es =
      let e : n - i ≡ suc (n - (i + 1)) = omega arith in
      ap (λ (m : ℕ). targets_from T (tab_from (egress_row_at egress) i m) s) e
      ∙ ap₂ (λ (j : ℕ) (x : CellBitSet). targets_from T (tab_from (egress_row_at egress) j (n - (i + 1))) x) (sym (add-one i)) (sym (es ∙ ap (with_cell s) ec))

  pub ahead_end : (i : ℕ) (s : CellBitSet) → n ≤ i → s ≡ ahead i s
  unfolding targets_from tab_from
  ahead_end i s h = let e : n - i ≡ 0 = omega arith in sym (ap (λ (m : ℕ). targets_from T (tab_from (egress_row_at egress) i m) s) e)

-- the target cells stand in bytes
targets_bytes : (T : Tables) (l : List (ℕ × ℕ)) (s : CellBitSet) → Bytes (byte_in s.bytes) → Bytes (byte_in (targets_from T l s).bytes)
unfolding targets_from
targets_bytes T [] s b = b
targets_bytes T (e ∷ l) s b = targets_bytes T l (with_cell s (T.timetable.cell e.0)) (bytes_set s (T.timetable.cell e.0) b)

target_bytes : (T : Tables) (Q : Query) → Bytes (byte_of (target_cells T Q))
unfolding target_cells
target_bytes T Q = bytes_of (target_cells T Q) (targets_bytes T Q.egress (empty_set T.cells) (bytes_new T.cells))

-- a pattern
module _ (T : Tables) (Q : Query) (patterns : List ℕ) (count : ℕ) (g : Patterned T patterns count) (p : ℕ) where
  holds_as : (b : Bool) → ltb p T.patterns ≡ b → elim b [ true ↦ meets (T.pattern p) (target_cells T Q) | false ↦ true ] ≡ holds_target T Q p
  unfolding holds_target
  holds_as b z = sym (ap (λ (x : Bool). elim x as (λ y. Bool) [ true ↦ meets (T.pattern p) (target_cells T Q) | false ↦ true ]) z)

  pub holds_past : count ≤ p → true ≡ holds_target T Q p
  holds_past h = holds_as false (ap (ltb p) g.size ∙ le-ltb p count h)

  pub holds_in : (target : List ℕ) (r : Bool) → p < count → target ≡ target_words T Q
      → ((g : ℕ → ℕ) → Bytes g → target ≡ words_of g → r ≡ some_in (both_have (λ i. byte_in patterns (p * 64 + i)) g) 0 64) → r ≡ holds_target T Q p
  holds_in target r h et er =
      let t = target_cells T Q in
      er (byte_of t) (target_bytes T Q) et
      ∙ meets_row (λ i. byte_in patterns (p * 64 + i)) (T.pattern p) t (target_bytes T Q) (g.pattern p h)
      ∙ holds_as true (ap (ltb p) g.size ∙ lt-ltb p count h)

pub flags_is : (T : Tables) (Q : Query) (count : ℕ) (target : List ℕ) (off a r : Bool) → T.patterns ≡ count → Q.flags_off ≡ off → target ≡ target_words T Q
    → ((g : ℕ → ℕ) → target ≡ words_of g → a ≡ not (some_in (has_bit g) 0 64)) → r ≡ ((not a && not (eqb count 0)) && not off) → r ≡ use_arc_flags T Q
unfolding use_arc_flags
flags_is T Q count target off a r ec eo et ea er =
    let none : a ≡ holds_none (target_cells T Q) = ea (byte_of (target_cells T Q)) et ∙ none_words (target_cells T Q) (target_bytes T Q) in
    rw (er, none, ec, eo) refl

or_no : (b : Bool) → b || false ≡ b
or_no true = refl
or_no false = refl

or_again : (a b c : Bool) → a || (b || c) ≡ (a || b) || c
or_again true b c = refl
or_again false b c = refl

-- the walk edges
pub skips_first : (T : Tables) (Q : Query) (t : List ℕ) (c : Counts) → T.timetable ≡ timetable t c
    → some_in (λ k. not (holds_target T Q (edge_of t c k 4))) 0 c.edges ≡ skips_edge T Q
unfolding skips_edge
skips_first T Q t c e = sym (ap (λ (X : Timetable). some_in (λ k. not (holds_target T Q (X.edge k).pattern)) 0 X.edges) e)

-- the transfers of an event, as a list and by their numbers
pub transfer_list : (p : Transfer → Bool) (f : ℕ → Transfer) (i n : ℕ) → some_transfer p (tab_from f i n) ≡ some (λ k. p (f k)) i n
unfolding some_transfer tab_from some
transfer_list p f i zero = refl
transfer_list p f i (suc n) = ap (λ (b : Bool). p (f i) || b) (transfer_list p f (suc i) n)

-- one number more; two ranges, one after the other
pub some_last : (f : ℕ → Bool) (i n : ℕ) → some f i (suc n) ≡ some f i n || f (i + n)
unfolding some
some_last f i zero = or_no (f i) ∙ ap f (sym (add-zero i))
some_last f i (suc n) =
    ap (λ (b : Bool). f i || b) (some_last f (suc i) n)
    ∙ or_again (f i) (some f (suc i) n) (f (suc i + n))
    ∙ ap (λ (k : ℕ). (f i || some f (suc i) n) || f k) (suc-add i n ∙ sym (add-suc i n))

pub some_two : (f : ℕ → Bool) (a b : ℕ) → some f 0 (a + b) ≡ some f 0 a || some (λ o. f (a + o)) 0 b
unfolding some
some_two f a zero = ap (some f 0) (add-zero a) ∙ sym (or_no (some f 0 a))
some_two f a (suc b) =
    ap (some f 0) (add-suc a b)
    ∙ some_last f 0 (a + b)
    ∙ ap₂ (λ (x : Bool) (k : ℕ). x || f k) (some_two f a b) (zero-add (a + b))
    ∙ sym (or_again (some f 0 a) (some (λ o. f (a + o)) 0 b) (f (a + b)))
    ∙ ap (λ (x : Bool). some f 0 a || x) (sym (some_last (λ o. f (a + o)) 0 b ∙ ap (λ (k : ℕ). some (λ o. f (a + o)) 0 b || f (a + k)) (zero-add b)))

-- what a search for some number says of one of them
pub some_none_at : (f : ℕ → Bool) (n k : ℕ) → some_in f 0 n ≡ false → k < n → f k ≡ false
some_none_at f n k e h = go (f k) refl
  where
    go : (b : Bool) → f k ≡ b → b ≡ false
    go true q = absurd (clash (some_at f 0 (n - 0) k q (omega arith) (omega arith)) e)
    go false q = refl

-- the count grows over a range exactly where some number in it passes
pub count_zero : (f : ℕ → Bool) → 0 ≡ count f 0
unfolding count
count_zero f = refl

pub count_none : (f : ℕ → Bool) (a m : ℕ) → ((k : ℕ) → k < m → f (a + k) ≡ false) → count f (a + m) ≡ count f a
unfolding count
count_none f a zero h = ap (count f) (add-zero a)
count_none f a (suc m) h =
    ap (count f) (add-suc a m)
    ∙ ap₂ (λ (x : ℕ) (b : Bool). x + one b) (count_none f a m (λ k l. h k (omega arith))) (h m (omega arith))
    ∙ add-zero (count f a)

pub count_grows : (f : ℕ → Bool) (a m : ℕ) → ltb (count f a) (count f (a + m)) ≡ some_in (λ k. f (a + k)) 0 m
count_grows f a m = go (some_in (λ k. f (a + k)) 0 m) refl
  where
    go : (b : Bool) → some_in (λ k. f (a + k)) 0 m ≡ b → ltb (count f a) (count f (a + m)) ≡ b
    go true e =
        let p = some_found (λ k. f (a + k)) 0 (m - 0) e in
        let u : a + p.at < a + m = omega (arith, p.high) in
        lt-ltb (count f a) (count f (a + m)) (omega (arith, count_mono f a p.at, count_lt f (a + p.at) (a + m) u p.passes))
    go false e = le-ltb (count f a) (count f (a + m)) (omega (arith, count_none f a m (λ k l. some_none_at (λ j. f (a + j)) m k e l)))

-- the search for the first row that is skipped
pub first_all : (f : ℕ → Bool) (n k : ℕ) → None ≡ found (first_in f 0 n) → k < n → f k ≡ false
first_all f n k e u = go (first_in f 0 n) refl
  where
    go : (x : Hit) → first_in f 0 n ≡ x → f k ≡ false
    go (hit j) q = absurd (clash refl (sym (ap is_some (e ∙ ap found q))))
    go miss q = first_none f 0 (n - 0) k q (omega arith) (omega arith)

pub first_here : (f : ℕ → Bool) (n k : ℕ) → Some k ≡ found (first_in f 0 n) → f k ≡ true
first_here f n k e = go (first_in f 0 n) refl
  where
    go : (x : Hit) → first_in f 0 n ≡ x → f k ≡ true
    go (hit j) q = ap f (ap (λ (o : Option ℕ). unwrap_or o 0) (e ∙ ap found q)) ∙ first_found f 0 (n - 0) j q
    go miss q = absurd (clash refl (ap is_some (e ∙ ap found q)))

-- the transfers of a trip, and of all trips by their events
abbrev pub trip_skips : Tables → Query → ℕ → Bool
trip_skips T Q i = some_in (λ o. some_transfer (λ e. not (holds_target T Q e.pattern)) (T.transfers i o)) 0 (T.timetable.trip i).count

module _ (T : Tables) (Q : Query) (runs area : List ℕ) (h : Transferring T runs area) where
  trip-at : (i : ℕ) → i < T.timetable.trips → trip_skips T Q i ≡ some (λ o. run_some (row_skipped T Q area) runs (events_before T.timetable i + o)) 0 (T.timetable.trip i).count
  trip-at i l =
      let m = (T.timetable.trip i).count in
      some_ext (λ o. some_transfer (λ x. not (holds_target T Q x.pattern)) (T.transfers i o)) (λ o. run_some (row_skipped T Q area) runs (events_before T.timetable i + o)) 0 (m - 0)
      (λ o a u. ap (some_transfer (λ x. not (holds_target T Q x.pattern))) (h.transfers i o l (omega arith))
      ∙ transfer_list (λ x. not (holds_target T Q x.pattern)) (λ k. transfer_at area (event_run_first runs (events_before T.timetable i + o) + k)) 0 (event_run_length runs (events_before T.timetable i + o))
      ∙ ap (some (λ k. row_skipped T Q area (event_run_first runs (events_before T.timetable i + o) + k)) 0) (omega arith))
      ∙ ap (some (λ o. run_some (row_skipped T Q area) runs (events_before T.timetable i + o)) 0) (omega arith)

  trips_events : (n : ℕ) → n ≤ T.timetable.trips → some (trip_skips T Q) 0 n ≡ some (run_some (row_skipped T Q area) runs) 0 (events_before T.timetable n)
  unfolding events_before some
  trips_events zero l = refl
  trips_events (suc n) l =
      some_last (trip_skips T Q) 0 n
      ∙ ap₂ ◌||◌ (trips_events n (omega arith)) (ap (trip_skips T Q) (zero-add n) ∙ trip-at n (omega arith))
      ∙ sym (some_two (run_some (row_skipped T Q area) runs) (events_before T.timetable n) (T.timetable.trip n).count)

  pub skips_events : skips_transfer T Q ≡ some_run (row_skipped T Q area) runs
  unfolding skips_transfer
  skips_events =
      let n = T.timetable.trips in
      let z : n - 0 ≡ n = omega arith in
      let y : events_before T.timetable n ≡ length runs / 2 - 0 = omega (arith, h.events) in
      ap (some (trip_skips T Q) 0) z ∙ trips_events n (omega arith) ∙ ap (some (run_some (row_skipped T Q area) runs) 0) y

  -- no row is skipped: no event skips; a run that has a row that is skipped: its event does
  pub rows_none : (rows : ℕ) → RunsIn runs rows → ((k : ℕ) → k < rows → row_skipped T Q area k ≡ false) → false ≡ skips_transfer T Q
  rows_none rows g f =
      sym (skips_events
      ∙ some_none (run_some (row_skipped T Q area) runs) 0 (length runs / 2 - 0)
      (λ e a u. some_none (λ k. row_skipped T Q area (event_run_first runs e + k)) 0 (event_run_length runs e - 0)
      (λ k b v. f (event_run_first runs e + k) (omega (arith, g.inside e (omega arith))))))

  pub run_skips : (k : ℕ) → some_in (run_has runs k) 0 (length runs / 2) ≡ true → row_skipped T Q area k ≡ true → true ≡ skips_transfer T Q
  run_skips k s f =
      let p = some_found (run_has runs k) 0 (length runs / 2 - 0) s in
      let e = p.at in
      let l = leb-true (event_run_first runs e) k (and_left (leb (event_run_first runs e) k) (ltb k (event_run_first runs e + event_run_length runs e)) p.passes) in
      let u = ltb-true k (event_run_first runs e + event_run_length runs e) (and_right (leb (event_run_first runs e) k) (ltb k (event_run_first runs e + event_run_length runs e)) p.passes) in
      let z : k ≡ event_run_first runs e + (k - event_run_first runs e) = omega (arith, l) in
      let y : run_some (row_skipped T Q area) runs e ≡ true =
      some_at (λ j. row_skipped T Q area (event_run_first runs e + j)) 0 (event_run_length runs e - 0) (k - event_run_first runs e) (ap (row_skipped T Q area) (sym z) ∙ f) (omega arith) (omega (arith, l, u)) in
      sym (skips_events ∙ some_at (run_some (row_skipped T Q area) runs) 0 (length runs / 2 - 0) e y p.low p.high)

-- a window: its rows pass as they are, no other row does
and_no : (a b : Bool) → (a && false) && b ≡ false
and_no true b = refl
and_no false b = refl

module _ (f : ℕ → Bool) (from n : ℕ) where
  within_in : (k : ℕ) → from ≤ k → k < from + n → within_run f from n k ≡ f k
  within_in k l u = ap₂ (λ (x y : Bool). (x && y) && f k) (le-leb from k l) (lt-ltb k (from + n) u)

  within_before : (k : ℕ) → k < from → within_run f from n k ≡ false
  within_before k u = ap (λ (x : Bool). (x && ltb k (from + n)) && f k) (lt-leb from k u)

  within_after : (k : ℕ) → from + n ≤ k → within_run f from n k ≡ false
  within_after k l = ap (λ (x : Bool). (leb from k && x) && f k) (le-ltb k (from + n) l) ∙ and_no (leb from k) (f k)

  -- its counts: of its first k rows, and before any row
  count_window : (k : ℕ) → k ≤ n → count (within_run f from n) (from + k) ≡ count (λ j. f (from + j)) k
  unfolding count
  count_window zero l =
      let z : from + 0 ≡ 0 + from = omega arith in
      ap (count (within_run f from n)) z ∙ count_none (within_run f from n) 0 from (λ k u. within_before (0 + k) (omega arith))
  count_window (suc k) l =
      ap (count (within_run f from n)) (add-suc from k)
      ∙ ap₂ (λ (x : ℕ) (b : Bool). x + one b) (count_window k (omega arith)) (within_in (from + k) (omega arith) (omega arith))

  module _ (counts : List ℕ) (h : CountedFrom f from n counts) where
    counted_at : (k : ℕ) → k ≤ n → get_or counts k 0 ≡ count (within_run f from n) (from + k)
    counted_at k l = h.before k l ∙ sym (count_window k l)

    counted_first : (k : ℕ) → k ≤ from → get_or counts 0 0 ≡ count (within_run f from n) k
    counted_first k l =
        let z : from + 0 ≡ k + (from - k) = omega arith in
        counted_at 0 (omega arith) ∙ ap (count (within_run f from n)) z ∙ count_none (within_run f from n) k (from - k) (λ j u. within_before (k + j) (omega arith))

    counted_end : (k : ℕ) → from < k → n ≤ k - from → get_or counts n 0 ≡ count (within_run f from n) k
    counted_end k u l =
        let z : k ≡ from + n + (k - (from + n)) = omega arith in
        counted_at n (omega arith)
        ∙ sym (ap (count (within_run f from n)) z ∙ count_none (within_run f from n) (from + n) (k - (from + n)) (λ j v. within_after (from + n + j) (omega arith)))

    counted_inside : (k : ℕ) → from < k → k - from < n → get_or counts (k - from) 0 ≡ count (within_run f from n) k
    counted_inside k u l = let z : from + (k - from) ≡ k = omega arith in counted_at (k - from) (omega arith) ∙ ap (count (within_run f from n)) z

    -- a row before the window counts as its first, a row after it as its end
    pub counted_by : (k : ℕ) → get_or counts (min (k - from) n) 0 ≡ count (within_run f from n) k
    counted_by k = go (leb k from) refl (leb n (k - from)) refl
      where
        go : (x : Bool) → leb k from ≡ x → (y : Bool) → leb n (k - from) ≡ y → get_or counts (min (k - from) n) 0 ≡ count (within_run f from n) k
        go true p y q = let z : k - from ≡ 0 = omega (arith, leb-true k from p) in let w : 0 ≤ n = omega arith in ap (λ (i : ℕ). get_or counts i 0) (ap (λ (i : ℕ). min i n) z ∙ min-eq_left w) ∙ counted_first k (leb-true k from p)
        go false p true q = ap (λ (i : ℕ). get_or counts i 0) (min-eq_right (leb-true n (k - from) q)) ∙ counted_end k (omega (arith, leb-false k from p)) (leb-true n (k - from) q)
        go false p false q =
            let w : k - from ≤ n = omega (arith, leb-false n (k - from) q) in
            ap (λ (i : ℕ). get_or counts i 0) (min-eq_left w) ∙ counted_inside k (omega (arith, leb-false k from p)) (omega (arith, leb-false n (k - from) q))

  -- a window in which none passes: no run has a row of it that does
  pub window_none : (counts runs : List ℕ) → CountedFrom f from n counts → get_or counts n 0 ≡ 0 → false ≡ some_run (within_run f from n) runs
  window_none counts runs h z =
      sym (some_none (run_some (within_run f from n) runs) 0 (length runs / 2 - 0)
      (λ e a u. some_none (λ k. within_run f from n (event_run_first runs e + k)) 0 (event_run_length runs e - 0) (λ k b v. none (event_run_first runs e + k))))
    where
      at : (j : ℕ) → j < n → (b : Bool) → f (from + j) ≡ b → b ≡ false
      at j l true q = absurd (omega (arith, count_lt (λ i. f (from + i)) j n l q, h.before n (omega arith), z))
      at j l false q = refl

      in_window : (k : ℕ) → from ≤ k → k < from + n → within_run f from n k ≡ false
      in_window k l u =
          let y : k ≡ from + (k - from) = omega arith in
          within_in k l u ∙ ap f y ∙ at (k - from) (omega arith) (f (from + (k - from))) refl

      none : (k : ℕ) → within_run f from n k ≡ false
      none k = go (ltb k from) refl (ltb k (from + n)) refl
        where
          go : (x : Bool) → ltb k from ≡ x → (y : Bool) → ltb k (from + n) ≡ y → within_run f from n k ≡ false
          go true p y q = within_before k (ltb-true k from p)
          go false p true q = in_window k (ltb-false k from p) (ltb-true k (from + n) q)
          go false p false q = within_after k (ltb-false k (from + n) q)

-- the runs by the counts before their first row and before their end
pub runs_counted : (f : ℕ → Bool) (runs : List ℕ)
    → some_in (λ e. ltb (count f (event_run_first runs e)) (count f (event_run_first runs e + event_run_length runs e))) 0 (length runs / 2) ≡ some_run f runs
runs_counted f runs =
    some_ext (λ e. ltb (count f (event_run_first runs e)) (count f (event_run_first runs e + event_run_length runs e))) (run_some f runs) 0 (length runs / 2 - 0)
    (λ e a u. count_grows f (event_run_first runs e) (event_run_length runs e))

-- no row below `below` that an event's run has passes
abbrev pub NoneBelow : (ℕ → Bool) → List ℕ → ℕ → Type 0
NoneBelow f runs below = (e k : ℕ) → e < length runs / 2 → k < event_run_length runs e → event_run_first runs e + k < below → f (event_run_first runs e + k) ≡ false

-- a window that has such a row; one that has none; no window is left. Together: some window has a row that passes exactly if some run has one.
module _ (f : ℕ → Bool) (runs : List ℕ) where
  pub window_yes : (from n : ℕ) {r : Bool} → r ≡ some_run (within_run f from n) runs → r ≡ true → true ≡ some_run f runs
  window_yes from n er e =
      let g = within_run f from n in
      let p = some_found (run_some g runs) 0 (length runs / 2 - 0) (sym er ∙ e) in
      let q = some_found (λ k. g (event_run_first runs p.at + k)) 0 (event_run_length runs p.at - 0) p.passes in
      let k = event_run_first runs p.at + q.at in
      let y = some_at (λ j. f (event_run_first runs p.at + j)) 0 (event_run_length runs p.at - 0) q.at (and_right (leb from k && ltb k (from + n)) (f k) q.passes) q.low q.high in
      sym (some_at (run_some f runs) 0 (length runs / 2 - 0) p.at y p.low p.high)

  pub window_no : (from n : ℕ) {r : Bool} → NoneBelow f runs from → r ≡ some_run (within_run f from n) runs → r ≡ false → NoneBelow f runs (from + n)
  window_no from n h er e i k l u v = go (ltb (event_run_first runs i + k) from) refl
    where
      go : (b : Bool) → ltb (event_run_first runs i + k) from ≡ b → f (event_run_first runs i + k) ≡ false
      go true q = h i k l u (ltb-true (event_run_first runs i + k) from q)
      go false q =
          let g = within_run f from n in
          sym (within_in f from n (event_run_first runs i + k) (ltb-false (event_run_first runs i + k) from q) v)
          ∙ some_none_at (λ j. g (event_run_first runs i + j)) (event_run_length runs i) k (some_none_at (run_some g runs) (length runs / 2) i (sym er ∙ e) l) u

  pub windows_left : (from rows : ℕ) → RunsIn runs rows → NoneBelow f runs from → rows ≤ from → false ≡ some_run f runs
  windows_left from rows g h l =
      sym (some_none (run_some f runs) 0 (length runs / 2 - 0)
      (λ e a u. some_none (λ k. f (event_run_first runs e + k)) 0 (event_run_length runs e - 0) (λ k b v. h e k (omega arith) (omega arith) (omega (arith, g.inside e (omega arith))))))

-- the flags are in use, by the tests one after the other
pub flags_by : (T : Tables) (Q : Query) {u e x r : Bool} → u ≡ use_arc_flags T Q → e ≡ skips_edge T Q → x ≡ skips_transfer T Q → r ≡ (u && (e || x)) → r ≡ flags_in_use T Q
unfolding flags_in_use
flags_by T Q eu ee ex er = er ∙ ap₂ ◌&&◌ eu (ap₂ ◌||◌ ee ex)
