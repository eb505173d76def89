-- What a yes to each question on the departures gives, and that a list with those facts is answered yes.
use Prim.Native.Nat.{◌*◌, ◌+◌, ◌-◌, ◌<◌, ◌≤◌, ℕ}
use mathlib.Core.Path.{◌≡◌, ◌∙◌, ap, ap₂, sym}
use mathlib.Core.Bool.{Bool, true, ◌&&◌}
use mathlib.Core.List.{List}
use native.Mathlib.Omega.{arith}
use lib.ListN.{length}
use lib.Dec.{ltb}
use borrow.Author.Tests.{eqb-true, leb-true, ltb-true, eq-eqb, lt-ltb}
use Rattle.loops.proofs.Iter.{and_left, and_right, every_in_at, every_all}
use Rattle.tables.specs.declared.Counts.{Counts}
use Rattle.tables.specs.Tables.{count_of, stop_of}
use Rattle.tables.specs.Sane.{CountsOk, RunsOk, SlicesOk}
use Rattle.departures.specs.declared.DepartureRow.{DepartureRow}
use Rattle.departures.specs.Departures.{departures_of, row_at, run_at, run_end, run_first, run_length}
use Rattle.departures.specs.Listed.{RowKnown, RowsKnown, RowsListed, RunsListed, at_stop, at_stops_ok, listed_ok, row_at_stop, row_numbers, rows_ok, run_in, stop_rows_ok, stop_runs_ok}
use Rattle.departures.proofs.Parts.{part_row}

-- two tests joined, by their definitions
pub joined : {a b r x y z : Bool} → r ≡ a && b → a ≡ x → b ≡ y → r ≡ z → x && y ≡ z
joined p q s e = sym (ap₂ ◌&&◌ q s) ∙ sym p ∙ e

-- 3
pub runs_listed : (c : Counts) (runs : List ℕ) (d : ℕ) → CountsOk c → d ≤ 65536 → length runs ≡ c.stops * 2 → stop_runs_ok runs c d ≡ true → RunsListed c runs d
unfolding stop_runs_ok run_in
runs_listed c runs d k f n h =
    record { counts = k; few = f; size = n; run = λ s u. leb-true (run_end runs s) d (every_in_at (λ i. run_in d (run_at runs i)) c.stops s h u) }

-- 4, of the rows' numbers
pub row_known : (t : List ℕ) (c : Counts) (r : DepartureRow) → row_numbers t c r ≡ true → RowKnown t c r
unfolding row_numbers
row_known t c r h =
    record { trip = ltb-true _ _ (and_left (ltb r.trip c.trips) (ltb r.offset (count_of t c r.trip)) h); offset = ltb-true _ _ (and_right (ltb r.trip c.trips) (ltb r.offset (count_of t c r.trip)) h) }

pub rows_known : (t : List ℕ) (c : Counts) (rows : List ℕ) (d : ℕ) → CountsOk c → SlicesOk t c → RunsOk t c → d ≤ 65536 → length rows ≡ d * 2 → rows_ok t c rows d ≡ true → RowsKnown t c rows d
unfolding rows_ok
rows_known t c rows d k s r f n h =
    record {
      counts = k;
      slices = s;
      runs = r;
      few = f;
      size = n;
      known = λ j u. row_known t c (row_at rows j) (every_in_at (λ i. row_numbers t c (row_at rows i)) d j h u);
    }

-- 4, of the rows' stops
at-stop : (t : List ℕ) (c : Counts) (runs rows : List ℕ) → at_stops_ok t c runs rows ≡ true → (s k : ℕ) → s < c.stops → k < run_length runs s
    → stop_of t c (row_at rows (run_first runs s + k)).trip (row_at rows (run_first runs s + k)).offset ≡ s
unfolding at_stops_ok stop_rows_ok row_at_stop
at-stop t c runs rows h s k u v =
    ap (λ (r : DepartureRow). stop_of t c r.trip r.offset) (sym (part_row rows (run_first runs s) (run_length runs s) k v))
    ∙ eqb-true _ s (every_in_at (at_stop t c s (departures_of runs rows s)) (run_length runs s) k (every_in_at (stop_rows_ok t c runs rows) c.stops s h u) v)

pub rows_listed : (t : List ℕ) (c : Counts) (runs rows : List ℕ) (d : ℕ) → RunsListed c runs d → SlicesOk t c → RunsOk t c → length rows ≡ d * 2 → listed_ok t c runs rows d ≡ true
    → RowsListed t c runs rows d
unfolding listed_ok
rows_listed t c runs rows d l s r n h =
    record {
      stops = l;
      known = rows_known t c rows d l.counts s r l.few n (and_left (rows_ok t c rows d) (at_stops_ok t c runs rows) h);
      at = at-stop t c runs rows (and_right (rows_ok t c rows d) (at_stops_ok t c runs rows) h);
    }

-- the other way: such a list is answered yes
yes_row : (t : List ℕ) (c : Counts) (r : DepartureRow) → RowKnown t c r → row_numbers t c r ≡ true
unfolding row_numbers
yes_row t c r k = ap₂ ◌&&◌ (lt-ltb _ _ k.trip) (lt-ltb _ _ k.offset)

yes_stop : (t : List ℕ) (c : Counts) (runs rows : List ℕ) (d s : ℕ) → RowsListed t c runs rows d → s < c.stops → stop_rows_ok t c runs rows s ≡ true
unfolding stop_rows_ok row_at_stop
yes_stop t c runs rows d s l h =
    every_all (at_stop t c s (departures_of runs rows s)) 0 (run_length runs s - 0) (λ k u v. eq-eqb _ s
    (ap (λ (r : DepartureRow). stop_of t c r.trip r.offset) (part_row rows (run_first runs s) (run_length runs s) k (omega arith)) ∙ l.at s k h (omega arith)))

pub listed_yes : (t : List ℕ) (c : Counts) (runs rows : List ℕ) (d : ℕ) → RowsListed t c runs rows d → listed_ok t c runs rows d ≡ true
unfolding listed_ok rows_ok at_stops_ok
listed_yes t c runs rows d l =
    ap₂ ◌&&◌
    (every_all (λ k. row_numbers t c (row_at rows k)) 0 (d - 0) (λ k u v. yes_row t c (row_at rows k) (l.known.known k (omega arith))))
    (every_all (stop_rows_ok t c runs rows) 0 (c.stops - 0) (λ s u v. yes_stop t c runs rows d s l (omega arith)))
