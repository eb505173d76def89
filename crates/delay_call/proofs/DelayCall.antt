-- What a yes to every question of the delay calls gives, and what the calls answer under the door's number. Assumes nothing.
use Prim.Native.Nat.{ℕ, ◌*◌, ◌<◌, ◌≤◌}
use mathlib.Core.Path.{◌≡◌, ◌∙◌, sym}
use mathlib.Core.Bool.{Bool, true, ◌&&◌}
use mathlib.Core.List.{List}
use native.Mathlib.Omega.{arith}
use lib.ListN.{length}
use lib.Dec.{leb, eqb}
use borrow.Author.Tests.{leb-true, eqb-true}
use Rattle.std.specs.Prelude.{Some}
use Rattle.loops.specs.Iter.{found}
use Rattle.loops.proofs.Search.{hit_below}
use Rattle.loops.proofs.Iter.{and_left, and_right}
use Rattle.door.proofs.Laws.{ask_yes, ask_later}
use Rattle.door.specs.Door.{ask}
use Rattle.door.specs.Settings.{settings_ok}
use Rattle.door.specs.declared.Settings.{Settings}
use Rattle.delay_rows.specs.Delays.{delay_row}
use Rattle.delay_rows.specs.Flat.{delay_row_count, stop_row_count, delay_row_at, stop_row_at, delay_tables, delays_alone}
use Rattle.delay_call.specs.DelayCall.{delay_counts, delay_lengths, delays_door}
use Rattle.delay_rows.specs.Door.{delay_numbers, delay_ranges, delay_order}
use Rattle.delay_lookup.specs.Sane.{Delays, DelayRows, StopRows}
use Rattle.delay_lookup.proofs.Door.{delays_yes}
use Rattle.delay_lookup.proofs.Search.{found_hit}

-- question 2: the counts handed in are those of the tables
pub delay_count : (n m : ℕ) (rows stops : List ℕ) → delay_lengths n m rows stops ≡ true → delay_row_count rows ≡ n
delay_count n m rows stops h =
    let e : length rows ≡ 2 * n = eqb-true (length rows) (2 * n) (and_left (eqb (length rows) (2 * n)) (eqb (length stops) (5 * m)) h) in
    omega arith

pub stop-count : (n m : ℕ) (rows stops : List ℕ) → delay_lengths n m rows stops ≡ true → stop_row_count stops ≡ m
stop-count n m rows stops h =
    let e : length stops ≡ 5 * m = eqb-true (length stops) (5 * m) (and_right (eqb (length rows) (2 * n)) (eqb (length stops) (5 * m)) h) in
    omega arith

-- question 1: trips, delay rows and stop rows are few
record Few (trips n m : ℕ) : Type 0 where
  one : trips ≤ 4096
  two : n ≤ 4096
  three : m ≤ 4096

few : (trips n m : ℕ) → delay_counts trips n m ≡ true → Few trips n m
few trips n m q =
    let r = and_right (leb trips 4096) (leb n 4096 && leb m 4096) q in
    record {
      one = leb-true trips 4096 (and_left (leb trips 4096) (leb n 4096 && leb m 4096) q);
      two = leb-true n 4096 (and_left (leb n 4096) (leb m 4096) r);
      three = leb-true m 4096 (and_right (leb n 4096) (leb m 4096) r);
    }

-- every answer is yes
pub admitted : (S : Settings) (trips n m : ℕ) (rows stops : List ℕ) (numbered : Bool) (v : ℕ) → v ≡ delays_door S trips n m rows stops numbered → v ≡ 0
    → Delays trips (delay_tables rows stops)
unfolding delays_door
admitted S trips n m rows stops numbered v e z =
    let h = sym e ∙ z in
    let D = delay_tables rows stops in
    let l6 = ask 6 (delay_order D) 0 in
    let l5 = ask 5 (delay_ranges D) l6 in
    let l4 = ask 4 (delay_numbers trips D && numbered) l5 in
    let l2 = ask 2 (delay_lengths n m rows stops) l4 in
    let l14 = ask 14 (settings_ok S) l2 in
    let h14 = ask_later 0 (delay_counts trips n m) l14 h in
    let h1 = ask_later 13 (settings_ok S) l2 h14 in
    let h2 = ask_later 1 (delay_lengths n m rows stops) l4 h1 in
    let h4 = ask_later 3 (delay_numbers trips D && numbered) l5 h2 in
    let h5 = ask_later 4 (delay_ranges D) l6 h4 in
    let c = few trips n m (ask_yes 0 (delay_counts trips n m) l14 h) in
    let q2 = ask_yes 1 (delay_lengths n m rows stops) l4 h1 in
    delays_yes trips D c.one (omega (arith, delay_count n m rows stops q2, c.two)) (omega (arith, stop-count n m rows stops q2, c.three))
    (and_left (delay_numbers trips D) numbered (ask_yes 3 (delay_numbers trips D && numbered) l5 h2))
    (ask_yes 4 (delay_ranges D) l6 h4)
    (ask_yes 5 (delay_order D) 0 h5)

-- what the look-up asks: of the delay rows, of the row that it found, of the stop rows
pub sane_rows : (S : Settings) (trips n m : ℕ) (rows stops : List ℕ) (numbered : Bool) (v : ℕ) → v ≡ delays_door S trips n m rows stops numbered → v ≡ 0
    → DelayRows (delay_row_count rows) (delay_row_at rows)
sane_rows S trips n m rows stops numbered v e z = (admitted S trips n m rows stops numbered v e z).delay_rows

pub sane_stops : (S : Settings) (trips n m : ℕ) (rows stops : List ℕ) (numbered : Bool) (v : ℕ) → v ≡ delays_door S trips n m rows stops numbered → v ≡ 0
    → StopRows (stop_row_count stops) (stop_row_at stops)
sane_stops S trips n m rows stops numbered v e z = (admitted S trips n m rows stops numbered v e z).stop_rows

pub row_below : (rows : List ℕ) (trip i : ℕ) → found (delay_row (delays_alone rows) trip) ≡ Some i → i < delay_row_count rows
row_below rows trip i e = hit_below _ _ i (found_hit (delay_row (delays_alone rows) trip) i e)

pub ruleset read_steps = (sane_rows, sane_stops, row_below)
