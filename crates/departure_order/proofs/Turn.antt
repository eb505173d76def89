-- Questions 4 and 6 of listed departures asked in one pass: what the runs of all stops give together. Assumes nothing.
use Prim.Native.Nat.{ℕ, ◌+◌, ◌*◌, ◌-◌, ◌<◌, ◌≤◌}
use mathlib.Core.Path.{◌≡◌, ap}
use mathlib.Core.Bool.{true, false}
use mathlib.Core.List.{List}
use native.Mathlib.Omega.{arith}
use lib.ListN.{length}
use lib.Dec.{leb}
use borrow.Author.Tests.{le-leb}
use Rattle.loops.proofs.Iter.{every_all}
use Rattle.tables.specs.declared.Counts.{Counts}
use Rattle.tables.specs.Timetable.{Timetable, timetable}
use Rattle.tables.specs.Sane.{SlicesOk, RunsOk}
use Rattle.departures.specs.Departures.{row_at, row_departure, run_first, run_length, run_end, departures_of}
use Rattle.departures.specs.Listed.{RowKnown, RunsListed}
use Rattle.departures.proofs.Parts.{part_row}
use Rattle.departure_order.specs.Order.{not_earlier, part_order, departure_order}
use Rattle.departure_order.specs.Turn.{RunRight, InTurn}

-- a no is no yes
pub never : {A : Type 0} → false ≡ true → A
never h = let z : ◌≡◌ {A = ℕ} 0 1 = cc in absurd (omega arith)

-- THE DEPARTURES
module _ (t : List ℕ) (c : Counts) (rows : List ℕ) where
  abbrev leaves : ℕ → ℕ
  leaves k = row_departure (timetable t c) (row_at rows k)

  -- the stops before s, whose runs follow one another up to end
  pub record Turned (runs : List ℕ) (s end : ℕ) : Type 0 where
    pub known : (k : ℕ) → k < end → RowKnown t c (row_at rows k)
    pub stop : (i : ℕ) → i < s → RunRight t c rows i (run_first runs i) (run_end runs i)

  -- ALL DEPARTURES: the runs of all stops, and no row left out
  pub in-turn : (runs : List ℕ) (d end : ℕ) → SlicesOk t c → RunsOk t c → RunsListed c runs d → length rows ≡ d * 2 → Turned runs c.stops end → end ≡ d → InTurn t c runs rows d
  unfolding departure_order part_order not_earlier
  in-turn runs d end sl ro l n h e =
      record {
        listed = record {
          stops = l;
          known = record { counts = l.counts; slices = sl; runs = ro; few = l.few; size = n; known = λ k u. h.known k (omega arith) };
          at = λ s k u v. (h.stop s u).at (run_first runs s + k) (omega arith) (omega arith);
        };
        order = every_all (λ s. part_order T (part s) (run_length runs s)) 0 (c.stops - 0) (λ s u v. every_all (not_earlier T (part s)) 1 (run_length runs s - 1) (falls s (omega arith)));
      }
    where
      T : Timetable
      T = timetable t c

      part : ℕ → List ℕ
      part s = departures_of runs rows s

      -- row k of the part is a row of the list
      row : (s k : ℕ) → k < run_length runs s → row_departure T (row_at (part s) k) ≡ leaves (run_first runs s + k)
      row s k u = ap (row_departure T) (part_row rows (run_first runs s) (run_length runs s) k u)

      falls : (s : ℕ) → s < c.stops → (k : ℕ) → 1 ≤ k → k < 1 + (run_length runs s - 1) → leb (row_departure T (row_at (part s) (k - 1))) (row_departure T (row_at (part s) k)) ≡ true
      falls s w k u v =
          let a : run_first runs s + (k - 1) + 1 ≡ run_first runs s + k = omega arith in
          le-leb (row_departure T (row_at (part s) (k - 1))) (row_departure T (row_at (part s) k))
          (omega (arith, row s (k - 1) (omega arith), row s k (omega arith), ap leaves a, (h.stop s w).rises (run_first runs s + (k - 1)) (omega arith) (omega arith)))
