-- The other way: where the model's door has departures and egress stops in order, question 6 finds them so.
use Prim.Native.Nat.{ℕ, zero, suc, ◌+◌, ◌*◌, ◌-◌, ◌<◌, ◌≤◌}
use mathlib.Core.Path.{◌≡◌, refl, ap}
use mathlib.Core.Bool.{true}
use mathlib.Core.List.Memᴰ
use mathlib.Core.List.{List}
use mathlib.Core.Logic.{⊎_elim}
use native.Mathlib.Nat.{eq-or-lt_of_le}
use native.Mathlib.Omega.{arith}
use lib.ListN.{get_or}
use lib.Dec.{ltb, leb}
use borrow.Author.Tests.{le-leb, lt-ltb}
use Rattle.loops.specs.Count.{tab_from}
use Rattle.loops.proofs.Iter.{every_all}
use Rattle.tables.specs.Timetable.{Timetable, timetable}
use Rattle.departures.specs.Departures.{row_at, row_departure, run_length, departures_of}
use Rattle.model.specs.Door.{InOrder, EgressRising}
use Rattle.query_input.specs.Lent.{egress_at, stop_runs, departure_rows, Lent, tables_of, query_of}
use Rattle.departure_order.specs.Order.{not_earlier, part_order, departure_order}
use Rattle.query_door.specs.Door.{column_at, column_rises, egress_order}
use Rattle.query_input.proofs.Laws.{order_next}

-- from each to the next
rise_next : (a b : ℕ → ℕ) (i n : ℕ) → EgressRising (tab_from (λ k. (a k, b k)) i n) → (k : ℕ) → i ≤ k → suc k < i + n → a k < a (suc k)
unfolding tab_from
rise_next a b i zero r k u v = absurd (omega arith)
rise_next a b i (suc zero) r k u v = absurd (omega arith)
rise_next a b i (suc (suc n)) (EgressRising.more h r) k u v =
    ⊎_elim (λ (q : i ≡ k). omega (arith, ap a q, ap (λ (j : ℕ). a (suc j)) q, h (a (suc i)) (b (suc i)) (Memᴰ.head refl)))
    (λ (q : i < k). rise_next a b (suc i) (suc n) r k q (omega arith)) (eq-or-lt_of_le u)

module _ (x : Lent) where
  pub egress_asked : EgressRising (query_of x).egress → egress_order x.q x.n ≡ true
  unfolding column_rises
  egress_asked r = every_all (λ i. ltb (stop (i - 1)) (stop i)) 1 (x.n.egress - 1) rises
    where
      stop : ℕ → ℕ
      stop k = column_at x.q (egress_at x.n) 2 k

      walk : ℕ → ℕ
      walk k = get_or x.q (egress_at x.n + 1 + k * 2) 0

      rises : (k : ℕ) → 1 ≤ k → k < 1 + (x.n.egress - 1) → ltb (stop (k - 1)) (stop k) ≡ true
      rises k u v =
          let e : suc (k - 1) ≡ k = omega arith in
          lt-ltb (stop (k - 1)) (stop k) (omega (arith, ap stop e, rise_next stop walk 0 x.n.egress r (k - 1) (omega arith) (omega arith)))

  pub departures_asked : ((s : ℕ) → s < x.n.timetable.stops → InOrder (tables_of x) ((tables_of x).departures s))
      → departure_order (timetable x.t x.n.timetable) (stop_runs x.built x.n) (departure_rows x.built x.n) x.n.timetable.stops ≡ true
  unfolding departure_order part_order not_earlier
  departures_asked r = every_all (λ s. part_order T (rows s) (run_length runs s)) 0 (x.n.timetable.stops - 0) (λ s u v. every_all (not_earlier T (rows s)) 1 (run_length runs s - 1) (falls s (omega arith)))
    where
      T : Timetable
      T = timetable x.t x.n.timetable

      runs : List ℕ
      runs = stop_runs x.built x.n

      rows : ℕ → List ℕ
      rows s = departures_of runs (departure_rows x.built x.n) s

      leaves : ℕ → ℕ → ℕ
      leaves s k = row_departure T (row_at (rows s) k)

      falls : (s : ℕ) → s < x.n.timetable.stops → (k : ℕ) → 1 ≤ k → k < 1 + (run_length runs s - 1) → leb (leaves s (k - 1)) (leaves s k) ≡ true
      falls s w k u v =
          let e : suc (k - 1) ≡ k = omega arith in
          le-leb (leaves s (k - 1)) (leaves s k) (omega (arith, ap (leaves s) e, order_next (tables_of x) (row_at (rows s)) 0 (run_length runs s) (r s w) (k - 1) (omega arith) (omega arith)))
