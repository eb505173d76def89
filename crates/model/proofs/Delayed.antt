-- Effective times of a day: how far the delay rows move a time, that of a steady day's departures no further than the margin.
use Prim.Native.Nat.{ℕ, ◌+◌, ◌-◌, ◌≤◌, ◌<◌}
use mathlib.Core.Path.{◌≡◌, refl}
use mathlib.Core.Logic.{inl, ⊎_elim}
use mathlib.Core.Bool.{Bool, true, false, cond}
use native.Mathlib.Omega.{arith}
use lib.Dec.{eqb}
use borrow.Author.Tests.{eqb-true}
use Rattle.door.specs.Door.{time_limit}
use Rattle.loops.specs.Iter.{Hit, hit, miss}
use Rattle.loops.proofs.Iter.{first_found}
use Rattle.loops.proofs.Search.{hit_below}
use Rattle.stop_delay.specs.declared.StopDelay.{StopDelay}
use Rattle.stop_delay.specs.Times.{departure_given, arrival_given, size_of, shifted}
use Rattle.stop_delay.proofs.Times.{shifted_near}
use Rattle.delay_rows.specs.Delays.{stop_row, beside_trip}
use Rattle.delay_lookup.proofs.Largest.{Covered, margin_trip, margin_departure}
use Rattle.model.specs.Tables.{Tables, Query, stops, trips, stop_count, arrival, departure, sequence}
use Rattle.model.specs.Search.{delay_of, undelayed, delay_at, skipped, margin_of}
use Rattle.model.specs.Door.{Door}
use Rattle.model.specs.Promise.{effective, Boarding, SteadyDay}
use Rattle.model.proofs.Base.{no_both}
use Rattle.model.proofs.Sizes.{shifted_back}

-- a trip's delay row is one of the rows, and of that trip
pub row_below : (Q : Query) (t i : ℕ) → delay_of Q t ≡ hit i → i < Q.delays.delays
row_below Q t i e = hit_below _ Q.delays.delays i e

pub row_trip : (Q : Query) (t i : ℕ) → delay_of Q t ≡ hit i → (Q.delays.delay i).trip ≡ t
row_trip Q t i e = eqb-true _ _ (first_found (λ (i : ℕ). eqb (Q.delays.delay i).trip t) 0 (Q.delays.delays - 0) i e)

module _ (T : Tables) (Q : Query) where
  -- a trip without a delay row arrives on schedule, and stops everywhere
  pub on_time : (h : Hit) (t o : ℕ) → undelayed h ≡ true
      → let d = delay_at T Q h t o in shifted (arrival T t o) (cond (arrival_given d.flags) d.arrival_delay d.trip_delay) ≡ arrival T t o + 0
  on_time miss t o e = refl
  on_time (hit i) t o e = absurd (no_both e refl)

  pub stops_there : (h : Hit) (t o : ℕ) → undelayed h ≡ true → skipped T Q h t o ≡ false
  stops_there miss t o e = refl
  stops_there (hit i) t o e = absurd (no_both e refl)

  -- what holds of no delay, of each trip's delay and of each stop row's own that is given, holds of the delay that moves a time
  moved_by : (P : ℕ → Type 0) (given : ℕ → Bool) (own : StopDelay → ℕ) → given 0 ≡ false → P 0 → ((i : ℕ) → i < Q.delays.delays → P (Q.delays.delay i).delay)
      → ((i j : ℕ) → j < Q.delays.stop_rows → given (Q.delays.stop_row j).flags ≡ true → P (own (beside_trip Q.delays (Q.delays.delay i).delay (hit j))))
      → (t o : ℕ) → let d = delay_at T Q (delay_of Q t) t o in P (cond (given d.flags) (own d) d.trip_delay)
  moved_by P given own z none trip stop t o = at_trip (delay_of Q t) refl
    where
      pick : (b : Bool) (x y : ℕ) → (b ≡ true → P x) → P y → P (cond b x y)
      pick true x y p q = p refl
      pick false x y p q = q

      at-stop : (i : ℕ) → i < Q.delays.delays → (h : Hit) → stop_row Q.delays i (sequence T t o) ≡ h
          → let d = beside_trip Q.delays (Q.delays.delay i).delay h in P (cond (given d.flags) (own d) d.trip_delay)
      at-stop i l miss e = pick (given 0) (own (beside_trip Q.delays (Q.delays.delay i).delay miss)) (Q.delays.delay i).delay (λ g. absurd (no_both g z)) (trip i l)
      at-stop i l (hit j) e = pick (given (Q.delays.stop_row j).flags) (own (beside_trip Q.delays (Q.delays.delay i).delay (hit j))) (Q.delays.delay i).delay (stop i j (hit_below _ Q.delays.stop_rows j e)) (trip i l)

      at_trip : (h : Hit) → delay_of Q t ≡ h → let d = delay_at T Q h t o in P (cond (given d.flags) (own d) d.trip_delay)
      at_trip miss e = pick (given 0) (own (delay_at T Q miss t o)) 0 (λ g. absurd (no_both g z)) none
      at_trip (hit i) e = at-stop i (row_below Q t i e) (stop_row Q.delays i (sequence T t o)) refl

  pub arrives_early : Door T Q → (t o : ℕ) → t < trips T → o < stop_count T t → (effective T Q).arrives t o ≤ 2097150
  arrives_early D t o u n =
      let d = delay_at T Q (delay_of Q t) t o in
      let l = moved_by (λ (x : ℕ). size_of x ≤ time_limit) arrival_given (λ (d : StopDelay). d.arrival_delay) refl (omega arith) D.delay_small (λ i j h g. D.arrival_delay_small j h) t o in
      omega (arith, D.arrival_small t o u n, shifted_near (arrival T t o) (cond (arrival_given d.flags) d.arrival_delay d.trip_delay), l)

  module _ (S : SteadyDay T Q) where
    -- the delay that moves a departure is within the margin, or the margin is the cap
    covered : (t o : ℕ) → let d = delay_at T Q (delay_of Q t) t o in Covered Q.delays Q.settings.margin_cap (size_of (cond (departure_given d.flags) d.departure_delay d.trip_delay))
    covered t o =
        moved_by (λ (x : ℕ). Covered Q.delays Q.settings.margin_cap (size_of x)) departure_given (λ (d : StopDelay). d.departure_delay) refl (inl (omega arith))
        (margin_trip Q.delays Q.settings.margin_cap) (λ i j h g. margin_departure Q.delays Q.settings.margin_cap j h g) t o

    pub depart_late : (x t o : ℕ) → x < stops T → Boarding T Q (effective T Q) x t o → (effective T Q).departs t o ≤ departure T t o + margin_of T Q
    depart_late x t o h b =
        let d = delay_at T Q (delay_of Q t) t o in
        ⊎_elim (λ l. omega (arith, l, shifted_near (departure T t o) (cond (departure_given d.flags) d.departure_delay d.trip_delay)))
        (λ q. omega (arith, q, S.conditions.not_late x t o h b)) (covered t o)

    pub depart_early : (x t o : ℕ) → x < stops T → Boarding T Q (effective T Q) x t o → departure T t o ≤ (effective T Q).departs t o + margin_of T Q
    depart_early x t o h b =
        let d = delay_at T Q (delay_of Q t) t o in
        ⊎_elim (λ l. omega (arith, l, shifted_back (departure T t o) (cond (departure_given d.flags) d.departure_delay d.trip_delay)))
        (λ q. omega (arith, q, S.conditions.not-early x t o h b)) (covered t o)
