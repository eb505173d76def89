-- What the door of the delay tables gives where every answer is yes, and its questions joined with a call's own.
use Prim.Native.Nat.{ℕ, zero, suc, ◌+◌, ◌-◌, ◌<◌, ◌≤◌}
use mathlib.Core.Path.{◌≡◌, refl, ap, ◌∙◌, sym}
use mathlib.Core.Bool.{Bool, true, false, ◌&&◌, ◌||◌}
use mathlib.Core.Logic.{◌⊎◌, inl, inr, ⊎_elim}
use native.Mathlib.Nat.{add-zero}
use native.Mathlib.Omega.{arith}
use lib.Dec.{ltb, leb, eqb}
use borrow.Author.Tests.{leb-true, ltb-true, eqb-true, ne_eqb}
use Rattle.loops.specs.Iter.{every_in}
use Rattle.loops.proofs.Iter.{and_left, and_right, every_in_at}
use Rattle.door.specs.Door.{time_limit}
use Rattle.delay_rows.specs.declared.DelayRow.{DelayRow}
use Rattle.delay_rows.specs.declared.StopRow.{StopRow}
use Rattle.delay_rows.specs.Delays.{DelayTables, unknown_trip}
use Rattle.stop_delay.specs.Times.{size_of}
use Rattle.delay_rows.specs.Door.{trip_numbered, row_numbered, stop_in_range, trips_rise, stops_rise, row_in_order, delay_numbers, delay_ranges, delay_order}
use Rattle.stop_delay.specs.Door.{size_ok}
use Rattle.delay_lookup.specs.Sane.{DelayRows, StopRows, Delays}

or_split : (a b : Bool) → (a || b) ≡ true → (a ≡ true) ⊎ (b ≡ true)
or_split true b h = inl refl
or_split false b h = inr h

-- what holds of neighbours and carries over holds of every two
chain : (R : ℕ → ℕ → Type 0) (n : ℕ) → ((i j k : ℕ) → k < n → R i j → R j k → R i k) → ((i : ℕ) → i + 1 < n → R i (i + 1)) → (i d : ℕ) → i + 1 + d < n → R i (i + 1 + d)
chain R n t s i zero u = rw add-zero (s i (omega arith))
chain R n t s i (suc d) u =
    let e : i + 1 + suc d ≡ i + 1 + d + 1 = omega arith in
    rw e (t i (i + 1 + d) (i + 1 + d + 1) (omega arith) (chain R n t s i d (omega arith)) (s (i + 1 + d) (omega arith)))

pairs : (R : ℕ → ℕ → Type 0) (n : ℕ) → ((i j k : ℕ) → k < n → R i j → R j k → R i k) → ((i : ℕ) → i + 1 < n → R i (i + 1)) → (i j : ℕ) → i < j → j < n → R i j
pairs R n t s i j l u = let e : i + 1 + (j - (i + 1)) ≡ j = omega arith in rw e at (chain R n t s i (j - (i + 1)) (omega arith))

-- every row but the first rises from the one before it
in_order : {R : Type 0} (rise : R → R → Bool) (at : ℕ → R) (n : ℕ) → every_in (row_in_order rise at) 0 n ≡ true → (i : ℕ) → i + 1 < n → rise (at i) (at (i + 1)) ≡ true
in_order rise at n h i l =
    let e : i ≡ i + 1 - 1 = omega arith in
    ap (λ (k : ℕ). rise (at k) (at (i + 1))) e
    ∙ ap (λ (b : Bool). b || rise (at (i + 1 - 1)) (at (i + 1))) (sym (ne_eqb (i + 1) 0 (λ z. omega arith)))
    ∙ every_in_at (row_in_order rise at) n (i + 1) h l

-- What a yes says of the delay rows
abbrev TripAfter : (ℕ → DelayRow) → ℕ → ℕ → Type 0
TripAfter delay i j = ((delay i).trip < (delay j).trip) ⊎ (((delay i).trip ≡ unknown_trip) × ((delay j).trip ≡ unknown_trip))

trips-rise : (a b : DelayRow) → trips_rise a b ≡ true → (a.trip < b.trip) ⊎ ((a.trip ≡ unknown_trip) × (b.trip ≡ unknown_trip))
trips-rise a b h =
    ⊎_elim (λ e. inl (ltb-true a.trip b.trip e))
    (λ e. inr (eqb-true a.trip unknown_trip (and_left (eqb a.trip unknown_trip) (eqb b.trip unknown_trip) e), eqb-true b.trip unknown_trip (and_right (eqb a.trip unknown_trip) (eqb b.trip unknown_trip) e)))
    (or_split (ltb a.trip b.trip) (eqb a.trip unknown_trip && eqb b.trip unknown_trip) h)

trip_after : (a b c : ℕ) → c ≤ unknown_trip → (a < b) ⊎ ((a ≡ unknown_trip) × (b ≡ unknown_trip)) → (b < c) ⊎ ((b ≡ unknown_trip) × (c ≡ unknown_trip)) → (a < c) ⊎ ((a ≡ unknown_trip) × (c ≡ unknown_trip))
trip_after a b c l (inl x) (inl y) = inl (omega arith)
trip_after a b c l (inl x) (inr y) = inl (omega arith)
trip_after a b c l (inr x) (inl y) = absurd (omega arith)
trip_after a b c l (inr x) (inr y) = inr (x.0, y.1)

trip-numbered : (trips : ℕ) (r : DelayRow) → trip_numbered trips r ≡ true → (r.trip < trips) ⊎ (r.trip ≡ unknown_trip)
trip-numbered trips r h =
    ⊎_elim (λ e. inl (ltb-true r.trip trips e)) (λ e. inr (eqb-true r.trip unknown_trip e)) (or_split (ltb r.trip trips) (eqb r.trip unknown_trip) h)

module _ (trips n : ℕ) (delay : ℕ → DelayRow) where
  delay-rows : trips ≤ 4096 → n ≤ 4096 → every_in (λ i. trip_numbered trips (delay i)) 0 n ≡ true → every_in (λ i. size_ok (delay i).delay) 0 n ≡ true → every_in (row_in_order trips_rise delay) 0 n ≡ true → DelayRows n delay
  delay-rows t f a b d =
      record {
        few = f;
        rise = pairs (TripAfter delay) n (λ i j k u x y. trip_after (delay i).trip (delay j).trip (delay k).trip (known k u) x y) (λ i l. trips-rise (delay i) (delay (i + 1)) (in_order trips_rise delay n d i l));
        size = λ i l. leb-true (size_of (delay i).delay) time_limit (every_in_at (λ j. size_ok (delay j).delay) n i b l);
      }
    where
      known : (k : ℕ) → k < n → (delay k).trip ≤ unknown_trip
      known k u = ⊎_elim (λ e. omega arith) (λ e. omega arith) (trip-numbered trips (delay k) (every_in_at (λ j. trip_numbered trips (delay j)) n k a u))

-- .. and of the stop rows
abbrev StopAfter : (ℕ → StopRow) → ℕ → ℕ → Type 0
StopAfter stop i j = ((stop i).row < (stop j).row) ⊎ (((stop i).row ≡ (stop j).row) × ((stop i).sequence < (stop j).sequence))

stops-rise : (a b : StopRow) → stops_rise a b ≡ true → (a.row < b.row) ⊎ ((a.row ≡ b.row) × (a.sequence < b.sequence))
stops-rise a b h =
    ⊎_elim (λ e. inl (ltb-true a.row b.row e))
    (λ e. inr (eqb-true a.row b.row (and_left (eqb a.row b.row) (ltb a.sequence b.sequence) e), ltb-true a.sequence b.sequence (and_right (eqb a.row b.row) (ltb a.sequence b.sequence) e)))
    (or_split (ltb a.row b.row) (eqb a.row b.row && ltb a.sequence b.sequence) h)

stop_after : (a b c x y z : ℕ) → (a < b) ⊎ ((a ≡ b) × (x < y)) → (b < c) ⊎ ((b ≡ c) × (y < z)) → (a < c) ⊎ ((a ≡ c) × (x < z))
stop_after a b c x y z (inl p) (inl q) = inl (omega arith)
stop_after a b c x y z (inl p) (inr q) = inl (omega arith)
stop_after a b c x y z (inr p) (inl q) = inl (omega arith)
stop_after a b c x y z (inr p) (inr q) = inr (p.0 ∙ q.0, omega arith)

module _ (n : ℕ) (stop : ℕ → StopRow) where
  stop-rows : n ≤ 4096 → every_in (λ j. stop_in_range (stop j)) 0 n ≡ true → every_in (row_in_order stops_rise stop) 0 n ≡ true → StopRows n stop
  stop-rows f b d =
      record {
        few = f;
        rise = pairs (StopAfter stop) n (λ i j k u. stop_after (stop i).row (stop j).row (stop k).row (stop i).sequence (stop j).sequence (stop k).sequence) (λ i l. stops-rise (stop i) (stop (i + 1)) (in_order stops_rise stop n d i l));
        flags = λ j l. leb-true (stop j).flags 7 (and_left (leb (stop j).flags 7) (sizes j) (row j l));
        departure = λ j l. leb-true (size_of (stop j).departure_delay) time_limit (and_left (size_ok (stop j).departure_delay) (size_ok (stop j).arrival_delay) (and_right (leb (stop j).flags 7) (sizes j) (row j l)));
        arrival = λ j l. leb-true (size_of (stop j).arrival_delay) time_limit (and_right (size_ok (stop j).departure_delay) (size_ok (stop j).arrival_delay) (and_right (leb (stop j).flags 7) (sizes j) (row j l)));
      }
    where
      sizes : ℕ → Bool
      sizes j = size_ok (stop j).departure_delay && size_ok (stop j).arrival_delay

      row : (j : ℕ) → j < n → leb (stop j).flags 7 && sizes j ≡ true
      row j l = every_in_at (λ k. stop_in_range (stop k)) n j b l

-- questions 4, 5 and 6 are answered yes: both tables are as the inner functions want them
module _ (trips : ℕ) (D : DelayTables) where
  pub delays_yes : trips ≤ 4096 → D.delays ≤ 4096 → D.stop_rows ≤ 4096 → delay_numbers trips D ≡ true → delay_ranges D ≡ true → delay_order D ≡ true → Delays trips D
  delays_yes t a b q4 q5 q6 =
      let r4 = and_left (every_in (λ i. trip_numbered trips (D.delay i)) 0 D.delays) _ q4 in
      record {
        few = t;
        delay_rows = delay-rows trips D.delays D.delay t a r4 (and_left _ _ q5) (and_left _ _ q6);
        stop_rows = stop-rows D.stop_rows D.stop_row b (and_right _ _ q5) (and_right _ _ q6);
        trip = λ i l. trip-numbered trips (D.delay i) (every_in_at (λ k. trip_numbered trips (D.delay k)) D.delays i r4 l);
        row = λ j l. ltb-true (D.stop_row j).row D.delays (every_in_at (λ k. row_numbered D.delays (D.stop_row k)) D.stop_rows j (and_right _ _ q4) l);
      }
