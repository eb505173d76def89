-- What the door means: a verdict of 0 gives the model's door of the tables and the query that the lent slices say.
use Prim.Native.Nat.{ℕ, zero, suc, ◌+◌, ◌*◌, ◌<◌, ◌≤◌}
use mathlib.Core.Path.{◌≡◌, sym, ◌∙◌, ap, subst, refl}
use mathlib.Core.List.Memᴰ
use mathlib.Core.List.{Memᴰ}
use mathlib.Core.Logic.{⊎_elim}
use native.Mathlib.Nat.{eq-or-lt_of_le}
use native.Mathlib.Omega.{arith}
use lib.ListN.{length, get_or}
use Rattle.loops.specs.Count.{tab_from}
use Rattle.door.specs.Door.{time_limit}
use Rattle.tables.specs.Timetable.{Timetable, timetable}
use Rattle.tables.specs.Tables.{first_of, count_of, trip_of, stop_of}
use Rattle.departures.specs.declared.DepartureRow.{DepartureRow}
use Rattle.departures.specs.Departures.{row_at, row_departure, run_first, run_length, departures_of}
use Rattle.departures.specs.Listed.{RowKnown}
use Rattle.departures.proofs.Parts.{part_row, stop_known}
use Rattle.line_layout.specs.Layout.{line_run_at}
use Rattle.event_transfers.specs.Transfers.{Transfer, events_before, transfer_at}
use Rattle.model.specs.Tables.{Tables, Origin, departure}
use Rattle.model.specs.Door.{InOrder, EgressRising, Door}
use Rattle.query_types.specs.declared.Lengths.{Lengths}
use Rattle.query_input.specs.Lent.{egress_at, stop_runs, departure_rows, line_runs, transfer_run_at, transfer_rows, origin_at, egress_stop, Lent, tables_of, query_of}
use Rattle.query_input.specs.Sane.{Admitted}

-- where a member of a list of values stands
record Stands {A : Type 0} (f : ℕ → A) (i n : ℕ) (a : A) : Type 0 where
  at : ℕ
  low : i ≤ at
  high : at < i + n
  is : a ≡ f at

stands : {A : Type 0} (f : ℕ → A) (i n : ℕ) (a : A) → Memᴰ a (tab_from f i n) → Stands f i n a
unfolding tab_from
stands f i zero a m = absurd (Memᴰ.not-nil m)
stands f i (suc n) a m =
    ⊎_elim (λ e. record { at = i; low = omega arith; high = omega arith; is = e })
    (λ m'. let s = stands f (suc i) n a m' in record { at = s.at; low = omega (arith, s.low); high = omega (arith, s.high); is = s.is })
    (Memᴰ.cases_cons m)

-- what rises, or does not fall, from each to the next does so between any two
any_rise : (a : ℕ → ℕ) (n : ℕ) → ((k : ℕ) → k + 1 < n → a k < a (k + 1)) → (i j : ℕ) → i < j → j < n → a i < a j
any_rise a n h i zero u v = absurd (omega arith)
any_rise a n h i (suc j) u v =
    let e : j + 1 ≡ suc j = omega arith in
    let z : a j < a (suc j) = rw e at (h j (omega arith)) in
    ⊎_elim (λ (q : i ≡ j). omega (arith, z, ap a q)) (λ (q : i < j). omega (arith, z, any_rise a n h i j q (omega arith))) (eq-or-lt_of_le (omega arith))

none_fall : (a : ℕ → ℕ) (n : ℕ) → ((k : ℕ) → k + 1 < n → a k ≤ a (k + 1)) → (i j : ℕ) → i < j → j < n → a i ≤ a j
none_fall a n h i zero u v = absurd (omega arith)
none_fall a n h i (suc j) u v =
    let e : j + 1 ≡ suc j = omega arith in
    let z : a j ≤ a (suc j) = rw e at (h j (omega arith)) in
    ⊎_elim (λ (q : i ≡ j). omega (arith, z, ap a q)) (λ (q : i < j). omega (arith, z, none_fall a n h i j q (omega arith))) (eq-or-lt_of_le (omega arith))

rising_from : (a b : ℕ → ℕ) (i n : ℕ) → ((x y : ℕ) → i ≤ x → x < y → y < i + n → a x < a y) → EgressRising (tab_from (λ k. (a k, b k)) i n)
unfolding tab_from
rising_from a b i zero h = EgressRising.none
rising_from a b i (suc n) h =
    EgressRising.more {s = a i} {d = b i} {es = tab_from (λ k. (a k, b k)) (suc i) n}
    (λ u e m. let s = stands (λ k. (a k, b k)) (suc i) n (u, e) m in omega (arith, ap (λ (p : ℕ × ℕ). p.0) s.is, h i s.at (omega arith) s.low (omega (arith, s.high))))
    (rising_from a b (suc i) n (λ x y p q r. h x y (omega arith) q (omega arith)))

order_from : (T : Tables) (f : ℕ → DepartureRow) (i n : ℕ) → ((x y : ℕ) → i ≤ x → x < y → y < i + n → departure T (f x).trip (f x).offset ≤ departure T (f y).trip (f y).offset) → InOrder T (tab_from f i n)
unfolding tab_from
order_from T f i zero h = InOrder.none
order_from T f i (suc n) h =
    InOrder.more
    (λ e m. let s = stands f (suc i) n e m in subst (λ (r : DepartureRow). departure T (f i).trip (f i).offset ≤ departure T r.trip r.offset) (sym s.is) (h i s.at (omega arith) s.low (omega (arith, s.high))))
    (order_from T f (suc i) n (λ x y p q r. h x y (omega arith) q (omega arith)))

-- the number of a trip's stop time among all events
pub events_below : (T : Timetable) (n i o : ℕ) → i < n → o < (T.trip i).count → events_before T i + o < events_before T n
unfolding events_before
events_below T zero i o h u = absurd (omega arith)
events_below T (suc n) i o h u =
    ⊎_elim (λ (q : i ≡ n). omega (arith, u, ap (events_before T) q, ap (λ (k : ℕ). (T.trip k).count) q)) (λ (q : i < n). omega (arith, events_below T n i o q u)) (eq-or-lt_of_le (omega arith))

module _ (x : Lent) (l : Lengths) (A : Admitted x l) where
  -- a departure listed at stop s
  record Row (s : ℕ) (d : DepartureRow) : Type 0 where
    known : RowKnown x.t x.n.timetable d
    here : stop_of x.t x.n.timetable d.trip d.offset ≡ s

  row : (s : ℕ) (d : DepartureRow) → s < x.n.timetable.stops → Memᴰ d ((tables_of x).departures s) → Row s d
  row s d u m =
      let runs = stop_runs x.built x.n in
      let rows = departure_rows x.built x.n in
      let w = stands (row_at (departures_of runs rows s)) 0 (run_length runs s) d m in
      let k : w.at < run_length runs s = omega (arith, w.high) in
      record {
        known = subst (λ (r : DepartureRow). RowKnown x.t x.n.timetable r) (sym w.is) ((stop_known x.t x.n.timetable runs rows x.n.departures s A.numbered.listed.known A.placed.stops u).known w.at k);
        here = ap (λ (r : DepartureRow). stop_of x.t x.n.timetable r.trip r.offset) (w.is ∙ part_row rows (run_first runs s) (run_length runs s) w.at k) ∙ A.numbered.listed.at s w.at u k;
      }

  -- a trip's stop time, and its window
  time_in : (i o : ℕ) → i < x.n.timetable.trips → o < count_of x.t x.n.timetable i → first_of x.t x.n.timetable i + o < x.n.timetable.times
  time_in i o u v = omega (arith, A.placed.trips.run i u)

  window-in : (i k : ℕ) → i < x.n.timetable.trips → k < trip_of x.t x.n.timetable i 5 → trip_of x.t x.n.timetable i 4 + k < x.n.timetable.windows
  window-in i k u v = omega (arith, A.placed.trips.windows i u)

  transfer-time : (i o : ℕ) → i < x.n.timetable.trips → o < count_of x.t x.n.timetable i → (e : Transfer) → Memᴰ e ((tables_of x).transfers i o) → e.time ≤ time_limit
  transfer-time i o u v e m =
      let T = timetable x.t x.n.timetable in
      let r = transfer_run_at x.built x.n (events_before T i + o) in
      let w = stands (λ k. transfer_at x.transfers (r.first + k)) 0 r.length e m in
      let k : r.first + w.at < transfer_rows x.n (length x.transfers) = omega (arith, w.high, A.placed.transfers (events_before T i + o) (events_below T x.n.timetable.trips i o u v)) in
      subst (λ (f : Transfer). f.time ≤ time_limit) (sym w.is) (A.ranged.transfer (r.first + w.at) k)

  origin-at : (a : Origin) → Memᴰ a (query_of x).origins → Stands (origin_at x.q x.distances x.n) 0 x.n.origins a
  origin-at a m = stands (origin_at x.q x.distances x.n) 0 x.n.origins a m

  egress-at : (s d : ℕ) → Memᴰ (s, d) (query_of x).egress → Stands (egress_stop x.q x.n) 0 x.n.egress (s, d)
  egress-at s d m = stands (egress_stop x.q x.n) 0 x.n.egress (s, d) m

  sorted_at : (s : ℕ) → s < x.n.timetable.stops → InOrder (tables_of x) ((tables_of x).departures s)
  sorted_at s u =
      let runs = stop_runs x.built x.n in
      let f = row_at (departures_of runs (departure_rows x.built x.n) s) in
      order_from (tables_of x) f 0 (run_length runs s) (λ i j p q r. none_fall (λ k. row_departure (timetable x.t x.n.timetable) (f k)) (run_length runs s) (λ k v. A.ordered.departures s k u v) i j q (omega arith))

  rising_egress : EgressRising (query_of x).egress
  rising_egress =
      rising_from (λ k. get_or x.q (egress_at x.n + k * 2) 0) (λ k. get_or x.q (egress_at x.n + 1 + k * 2) 0) 0 x.n.egress
      (λ i j p q r. any_rise (λ k. get_or x.q (egress_at x.n + k * 2) 0) x.n.egress (λ k v. A.ordered.egress k v) i j q (omega arith))

  -- THE MODEL'S DOOR
  pub door_of : Door (tables_of x) (query_of x)
  door_of =
      record {
        few_stops = A.limits.counts.stops;
        few_trips = A.limits.counts.trips;
        few-lines = A.limits.lines;
        few-entries = λ i u. omega (arith, A.lines.run i u, A.lines.known.few);
        counted = A.placed.trips.some;
        few_times = λ i u. omega (arith, A.placed.trips.run i u, A.limits.counts.times);
        few_windows = λ i u. omega (arith, A.placed.trips.windows i u, A.limits.counts.windows);
        stop_in = λ i o u v. A.numbered.numbers.stop _ (time_in i o u v);
        line_in = A.numbered.line;
        entry_in = λ i p u v. A.lines.known.trip ((line_run_at (line_runs x.built x.n) i).first + p) (omega (arith, A.lines.run i u));
        listed_trip = λ s d u m. (row s d u m).known.trip;
        listed_offset = λ s d u m. (row s d u m).known.offset;
        listed_stop = λ s d u m. (row s d u m).here;
        edge_from = A.numbered.numbers.from;
        edge_to = A.numbered.numbers.to;
        origin_in = λ a m. let w = origin-at a m in subst (λ (b : Origin). b.stop < x.n.timetable.stops) (sym w.is) (A.numbered.origin w.at (omega (arith, w.high)));
        egress_in = λ s d m. let w = egress-at s d m in subst (λ (b : ℕ × ℕ). b.0 < x.n.timetable.stops) (sym w.is) (A.numbered.egress w.at (omega (arith, w.high)));
        delay_in = A.delays.trip;
        stop_row_in = A.delays.row;
        arrival_small = λ i o u v. A.ranged.ranges.arrival _ (time_in i o u v);
        departure_small = λ i o u v. A.ranged.ranges.departure _ (time_in i o u v);
        window_start = λ i k u v. A.ranged.ranges.start _ (window-in i k u v);
        window_end = λ i k u v. A.ranged.ranges.end _ (window-in i k u v);
        window_headway = λ i k u v. A.ranged.ranges.headway _ (window-in i k u v);
        edge_small = A.ranged.ranges.duration;
        transfer_small = transfer-time;
        origin_small = λ a m. let w = origin-at a m in subst (λ (b : Origin). b.duration ≤ time_limit) (sym w.is) (A.ranged.origin w.at (omega (arith, w.high)));
        egress_small = λ s d m. let w = egress-at s d m in subst (λ (b : ℕ × ℕ). b.1 ≤ time_limit) (sym w.is) (A.ranged.egress w.at (omega (arith, w.high)));
        start_small = A.ranged.start;
        change_small = A.ranged.change;
        delay_small = A.delays.delay_rows.size;
        departure_delay_small = A.delays.stop_rows.departure;
        arrival_delay_small = A.delays.stop_rows.arrival;
        departures_sorted = sorted_at;
        egress_rising = rising_egress;
      }

pub order_next : (T : Tables) (f : ℕ → DepartureRow) (i n : ℕ) → InOrder T (tab_from f i n) → (k : ℕ) → i ≤ k → suc k < i + n
    → departure T (f k).trip (f k).offset ≤ departure T (f (suc k)).trip (f (suc k)).offset
unfolding tab_from
order_next T f i zero r k u v = absurd (omega arith)
order_next T f i (suc zero) r k u v = absurd (omega arith)
order_next T f i (suc (suc n)) (InOrder.more h r) k u v =
    ⊎_elim (λ (q : i ≡ k). omega (arith, ap leaves q, ap (λ (j : ℕ). leaves (suc j)) q, h (f (suc i)) (Memᴰ.head refl)))
    (λ (q : i < k). order_next T f (suc i) (suc n) r k q (omega arith)) (eq-or-lt_of_le u)
  where
    leaves : ℕ → ℕ
    leaves j = departure T (f j).trip (f j).offset
