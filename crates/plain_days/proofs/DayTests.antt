-- Door, plain day and steady day as tests that compute, each with the law that what passes is so. For days that are given in full.
use Prim.Native.Nat.{ℕ, zero, suc, ◌+◌, ◌-◌, ◌≤◌, ◌<◌}
use mathlib.Core.Path.{◌≡◌, refl, sym, ap, ap₂, ◌∙◌}
use mathlib.Core.Logic.{◌⊎◌, inl, inr, ⊎_elim}
use mathlib.Core.Bool.{Bool, true, false, cond, ◌&&◌, ◌||◌, not}
use mathlib.Core.List.Memᴰ
use mathlib.Core.List.{List, [], ◌∷◌, Memᴰ}
use native.Mathlib.Omega.{arith}
use native.Mathlib.Nat.{eq-or-lt_of_le}
use lib.ListN.{get_or}
use lib.Dec.{ltb, leb, eqb}
use lib.IntN.{pos, ◌+ℤ◌}
use lib.Signed.{non_neg}
use borrow.Author.Tests.{ltb-true, lt-ltb, leb-true, eqb-true, eq-eqb, ne_eqb, not-true}
use Rattle.loops.specs.Iter.{every_in, some_in}
use Rattle.loops.specs.Count.{tab_from, upto}
use Rattle.loops.proofs.Iter.{every_in_at, some_found}
use Rattle.loops.proofs.Search.{clash}
use Rattle.sorts.specs.Orders.{keep}
use Rattle.door.specs.Door.{time_limit}
use Rattle.signed.specs.Signed.{of_bits}
use Rattle.stop_delay.specs.Times.{departure_given, arrival_given, size_of}
use Rattle.cell_bitset.specs.declared.CellBitSet.{CellBitSet}
use Rattle.departures.specs.declared.DepartureRow.{DepartureRow}
use Rattle.tables.specs.Timetable.{Timetable}
use Rattle.event_transfers.specs.Transfers.{Transfer}
use Rattle.model.specs.Tables.{never, Tables, Origin, Query, stops, trips, stop_count, stop_at, arrival, departure, no_pickup, no_windows, edges_from, edge_to, walk_time}
use Rattle.model.specs.Search.{flags_in_use}
use Rattle.model.specs.Door.{Door, InOrder, EgressRising}
use Rattle.model.specs.Promise.{LinesBuilt, TransfersBuilt, NoTimesFall, CalmConditions, CalmDay, PlainConditions, PlainDay, Boarding, effective, arrives_from, SteadyConditions, SteadyDay, TripDelays}
use Rattle.plain_days.specs.K.{built, bare}

-- all tests of a list pass
unfoldable pub all_of : List Bool → Bool
all_of [] = true
all_of (b ∷ l) = b && all_of l

both : (a b : Bool) → a && b ≡ true → (a ≡ true) × (b ≡ true)
both true b e = (refl, e)
both false b e = absurd (clash e refl)

-- then so does the one at k
pub passed : (l : List Bool) → all_of l ≡ true → (k : ℕ) → get_or l k true ≡ true
unfolding all_of
passed [] e k = refl
passed (b ∷ l) e zero = (both b (all_of l) e).0
passed (b ∷ l) e (suc k) = passed l (both b (all_of l) e).1 k

-- every member of a list passes a test
unfoldable pub all_in : {A : Type 0} → (A → Bool) → List A → Bool
all_in p [] = true
all_in p (x ∷ l) = p x && all_in p l

-- then so does one that is given
pub among : {A : Type 0} (p : A → Bool) (l : List A) (a : A) → all_in p l ≡ true → Memᴰ a l → p a ≡ true
unfolding all_in
among p [] a e m = absurd (Memᴰ.not-nil m)
among p (x ∷ l) a e m =
    let q = both (p x) (all_in p l) e in
    ⊎_elim (λ z. ap p z ∙ q.0) (λ i. among p l a q.1 i) (Memᴰ.cases_cons m)

either : (a b : Bool) → a || b ≡ true → (a ≡ true) ⊎ (b ≡ true)
either true b e = inl refl
either false b e = inr e

-- some member passes
unfoldable pub any_in : {A : Type 0} → (A → Bool) → List A → Bool
any_in p [] = false
any_in p (x ∷ l) = p x || any_in p l

-- then there is one
pub found : {A : Type 0} (p : A → Bool) (l : List A) → any_in p l ≡ true → (a : A) × (Memᴰ a l) × (p a ≡ true)
unfolding any_in
found p [] e = absurd (clash e refl)
found p (x ∷ l) e =
    ⊎_elim (λ z. (x, Memᴰ.head refl, z)) (λ z. let r = found p l z in (r.0, Memᴰ.tail r.1, r.2))
    (either (p x) (any_in p l) e)

-- what is kept passes, and was there; what passes is kept
kept : {A : Type 0} (p : A → Bool) (l : List A) (a : A) → Memᴰ a (keep p l) → (p a ≡ true) × (Memᴰ a l)
unfolding keep
kept p [] a m = absurd (Memᴰ.not-nil m)
kept {A} p (x ∷ l) a m = go (p x) refl m (λ i. kept p l a i)
  where
    go : (t : Bool) → p x ≡ t → Memᴰ a (cond t (x ∷ keep p l) (keep p l))
        → (Memᴰ a (keep p l) → (p a ≡ true) × (Memᴰ a l)) → (p a ≡ true) × (Memᴰ a (x ∷ l))
    go true e i later =
        ⊎_elim (λ z. (ap p z ∙ e, Memᴰ.head z)) (λ j. let r = later j in (r.0, Memᴰ.tail r.1)) (Memᴰ.cases_cons i)
    go false e i later = let r = later i in (r.0, Memᴰ.tail r.1)

keeps : {A : Type 0} (p : A → Bool) (l : List A) (a : A) → p a ≡ true → Memᴰ a l → Memᴰ a (keep p l)
unfolding keep
keeps p [] a h m = absurd (Memᴰ.not-nil m)
keeps p (x ∷ l) a h m = go (p x) refl (Memᴰ.cases_cons m) (λ i. keeps p l a h i)
  where
    go : (t : Bool) → p x ≡ t → (a ≡ x) ⊎ Memᴰ a l → (Memᴰ a l → Memᴰ a (keep p l))
        → Memᴰ a (cond t (x ∷ keep p l) (keep p l))
    go true e (inl z) later = Memᴰ.head z
    go true e (inr i) later = Memᴰ.tail (later i)
    go false e (inl z) later = absurd (clash (sym (ap p z) ∙ h) e)
    go false e (inr i) later = later i

-- the members of i, i + 1, .., n of them
below : (i n k : ℕ) → Memᴰ k (tab_from (λ j. j) i n) → k < i + n
unfolding tab_from
below i zero k m = absurd (Memᴰ.not-nil m)
below i (suc n) k m = ⊎_elim (λ z. omega arith) (λ j. let r = below (suc i) n k j in omega arith) (Memᴰ.cases_cons m)

listed_below : (i n k : ℕ) → i ≤ k → k < i + n → Memᴰ k (tab_from (λ j. j) i n)
unfolding tab_from
listed_below i zero k h l = absurd (omega arith)
listed_below i (suc n) k h l =
    ⊎_elim (λ (z : i ≡ k). Memᴰ.head (sym z)) (λ (z : i < k). Memᴰ.tail (listed_below (suc i) n k z (omega arith))) (eq-or-lt_of_le h)

-- THE DOOR, tested
module _ (T : Tables) (Q : Query) where
  -- of a stop time
  abbrev time_tests : ℕ → ℕ → List Bool
  time_tests t o =
      ltb (stop_at T t o) (stops T) ∷ leb (arrival T t o) time_limit ∷ leb (departure T t o) time_limit
      ∷ all_in (λ (e : Transfer). leb e.time time_limit) (T.transfers t o) ∷ []

  abbrev window_tests : ℕ → ℕ → List Bool
  window_tests t i =
      let w = T.timetable.window ((T.timetable.trip t).window + i) in
      leb w.start time_limit ∷ leb w.end time_limit ∷ leb w.headway time_limit ∷ []

  abbrev trip_tests : ℕ → List Bool
  trip_tests t =
      ltb 0 (stop_count T t) ∷ leb (stop_count T t) 65536 ∷ leb (T.timetable.trip t).windows 65536 ∷ ltb (T.line_of t) T.lines
      ∷ every_in (λ o. all_of (time_tests t o)) 0 (stop_count T t) ∷ every_in (λ i. all_of (window_tests t i)) 0 (T.timetable.trip t).windows ∷ []

  -- of a line, of a departure listed at s, of a walk edge
  abbrev line_tests : ℕ → List Bool
  line_tests l = leb (T.line l).count 4096 ∷ every_in (λ p. ltb ((T.line l).trip p) (trips T)) 0 (T.line l).count ∷ []

  abbrev listed_tests : ℕ → DepartureRow → List Bool
  listed_tests s d = ltb d.trip (trips T) ∷ ltb d.offset (stop_count T d.trip) ∷ eqb (stop_at T d.trip d.offset) s ∷ []

  abbrev edge_tests : ℕ → List Bool
  edge_tests e =
      ltb (T.timetable.edge e).from (stops T) ∷ ltb (T.timetable.edge e).to (stops T)
      ∷ leb (T.timetable.edge e).duration time_limit ∷ []

  -- of a delay row, of a stop row
  abbrev delay_tests : ℕ → List Bool
  delay_tests i =
      (ltb (Q.delays.delay i).trip (trips T) || eqb (Q.delays.delay i).trip never) ∷ leb (size_of (Q.delays.delay i).delay) time_limit ∷ []

  abbrev stop_row_tests : ℕ → List Bool
  stop_row_tests j =
      ltb (Q.delays.stop_row j).row Q.delays.delays ∷ leb (size_of (Q.delays.stop_row j).departure_delay) time_limit
      ∷ leb (size_of (Q.delays.stop_row j).arrival_delay) time_limit ∷ []

  -- departures in order, egress stops rising
  abbrev no_earlier : DepartureRow → DepartureRow → Bool
  no_earlier d e = leb (departure T d.trip d.offset) (departure T e.trip e.offset)

  unfoldable pub sorted_test : List DepartureRow → Bool
  sorted_test [] = true
  sorted_test (d ∷ ds) = all_in (no_earlier d) ds && sorted_test ds

  in_order : (ds : List DepartureRow) → sorted_test ds ≡ true → InOrder T ds
  unfolding sorted_test
  in_order [] e = InOrder.none
  in_order (d ∷ ds) e =
      let q = both (all_in (no_earlier d) ds) (sorted_test ds) e in
      InOrder.more (λ x m. leb-true _ _ (among (no_earlier d) ds x q.0 m)) (in_order ds q.1)

unfoldable pub rising_test : List (ℕ × ℕ) → Bool
rising_test [] = true
rising_test (x ∷ es) = all_in (λ (y : ℕ × ℕ). ltb x.0 y.0) es && rising_test es

rising : (es : List (ℕ × ℕ)) → rising_test es ≡ true → EgressRising es
unfolding rising_test
rising [] e = EgressRising.none
rising ((s, d) ∷ es) e =
    let q = both (all_in (λ (y : ℕ × ℕ). ltb s y.0) es) (rising_test es) e in
    EgressRising.more (λ u w m. ltb-true _ _ (among (λ (y : ℕ × ℕ). ltb s y.0) es (u, w) q.0 m)) (rising es q.1)

-- the questions
abbrev pub door_tests : Tables → Query → List Bool
door_tests T Q =
    leb (stops T) 4096 ∷ leb (trips T) 4096 ∷ leb T.lines 4096
    ∷ every_in (λ l. all_of (line_tests T Q l)) 0 T.lines
    ∷ every_in (λ t. all_of (trip_tests T Q t)) 0 (trips T)
    ∷ every_in (λ s. all_in (λ d. all_of (listed_tests T Q s d)) (T.departures s) && sorted_test T Q (T.departures s)) 0 (stops T)
    ∷ every_in (λ e. all_of (edge_tests T Q e)) 0 T.timetable.edges
    ∷ all_in (λ (a : Origin). ltb a.stop (stops T) && leb a.duration time_limit) Q.origins
    ∷ all_in (λ (e : ℕ × ℕ). ltb e.0 (stops T) && leb e.1 time_limit) Q.egress
    ∷ every_in (λ i. all_of (delay_tests T Q i)) 0 Q.delays.delays
    ∷ every_in (λ j. all_of (stop_row_tests T Q j)) 0 Q.delays.stop_rows
    ∷ leb Q.start time_limit ∷ leb Q.change time_limit ∷ rising_test Q.egress ∷ []

module _ (T : Tables) (Q : Query) (e : all_of (door_tests T Q) ≡ true) where
  line_test : (l k : ℕ) → l < T.lines → get_or (line_tests T Q l) k true ≡ true
  line_test l k h = passed (line_tests T Q l) (every_in_at (λ l. all_of (line_tests T Q l)) T.lines l (passed (door_tests T Q) e 3) h) k

  trip_test : (t k : ℕ) → t < trips T → get_or (trip_tests T Q t) k true ≡ true
  trip_test t k h = passed (trip_tests T Q t) (every_in_at (λ t. all_of (trip_tests T Q t)) (trips T) t (passed (door_tests T Q) e 4) h) k

  time_test : (t o k : ℕ) → t < trips T → o < stop_count T t → get_or (time_tests T Q t o) k true ≡ true
  time_test t o k h l = passed (time_tests T Q t o) (every_in_at (λ o. all_of (time_tests T Q t o)) (stop_count T t) o (trip_test t 4 h) l) k

  window_test : (t i k : ℕ) → t < trips T → i < (T.timetable.trip t).windows → get_or (window_tests T Q t i) k true ≡ true
  window_test t i k h l = passed (window_tests T Q t i) (every_in_at (λ i. all_of (window_tests T Q t i)) (T.timetable.trip t).windows i (trip_test t 5 h) l) k

  stop_test : (s : ℕ) → s < stops T → (all_in (λ d. all_of (listed_tests T Q s d)) (T.departures s) ≡ true) × (sorted_test T Q (T.departures s) ≡ true)
  stop_test s h =
      both (all_in (λ d. all_of (listed_tests T Q s d)) (T.departures s)) (sorted_test T Q (T.departures s))
      (every_in_at (λ s. all_in (λ d. all_of (listed_tests T Q s d)) (T.departures s) && sorted_test T Q (T.departures s)) (stops T) s (passed (door_tests T Q) e 5) h)

  listed_test : (s : ℕ) (d : DepartureRow) (k : ℕ) → s < stops T → Memᴰ d (T.departures s) → get_or (listed_tests T Q s d) k true ≡ true
  listed_test s d k h m = passed (listed_tests T Q s d) (among (λ d. all_of (listed_tests T Q s d)) (T.departures s) d (stop_test s h).0 m) k

  edge_test : (i k : ℕ) → i < T.timetable.edges → get_or (edge_tests T Q i) k true ≡ true
  edge_test i k h = passed (edge_tests T Q i) (every_in_at (λ i. all_of (edge_tests T Q i)) T.timetable.edges i (passed (door_tests T Q) e 6) h) k

  origin-test : (a : Origin) → Memᴰ a Q.origins → (ltb a.stop (stops T) ≡ true) × (leb a.duration time_limit ≡ true)
  origin-test a m = both _ _ (among (λ (a : Origin). ltb a.stop (stops T) && leb a.duration time_limit) Q.origins a (passed (door_tests T Q) e 7) m)

  egress_test : (x : ℕ × ℕ) → Memᴰ x Q.egress → (ltb x.0 (stops T) ≡ true) × (leb x.1 time_limit ≡ true)
  egress_test x m = both _ _ (among (λ (e : ℕ × ℕ). ltb e.0 (stops T) && leb e.1 time_limit) Q.egress x (passed (door_tests T Q) e 8) m)

  delay_test : (i k : ℕ) → i < Q.delays.delays → get_or (delay_tests T Q i) k true ≡ true
  delay_test i k h = passed (delay_tests T Q i) (every_in_at (λ i. all_of (delay_tests T Q i)) Q.delays.delays i (passed (door_tests T Q) e 9) h) k

  stop_row_test : (j k : ℕ) → j < Q.delays.stop_rows → get_or (stop_row_tests T Q j) k true ≡ true
  stop_row_test j k h = passed (stop_row_tests T Q j) (every_in_at (λ j. all_of (stop_row_tests T Q j)) Q.delays.stop_rows j (passed (door_tests T Q) e 10) h) k

  -- tables and query that pass the tests have a yes to every question
  pub door_holds : Door T Q
  door_holds =
      record {
        few_stops = leb-true _ _ (passed (door_tests T Q) e 0);
        few_trips = leb-true _ _ (passed (door_tests T Q) e 1);
        few-lines = leb-true _ _ (passed (door_tests T Q) e 2);
        few-entries = λ l h. leb-true _ _ (line_test l 0 h);
        counted = λ t h. ltb-true _ _ (trip_test t 0 h);
        few_times = λ t h. leb-true _ _ (trip_test t 1 h);
        few_windows = λ t h. leb-true _ _ (trip_test t 2 h);
        stop_in = λ t o h l. ltb-true _ _ (time_test t o 0 h l);
        line_in = λ t h. ltb-true _ _ (trip_test t 3 h);
        entry_in = λ l p h i. ltb-true _ _ (every_in_at (λ p. ltb ((T.line l).trip p) (trips T)) (T.line l).count p (line_test l 1 h) i);
        listed_trip = λ s d h m. ltb-true _ _ (listed_test s d 0 h m);
        listed_offset = λ s d h m. ltb-true _ _ (listed_test s d 1 h m);
        listed_stop = λ s d h m. eqb-true _ _ (listed_test s d 2 h m);
        edge_from = λ i h. ltb-true _ _ (edge_test i 0 h);
        edge_to = λ i h. ltb-true _ _ (edge_test i 1 h);
        origin_in = λ a m. ltb-true _ _ (origin-test a m).0;
        egress_in = λ s d m. ltb-true _ _ (egress_test (s, d) m).0;
        delay_in = λ i h. ⊎_elim (λ z. inl (ltb-true _ _ z)) (λ z. inr (eqb-true _ _ z)) (either _ _ (delay_test i 0 h));
        stop_row_in = λ j h. ltb-true _ _ (stop_row_test j 0 h);
        arrival_small = λ t o h l. leb-true _ _ (time_test t o 1 h l);
        departure_small = λ t o h l. leb-true _ _ (time_test t o 2 h l);
        window_start = λ t i h l. leb-true _ _ (window_test t i 0 h l);
        window_end = λ t i h l. leb-true _ _ (window_test t i 1 h l);
        window_headway = λ t i h l. leb-true _ _ (window_test t i 2 h l);
        edge_small = λ i h. leb-true _ _ (edge_test i 2 h);
        transfer_small = λ t o h l x m. leb-true _ _ (among (λ (e : Transfer). leb e.time time_limit) (T.transfers t o) x (time_test t o 3 h l) m);
        origin_small = λ a m. leb-true _ _ (origin-test a m).1;
        egress_small = λ s d m. leb-true _ _ (egress_test (s, d) m).1;
        start_small = leb-true _ _ (passed (door_tests T Q) e 11);
        change_small = leb-true _ _ (passed (door_tests T Q) e 12);
        delay_small = λ i h. leb-true _ _ (delay_test i 1 h);
        departure_delay_small = λ j h. leb-true _ _ (stop_row_test j 1 h);
        arrival_delay_small = λ j h. leb-true _ _ (stop_row_test j 2 h);
        departures_sorted = λ s h. in_order T Q (T.departures s) (stop_test s h).1;
        egress_rising = rising Q.egress (passed (door_tests T Q) e 13);
      }

-- one of two tests passes
pub first_or : (x y : Bool) → not x || y ≡ true → x ≡ true → y ≡ true
first_or true y e h = e
first_or false y e h = absurd (clash h refl)

second_of : (x y : Bool) → x || y ≡ true → x ≡ false → y ≡ true
second_of true y e h = absurd (clash refl h)
second_of false y e h = e

-- no trip's scheduled times fall
module _ (T : Tables) where
  abbrev pub wait_test : Bool
  wait_test = every_in (λ t. every_in (λ o. leb (arrival T t o) (departure T t o)) 0 (stop_count T t)) 0 (trips T)

  abbrev pub ride_test : Bool
  ride_test = every_in (λ t. every_in (λ o. leb (departure T t o) (arrival T t (suc o))) 0 (stop_count T t - 1)) 0 (trips T)

  pub no_times_fall : wait_test ≡ true → ride_test ≡ true → NoTimesFall T
  no_times_fall e f =
      record {
        waits = λ t o h l. leb-true _ _ (every_in_at (λ o. leb (arrival T t o) (departure T t o)) (stop_count T t) o
            (every_in_at (λ t. every_in (λ o. leb (arrival T t o) (departure T t o)) 0 (stop_count T t)) (trips T) t e h) l);
        rides = λ t o h l. leb-true _ _ (every_in_at (λ o. leb (departure T t o) (arrival T t (suc o))) (stop_count T t - 1) o
            (every_in_at (λ t. every_in (λ o. leb (departure T t o) (arrival T t (suc o))) 0 (stop_count T t - 1)) (trips T) t f h) (omega arith));
      }

-- PLAIN DAY, tested
module _ (T : Tables) (Q : Query) where
  -- is the departure listed?
  unfoldable pub has : List DepartureRow → ℕ → ℕ → Bool
  has [] t o = false
  has (d ∷ ds) t o = (eqb d.trip t && eqb d.offset o) || has ds t o

  has_it : (ds : List DepartureRow) (t o : ℕ) → has ds t o ≡ true → Memᴰ (record { trip = t; offset = o }) ds
  unfolding has
  has_it [] t o e = absurd (clash e refl)
  has_it (d ∷ ds) t o e =
      ⊎_elim
      (λ h.
      let p = both (eqb d.trip t) (eqb d.offset o) h in
      Memᴰ.head (ap₂ {A = ℕ} {B = ℕ} {C = DepartureRow} (λ x y. record { trip = x; offset = y }) (sym (eqb-true _ _ p.0)) (sym (eqb-true _ _ p.1))))
      (λ h. Memᴰ.tail (has_it ds t o h))
      (either (eqb d.trip t && eqb d.offset o) (has ds t o) e)

  -- where a departure is listed, trip u of its line is too, or has pickup 1
  abbrev even_test : ℕ → DepartureRow → ℕ → Bool
  even_test s d u = not (eqb (T.line_of u) (T.line_of d.trip)) || (no_pickup T u d.offset || has (T.departures s) u d.offset)

  -- edges e and f that follow one another lead back, or have an edge between their ends
  abbrev between : ℕ → ℕ → ℕ → Bool
  between e f g =
      (eqb (T.timetable.edge g).from (T.timetable.edge e).from && eqb (edge_to T g) (edge_to T f))
      && leb (walk_time T Q g) (walk_time T Q e + walk_time T Q f)

  abbrev pair_test : ℕ → ℕ → Bool
  pair_test e f =
      not (eqb (T.timetable.edge f).from (edge_to T e))
      || (eqb (edge_to T f) (T.timetable.edge e).from || some_in (between e f) 0 T.timetable.edges)

  -- an origin and an edge that follow one another have an origin at the edge's end
  abbrev origin_test : Origin → ℕ → Bool
  origin_test a f =
      not (eqb (T.timetable.edge f).from a.stop)
      || any_in (λ (b : Origin). eqb b.stop (edge_to T f) && leb b.duration (a.duration + walk_time T Q f)) Q.origins

  -- what both kinds of day have
  abbrev pub calm_tests : List Bool
  calm_tests =
      every_in (λ t. no_windows T t) 0 (trips T) ∷ not (flags_in_use T Q)
      ∷ every_in (λ e. every_in (λ f. pair_test e f) 0 T.timetable.edges) 0 T.timetable.edges
      ∷ all_in (λ a. every_in (λ f. origin_test a f) 0 T.timetable.edges) Q.origins ∷ []

  abbrev pub plain_tests : List Bool
  plain_tests =
      all_of calm_tests ∷ eqb Q.delays.delays 0 ∷ wait_test T ∷ ride_test T
      ∷ every_in (λ s. all_in (λ d. every_in (λ u. even_test s d u) 0 (trips T)) (T.departures s)) 0 (stops T) ∷ []

  -- at each stop that a trip serves; at each two of them
  abbrev at_stop : (ℕ → ℕ → Bool) → ℕ → ℕ → Bool
  at_stop f t o = not ((effective T Q).served t o) || f t o

  abbrev from_stop : (ℕ → ℕ → ℕ → Bool) → ℕ → ℕ → ℕ → Bool
  from_stop f t p o = not ((effective T Q).served t o) || (not ((effective T Q).served t p) || f t o p)

  abbrev stops_test : (ℕ → ℕ → Bool) → Bool
  stops_test f = every_in (λ t. every_in (at_stop f t) 0 (stop_count T t)) 0 (trips T)

  abbrev between_test : (ℕ → ℕ → ℕ → Bool) → Bool
  between_test f = every_in (λ t. every_in (λ p. every_in (from_stop f t p) 0 p) 0 (stop_count T t)) 0 (trips T)

  -- a steady day's conditions, of each trip in the table, listed and permitted or not
  abbrev rises : ℕ → ℕ → ℕ → Bool
  rises t o p = leb ((effective T Q).departs t o) ((effective T Q).arrives t p)

  abbrev arrivals_rise : ℕ → ℕ → ℕ → Bool
  arrivals_rise t o p = eqb o 0 || leb ((effective T Q).arrives t o) ((effective T Q).arrives t p)

  abbrev departures_rise : ℕ → ℕ → ℕ → Bool
  departures_rise t o p = leb ((effective T Q).departs t o) ((effective T Q).departs t p)

  abbrev not_late : ℕ → ℕ → Bool
  not_late t o = leb ((effective T Q).departs t o) (departure T t o + Q.settings.margin_cap)

  abbrev not_early : ℕ → ℕ → Bool
  not_early t o = leb (departure T t o) ((effective T Q).departs t o + Q.settings.margin_cap)

  abbrev one_arrival : ℕ → ℕ → ℕ → Bool
  one_arrival t o p = eqb (arrives_from T Q t o p) ((effective T Q).arrives t p)

  abbrev pub steady_tests : List Bool
  steady_tests = all_of calm_tests ∷ between_test rises ∷ between_test arrivals_rise ∷ between_test departures_rise ∷ stops_test not_late ∷ stops_test not_early ∷ between_test one_arrival ∷ []

  -- of a trip in the table: a stop row; a delay row's size, and each departure
  abbrev skip_test : ℕ → Bool
  skip_test j =
      not (ltb (Q.delays.delay (Q.delays.stop_row j).row).trip (trips T))
      || not (departure_given (Q.delays.stop_row j).flags || arrival_given (Q.delays.stop_row j).flags)

  abbrev cap_test : ℕ → Bool
  cap_test i = not (ltb (Q.delays.delay i).trip (trips T)) || leb (size_of (Q.delays.delay i).delay) Q.settings.margin_cap

  abbrev zero_test : ℕ → ℕ → Bool
  zero_test i o = non_neg (pos (departure T (Q.delays.delay i).trip o) +ℤ of_bits (Q.delays.delay i).delay)

  abbrev pub trip_delay_tests : List Bool
  trip_delay_tests =
      every_in (λ j. skip_test j) 0 Q.delays.stop_rows
      ∷ every_in (λ i. cap_test i) 0 Q.delays.delays
      ∷ every_in (λ i. not (ltb (Q.delays.delay i).trip (trips T)) || every_in (λ o. zero_test i o) 0 (stop_count T (Q.delays.delay i).trip)) 0 Q.delays.delays ∷ []

  -- an edge that leaves a stop
  pub leaving : (a e : ℕ) → Memᴰ e (edges_from T a) → ((T.timetable.edge e).from ≡ a) × (e < T.timetable.edges)
  unfolding edges_from
  leaving a e m =
      let r = kept (λ k. eqb (T.timetable.edge k).from a) (upto T.timetable.edges) e m in
      let q = below 0 T.timetable.edges e r.1 in
      (eqb-true _ _ r.0, omega (arith, q))

  leaves_there : (a e : ℕ) → (T.timetable.edge e).from ≡ a → e < T.timetable.edges → Memᴰ e (edges_from T a)
  unfolding edges_from
  leaves_there a e z h = keeps (λ k. eqb (T.timetable.edge k).from a) (upto T.timetable.edges) e (eq-eqb _ _ z) (listed_below 0 T.timetable.edges e (omega arith) (omega arith))

  evenly : all_of plain_tests ≡ true → (s t u o : ℕ) → s < stops T → Memᴰ (record { trip = t; offset = o }) (T.departures s) → u < trips T → T.line_of u ≡ T.line_of t → no_pickup T u o ≡ false
      → Memᴰ (record { trip = u; offset = o }) (T.departures s)
  evenly e s t u o h m l z n =
      let d : DepartureRow = record { trip = t; offset = o } in
      let p = every_in_at (λ u. even_test s d u) (trips T) u
      (among (λ d. every_in (λ u. even_test s d u) 0 (trips T)) (T.departures s) d
      (every_in_at (λ s. all_in (λ d. every_in (λ u. even_test s d u) 0 (trips T)) (T.departures s)) (stops T) s (passed plain_tests e 4) h) m) l in
      has_it (T.departures s) u o
      (second_of (no_pickup T u o) (has (T.departures s) u o)
      (first_or (eqb (T.line_of u) (T.line_of t)) (no_pickup T u o || has (T.departures s) u o) p (eq-eqb _ _ z)) n)

  module _ (e : all_of calm_tests ≡ true) where
    complete : (a i j : ℕ) → Memᴰ i (edges_from T a) → Memᴰ j (edges_from T (edge_to T i)) → (edge_to T j ≡ a → ⊥)
        → (g : ℕ) × (Memᴰ g (edges_from T a)) × (edge_to T g ≡ edge_to T j) × (walk_time T Q g ≤ walk_time T Q i + walk_time T Q j)
    complete a i j m k away =
        let x = leaving a i m in
        let y = leaving (edge_to T i) j k in
        let p = every_in_at (λ f. pair_test i f) T.timetable.edges j
        (every_in_at (λ e. every_in (λ f. pair_test e f) 0 T.timetable.edges) T.timetable.edges i (passed calm_tests e 2) x.1) y.1 in
        let q = second_of (eqb (edge_to T j) (T.timetable.edge i).from) (some_in (between i j) 0 T.timetable.edges)
        (first_or (eqb (T.timetable.edge j).from (edge_to T i)) _ p (eq-eqb _ _ y.0))
        (ne_eqb _ _ (λ z. away (z ∙ x.0))) in
        let w = some_found (between i j) 0 (T.timetable.edges - 0) q in
        let r = both (eqb (T.timetable.edge w.at).from (T.timetable.edge i).from && eqb (edge_to T w.at) (edge_to T j)) (leb (walk_time T Q w.at) (walk_time T Q i + walk_time T Q j)) w.passes in
        let v = both (eqb (T.timetable.edge w.at).from (T.timetable.edge i).from) (eqb (edge_to T w.at) (edge_to T j)) r.0 in
        let u = w.high in
        (w.at, leaves_there a w.at (eqb-true _ _ v.0 ∙ x.0) (omega (arith, u)), eqb-true _ _ v.1, leb-true _ _ r.1)

    origins : (a : Origin) (f : ℕ) → Memᴰ a Q.origins → Memᴰ f (edges_from T a.stop)
        → (b : Origin) × (Memᴰ b Q.origins) × (b.stop ≡ edge_to T f) × (b.duration ≤ a.duration + walk_time T Q f)
    origins a f m k =
        let y = leaving a.stop f k in
        let p = every_in_at (λ f. origin_test a f) T.timetable.edges f
        (among (λ a. every_in (λ f. origin_test a f) 0 T.timetable.edges) Q.origins a (passed calm_tests e 3) m) y.1 in
        let w = found (λ (b : Origin). eqb b.stop (edge_to T f) && leb b.duration (a.duration + walk_time T Q f)) Q.origins
        (first_or (eqb (T.timetable.edge f).from a.stop) _ p (eq-eqb _ _ y.0)) in
        let r = both (eqb w.0.stop (edge_to T f)) (leb w.0.duration (a.duration + walk_time T Q f)) w.2 in
        (w.0, w.1, eqb-true _ _ r.0, leb-true _ _ r.1)

-- THE CONDITIONS of a day, from its tests
pub calm_conditions : (T : Tables) (Q : Query) → all_of (calm_tests T Q) ≡ true → CalmConditions T Q
calm_conditions T Q e =
    record {
      no-windows = λ t h. every_in_at (λ t. no_windows T t) (trips T) t (passed (calm_tests T Q) e 0) h;
      no_flags = not-true _ (passed (calm_tests T Q) e 1);
      edges_complete = complete T Q e;
      origins_complete = origins T Q e;
    }

pub plain_conditions : (T : Tables) (Q : Query) → all_of (plain_tests T Q) ≡ true → PlainConditions T Q
plain_conditions T Q e =
    record {
      no-delays = eqb-true _ _ (passed (plain_tests T Q) e 1);
      no_times_fall = no_times_fall T (passed (plain_tests T Q) e 2) (passed (plain_tests T Q) e 3);
      evenly_listed = evenly T Q e;
    }

-- tables as built that pass the tests are a plain day
pub plain_when : (T : Tables) (Q : Query) (listed : ℕ → List DepartureRow) → LinesBuilt T listed → TransfersBuilt T listed Q.settings.transfer_time
    → all_of (plain_tests T Q) ≡ true → PlainDay T Q
plain_when T Q listed lines transfers e =
    record {
      calm = record { listed = listed; built = lines; conditions = calm_conditions T Q (passed (plain_tests T Q) e 0) };
      transfers = transfers;
      conditions = plain_conditions T Q e;
    }

-- with its own a steady one
module _ (T : Tables) (Q : Query) (D : Door T Q) where
  at-stop : (f : ℕ → ℕ → Bool) → stops_test T Q f ≡ true → (x t o : ℕ) → x < stops T → Boarding T Q (effective T Q) x t o → f t o ≡ true
  at-stop f e x t o h b =
      first_or ((effective T Q).served t o) (f t o)
      (every_in_at (at_stop T Q f t) (stop_count T t) o (every_in_at (λ t. every_in (at_stop T Q f t) 0 (stop_count T t)) (trips T) t e (D.listed_trip x _ h b.listed)) (D.listed_offset x _ h b.listed))
      b.served

  between_stops : (f : ℕ → ℕ → ℕ → Bool) → between_test T Q f ≡ true → (t o p : ℕ) → t < trips T → o < p → p < stop_count T t
      → (effective T Q).served t o ≡ true → (effective T Q).served t p ≡ true → f t o p ≡ true
  between_stops f e t o p u l n a b =
      first_or ((effective T Q).served t p) (f t o p)
      (first_or ((effective T Q).served t o) _
      (every_in_at (from_stop T Q f t p) p o
      (every_in_at (λ p. every_in (from_stop T Q f t p) 0 p) (stop_count T t) p (every_in_at (λ t. every_in (λ p. every_in (from_stop T Q f t p) 0 p) 0 (stop_count T t)) (trips T) t e u) n) l) a)
      b

  pub steady_conditions : all_of (steady_tests T Q) ≡ true → SteadyConditions T Q
  steady_conditions e =
      record {
        rides = λ x t o p h b a. leb-true _ _ (between_stops (rises T Q) (passed (steady_tests T Q) e 1) t o p (D.listed_trip x _ h b.listed) a.later a.inside b.served a.served);
        arrivals = λ x t o p q h b a c l. leb-true _ _ (second_of (eqb p 0) _
            (between_stops (arrivals_rise T Q) (passed (steady_tests T Q) e 2) t p q (D.listed_trip x _ h b.listed) l c.inside a.served c.served)
            (ne_eqb p 0 (λ z. omega (arith, z, a.later))));
        departures = λ x y t o p h i b c l. leb-true _ _ (between_stops (departures_rise T Q) (passed (steady_tests T Q) e 3) t o p (D.listed_trip x _ h b.listed) l (D.listed_offset y _ i c.listed) b.served c.served);
        not_late = λ x t o h b. leb-true _ _ (at-stop (not_late T Q) (passed (steady_tests T Q) e 4) x t o h b);
        not-early = λ x t o h b. leb-true _ _ (at-stop (not_early T Q) (passed (steady_tests T Q) e 5) x t o h b);
        one-arrival = λ x t o p h b a. eqb-true _ _ (between_stops (one_arrival T Q) (passed (steady_tests T Q) e 6) t o p (D.listed_trip x _ h b.listed) a.later a.inside b.served a.served);
      }

  pub steady_when : (listed : ℕ → List DepartureRow) → LinesBuilt T listed → all_of (steady_tests T Q) ≡ true → SteadyDay T Q
  steady_when listed lines e =
      record { calm = record { listed = listed; built = lines; conditions = calm_conditions T Q (passed (steady_tests T Q) e 0) }; conditions = steady_conditions e }

pub trip_delays_when : (T : Tables) (Q : Query) → all_of (trip_delay_tests T Q) ≡ true → TripDelays T Q
trip_delays_when T Q e =
    record {
      only_skips = λ j h u. not-true _ (first_or (ltb (Q.delays.delay (Q.delays.stop_row j).row).trip (trips T)) _ (every_in_at (λ j. skip_test T Q j) Q.delays.stop_rows j (passed (trip_delay_tests T Q) e 0) h) (lt-ltb _ _ u));
      within_cap = λ i h u. leb-true _ _ (first_or (ltb (Q.delays.delay i).trip (trips T)) _ (every_in_at (λ i. cap_test T Q i) Q.delays.delays i (passed (trip_delay_tests T Q) e 1) h) (lt-ltb _ _ u));
      after_zero = λ i o h u n. every_in_at (λ o. zero_test T Q i o) (stop_count T (Q.delays.delay i).trip) o
          (first_or (ltb (Q.delays.delay i).trip (trips T)) _
          (every_in_at (λ i. not (ltb (Q.delays.delay i).trip (trips T)) || every_in (λ o. zero_test T Q i o) 0 (stop_count T (Q.delays.delay i).trip)) Q.delays.delays i (passed (trip_delay_tests T Q) e 2) h) (lt-ltb _ _ u)) n;
    }

-- built tables are as built, also without transfers
pub built-lines : (X : Timetable) (listed : ℕ → List DepartureRow) (time : ℕ) (patterns : List CellBitSet) → LinesBuilt (built X listed time patterns) listed
built-lines X listed time patterns =
    record {
      departures_built = λ s h. refl;
      marks_built = λ s h. refl;
      lines_built = refl;
      line_built = λ t h. refl;
      lists_built = record { count = λ l h. refl; trip = λ l p h i. refl };
    }

pub plain_holds : (X : Timetable) (listed : ℕ → List DepartureRow) (patterns : List CellBitSet) (Q : Query)
    → all_of (plain_tests (built X listed Q.settings.transfer_time patterns) Q) ≡ true → PlainDay (built X listed Q.settings.transfer_time patterns) Q
plain_holds X listed patterns Q =
    plain_when (built X listed Q.settings.transfer_time patterns) Q listed (built-lines X listed Q.settings.transfer_time patterns)
    (record { transfers_built = λ t o h l. refl })

pub bare_lines : (X : Timetable) (listed : ℕ → List DepartureRow) → LinesBuilt (bare X listed) listed
bare_lines X listed =
    record {
      departures_built = λ s h. refl;
      marks_built = λ s h. refl;
      lines_built = refl;
      line_built = λ t h. refl;
      lists_built = record { count = λ l h. refl; trip = λ l p h i. refl };
    }

pub calm_bare : (X : Timetable) (listed : ℕ → List DepartureRow) (Q : Query) → all_of (calm_tests (bare X listed) Q) ≡ true → CalmDay (bare X listed) Q
calm_bare X listed Q e = record { listed = listed; built = bare_lines X listed; conditions = calm_conditions (bare X listed) Q e }

pub steady_holds : (X : Timetable) (listed : ℕ → List DepartureRow) (Q : Query) → Door (bare X listed) Q → all_of (steady_tests (bare X listed) Q) ≡ true → SteadyDay (bare X listed) Q
steady_holds X listed Q D = steady_when (bare X listed) Q D listed (bare_lines X listed)
