-- Two slices that say the same rides (specs/Chain `SameRides`): their lines, sorted departures and marks are the same.
use Prim.Native.Nat.{ℕ, zero, suc, ◌+◌, ◌-◌, ◌<◌, ◌≤◌}
use mathlib.Core.Path.{◌≡◌, refl, sym, ap, ap₂, ◌∙◌}
use mathlib.Core.Bool.{Bool, true, false, ◌&&◌, ◌||◌, cond}
use mathlib.Core.List.{List, [], ◌∷◌}
use native.Mathlib.Omega.{arith}
use lib.ListN.{length, get_or}
use lib.Dec.{eqb, ltb}
use borrow.Author.Tests.{eqb-true}
use Rattle.loops.specs.Iter.{Hit, hit, every, every_in, first, found_or}
use Rattle.loops.specs.Count.{count, one, upto}
use Rattle.loops.proofs.Count.{count_ext}
use Rattle.sorts.specs.Sort.{sort_by}
use Rattle.sorts.specs.Orders.{All, nil, cons, keep}
use Rattle.sorts.proofs.Orders.{sort_cong}
use Rattle.sorts.proofs.Places.{keep_all}
use Rattle.tables.specs.declared.Counts.{Counts}
use Rattle.tables.specs.declared.StopTimeRow.{StopTimeRow}
use Rattle.tables.specs.Tables.{first_of, stop_time_at}
use Rattle.tables.specs.Timetable.{Timetable, timetable, time_at}
use Rattle.tables.specs.Sane.{RunsOk}
use Rattle.departures.specs.declared.DepartureRow.{DepartureRow}
use Rattle.departures.specs.Departures.{row_departure, by_departure, mark_of, frequency_listed, listed_at, row_at, departures_of, run_first, run_length}
use Rattle.departures.specs.Listed.{RowKnown, RowsListed}
use Rattle.departures.proofs.Parts.{part_row}
use Rattle.departures.proofs.All.{all_tab}
use Rattle.line_numbers.specs.Lines.{same, lead_of, is_lead, line_of, lines_of, line_is, line_trips, first_departure}
use Rattle.line_numbers.proofs.Same.{lead_is}
use Rattle.line_numbers.proofs.Lists.{all_upto}
use Rattle.line_layout.specs.Layout.{LineTrips}
use Rattle.built_lines.specs.Built.{AsBuilt}
use Rattle.promise.specs.Chain.{SameRides}

pub all_imp : {A : Type 0} {P Q : A → Type 0} (l : List A) → ((y : A) → P y → Q y) → All P l → All Q l
all_imp [] f nil = nil
all_imp (y ∷ l) f (cons p ps) = cons (f y p) (all_imp l f ps)

-- loops whose tests agree where they are asked
every_ext : (f g : ℕ → Bool) (i n : ℕ) → ((k : ℕ) → i ≤ k → k < i + n → f k ≡ g k) → every f i n ≡ every g i n
unfolding every
every_ext f g i zero h = refl
every_ext f g i (suc n) h = ap₂ (λ (a b : Bool). a && b) (h i (omega arith) (omega arith)) (every_ext f g (suc i) n (λ k u v. h k (omega arith) (omega arith)))

first_ext : (f g : ℕ → Bool) (i n : ℕ) → ((k : ℕ) → i ≤ k → k < i + n → f k ≡ g k) → first f i n ≡ first g i n
unfolding first
first_ext f g i zero h = refl
first_ext f g i (suc n) h = ap₂ (λ (b : Bool) (r : Hit). elim b [ true ↦ hit i | false ↦ r ]) (h i (omega arith) (omega arith)) (first_ext f g (suc i) n (λ k u v. h k (omega arith) (omega arith)))

pub keep_ext : {A : Type 0} (p q : A → Bool) (l : List A) → All (λ y. p y ≡ q y) l → keep p l ≡ keep q l
unfolding keep
keep_ext p q [] nil = refl
keep_ext {A} p q (x ∷ l) (cons e es) = ap₂ (λ (b : Bool) (r : List A). cond b (x ∷ r) r) e (keep_ext p q l es)

module _ (t : List ℕ) (c : Counts) (t' : List ℕ) (c' : Counts) (r : RunsOk t c) (s : SameRides t c t' c') where
  abbrev X : Timetable
  X = timetable t c

  abbrev Y : Timetable
  Y = timetable t' c'

  pub first_same : (i : ℕ) → i < c.trips → (Y.trip i).first ≡ (X.trip i).first
  first_same i h = s.trip i 0 h (omega arith)

  pub count_same : (i : ℕ) → i < c.trips → (Y.trip i).count ≡ (X.trip i).count
  count_same i h = s.trip i 1 h (omega arith)

  pub windows_same : (i : ℕ) → i < c.trips → (Y.trip i).windows ≡ (X.trip i).windows
  windows_same i h = s.trip i 5 h (omega arith)

  row_same : (i : ℕ) → i < c.times → stop_time_at t' i ≡ stop_time_at t i
  row_same i h =
      let a = s.time i 0 h (omega arith) in
      let b = s.time i 1 h (omega arith) in
      let d = s.time i 2 h (omega arith) in
      let e = s.time i 3 h (omega arith) in
      let f = s.time i 4 h (omega arith) in
      let g = s.time i 5 h (omega arith) in
      simp (a, b, d, e, f, g)

  pub time_same : (i o : ℕ) → i < c.trips → o < (X.trip i).count → time_at Y i o ≡ time_at X i o
  time_same i o h u =
      ap (λ (k : ℕ). stop_time_at t' (k + o)) (first_same i h) ∙ row_same (first_of t c i + o) (omega (arith, r.run i h))

  pub same_same : (a b : ℕ) → a < c.trips → b < c.trips → same Y a b ≡ same X a b
  unfolding same
  same_same a b h u =
      ap₂ (λ (m n : ℕ). eqb m n && every_in (λ k. eqb (time_at Y a k).stop (time_at Y b k).stop) 0 m) (count_same a h) (count_same b u)
      ∙ go (eqb (X.trip a).count (X.trip b).count) refl
    where
      go : (p : Bool) → eqb (X.trip a).count (X.trip b).count ≡ p
          → (p && every_in (λ k. eqb (time_at Y a k).stop (time_at Y b k).stop) 0 (X.trip a).count) ≡ (p && every_in (λ k. eqb (time_at X a k).stop (time_at X b k).stop) 0 (X.trip a).count)
      go false e = refl
      go true e =
          let z = eqb-true (X.trip a).count (X.trip b).count e in
          every_ext (λ k. eqb (time_at Y a k).stop (time_at Y b k).stop) (λ k. eqb (time_at X a k).stop (time_at X b k).stop) 0 ((X.trip a).count - 0)
          (λ k v w. ap₂ (λ (p q : StopTimeRow). eqb p.stop q.stop) (time_same a k h (omega arith)) (time_same b k u (omega arith)))

  pub lead-same : (i : ℕ) → i < c.trips → lead_of Y i ≡ lead_of X i
  unfolding lead_of
  lead-same i h = ap (λ (x : Hit). found_or x i) (first_ext (λ a. same Y a i) (λ a. same X a i) 0 (i - 0) (λ k u v. same_same k i (omega arith) h))

  leads_same : (i : ℕ) → i < c.trips → is_lead Y i ≡ is_lead X i
  unfolding is_lead
  leads_same i h = ap (λ (k : ℕ). eqb k i) (lead-same i h)

  pub line_same : (i : ℕ) → i < c.trips → line_of Y i ≡ line_of X i
  unfolding line_of
  line_same i h = ap (count (is_lead Y)) (lead-same i h) ∙ count_ext (is_lead Y) (is_lead X) (lead_of X i) (λ k u. leads_same k (omega (arith, (lead_is X i).le)))

  pub lines_same : lines_of Y ≡ lines_of X
  lines_same = ap (count (is_lead Y)) s.trips ∙ count_ext (is_lead Y) (is_lead X) c.trips (λ k u. leads_same k u)

  pub trips_same : (l : ℕ) → line_trips Y l ≡ line_trips X l
  unfolding line_trips
  trips_same l =
      ap (λ (n : ℕ). sort_by (first_departure Y) (keep (line_is Y l) (upto n))) s.trips
      ∙ ap (sort_by (first_departure Y)) (keep_ext (line_is Y l) (line_is X l) (upto c.trips) (all_imp (upto c.trips) (λ i h. ap (λ (k : ℕ). eqb k l) (line_same i h)) (all_upto c.trips)))
      ∙ sort_cong (first_departure Y) (first_departure X) (keep (line_is X l) (upto c.trips))
      (all_imp (keep (line_is X l) (upto c.trips)) (λ i h. ap (λ (p : StopTimeRow). p.departure) (time_same i 0 h.0 (r.some i h.0))) (keep_all (λ i. i < c.trips) (line_is X l) (upto c.trips) (all_upto c.trips)))

  pub departure_same : (y : DepartureRow) → RowKnown t c y → row_departure Y y ≡ row_departure X y
  departure_same y k = ap (λ (p : StopTimeRow). p.departure) (time_same y.trip y.offset k.trip k.offset)

  pub sorted_same : (l : List DepartureRow) → All (RowKnown t c) l → by_departure Y l ≡ by_departure X l
  sorted_same l a = sort_cong (row_departure Y) (row_departure X) l (all_imp l (λ y k. departure_same y k) a)

  pub mark_same : (l : List DepartureRow) → All (RowKnown t c) l → mark_of Y l ≡ mark_of X l
  unfolding frequency_listed
  mark_same l a = ap one (go l a)
    where
      go : (l : List DepartureRow) → All (RowKnown t c) l → frequency_listed Y l ≡ frequency_listed X l
      go [] nil = refl
      go (y ∷ l) (cons k ks) = ap₂ (λ (a b : Bool). a || b) (ap (ltb 0) (windows_same y.trip k.trip)) (go l ks)

  -- lists as built of one are as built of the other
  pub lists_same : (line : ℕ → LineTrips) → AsBuilt X line → AsBuilt Y line
  lists_same line b =
      record {
        count = λ l h. b.count l (omega (arith, lines_same)) ∙ sym (ap length (trips_same l));
        trip = λ l p h u. b.trip l p (omega (arith, lines_same)) u ∙ sym (ap (λ (m : List ℕ). get_or m p 0) (trips_same l));
      }

  -- a row that one knows the other knows
  pub known_same : (y : DepartureRow) → y.trip < c'.trips → y.offset < (Y.trip y.trip).count → RowKnown t c y
  known_same y h u =
      let v : y.trip < c.trips = omega (arith, s.trips) in
      record { trip = v; offset = omega (arith, u, count_same y.trip v) }

-- the rows of a stop, of a list that passed the questions, are known
pub stop_known : (t : List ℕ) (c : Counts) (runs rows : List ℕ) (d : ℕ) → RowsListed t c runs rows d → (u : ℕ) → u < c.stops → All (RowKnown t c) (listed_at runs rows u)
stop_known t c runs rows d l u h =
    all_tab (RowKnown t c) (row_at (departures_of runs rows u)) 0 (run_length runs u)
    (λ k v w. rw (part_row rows (run_first runs u) (run_length runs u) k (omega arith)) (l.known.known (run_first runs u + k) (omega (arith, l.stops.run u h))))
