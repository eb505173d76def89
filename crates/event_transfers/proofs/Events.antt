-- The walk over the events: one event, the events of a trip, all trips.
use Prim.Native.Nat.{ℕ, zero, suc, ◌+◌, ◌*◌, ◌-◌, ◌<◌, ◌≤◌, min}
use mathlib.Core.Path.{◌≡◌, refl, sym, ◌∙◌, ap, ap₂}
use mathlib.Core.Bool.{Bool, true, false, cond}
use mathlib.Core.List.{List, [], ◌++◌, flatten}
use native.Mathlib.Omega.{arith}
use native.Mathlib.Numerals.{add-one}
use lib.ListN.{length, take, drop, length-append, length-take}
use lib.Seq.{slice}
use lib.Dec.{eqb}
use Rattle.loops.specs.Count.{tab_from, count}
use Rattle.loops.proofs.Count.{length_tab_from}
use Rattle.sorts.proofs.Within.{part_slice}
use Rattle.tables.specs.declared.Counts.{Counts}
use Rattle.tables.specs.Tables.{count_of, first_of, time_of}
use Rattle.tables.specs.Sane.{Sane}
use Rattle.departures.specs.declared.StopRun.{StopRun}
use Rattle.departures.specs.Departures.{run_at, run_end, run_first}
use Rattle.departures.specs.Listed.{RunsListed}
use Rattle.event_transfers.specs.Packed.{Keys, AreaSoFar, LineEnds, LinesAfter, Most, Prepared, SortedRuns, EventAt, TripAt, AreaWalk, alight_keys, all_keys, event_keys, laid, lay, lay_event, lay_events, event_noted, put_run, targets, trip_keys, area_walk}
use Rattle.event_transfers.proofs.Lists.{flatten_append}
use Rattle.event_transfers.proofs.Grouping.{lines_part}
use Rattle.event_transfers.proofs.Laying.{events_append, events_n, lay_full, lay_n}

-- getting off where nothing more is counted, and where drop-off is 1
pub alight_full : (time : ℕ) (p : Prepared) (ti at : ℕ) (s : AreaSoFar) → 65536 < s.n → s ≡ lay time (alight_keys p ti at) s
alight_full time p ti at s h = sym (lay_full time (alight_keys p ti at) s h)

barred_keys : (p : Prepared) (ti at : ℕ) → eqb (time_of p.t at 5) 1 ≡ true → alight_keys p ti at ≡ []
unfolding alight_keys
barred_keys p ti at e =
    ap (λ (t : Bool). cond t [] (targets (slice (run_first p.runs (time_of p.t at 0)) (run_end p.runs (time_of p.t at 0)) p.work) ti (time_of p.t at 1 + p.time))) e

pub alight_barred : (time : ℕ) (p : Prepared) (ti at : ℕ) (s : AreaSoFar) → eqb (time_of p.t at 5) 1 ≡ true → s ≡ lay time (alight_keys p ti at) s
unfolding lay
alight_barred time p ti at s e = sym (ap (λ (l : List ℕ). lay time l s) (barred_keys p ti at e))

-- getting off at a stop
module _ (p : Prepared) (ends : List ℕ) (d at : ℕ) (sane : Sane p.t p.c) (l : RunsListed p.c p.runs d) (k : SortedRuns p.c p.runs p.work ends d) (u : at < p.c.times) (stop : ℕ) (e : stop ≡ time_of p.t at 0) where
  stop_below : stop < p.c.stops
  stop_below = omega (arith, e, sane.numbers.stop at u)

  pub stop_read : stop * 2 + 1 < length p.runs
  stop_read = omega (arith, stop_below, l.size)

  pub run_inside : (r : StopRun) → r ≡ run_at p.runs stop → r.first + r.length ≤ length p.work
  run_inside r q = rw q (omega (arith, l.run stop stop_below, k.size))

  stop_part : (r : StopRun) → r ≡ run_at p.runs stop → take (r.first + r.length - r.first) (drop r.first p.work) ≡ slice (run_first p.runs stop) (run_end p.runs stop) p.work
  stop_part r q =
      part_slice r.first (r.first + r.length) p.work (omega arith) (run_inside r q)
      ∙ ap (λ (x : StopRun). slice x.first (x.first + x.length) p.work) q

  pub run_keys : (r : StopRun) → r ≡ run_at p.runs stop → Keys (take (r.first + r.length - r.first) (drop r.first p.work))
  run_keys r q = rw (stop_part r q) (k.keys stop stop_below)

  pub run_lines : (r : StopRun) → r ≡ run_at p.runs stop
      → LineEnds (take (r.first + r.length - r.first) (drop r.first p.work)) (take (r.first + r.length - r.first) (drop r.first ends))
  run_lines r q = lines_part p.work ends r.first (r.first + r.length - r.first) k.lines (omega (arith, run_inside r q))

  open_keys : (ti arrival : ℕ) (r : StopRun) → eqb (time_of p.t at 5) 1 ≡ false → arrival ≡ time_of p.t at 1 → r ≡ run_at p.runs stop
      → targets (take (r.first + r.length - r.first) (drop r.first p.work)) ti (arrival + p.time) ≡ alight_keys p ti at
  unfolding alight_keys
  open_keys ti arrival r f a q =
      ap₂ (λ (v : List ℕ) (w : ℕ). targets v ti (w + p.time))
      (stop_part r q ∙ ap (λ (i : ℕ). slice (run_first p.runs i) (run_end p.runs i) p.work) e) a
      ∙ sym (ap (λ (t : Bool). cond t [] (targets (slice (run_first p.runs (time_of p.t at 0)) (run_end p.runs (time_of p.t at 0)) p.work) ti (time_of p.t at 1 + p.time))) f)

  pub alight_open : (time ti arrival : ℕ) (r : StopRun) (s : AreaSoFar) → eqb (time_of p.t at 5) 1 ≡ false → arrival ≡ time_of p.t at 1 → r ≡ run_at p.runs stop
      → lay time (targets (take (r.first + r.length - r.first) (drop r.first p.work)) ti (arrival + p.time)) s ≡ lay time (alight_keys p ti at) s
  alight_open time ti arrival r s f a q = ap (λ (m : List ℕ). lay time m s) (open_keys ti arrival r f a q)

  pub most_open : (arrival : ℕ) (r : StopRun) (n m : ℕ) → eqb (time_of p.t at 5) 1 ≡ false → arrival ≡ time_of p.t at 1 → r ≡ run_at p.runs stop → n ≤ 65536
      → LinesAfter (take (r.first + r.length - r.first) (drop r.first p.work)) (arrival + p.time) m → (ti : ℕ) → Most n (length (alight_keys p ti at)) (n + m) 0
  most_open arrival r n m f a q b after ti =
      record {
        grows = omega arith;
        few = omega (arith, after.few, length-take (r.first + r.length - r.first) (drop r.first p.work), l.run stop stop_below, l.few, ap (λ (y : StopRun). y.length) q);
        most = λ u. omega (arith, after.most ti, ap length (open_keys ti arrival r f a q));
      }

-- one event
pub event_time : (t : List ℕ) (c : Counts) (ti off first : ℕ) → Sane t c → ti < c.trips → off < count_of t c ti → first ≡ first_of t c ti → first + off < c.times
event_time t c ti off first s h k e = omega (arith, s.runs.run ti h, k, e)

pub lay_grown : (time : ℕ) (l : List ℕ) (n r : ℕ) (a b : List ℕ) → laid r a ≡ lay time l (laid n b) → n ≤ 65537 → (n ≤ r) × (r ≤ 65537)
lay_grown time l n r a b e h =
    let q : r ≡ min (n + length l) 65537 = ap (λ (s : AreaSoFar). s.n) e ∙ lay_n time l (laid n b) h in
    (omega arith, omega arith)

pub event_is : (time e : ℕ) (l : List ℕ) (n r : ℕ) (a a' v v' : List ℕ) → laid r a' ≡ lay time l (laid n a) → v' ≡ put_run v e n (r - n) → area_walk r a' v' ≡ lay_event time e l (area_walk n a v)
unfolding lay_event
event_is time e l n r a a' v v' p q = ap (area_walk r a') q ∙ ap (event_noted e (area_walk n a v)) p

-- the events of a trip: where one stands, one turn, the end
pub event-at : (t : List ℕ) (c : Counts) (ti off e m n time count : ℕ) → Sane t c → TripAt c ti e m time → count ≡ count_of t c ti → off < count → n ≤ 65537 → EventAt t c ti off (e + off) n time
event-at t c ti off e m n time count s a k h u =
    record { trip = a.trip; offset = omega arith; event = omega (arith, a.event, a.trip, s.counts.trips, s.counts.times, s.runs.run ti a.trip); few = u; short = a.short }

pub events_again : (time e off count : ℕ) (f : ℕ → List ℕ) {whole : AreaWalk} (w : AreaWalk) {w' : AreaWalk} → whole ≡ lay_events time (e + off) (tab_from f off (count - off)) w → w' ≡ lay_event time (e + off) (f off) w
    → off < count → whole ≡ lay_events time (e + (off + 1)) (tab_from f (off + 1) (count - (off + 1))) w'
unfolding lay_events tab_from
events_again time e off count f {whole} w {w'} inv q h =
    let n : count - off ≡ suc (count - (off + 1)) = omega arith in
    let i : e + off + 1 ≡ e + (off + 1) = omega arith in
    inv
    ∙ ap (λ (m : ℕ). lay_events time (e + off) (tab_from f off m) w) n
    ∙ ap₂ (λ (j m : ℕ). lay_events time j (tab_from f m (count - (off + 1))) (lay_event time (e + off) (f off) w)) i (sym (add-one off))
    ∙ ap (lay_events time (e + (off + 1)) (tab_from f (off + 1) (count - (off + 1)))) (sym q)

pub events_left : (time e off count : ℕ) (f : ℕ → List ℕ) {whole w : AreaWalk} → whole ≡ lay_events time (e + off) (tab_from f off (count - off)) w → count ≤ off → w ≡ whole
unfolding lay_events tab_from
events_left time e off count f {whole} {w} inv h =
    let n : count - off ≡ 0 = omega arith in
    sym (inv ∙ ap (λ (m : ℕ). lay_events time (e + off) (tab_from f off m) w) n)

-- all trips
pub trips_again : (time e ti trips count : ℕ) (g : ℕ → List (List ℕ)) {whole : AreaWalk} (w : AreaWalk) {w' : AreaWalk} → whole ≡ lay_events time e (flatten (tab_from g ti (trips - ti))) w
    → w' ≡ lay_events time e (g ti) w → count ≡ length (g ti) → ti < trips → whole ≡ lay_events time (e + count) (flatten (tab_from g (ti + 1) (trips - (ti + 1)))) w'
unfolding flatten tab_from
trips_again time e ti trips count g {whole} w {w'} inv q k h =
    let n : trips - ti ≡ suc (trips - (ti + 1)) = omega arith in
    inv
    ∙ ap (λ (m : ℕ). lay_events time e (flatten (tab_from g ti m)) w) n
    ∙ events_append time e (g ti) (flatten (tab_from g (suc ti) (trips - (ti + 1)))) w
    ∙ ap₂ (λ (j m : ℕ). lay_events time (e + j) (flatten (tab_from g m (trips - (ti + 1)))) (lay_events time e (g ti) w)) (sym k) (sym (add-one ti))
    ∙ ap (lay_events time (e + count) (flatten (tab_from g (ti + 1) (trips - (ti + 1))))) (sym q)

pub trips_left : (time e ti trips : ℕ) (g : ℕ → List (List ℕ)) {whole w : AreaWalk} → whole ≡ lay_events time e (flatten (tab_from g ti (trips - ti))) w → trips ≤ ti → w ≡ whole
unfolding flatten lay_events tab_from
trips_left time e ti trips g {whole} {w} inv h =
    let n : trips - ti ≡ 0 = omega arith in
    sym (inv ∙ ap (λ (m : ℕ). lay_events time e (flatten (tab_from g ti m)) w) n)

pub trip_length : (p : Prepared) (ti count : ℕ) → count ≡ count_of p.t p.c ti → count ≡ length (trip_keys p ti)
trip_length p ti count e = e ∙ sym (length_tab_from (event_keys p ti) 0 (count_of p.t p.c ti))

-- how many there are
pub total_is : (time : ℕ) (ls : List (List ℕ)) (r : ℕ) (a b v v' : List ℕ) → area_walk r a v ≡ lay_events time 0 ls (area_walk 0 b v') → r ≡ min (length (flatten ls)) 65537
total_is time ls r a b v v' e =
    let q : r ≡ min (0 + length (flatten ls)) 65537 = ap (λ (w : AreaWalk). w.n) e ∙ events_n time 0 ls (area_walk 0 b v') (omega arith) in
    omega arith

-- HOW MANY AT MOST: drop-off is 1
pub most_barred : (p : Prepared) (ti at n : ℕ) → n ≤ 65536 → eqb (time_of p.t at 5) 1 ≡ true → Most n (length (alight_keys p ti at)) n 0
most_barred p ti at n u e = let z = ap length (barred_keys p ti at e) in record { grows = omega arith; few = omega arith; most = λ v. omega (arith, z) }

pub most_event : (p : Prepared) (ti off first m m' : ℕ) → first ≡ first_of p.t p.c ti → Most m (length (alight_keys p ti (first + off))) m' 0 → Most m (length (event_keys p ti off)) m' 0
most_event p ti off first m m' e h = rw (sym e) h

-- as the walk begins, one turn, the end
tab_turn : (f : ℕ → List ℕ) (i count : ℕ) → i < count → length (flatten (tab_from f i (count - i))) ≡ length (f i) + length (flatten (tab_from f (i + 1) (count - (i + 1))))
unfolding flatten tab_from
tab_turn f i count h =
    let z : count - i ≡ suc (count - (i + 1)) = omega arith in
    ap (λ (k : ℕ). length (flatten (tab_from f i k))) z
    ∙ length-append (f i) (flatten (tab_from f (suc i) (count - (i + 1))))
    ∙ ap (λ (k : ℕ). length (f i) + length (flatten (tab_from f k (count - (i + 1))))) (sym (add-one i))

pub most_again : (f : ℕ → List ℕ) (n whole i count m m' : ℕ) → Most n whole m (length (flatten (tab_from f i (count - i)))) → Most m (length (f i)) m' 0 → i < count
    → Most n whole m' (length (flatten (tab_from f (i + 1) (count - (i + 1)))))
most_again f n whole i count m m' a b h =
    record { grows = omega (arith, a.grows, b.grows); few = b.few; most = λ u. omega (arith, a.most (omega (arith, b.grows)), b.most u, tab_turn f i count h) }

pub most_left : (f : ℕ → List ℕ) (n whole i count m : ℕ) → Most n whole m (length (flatten (tab_from f i (count - i)))) → count ≤ i → Most n whole m 0
unfolding flatten tab_from
most_left f n whole i count m a h =
    let z : count - i ≡ 0 = omega arith in
    let q = ap (λ (k : ℕ). length (flatten (tab_from f i k))) z in
    record { grows = a.grows; few = a.few; most = λ u. omega (arith, a.most u, q) }

-- all trips' events, as one list a trip
flatten_twice : {A : Type 0} (g : ℕ → List (List A)) (i n : ℕ) → flatten (flatten (tab_from g i n)) ≡ flatten (tab_from (λ k. flatten (g k)) i n)
unfolding flatten tab_from
flatten_twice g i zero = refl
flatten_twice {A} g i (suc n) = flatten_append (g i) (flatten (tab_from g (suc i) n)) ∙ ap (λ (m : List A). flatten (g i) ++ m) (flatten_twice g (suc i) n)

pub most_all_start : (p : Prepared) (trips : ℕ) → trips ≡ p.c.trips
    → Most 0 (length (flatten (all_keys p))) 0 (length (flatten (tab_from (λ k. flatten (trip_keys p k)) 0 (trips - 0))))
most_all_start p trips e =
    let q = ap length (flatten_twice (trip_keys p) 0 p.c.trips) in
    let z : trips - 0 ≡ p.c.trips = omega arith in
    let y = ap (λ (k : ℕ). length (flatten (tab_from (λ k. flatten (trip_keys p k)) 0 k))) z in
    record { grows = omega arith; few = omega arith; most = λ u. omega (arith, q, y) }
