-- What the walk over the numbers counts and writes is what is defined.
use Prim.Native.Nat.{ℕ, zero, suc, ◌+◌, ◌*◌, ◌≤◌, min}
use mathlib.Core.Path.{◌≡◌, refl, sym, ◌∙◌, ap, ap₂}
use mathlib.Core.Bool.{Bool, true, false, ◌&&◌, cond}
use mathlib.Core.List.{List, [], ◌∷◌, ◌++◌, flatten, map}
use native.Mathlib.Omega.{arith}
use lib.ListN.{length, drop, length-append}
use lib.Dec.{leb}
use borrow.Author.Tests.{le-leb, leb-false, leb-true, lt-leb}
use Rattle.loops.specs.Count.{tab, tab_from}
use Rattle.loops.proofs.Count.{length_tab_from}
use Rattle.loops.proofs.Iter.{and_left, and_right}
use Rattle.sorts.specs.Sort.{hi}
use Rattle.sorts.specs.Orders.{All, cons, nil}
use Rattle.sorts.proofs.Within.{within_whole}
use Rattle.tables.specs.Timetable.{Timetable}
use Rattle.departures.specs.declared.DepartureRow.{DepartureRow}
use Rattle.departures.specs.Departures.{sort_stops}
use Rattle.door.specs.Door.{refusal, success}
use Rattle.event_transfers.specs.Transfers.{Input, all_transfers, built_transfers, events_before, events_of, runs_from, transfer_of, transfer_words}
use Rattle.event_transfers.specs.Packed.{AreaSoFar, LineEnds, Most, Prepared, SortedRuns, AreaWalk, all_keys, lay_events, prepared, area_walk}
use Rattle.transfers_call.specs.Settled.{settled_keys, walk_areas}
use Rattle.transfers_call.specs.Call.{TransfersAdmitted, TransferAreas, TransferLent, TransfersOutcome, area_with, transfer_areas, input_of, transfers_outcome_of, room_ok, transfers_settled, written}
use Rattle.event_transfers.proofs.Lists.{flatten_map, length-map, within_is}
use Rattle.event_transfers.proofs.Events.{total_is}
use Rattle.event_transfers.proofs.Laying.{events_laid, events_runs, key_words, lay_area}
use Rattle.transfers_call.proofs.Packing.{pack_offset, pack_trip}
use Rattle.transfers_call.proofs.Runs.{RowFits, numbers_of, pack_of, sorted_runs, work_of}
use Rattle.transfers_call.proofs.Meaning.{all-keys, events_are, prepared_of, row_events, all_are, transfers_fit}

-- the words and the runs of numbers
words_are : (x : TransferLent) (l : List DepartureRow) → All (RowFits x) l → key_words x.settings.transfer_time (map (pack_of x) l) ≡ transfer_words (map (transfer_of x.settings.transfer_time) l)
unfolding key_words transfer_words
words_are x [] nil = refl
words_are x (r ∷ l) (cons k a) =
    ap₂ ◌∷◌ (pack_trip x.t x.c x.lines r k.fits)
    (ap₂ ◌∷◌ (pack_offset x.t x.c x.lines r k.fits) (ap (λ (m : List ℕ). x.settings.transfer_time ∷ 0 ∷ m) (words_are x l a)))

runs_are : {A B : Type 0} (f : A → B) (n : ℕ) (l : List (List A)) → runs_from n (map (map f) l) ≡ runs_from n l
unfolding runs_from
runs_are f n [] = refl
runs_are f n (x ∷ l) =
    ap₂ (λ (m : ℕ) (r : List ℕ). n ∷ m ∷ r) (length-map f x) (ap (λ (m : ℕ). runs_from (n + m) (map (map f) l)) (length-map f x) ∙ runs_are f (n + length x) l)

-- how many events there are
events_counted : {A : Type 0} (T : Timetable) (f : ℕ → ℕ → A) (i n : ℕ) → length (flatten (tab_from (λ k. tab (f k) (T.trip k).count) i n)) + events_before T i ≡ events_before T (i + n)
unfolding flatten tab_from events_before
events_counted T f i zero =
    let e : i ≡ i + 0 = omega arith in
    let q = ap (events_before T) e in
    omega arith
events_counted T f i (suc n) =
    let e : suc i + n ≡ i + suc n = omega arith in
    let q = ap (events_before T) e in
    omega (arith, events_counted T f (suc i) n, length-append (tab (f i) (T.trip i).count) (flatten (tab_from (λ k. tab (f k) (T.trip k).count) (suc i) n)), length_tab_from (f i) 0 (T.trip i).count, q)

pub events_length : (y : Input) → length (events_of y) ≡ events_before y.timetable y.timetable.trips
unfolding events_of events_before
events_length y =
    let e : 0 + y.timetable.trips ≡ y.timetable.trips = omega arith in
    let q = ap (events_before y.timetable) e in
    omega (arith, events_counted y.timetable (built_transfers y) 0 y.timetable.trips, q)

-- question 7, asked of the count that stops at 65,537
room_capped : (n area : ℕ) → room_ok (min n 65537) area ≡ room_ok n area
unfolding room_ok
room_capped n area = go (leb n 65536) refl
  where
    go : (t : Bool) → leb n 65536 ≡ t → leb (min n 65537) 65536 && leb (min n 65537 * 4) area ≡ leb n 65536 && leb (n * 4) area
    go true e = let u = leb-true n 65536 e in let q : min n 65537 ≡ n = omega arith in rw q
    go false e =
        let u = leb-false n 65536 e in
        ap (λ (t : Bool). t && leb (min n 65537 * 4) area) (lt-leb (min n 65537) 65536 (omega arith))
        ∙ sym (ap (λ (t : Bool). t && leb (n * 4) area) e)

pub record Room (n area : ℕ) : Type 0 where
  pub few : n ≤ 65536
  pub space : n * 4 ≤ area

pub room_yes : (n area : ℕ) → room_ok n area ≡ true → Room n area
unfolding room_ok
room_yes n area h = record { few = leb-true n 65536 (and_left (leb n 65536) (leb (n * 4) area) h); space = leb-true (n * 4) area (and_right (leb n 65536) (leb (n * 4) area) h) }

yes_room : (n area : ℕ) → n ≤ 65536 → n * 4 ≤ area → room_ok n area ≡ true
unfolding room_ok
yes_room n area h k = ap₂ ◌&&◌ (le-leb n 65536 h) (le-leb (n * 4) area k)

-- THE OUTCOME of an admitted call
module _ (x : TransferLent) (s : TransferAreas) (a : TransfersAdmitted x (length s.transfer_runs)) where
  keys : all_keys (prepared_of x) ≡ map (map (pack_of x)) (row_events (input_of x))
  keys = all-keys x (length s.transfer_runs) a

  rows : flatten (all_keys (prepared_of x)) ≡ map (pack_of x) (flatten (row_events (input_of x)))
  rows = ap flatten keys ∙ flatten_map (pack_of x) (row_events (input_of x))

  counted : length (flatten (all_keys (prepared_of x))) ≡ length (all_transfers (input_of x))
  counted =
      ap length rows ∙ length-map (pack_of x) (flatten (row_events (input_of x)))
      ∙ sym (ap length (all_are (input_of x)) ∙ length-map (transfer_of x.settings.transfer_time) (flatten (row_events (input_of x))))

  events : length (all_keys (prepared_of x)) * 2 ≡ length s.transfer_runs
  events =
      omega (arith, ap length keys ∙ length-map (map (pack_of x)) (row_events (input_of x)), ap length (events_are (input_of x)) ∙ length-map (map (transfer_of x.settings.transfer_time)) (row_events (input_of x)), events_length (input_of x), a.events)

  area_is : length (all_transfers (input_of x)) ≤ 65536 → length (all_transfers (input_of x)) * 4 ≤ length s.area → (lay_events x.settings.transfer_time 0 (all_keys (prepared_of x)) (area_walk 0 s.area s.transfer_runs)).area ≡ area_with (input_of x) s.area
  unfolding area_with
  area_is few room =
      let e : (0 + length (flatten (all_keys (prepared_of x)))) * 4 ≡ length (all_transfers (input_of x)) * 4 = omega (arith, counted) in
      ap (λ (w : AreaSoFar). w.area)
      (events_laid x.settings.transfer_time 0 (all_keys (prepared_of x)) (area_walk 0 s.area s.transfer_runs)
      ∙ lay_area x.settings.transfer_time (flatten (all_keys (prepared_of x))) 0 s.area (omega (arith, counted)) (omega (arith, counted)))
      ∙ within_is (0 * 4) ((0 + length (flatten (all_keys (prepared_of x)))) * 4) (key_words x.settings.transfer_time (flatten (all_keys (prepared_of x)))) s.area
      ∙ ap₂ (λ (l : List ℕ) (m : ℕ). l ++ drop m s.area)
      (ap (key_words x.settings.transfer_time) rows ∙ words_are x (flatten (row_events (input_of x))) (transfers_fit x (length s.transfer_runs) a) ∙ ap transfer_words (sym (all_are (input_of x)))) e

  runs-is : length (all_transfers (input_of x)) ≤ 65536 → (lay_events x.settings.transfer_time 0 (all_keys (prepared_of x)) (area_walk 0 s.area s.transfer_runs)).evs ≡ runs_from 0 (events_of (input_of x))
  runs-is few =
      events_runs x.settings.transfer_time 0 (all_keys (prepared_of x)) (area_walk 0 s.area s.transfer_runs) (omega (arith, counted)) (omega (arith, events))
      ∙ within_whole ((0 + length (all_keys (prepared_of x))) * 2) (runs_from 0 (all_keys (prepared_of x))) s.transfer_runs (omega (arith, events))
      ∙ ap (runs_from 0) keys ∙ runs_are (pack_of x) 0 (row_events (input_of x)) ∙ sym (ap (runs_from 0) (events_are (input_of x)) ∙ runs_are (transfer_of x.settings.transfer_time) 0 (row_events (input_of x)))

  pub settled_is : settled_keys (prepared_of x) s ≡ transfers_settled (input_of x) s
  unfolding settled_keys transfers_settled
  settled_is = go (room_ok (length (all_transfers (input_of x))) (length s.area)) refl
    where
      asked : room_ok (min (length (flatten (all_keys (prepared_of x)))) 65537) (length s.area) ≡ room_ok (length (all_transfers (input_of x))) (length s.area)
      asked = ap (λ (n : ℕ). room_ok (min n 65537) (length s.area)) counted ∙ room_capped (length (all_transfers (input_of x))) (length s.area)

      keyed : Bool → TransfersOutcome
      keyed b =
          cond b
          (transfers_outcome_of (success (min (length (flatten (all_keys (prepared_of x)))) 65537)) (walk_areas (lay_events x.settings.transfer_time 0 (all_keys (prepared_of x)) (area_walk 0 s.area s.transfer_runs))))
          (transfers_outcome_of (refusal 7) s)

      defined : Bool → TransfersOutcome
      defined b = cond b (transfers_outcome_of (success (length (all_transfers (input_of x)))) (written (input_of x) s)) (transfers_outcome_of (refusal 7) s)

      go : (b : Bool) → room_ok (length (all_transfers (input_of x))) (length s.area) ≡ b → settled_keys (prepared_of x) s ≡ transfers_settled (input_of x) s
      go true e =
          let r = room_yes (length (all_transfers (input_of x))) (length s.area) e in
          let n : min (length (flatten (all_keys (prepared_of x)))) 65537 ≡ length (all_transfers (input_of x)) = omega (arith, counted, r.few) in
          ap keyed (asked ∙ e)
          ∙ ap₂ transfers_outcome_of (ap success n) (ap₂ transfer_areas (area_is r.few r.space) (runs-is r.few))
          ∙ sym (ap defined e)
      go false e = ap keyed (asked ∙ e) ∙ sym (ap defined e)

-- one step of the call: written
pub settle_yes : (p : Prepared) (s : TransferAreas) (n m : ℕ) (b : Bool) (a' v' : List ℕ) → n ≡ min (length (flatten (all_keys p))) 65537 → b ≡ room_ok n (length s.area) → b ≡ true
    → area_walk m a' v' ≡ lay_events p.time 0 (all_keys p) (area_walk 0 s.area s.transfer_runs) → transfers_outcome_of (success n) (transfer_areas a' v') ≡ settled_keys p s
unfolding settled_keys
settle_yes p s n m b a' v' e f g h =
    let z : room_ok (min (length (flatten (all_keys p))) 65537) (length s.area) ≡ true = ap (λ (m : ℕ). room_ok m (length s.area)) (sym e) ∙ sym f ∙ g in
    ap₂ (λ (k : ℕ) (w : AreaWalk). transfers_outcome_of (success k) (walk_areas w)) e h ∙ simp z

-- written at once, where there is room for no fewer
pub settle_most : (p : Prepared) (s : TransferAreas) (most m : ℕ) (b : Bool) (a' v' : List ℕ) → Most 0 (length (flatten (all_keys p))) most 0 → b ≡ room_ok most (length s.area) → b ≡ true
    → area_walk m a' v' ≡ lay_events p.time 0 (all_keys p) (area_walk 0 s.area s.transfer_runs) → transfers_outcome_of (success m) (transfer_areas a' v') ≡ settled_keys p s
settle_most p s most m b a' v' k f g h =
    let r = room_yes most (length s.area) (sym f ∙ g) in
    let t = total_is p.time (all_keys p) m a' s.area v' s.transfer_runs h in
    settle_yes p s m m true a' v' t (sym (yes_room m (length s.area) (omega (arith, k.most r.few, r.few)) (omega (arith, k.most r.few, r.few, r.space)))) refl h

-- the same, of the numbers as the code leaves them
pub sorted_with : (x : TransferLent) (n : ℕ) → TransfersAdmitted x n → (u w ends : List ℕ) → u ≡ numbers_of x → w ≡ sort_stops hi x.runs x.c.stops u → LineEnds w ends → SortedRuns x.c x.runs w ends x.d
sorted_with x n a u w ends p q l =
    let e : w ≡ work_of x = q ∙ ap (sort_stops hi x.runs x.c.stops) p in
    rw e (sorted_runs x n a ends (rw e at l))

pub settled_with : (x : TransferLent) (s : TransferAreas) → TransfersAdmitted x (length s.transfer_runs) → (u w : List ℕ) → u ≡ numbers_of x → w ≡ sort_stops hi x.runs x.c.stops u
    → settled_keys (prepared x.t x.c x.runs w x.settings.transfer_time) s ≡ transfers_settled (input_of x) s
settled_with x s a u w p q =
    ap (λ (v : List ℕ). settled_keys (prepared x.t x.c x.runs v x.settings.transfer_time) s) (q ∙ ap (sort_stops hi x.runs x.c.stops) p) ∙ settled_is x s a
