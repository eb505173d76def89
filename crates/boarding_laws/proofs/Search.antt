-- Today's search is the search as it was over today's boarding, seen as it was (`as_before`): function by function. Each step is one of two kinds. Where
-- a boarding is tested, a law of the test alone says that only its four numbers are read (`found`, `taken`, `tested`, `scanned`). Where none is, both
-- searches do the same with what the steps within give.
use Prim.Native.Nat.{ℕ, zero, suc, ◌+◌, ◌-◌, min}
use mathlib.Core.Path.{◌≡◌, refl, ◌∙◌}
use mathlib.Core.Bool.{Bool, true, false, ◌&&◌, ◌||◌, not}
use mathlib.Core.List.{List, [], ◌∷◌}
use Rattle.std.specs.Prelude.{Option, None, Some}
use lib.Dec.{ltb, leb, eqb}
use Rattle.loops.specs.Iter.{Hit}
use Rattle.frequency.specs.declared.BoardedRun.{BoardedRun}
use Rattle.label.specs.declared.Label.TheVariants.{Walk}
use Rattle.label.specs.Label.{no_distance}
use Rattle.departures.specs.declared.DepartureRow.{DepartureRow}
use Rattle.line_layout.specs.Layout.{LineTrips}
use Rattle.event_transfers.specs.Transfers.{Transfer}
use Rattle.model.specs.Tables.{never, Tables, Query, rounds_of, change_before, trips, stop_count, stop_at, departure, no_pickup, no_drop_off, no_windows, position, fifo, usable, permitted}
use Rattle.model.specs.Search.{Segment, Arrivals, State, at, holds_target, departures_at, mark_at, line_at, not_before, delay_of, skipped, arrival_now, margin_of, board_at, relax, resolve_in, line_trips_at, resolve, enqueue, take_transfers, alightings, transferring, scan_trip_forward, logged, ride_segments, pruned, passed_over, boarding, board, scan_departures, scan_stops, round_start, ride_phase, walk_phase, idle, rounds, begin, final, search_answer}
use Rattle.model.proofs.Switch.{answer_of}
use Rattle.boarding_laws.specs.Boarding.{BoardedBefore, run_before, as_before}
use Rattle.boarding_laws.specs.Search.{resolve_in_with, resolve_with, take_transfers_with, transferring_with, scan_trip_forward_with, ride_segments_with, boarding_with, scan_departures_with, scan_stops_with, ride_phase_with, rounds_with, final_with, search_answer_with}

-- a trip and how it is boarded, as it was
abbrev pub found_before : Option (ℕ × BoardedRun) → Option (ℕ × BoardedBefore)
found_before None = None
found_before (Some f) = Some (f.0, run_before f.1)

-- RESOLVING, one place: a, the trip has the stop; b, the search ends before it; c, it is passed over; m, how it is boarded
abbrev found : (t best : ℕ) (next later : Option (ℕ × BoardedRun)) (a b c : Bool) (m : Option BoardedRun) (is_fifo : Bool) → Option (ℕ × BoardedRun)
found t best next later a b c m is_fifo =
    elim a [
      | false ↦ next
      | true ↦ elim b [
        | true ↦ None
        | false ↦ elim c [
          | true ↦ next
          | false ↦ elim m [
            | None ↦ next
            | Some r ↦ elim (ltb r.departure best) [ true ↦ Some (t, r) | false ↦ elim is_fifo [ true ↦ None | false ↦ later ] ]
          ]
        ]
      ]
    ]

abbrev found_with : (t best : ℕ) (next later : Option (ℕ × BoardedBefore)) (a b c : Bool) (m : Option BoardedBefore) (is_fifo : Bool) → Option (ℕ × BoardedBefore)
found_with t best next later a b c m is_fifo =
    elim a [
      | false ↦ next
      | true ↦ elim b [
        | true ↦ None
        | false ↦ elim c [
          | true ↦ next
          | false ↦ elim m [
            | None ↦ next
            | Some r ↦ elim (ltb r.departure best) [ true ↦ Some (t, r) | false ↦ elim is_fifo [ true ↦ None | false ↦ later ] ]
          ]
        ]
      ]
    ]

same_found : (t best : ℕ) (next later : Option (ℕ × BoardedRun)) (a b c : Bool) (m : Option BoardedRun) (is_fifo : Bool)
    → found_before (found t best next later a b c m is_fifo) ≡ found_with t best (found_before next) (found_before later) a b c (as_before m) is_fifo
same_found t best next later false b c m is_fifo = refl
same_found t best next later true true c m is_fifo = refl
same_found t best next later true false true m is_fifo = refl
same_found t best next later true false false None is_fifo = refl
same_found t best next later true false false (Some r) is_fifo = go (ltb r.departure best) is_fifo
  where
    go : (x y : Bool)
        → found_before (elim x [ true ↦ Some (t, r) | false ↦ elim y [ true ↦ None | false ↦ later ] ])
        ≡ elim x [ true ↦ Some (t, run_before r) | false ↦ elim y [ true ↦ None | false ↦ found_before later ] ]
    go true y = refl
    go false true = refl
    go false false = refl

-- A LISTED DEPARTURE: b, a test before its boarding fails; m, how it is boarded; p, whether a boarding with this departure is passed over
abbrev tested : (b : Bool) (m : Option BoardedRun) (p : ℕ → Bool) → Option BoardedRun
tested b m p = elim b [ true ↦ None | false ↦ elim m [ None ↦ None | Some r ↦ elim (p r.departure) [ true ↦ None | false ↦ Some r ] ] ]

abbrev tested_with : (b : Bool) (m : Option BoardedBefore) (p : ℕ → Bool) → Option BoardedBefore
tested_with b m p = elim b [ true ↦ None | false ↦ elim m [ None ↦ None | Some r ↦ elim (p r.departure) [ true ↦ None | false ↦ Some r ] ] ]

same_tested : (b : Bool) (m : Option BoardedRun) (p : ℕ → Bool) → as_before (tested b m p) ≡ tested_with b (as_before m) p
same_tested true m p = refl
same_tested false None p = refl
same_tested false (Some r) p = go (p r.departure)
  where
    go : (x : Bool) → as_before (elim x [ true ↦ None | false ↦ Some r ]) ≡ elim x [ true ↦ None | false ↦ Some (run_before r) ]
    go true = refl
    go false = refl

module _ (T : Tables) (Q : Query) where
  -- today's boarding, as it was
  abbrev pub boards_now : Hit → ℕ → ℕ → ℕ → Option BoardedBefore
  boards_now adj t o after = as_before (board_at T Q adj t o after)

  -- RESOLVING a transfer's target
  same_resolve_in : (is_fifo : Bool) (o after best : ℕ) (trip : ℕ → ℕ) (k p : ℕ)
      → found_before (resolve_in T Q is_fifo o after best trip k p) ≡ resolve_in_with T Q boards_now is_fifo o after best trip k p
  unfolding resolve_in resolve_in_with
  same_resolve_in is_fifo o after best trip zero p = refl
  same_resolve_in is_fifo o after best trip (suc k) p =
      same_found (trip p) best (resolve_in T Q is_fifo o after best trip k (suc p)) (resolve_in T Q false o after best trip k (suc p)) has ends passed (board_at T Q (delay_of Q (trip p)) (trip p) o after) is_fifo
      ∙ (λ i. found_with (trip p) best (same_resolve_in is_fifo o after best trip k (suc p) i) (same_resolve_in false o after best trip k (suc p) i) has ends passed (boards_now (delay_of Q (trip p)) (trip p) o after) is_fifo)
    where
      has : Bool
      has = ltb (trip p) (trips T) && ltb o (stop_count T (trip p))

      ends : Bool
      ends = (is_fifo && leb (best + margin_of T Q) (departure T (trip p) o)) && no_windows T (trip p)

      passed : Bool
      passed = (not (usable T Q (trip p)) || no_pickup T (trip p) o) || skipped T Q (delay_of Q (trip p)) (trip p) o

  same_resolve : (e : Transfer) (after best : ℕ) → found_before (resolve T Q e after best) ≡ resolve_with T Q boards_now e after best
  unfolding resolve resolve_with
  same_resolve e after best = go (ltb place line.count && eqb (line.trip place) e.target)
    where
      line : LineTrips
      line = line_trips_at T Q (line_at T e.target)

      place : ℕ
      place = position T e.target

      is_fifo : Bool
      is_fifo = fifo T (line_at T e.target)

      many : ℕ
      many = min (line.count - place) Q.settings.line_scan

      one : ℕ
      one = min 1 Q.settings.line_scan

      go : (b : Bool)
          → found_before (elim b [
            | true ↦ resolve_in T Q is_fifo e.offset after best line.trip many place
            | false ↦ resolve_in T Q is_fifo e.offset after best (λ p. e.target) one 0
          ])
          ≡ elim b [
            | true ↦ resolve_in_with T Q boards_now is_fifo e.offset after best line.trip many place
            | false ↦ resolve_in_with T Q boards_now is_fifo e.offset after best (λ p. e.target) one 0
          ]
      go true = same_resolve_in is_fifo e.offset after best line.trip many place
      go false = same_resolve_in is_fifo e.offset after best (λ p. e.target) one 0

  -- ONE TRANSFER: h, its pattern holds a target cell; m, the trip it leads to
  abbrev taken : (next : Arrivals → Arrivals) (stamp x : ℕ) (e : Transfer) (a : Arrivals) (h : Bool) (m : Option (ℕ × BoardedRun)) → Arrivals
  taken next stamp x e a h m =
      elim h [
        | false ↦ next a
        | true ↦ elim m [
          | None ↦ next a
          | Some b ↦
              let s : ℕ = stop_at T b.0 e.offset in
              let d : ℕ = b.1.departure in
              next (enqueue T Q b.0 e.offset s b.1.time_shift_s (relax T Q stamp s d (Walk d x s e.time no_distance (stamp - 1)) a))
        ]
      ]

  abbrev taken_with : (next : Arrivals → Arrivals) (stamp x : ℕ) (e : Transfer) (a : Arrivals) (h : Bool) (m : Option (ℕ × BoardedBefore)) → Arrivals
  taken_with next stamp x e a h m =
      elim h [
        | false ↦ next a
        | true ↦ elim m [
          | None ↦ next a
          | Some b ↦
              let s : ℕ = stop_at T b.0 e.offset in
              let d : ℕ = b.1.departure in
              next (enqueue T Q b.0 e.offset s b.1.shift (relax T Q stamp s d (Walk d x s e.time no_distance (stamp - 1)) a))
        ]
      ]

  same_taken : (next : Arrivals → Arrivals) (stamp x : ℕ) (e : Transfer) (a : Arrivals) (h : Bool) (m : Option (ℕ × BoardedRun))
      → taken next stamp x e a h m ≡ taken_with next stamp x e a h (found_before m)
  same_taken next stamp x e a false m = refl
  same_taken next stamp x e a true None = refl
  same_taken next stamp x e a true (Some b) = refl

  same_transfers : (stamp v x : ℕ) (es : List Transfer) (a : Arrivals) → take_transfers T Q stamp v x es a ≡ take_transfers_with T Q boards_now stamp v x es a
  unfolding take_transfers take_transfers_with
  same_transfers stamp v x [] a = refl
  same_transfers stamp v x (e ∷ es) a =
      same_taken (take_transfers T Q stamp v x es) stamp x e a (holds_target T Q e.pattern) (resolve T Q e (v + e.time) a.best)
      ∙ (λ i. taken_with (λ u. same_transfers stamp v x es u i) stamp x e a (holds_target T Q e.pattern) (same_resolve e (v + e.time) a.best i))

  -- A TRIP SCANNED
  same_transferring : (stamp : ℕ) (adj : Hit) (shift t k p : ℕ) (a : Arrivals)
      → transferring T Q stamp adj shift t k p a ≡ transferring_with T Q boards_now stamp adj shift t k p a
  unfolding transferring transferring_with
  same_transferring stamp adj shift t zero p a = refl
  same_transferring stamp adj shift t (suc k) p a = λ i.
      elim (no_drop_off T t p) [
        | true ↦ same_transferring stamp adj shift t k (suc p) a i
        | false ↦ elim (ltb (arrival_now T Q adj shift t p) a.best) [
          | false ↦ a
          | true ↦ same_transferring stamp adj shift t k (suc p) (same_transfers stamp (arrival_now T Q adj shift t p) (stop_at T t p) (T.transfers t p) a i) i
        ]
      ]

  same_forward : (flagged : Bool) (stamp : ℕ) (adj : Hit) (shift t s o : ℕ) (a : Arrivals)
      → scan_trip_forward T Q flagged stamp adj shift t s o a ≡ scan_trip_forward_with T Q boards_now flagged stamp adj shift t s o a
  unfolding scan_trip_forward scan_trip_forward_with
  same_forward true stamp adj shift t s o a =
      same_transferring stamp adj shift t (stop_count T t - suc o) (suc o) (alightings T Q stamp adj shift t s o (stop_count T t - suc o) (suc o) a)
  same_forward false stamp adj shift t s o a = refl

  -- THE SEGMENT PHASE
  same_segments : (flagged : Bool) (round stamp : ℕ) (gs : List Segment) (s : State)
      → ride_segments T Q flagged round stamp gs s ≡ ride_segments_with T Q boards_now flagged round stamp gs s
  unfolding ride_segments ride_segments_with
  same_segments flagged round stamp [] s = refl
  same_segments flagged round stamp (g ∷ gs) s = λ i.
      elim (permitted T Q g.trip) [
        | false ↦ same_segments flagged round stamp gs s i
        | true ↦ same_segments flagged round stamp gs (record {
          arrivals = same_forward flagged stamp (delay_of Q g.trip) g.shift g.trip g.stop g.offset s.arrivals i;
          boardings = logged T Q round g.trip g.offset s.boardings;
        }) i
      ]

  -- THE DEPARTURE SCAN: how a listed departure is boarded
  same_boarding : (stamp after : ℕ) (adj : Hit) (t o : ℕ) (s : State)
      → as_before (boarding T Q stamp after adj t o s) ≡ boarding_with T Q boards_now stamp after adj t o s
  unfolding boarding boarding_with
  same_boarding stamp after adj t o s =
      same_tested (((not (permitted T Q t) || pruned T Q adj t o s.boardings) || no_pickup T t o) || skipped T Q adj t o) (board_at T Q adj t o after)
      (λ d. leb s.arrivals.best d || passed_over T Q stamp t o d s.boardings)

  -- one departure: b, the scan ends; m, how it is boarded; forward, its trip scanned with a time shift
  abbrev scanned : (next : State → State) (forward : ℕ → Arrivals) (round stamp : ℕ) (d : DepartureRow) (s : State) (b : Bool) (m : Option BoardedRun) → State
  scanned next forward round stamp d s b m =
      elim b [
        | true ↦ s
        | false ↦ elim m [
          | None ↦ next s
          | Some r ↦ next (record {
            arrivals = forward r.time_shift_s;
            boardings = board T Q round stamp (delay_of Q d.trip) d.trip d.offset r.departure s.boardings;
          })
        ]
      ]

  abbrev scanned_with : (next : State → State) (forward : ℕ → Arrivals) (round stamp : ℕ) (d : DepartureRow) (s : State) (b : Bool) (m : Option BoardedBefore) → State
  scanned_with next forward round stamp d s b m =
      elim b [
        | true ↦ s
        | false ↦ elim m [
          | None ↦ next s
          | Some r ↦ next (record {
            arrivals = forward r.shift;
            boardings = board T Q round stamp (delay_of Q d.trip) d.trip d.offset r.departure s.boardings;
          })
        ]
      ]

  same_scanned : (next : State → State) (forward : ℕ → Arrivals) (round stamp : ℕ) (d : DepartureRow) (s : State) (b : Bool) (m : Option BoardedRun)
      → scanned next forward round stamp d s b m ≡ scanned_with next forward round stamp d s b (as_before m)
  same_scanned next forward round stamp d s true m = refl
  same_scanned next forward round stamp d s false None = refl
  same_scanned next forward round stamp d s false (Some r) = refl

  same_departures : (flagged has_freq : Bool) (round stamp x after : ℕ) (ds : List DepartureRow) (s : State)
      → scan_departures T Q flagged has_freq round stamp x after ds s ≡ scan_departures_with T Q boards_now flagged has_freq round stamp x after ds s
  unfolding scan_departures scan_departures_with
  same_departures flagged has_freq round stamp x after [] s = refl
  same_departures flagged has_freq round stamp x after (d ∷ ds) s =
      same_scanned (scan_departures T Q flagged has_freq round stamp x after ds) (λ shift. scan_trip_forward T Q flagged stamp (delay_of Q d.trip) shift d.trip x d.offset s.arrivals) round stamp d s ends (boarding T Q stamp after (delay_of Q d.trip) d.trip d.offset s)
      ∙ (λ i. scanned_with (λ u. same_departures flagged has_freq round stamp x after ds u i) (λ shift. same_forward flagged stamp (delay_of Q d.trip) shift d.trip x d.offset s.arrivals i) round stamp d s ends (same_boarding stamp after (delay_of Q d.trip) d.trip d.offset s i))
    where
      ends : Bool
      ends = not has_freq && leb (s.arrivals.best + margin_of T Q) (departure T d.trip d.offset)

  same-stops : (flagged : Bool) (round stamp : ℕ) (xs : List ℕ) (s : State)
      → scan_stops T Q flagged round stamp xs s ≡ scan_stops_with T Q boards_now flagged round stamp xs s
  unfolding scan_stops scan_stops_with
  same-stops flagged round stamp [] s = refl
  same-stops flagged round stamp (x ∷ xs) s = λ i.
      elim (eqb (at s.arrivals x) never || leb s.arrivals.best now) [
        | true ↦ same-stops flagged round stamp xs s i
        | false ↦ elim (mark_at T x) [
          | true ↦ same-stops flagged round stamp xs (same_departures flagged true round stamp x now (departures_at T x) s i) i
          | false ↦ same-stops flagged round stamp xs (same_departures flagged false round stamp x now (not_before T (now - margin_of T Q) (departures_at T x)) s i) i
        ]
      ]
    where
      now : ℕ
      now = at s.arrivals x + change_before Q round

  -- THE ROUNDS
  same_ride : (flagged : Bool) (round : ℕ) (s : State) → ride_phase T Q flagged round s ≡ ride_phase_with T Q boards_now flagged round s
  unfolding ride_phase ride_phase_with
  same_ride flagged round s = λ i.
      same-stops flagged round (suc (suc round)) s.arrivals.reached
      (elim flagged [ true ↦ same_segments true round (suc (suc round)) s.arrivals.seg_queue (round_start T Q s) i | false ↦ round_start T Q s ]) i

  same_rounds : (flagged : Bool) (n r : ℕ) (s : State) → rounds T Q flagged n r s ≡ rounds_with T Q boards_now flagged n r s
  unfolding rounds rounds_with
  same_rounds flagged zero r s = refl
  same_rounds flagged (suc n) r s = λ i.
      elim (idle T Q flagged s.arrivals) [ true ↦ s | false ↦ same_rounds flagged n (suc r) (walk_phase T Q flagged r (same_ride flagged r s i)) i ]

  -- THE SEARCH, in both modes
  pub same_search : (flagged : Bool) → search_answer T Q flagged ≡ search_answer_with T Q boards_now flagged
  unfolding search_answer search_answer_with final final_with
  same_search flagged = λ i. answer_of T Q (same_rounds flagged (rounds_of Q) 0 (begin T Q) i)
