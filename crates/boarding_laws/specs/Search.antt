-- THE SEARCH AS IT WAS before document 02's T-02: `model` specs/Search over a given way to board, which has the record of specs/Boarding.
-- Restated is only what boards, or calls what does, function by function and arm by arm; each is named as there, with `With` at its end. All else
-- (arrivals, segments, alighting, pruning, walks, candidates) is the model's own. It is no second definition of the search: today's is the one that
-- contracts rest on, and it never refers to this one.
-- Definitions only.
-- For a law: no contract rests on this.
use Rattle.std.specs.Prelude.{ℕ, zero, suc, ◌+◌, ◌-◌, min, Bool, true, false, ◌&&◌, ◌||◌, not, List, [], ◌∷◌, ltb, leb, eqb, Option, None, Some}
use Rattle.loops.specs.Iter.{Hit}
use Rattle.label.specs.declared.Label.TheVariants.{Walk}
use Rattle.label.specs.Label.{no_distance}
use Rattle.departures.specs.declared.DepartureRow.{DepartureRow}
use Rattle.line_layout.specs.Layout.{LineTrips}
use Rattle.event_transfers.specs.Transfers.{Transfer}
use Rattle.model.specs.Tables.{never, Tables, Query, rounds_of, change_before, trips, stop_count, stop_at, departure, no_pickup, no_drop_off}
use Rattle.model.specs.Tables.{no_windows, position, fifo, usable, permitted}
use Rattle.model.specs.Search.{Segment, Arrivals, State, SearchAnswer, at, holds_target, use_arc_flags, flags_in_use, departures_at, mark_at, line_at}
use Rattle.model.specs.Search.{not_before, delay_of, skipped, arrival_now, margin_of, relax, line_trips_at, enqueue, alightings, logged, pruned}
use Rattle.model.specs.Search.{passed_over, board, round_start, walk_phase, idle, begin, best_target, candidates_from}
use Rattle.boarding_laws.specs.Boarding.{BoardedBefore, board_before}

-- `boards` says how trip t is boarded at offset o, not before a time, if it can be: t's delay row, t, o, the time
module _ (T : Tables) (Q : Query) (boards : Hit → ℕ → ℕ → ℕ → Option BoardedBefore) where
  -- RESOLVING a transfer's target: over k places of a line from place p on
  unfoldable pub resolve_in_with : (is_fifo : Bool) (offset after best : ℕ) (trip : ℕ → ℕ) (left place : ℕ) → Option (ℕ × BoardedBefore)
  resolve_in_with is_fifo o after best trip zero p = None
  resolve_in_with is_fifo o after best trip (suc k) p =
      let t : ℕ = trip p in
      elim (ltb t (trips T) && ltb o (stop_count T t)) [
        | false ↦ resolve_in_with is_fifo o after best trip k (suc p)
        | true ↦ elim ((is_fifo && leb (best + margin_of T Q) (departure T t o)) && no_windows T t) [
          | true ↦ None
          | false ↦ elim ((not (usable T Q t) || no_pickup T t o) || skipped T Q (delay_of Q t) t o) [
            | true ↦ resolve_in_with is_fifo o after best trip k (suc p)
            | false ↦ elim (boards (delay_of Q t) t o after) [
              | None ↦ resolve_in_with is_fifo o after best trip k (suc p)
              | Some b ↦ elim (ltb b.departure best) [
                | true ↦ Some (t, b)
                | false ↦ elim is_fifo [ true ↦ None | false ↦ resolve_in_with false o after best trip k (suc p) ]
              ]
            ]
          ]
        ]
      ]

  -- from the target's position in its line on, or the target alone
  unfoldable pub resolve_with : Transfer → ℕ → ℕ → Option (ℕ × BoardedBefore)
  resolve_with e after best =
      let l : LineTrips = line_trips_at T Q (line_at T e.target) in
      let p : ℕ = position T e.target in
      let is_fifo : Bool = fifo T (line_at T e.target) in
      elim (ltb p l.count && eqb (l.trip p) e.target) [
        | true ↦ resolve_in_with is_fifo e.offset after best l.trip (min (l.count - p) Q.settings.line_scan) p
        | false ↦ resolve_in_with is_fifo e.offset after best (λ p. e.target) (min 1 Q.settings.line_scan) 0
      ]

  -- the transfers of one stop event, reached at time v at stop x
  unfoldable pub take_transfers_with : ℕ → ℕ → ℕ → List Transfer → Arrivals → Arrivals
  take_transfers_with stamp v x [] a = a
  take_transfers_with stamp v x (e ∷ es) a =
      elim (holds_target T Q e.pattern) [
        | false ↦ take_transfers_with stamp v x es a
        | true ↦ elim (resolve_with e (v + e.time) a.best) [
          | None ↦ take_transfers_with stamp v x es a
          | Some b ↦
              let s : ℕ = stop_at T b.0 e.offset in
              let d : ℕ = b.1.departure in
              take_transfers_with stamp v x es
              (enqueue T Q b.0 e.offset s b.1.shift
              (relax T Q stamp s d (Walk d x s e.time no_distance (stamp - 1)) a))
        ]
      ]

  -- the transfers at each stop time of a trip, from offset p on
  unfoldable pub transferring_with : (stamp : ℕ) (adj : Hit) (shift trip left next : ℕ) (a : Arrivals) → Arrivals
  transferring_with stamp adj shift t zero p a = a
  transferring_with stamp adj shift t (suc k) p a =
      elim (no_drop_off T t p) [
        | true ↦ transferring_with stamp adj shift t k (suc p) a
        | false ↦
            let v : ℕ = arrival_now T Q adj shift t p in
            elim (ltb v a.best) [
              | false ↦ a
              | true ↦ transferring_with stamp adj shift t k (suc p) (take_transfers_with stamp v (stop_at T t p) (T.transfers t p) a)
            ]
      ]

  -- A TRIP SCANNED: trip t, boarded at stop s at offset o
  unfoldable pub scan_trip_forward_with : (flagged : Bool) (stamp : ℕ) (adj : Hit) (shift trip stop board : ℕ) (a : Arrivals) → Arrivals
  scan_trip_forward_with flagged stamp adj shift t s o a =
      let b : Arrivals = alightings T Q stamp adj shift t s o (stop_count T t - suc o) (suc o) a in
      elim flagged [ true ↦ transferring_with stamp adj shift t (stop_count T t - suc o) (suc o) b | false ↦ b ]

  -- THE SEGMENT PHASE
  unfoldable pub ride_segments_with : Bool → ℕ → ℕ → List Segment → State → State
  ride_segments_with flagged round stamp [] s = s
  ride_segments_with flagged round stamp (g ∷ gs) s =
      elim (permitted T Q g.trip) [
        | false ↦ ride_segments_with flagged round stamp gs s
        | true ↦ ride_segments_with flagged round stamp gs (record {
          arrivals = scan_trip_forward_with flagged stamp (delay_of Q g.trip) g.shift g.trip g.stop g.offset s.arrivals;
          boardings = logged T Q round g.trip g.offset s.boardings;
        })
      ]

  -- the tests of one listed departure: how it is boarded, if it is
  unfoldable pub boarding_with : (stamp after : ℕ) (adj : Hit) (trip offset : ℕ) (s : State) → Option BoardedBefore
  boarding_with stamp after adj t o s =
      elim (((not (permitted T Q t) || pruned T Q adj t o s.boardings) || no_pickup T t o) || skipped T Q adj t o) [
        | true ↦ None
        | false ↦ elim (boards adj t o after) [
          | None ↦ None
          | Some b ↦ elim (leb s.arrivals.best b.departure || passed_over T Q stamp t o b.departure s.boardings)
              [ true ↦ None | false ↦ Some b ]
        ]
      ]

  -- THE DEPARTURE SCAN of stop x
  unfoldable pub scan_departures_with : (flagged has_freq : Bool) (round stamp stop after : ℕ) (listed : List DepartureRow) (s : State) → State
  scan_departures_with flagged has_freq round stamp x after [] s = s
  scan_departures_with flagged has_freq round stamp x after (d ∷ ds) s =
      elim (not has_freq && leb (s.arrivals.best + margin_of T Q) (departure T d.trip d.offset)) [
        | true ↦ s
        | false ↦
            let adj : Hit = delay_of Q d.trip in
            elim (boarding_with stamp after adj d.trip d.offset s) [
              | None ↦ scan_departures_with flagged has_freq round stamp x after ds s
              | Some b ↦ scan_departures_with flagged has_freq round stamp x after ds (record {
                arrivals = scan_trip_forward_with flagged stamp adj b.shift d.trip x d.offset s.arrivals;
                boardings = board T Q round stamp adj d.trip d.offset b.departure s.boardings;
              })
            ]
      ]

  -- over the stops reached before
  unfoldable pub scan_stops_with : Bool → ℕ → ℕ → List ℕ → State → State
  scan_stops_with flagged round stamp [] s = s
  scan_stops_with flagged round stamp (x ∷ xs) s =
      let after : ℕ = at s.arrivals x + change_before Q round in
      elim (eqb (at s.arrivals x) never || leb s.arrivals.best after) [
        | true ↦ scan_stops_with flagged round stamp xs s
        | false ↦ elim (mark_at T x) [
          | true ↦ scan_stops_with flagged round stamp xs (scan_departures_with flagged true round stamp x after (departures_at T x) s)
          | false ↦ scan_stops_with flagged round stamp xs
              (scan_departures_with flagged false round stamp x after (not_before T (after - margin_of T Q) (departures_at T x)) s)
        ]
      ]

  -- segments, then departures
  unfoldable pub ride_phase_with : Bool → ℕ → State → State
  ride_phase_with flagged round s =
      scan_stops_with flagged round (suc (suc round)) s.arrivals.reached
      (elim flagged [
        | true ↦ ride_segments_with true round (suc (suc round)) s.arrivals.seg_queue (round_start T Q s)
        | false ↦ round_start T Q s
      ])

  -- THE ROUNDS: n of them from round r on
  unfoldable pub rounds_with : Bool → ℕ → ℕ → State → State
  rounds_with flagged zero r s = s
  rounds_with flagged (suc n) r s = elim (idle T Q flagged s.arrivals)
      [ true ↦ s | false ↦ rounds_with flagged n (suc r) (walk_phase T Q flagged r (ride_phase_with flagged r s)) ]

  unfoldable pub final_with : Bool → State
  final_with flagged = rounds_with flagged (rounds_of Q) 0 (begin T Q)

  -- "no way" has no candidates
  unfoldable pub search_answer_with : Bool → SearchAnswer
  search_answer_with flagged =
      let s = final_with flagged in
      let b = best_target T Q s.arrivals Q.egress (never, never) in
      record {
        total = b.0;
        stop = b.1;
        candidates = elim (eqb b.0 never) [ true ↦ [] | false ↦ candidates_from T Q s.arrivals b.0 (suc (rounds_of Q)) 0 never ];
        labels = s.arrivals.labels;
        scans = s.boardings.scans;
        queued = s.boardings.queued;
      }

-- `run_tbr`, and THE QUERY, as they were
unfoldable pub run_tbr_before : Tables → Query → SearchAnswer
run_tbr_before T Q = search_answer_with T Q (board_before T Q) (use_arc_flags T Q)

unfoldable pub query_before : Tables → Query → SearchAnswer
query_before T Q = search_answer_with T Q (board_before T Q) (flags_in_use T Q)
