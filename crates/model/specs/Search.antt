-- `run_tbr` (tbr.rs) on a new `TbrScratch`, function by function, in both modes: with arc flags in use (flagged) and without. Definitions only.
-- What the Rust's saturating sums and its `Option`s add never shows: every time in a run is below 2^27 (`answer_laws` proofs/Bounds).
-- One test is left out: the Rust answers "no way" at once where no origin is reached; here the rounds then end at once (`answer_laws` proofs/Calls).
use Rattle.std.specs.Prelude.{ℕ, zero, suc, ◌+◌, ◌-◌, ◌*◌, min, Bool, true, false, cond, ◌&&◌, ◌||◌, not, List, [], ◌∷◌, ◌++◌, length, get_or, set, replicate, ltb, leb, eqb, Option, None, Some}
use Rattle.loops.specs.Iter.{Hit, hit, miss, some_in}
use Rattle.cell_bitset.specs.declared.CellBitSet.{CellBitSet}
use Rattle.cell_bitset.specs.CellSet.{empty_set, with_cell, meets, holds_none}
use Rattle.frequency.specs.declared.BoardedRun.{BoardedRun}
use Rattle.frequency.specs.Gtfs.{Window, window_from, board_ordinary, earliest_freq_board}
use Rattle.stop_delay.specs.declared.StopDelay.{StopDelay}
use Rattle.stop_delay.specs.Times.{skipped_at, effective_departure, effective_arrival}
use Rattle.label.specs.declared.Label.{Label}
use Rattle.label.specs.declared.Label.TheVariants.{Empty, Access, Transit, Walk}
use Rattle.label.specs.Label.{no_distance}
use Rattle.label.specs.Table.{record_of}
use Rattle.departures.specs.declared.DepartureRow.{DepartureRow}
use Rattle.line_layout.specs.Layout.{LineTrips}
use Rattle.event_transfers.specs.Transfers.{Transfer}
use Rattle.delay_rows.specs.Delays.{delay_row, stop_delay, margin}
use Rattle.model.specs.Tables.{never, Tables, Origin, Query, rounds_of, change_before, is_egress, egress_walk, stops, trips, stop_count, stop_at}
use Rattle.model.specs.Tables.{arrival, departure, sequence, no_pickup, no_drop_off, no_windows, edges_from, edge_to, walk_time, position, fifo}
use Rattle.model.specs.Tables.{usable, permitted}

-- a segment (`seg_queue`), queued for the next round: trip, boarding offset, boarding stop, time shift
pub record Segment : Type 0 where
  pub trip : ℕ
  pub offset : ℕ
  pub stop : ℕ
  pub shift : ℕ

-- what an arrival changes: the labels, a stop's of row r at `record_of` s r; each stop's earliest arrival; the best total so far
-- (`best_dest`); each stop's stamp; the stops reached in this phase; the segments queued; each trip's least queued offset (`seg_reach`)
pub record Arrivals : Type 0 where
  pub labels : List Label
  pub earliest : List ℕ
  pub best : ℕ
  pub stop_stamp : List ℕ
  pub reached : List ℕ
  pub seg_queue : List Segment
  pub seg_reach : List ℕ

-- what a boarding changes: each trip's stamp, the offset and departure of its boarding (`trip_boarding`); this round's boardings
-- (trip, offset) that prune (`line_boards`); the scans (round, trip, offset), last first; how many segments were queued at the end
-- of each round that ran, last first (question 8)
pub record Boardings : Type 0 where
  pub trip_stamp : List ℕ
  pub board_offset : List ℕ
  pub board_departure : List ℕ
  pub line_boards : List (ℕ × ℕ)
  pub scans : List (ℕ × ℕ × ℕ)
  pub queued : List ℕ

pub record State : Type 0 where
  pub arrivals : Arrivals
  pub boardings : Boardings

-- an answer: total and stop (`never` both for "no way"), candidates (total, stop, row), labels; the scans; the segments queued at each
-- round's end
pub record SearchAnswer : Type 0 where
  pub total : ℕ
  pub stop : ℕ
  pub candidates : List (ℕ × ℕ × ℕ)
  pub labels : List Label
  pub scans : List (ℕ × ℕ × ℕ)
  pub queued : List ℕ

-- a label's arrival plus one; 0 for no label
abbrev pub reached_by : Label → ℕ
reached_by Empty = 0
reached_by (Access stop arrival walk distance) = suc arrival
reached_by (Transit arrival trip board_stop board_off alight_off prev_round shift) = suc arrival
reached_by (Walk arrival from to duration distance prev_round) = suc arrival

-- a stop's earliest arrival
abbrev pub at : Arrivals → ℕ → ℕ
at a s = get_or a.earliest s 0

-- ARC FLAGS. The cells of the egress stops:
unfoldable pub targets_from : Tables → List (ℕ × ℕ) → CellBitSet → CellBitSet
targets_from T [] s = s
targets_from T (e ∷ es) s = targets_from T es (with_cell s (T.timetable.cell e.0))

unfoldable pub target_cells : Tables → Query → CellBitSet
target_cells T Q = targets_from T Q.egress (empty_set T.cells)

-- does a pattern hold one of them? A pattern number past the table counts as holding all.
unfoldable pub holds_target : Tables → Query → ℕ → Bool
holds_target T Q p = elim (ltb p T.patterns) [ true ↦ meets (T.pattern p) (target_cells T Q) | false ↦ true ]

-- use_arc_flags
unfoldable pub use_arc_flags : Tables → Query → Bool
use_arc_flags T Q = (not (holds_none (target_cells T Q)) && not (eqb T.patterns 0)) && not Q.flags_off

-- do the flags skip some walk edge, or some transfer?
unfoldable pub some_transfer : (Transfer → Bool) → List Transfer → Bool
some_transfer p [] = false
some_transfer p (e ∷ es) = p e || some_transfer p es

unfoldable pub skips_edge : Tables → Query → Bool
skips_edge T Q = some_in (λ k. not (holds_target T Q (T.timetable.edge k).pattern)) 0 T.timetable.edges

unfoldable pub skips_transfer : Tables → Query → Bool
skips_transfer T Q =
    some_in (λ t. some_in (λ o. some_transfer (λ e. not (holds_target T Q e.pattern)) (T.transfers t o)) 0 (stop_count T t)) 0 (trips T)

-- ARC FLAGS IN USE (01): not put off, and they skip some walk edge or transfer
unfoldable pub flags_in_use : Tables → Query → Bool
flags_in_use T Q = use_arc_flags T Q && (skips_edge T Q || skips_transfer T Q)

-- READING THE TABLES as the Rust's `get`s: a stop past the table lists no departure and bears no mark; a trip past it has no line
unfoldable pub departures_at : Tables → ℕ → List DepartureRow
departures_at T x = elim (ltb x (stops T)) [ true ↦ T.departures x | false ↦ [] ]

unfoldable pub mark_at : Tables → ℕ → Bool
mark_at T x = ltb x (stops T) && eqb (T.mark x) 1

unfoldable pub line_at : Tables → ℕ → ℕ
line_at T t = elim (ltb t (trips T)) [ true ↦ T.line_of t | false ↦ never ]

-- a trip's windows
abbrev pub trip_window : Tables → ℕ → ℕ → Window
trip_window T t i =
    let w = T.timetable.window ((T.timetable.trip t).window + i) in
    window_from w.start w.end w.headway

-- the departures from the first on that is not before a time (`partition_point`)
unfoldable pub not_before : Tables → ℕ → List DepartureRow → List DepartureRow
not_before T m [] = []
not_before T m (d ∷ ds) = elim (ltb (departure T d.trip d.offset) m) [ true ↦ not_before T m ds | false ↦ d ∷ ds ]

-- DELAYS. A trip's delay row, if it has one; is it without one?
abbrev pub delay_of : Query → ℕ → Hit
delay_of Q t = delay_row Q.delays t

abbrev pub undelayed : Hit → Bool
undelayed miss = true
undelayed (hit i) = false

module _ (T : Tables) (Q : Query) where
  -- what the delay rows say of a stop time of trip t, whose delay row is this
  abbrev pub delay_at : Hit → ℕ → ℕ → StopDelay
  delay_at adj t o = stop_delay Q.delays adj (sequence T t o)

  abbrev pub skipped : Hit → ℕ → ℕ → Bool
  skipped adj t o = skipped_at (delay_at adj t o).flags

  -- the effective departure and arrival of a stop time
  abbrev pub departure_now : Hit → ℕ → ℕ → ℕ
  departure_now adj t o = effective_departure (departure T t o) (delay_at adj t o)

  abbrev pub arrival_now : Hit → ℕ → ℕ → ℕ → ℕ
  arrival_now adj shift t o = effective_arrival (arrival T t o) shift (delay_at adj t o)

  abbrev pub margin_of : ℕ
  margin_of = margin Q.delays Q.settings.margin_cap

  -- BOARDING trip t at offset o, not before `after`: departure, time shift and waiting. A frequency trip: its earliest run.
  unfoldable pub board_at : Hit → ℕ → ℕ → ℕ → Option BoardedRun
  board_at adj t o after =
      elim (no_windows T t) [
        | true ↦ elim (ltb (departure_now adj t o) after) [
          | true ↦ None
          | false ↦ Some (board_ordinary (departure T t o) (departure_now adj t o) after)
        ]
        | false ↦ earliest_freq_board (T.timetable.trip t).windows (trip_window T t) (departure T t 0) (departure_now adj t o) after
      ]

  -- AN ARRIVAL at stop s at time v: the best total after it
  unfoldable pub best_after : ℕ → ℕ → ℕ → ℕ
  best_after s v b = cond (is_egress Q.egress s && ltb (v + egress_walk Q.egress s) b) (v + egress_walk Q.egress s) b

  -- `improve`, and what the Rust does after each call of it. stamp = round + 2; the label's row = round + 1.
  unfoldable pub improve : ℕ → ℕ → ℕ → Label → Arrivals → Arrivals
  improve stamp s v l a =
      let new : Bool = not (eqb (get_or a.stop_stamp s 0) stamp) in
      record {
        labels = set a.labels (record_of s (stamp - 1)) l;
        earliest = set a.earliest s v;
        best = best_after s v a.best;
        stop_stamp = cond new (set a.stop_stamp s stamp) a.stop_stamp;
        reached = cond new (a.reached ++ (s ∷ [])) a.reached;
        seg_queue = a.seg_queue;
        seg_reach = a.seg_reach;
      }

  -- where it is earlier than the stop's earliest
  unfoldable pub relax : ℕ → ℕ → ℕ → Label → Arrivals → Arrivals
  relax stamp s v l a = cond (ltb v (at a s)) (improve stamp s v l a) a

  -- resolve_transfer_target: over k places of a line from place p on. A trip past the table is passed over; modes are not tested.
  unfoldable pub resolve_in : (is_fifo : Bool) (offset after best : ℕ) (trip : ℕ → ℕ) (left place : ℕ) → Option (ℕ × BoardedRun)
  resolve_in is_fifo o after best trip zero p = None
  resolve_in is_fifo o after best trip (suc k) p =
      let t : ℕ = trip p in
      elim (ltb t (trips T) && ltb o (stop_count T t)) [
        | false ↦ resolve_in is_fifo o after best trip k (suc p)
        | true ↦ elim ((is_fifo && leb (best + margin_of) (departure T t o)) && no_windows T t) [
          | true ↦ None
          | false ↦ elim ((not (usable T Q t) || no_pickup T t o) || skipped (delay_of Q t) t o) [
            | true ↦ resolve_in is_fifo o after best trip k (suc p)
            | false ↦ elim (board_at (delay_of Q t) t o after) [
              | None ↦ resolve_in is_fifo o after best trip k (suc p)
              | Some b ↦ elim (ltb b.departure best) [
                | true ↦ Some (t, b)
                | false ↦ elim is_fifo [ true ↦ None | false ↦ resolve_in false o after best trip k (suc p) ]
              ]
            ]
          ]
        ]
      ]

  -- the trips of line l by their places; a line past the table has none
  unfoldable pub line_trips_at : ℕ → LineTrips
  line_trips_at l = elim (ltb l T.lines) [ true ↦ T.line l | false ↦ record { count = 0; trip = λ p. never } ]

  -- at most `line_scan` trips: the line's from the target's position on, or the target alone where it does not stand there
  unfoldable pub resolve : Transfer → ℕ → ℕ → Option (ℕ × BoardedRun)
  resolve e after best =
      let l : LineTrips = line_trips_at (line_at T e.target) in
      let p : ℕ = position T e.target in
      let is_fifo : Bool = fifo T (line_at T e.target) in
      elim (ltb p l.count && eqb (l.trip p) e.target) [
        | true ↦ resolve_in is_fifo e.offset after best l.trip (min (l.count - p) Q.settings.line_scan) p
        | false ↦ resolve_in is_fifo e.offset after best (λ p. e.target) (min 1 Q.settings.line_scan) 0
      ]

  -- queue trip t, boarded at offset o at stop s: a frequency trip each time, another only at a lower offset than before
  unfoldable pub enqueue : (trip offset stop shift : ℕ) (a : Arrivals) → Arrivals
  enqueue t o s shift a =
      elim (not (no_windows T t) || ltb o (get_or a.seg_reach t 0)) [
        | false ↦ a
        | true ↦ record {
          labels = a.labels;
          earliest = a.earliest;
          best = a.best;
          stop_stamp = a.stop_stamp;
          reached = a.reached;
          seg_queue = a.seg_queue ++ (record { trip = t; offset = o; stop = s; shift = shift } ∷ []);
          seg_reach = elim (no_windows T t) [ true ↦ set a.seg_reach t o | false ↦ a.seg_reach ];
        }
      ]

  -- the transfers of one stop event, reached at time v at stop x: a pattern that holds no target cell is skipped
  unfoldable pub take_transfers : ℕ → ℕ → ℕ → List Transfer → Arrivals → Arrivals
  take_transfers stamp v x [] a = a
  take_transfers stamp v x (e ∷ es) a =
      elim (holds_target T Q e.pattern) [
        | false ↦ take_transfers stamp v x es a
        | true ↦ elim (resolve e (v + e.time) a.best) [
          | None ↦ take_transfers stamp v x es a
          | Some b ↦
              let s : ℕ = stop_at T b.0 e.offset in
              let d : ℕ = b.1.departure in
              take_transfers stamp v x es
              (enqueue b.0 e.offset s b.1.time_shift_s
              (relax stamp s d (Walk d x s e.time no_distance (stamp - 1)) a))
        ]
      ]

  -- scan_trip_forward, its first loop: alighting at k stop times from offset p on, of trip t boarded at stop s at offset o
  unfoldable pub alightings : (stamp : ℕ) (adj : Hit) (shift trip stop board left next : ℕ) (a : Arrivals) → Arrivals
  alightings stamp adj shift t s o zero p a = a
  alightings stamp adj shift t s o (suc k) p a =
      elim (no_drop_off T t p || skipped adj t p) [
        | true ↦ alightings stamp adj shift t s o k (suc p) a
        | false ↦
            let v : ℕ = arrival_now adj shift t p in
            elim (ltb v a.best) [
              | false ↦ a
              | true ↦ alightings stamp adj shift t s o k (suc p) (relax stamp (stop_at T t p) v (Transit v t s o p (stamp - 2) shift) a)
            ]
      ]

  -- its second loop, flagged: the transfers at each. Skipped stops are not tested.
  unfoldable pub transferring : (stamp : ℕ) (adj : Hit) (shift trip left next : ℕ) (a : Arrivals) → Arrivals
  transferring stamp adj shift t zero p a = a
  transferring stamp adj shift t (suc k) p a =
      elim (no_drop_off T t p) [
        | true ↦ transferring stamp adj shift t k (suc p) a
        | false ↦
            let v : ℕ = arrival_now adj shift t p in
            elim (ltb v a.best) [
              | false ↦ a
              | true ↦ transferring stamp adj shift t k (suc p) (take_transfers stamp v (stop_at T t p) (T.transfers t p) a)
            ]
      ]

  -- scan_trip_forward: trip t, boarded at stop s at offset o
  unfoldable pub scan_trip_forward : (flagged : Bool) (stamp : ℕ) (adj : Hit) (shift trip stop board : ℕ) (a : Arrivals) → Arrivals
  scan_trip_forward flagged stamp adj shift t s o a =
      let b : Arrivals = alightings stamp adj shift t s o (stop_count T t - suc o) (suc o) a in
      elim flagged [ true ↦ transferring stamp adj shift t (stop_count T t - suc o) (suc o) b | false ↦ b ]

  -- the scan of trip t from offset o in a round enters the log
  abbrev pub logged : ℕ → ℕ → ℕ → Boardings → Boardings
  logged round t o b =
      record {
        trip_stamp = b.trip_stamp;
        board_offset = b.board_offset;
        board_departure = b.board_departure;
        line_boards = b.line_boards;
        scans = (round, t, o) ∷ b.scans;
        queued = b.queued;
      }

  -- THE SEGMENT PHASE: the segments that the round before queued, each on a permitted trip
  unfoldable pub ride_segments : Bool → ℕ → ℕ → List Segment → State → State
  ride_segments flagged round stamp [] s = s
  ride_segments flagged round stamp (g ∷ gs) s =
      elim (permitted T Q g.trip) [
        | false ↦ ride_segments flagged round stamp gs s
        | true ↦ ride_segments flagged round stamp gs (record {
          arrivals = scan_trip_forward flagged stamp (delay_of Q g.trip) g.shift g.trip g.stop g.offset s.arrivals;
          boardings = logged round g.trip g.offset s.boardings;
        })
      ]

  -- LINE PRUNING. May a trip prune and be pruned: it has no delay row, and its line is FIFO?
  abbrev pub prunable : Hit → ℕ → Bool
  prunable adj t = undelayed adj && fifo T (line_at T t)

  -- an earlier trip of the line was boarded this round at this offset or before
  unfoldable pub dominated : ℕ → ℕ → List (ℕ × ℕ) → Bool
  dominated t o [] = false
  dominated t o (b ∷ bs) = ((eqb (line_at T b.0) (line_at T t) && ltb (position T b.0) (position T t)) && leb b.1 o) || dominated t o bs

  unfoldable pub pruned : Hit → ℕ → ℕ → Boardings → Bool
  pruned adj t o b = prunable adj t && dominated t o b.line_boards

  -- the trip was boarded this round, and a boarding at offset o with this departure is no better
  unfoldable pub passed_over : (stamp trip offset departure : ℕ) (b : Boardings) → Bool
  passed_over stamp t o dep b =
      eqb (get_or b.trip_stamp t 0) stamp
      && not (ltb dep (get_or b.board_departure t 0) || (eqb dep (get_or b.board_departure t 0) && ltb o (get_or b.board_offset t 0)))

  -- the tests of one listed departure, in the Rust's order: how it is boarded, if it is
  unfoldable pub boarding : (stamp after : ℕ) (adj : Hit) (trip offset : ℕ) (s : State) → Option BoardedRun
  boarding stamp after adj t o s =
      elim (((not (permitted T Q t) || pruned adj t o s.boardings) || no_pickup T t o) || skipped adj t o) [
        | true ↦ None
        | false ↦ elim (board_at adj t o after) [
          | None ↦ None
          | Some b ↦ elim (leb s.arrivals.best b.departure || passed_over stamp t o b.departure s.boardings)
              [ true ↦ None | false ↦ Some b ]
        ]
      ]

  -- trip t is boarded at offset o
  unfoldable pub board : (round stamp : ℕ) (adj : Hit) (trip offset departure : ℕ) (b : Boardings) → Boardings
  board round stamp adj t o dep b =
      record {
        trip_stamp = set b.trip_stamp t stamp;
        board_offset = set b.board_offset t o;
        board_departure = set b.board_departure t dep;
        line_boards = cond (prunable adj t) ((t, o) ∷ b.line_boards) b.line_boards;
        scans = (round, t, o) ∷ b.scans;
        queued = b.queued;
      }

  -- THE DEPARTURE SCAN of stop x, reached so that one may board at `after`: its departures one by one; at a stop without frequency
  -- trips until one is no earlier than the best total plus the margin
  unfoldable pub scan_departures : (flagged has_freq : Bool) (round stamp stop after : ℕ) (listed : List DepartureRow) (s : State) → State
  scan_departures flagged has_freq round stamp x after [] s = s
  scan_departures flagged has_freq round stamp x after (d ∷ ds) s =
      elim (not has_freq && leb (s.arrivals.best + margin_of) (departure T d.trip d.offset)) [
        | true ↦ s
        | false ↦
            let adj : Hit = delay_of Q d.trip in
            elim (boarding stamp after adj d.trip d.offset s) [
              | None ↦ scan_departures flagged has_freq round stamp x after ds s
              | Some b ↦ scan_departures flagged has_freq round stamp x after ds (record {
                arrivals = scan_trip_forward flagged stamp adj b.time_shift_s d.trip x d.offset s.arrivals;
                boardings = board round stamp adj d.trip d.offset b.departure s.boardings;
              })
            ]
      ]

  -- over the stops reached before
  unfoldable pub scan_stops : Bool → ℕ → ℕ → List ℕ → State → State
  scan_stops flagged round stamp [] s = s
  scan_stops flagged round stamp (x ∷ xs) s =
      let after : ℕ = at s.arrivals x + change_before Q round in
      elim (eqb (at s.arrivals x) never || leb s.arrivals.best after) [
        | true ↦ scan_stops flagged round stamp xs s
        | false ↦ elim (mark_at T x) [
          | true ↦ scan_stops flagged round stamp xs (scan_departures flagged true round stamp x after (departures_at T x) s)
          | false ↦ scan_stops flagged round stamp xs
              (scan_departures flagged false round stamp x after (not_before T (after - margin_of) (departures_at T x)) s)
        ]
      ]

  -- THE WALK PHASE: the edges of stop x, reached at v
  unfoldable pub walk_from : Bool → ℕ → ℕ → ℕ → List ℕ → Arrivals → Arrivals
  walk_from flagged stamp x v [] a = a
  walk_from flagged stamp x v (e ∷ es) a =
      elim (flagged && not (holds_target T Q (T.timetable.edge e).pattern)) [
        | true ↦ walk_from flagged stamp x v es a
        | false ↦
            let w : ℕ = v + walk_time T Q e in
            elim (ltb w a.best) [
              | false ↦ walk_from flagged stamp x v es a
              | true ↦ walk_from flagged stamp x v es
                  (relax stamp (edge_to T e) w (Walk w x (edge_to T e) (walk_time T Q e) (T.distance e) (stamp - 1)) a)
            ]
      ]

  unfoldable pub walk_all : Bool → ℕ → List ℕ → Arrivals → Arrivals
  walk_all flagged stamp [] a = a
  walk_all flagged stamp (x ∷ xs) a = walk_all flagged stamp xs (walk_from flagged stamp x (at a x) (edges_from T x) a)

  -- with no stop reached, and these segments queued
  abbrev pub emptied : List Segment → Arrivals → Arrivals
  emptied q a =
      record {
        labels = a.labels;
        earliest = a.earliest;
        best = a.best;
        stop_stamp = a.stop_stamp;
        reached = [];
        seg_queue = q;
        seg_reach = a.seg_reach;
      }

  -- at a round's start both queues are taken, and no line is boarded yet
  abbrev pub round_start : State → State
  round_start s =
      record {
        arrivals = emptied [] s.arrivals;
        boardings = record {
          trip_stamp = s.boardings.trip_stamp;
          board_offset = s.boardings.board_offset;
          board_departure = s.boardings.board_departure;
          line_boards = [];
          scans = s.boardings.scans;
          queued = s.boardings.queued;
        };
      }

  -- segments (unflagged none is ever queued: `answer_laws` proofs/Calls), then departures
  unfoldable pub ride_phase : Bool → ℕ → State → State
  ride_phase flagged round s =
      scan_stops flagged round (suc (suc round)) s.arrivals.reached
      (elim flagged [ true ↦ ride_segments true round (suc (suc round)) s.arrivals.seg_queue (round_start s) | false ↦ round_start s ])

  -- the stops that bear a stamp
  unfoldable pub stamped : ℕ → List ℕ → List ℕ → List ℕ
  stamped stamp ss [] = []
  stamped stamp ss (x ∷ xs) = elim (eqb (get_or ss x 0) stamp) [ true ↦ x ∷ stamped stamp ss xs | false ↦ stamped stamp ss xs ]

  -- walks; then the stops for the next round: those reached on foot and, unflagged, after them those reached by transit
  unfoldable pub walk_phase : Bool → ℕ → State → State
  walk_phase flagged round s =
      let w : Arrivals = walk_all flagged (suc (suc round)) s.arrivals.reached (emptied s.arrivals.seg_queue s.arrivals) in
      record {
        arrivals = record {
          labels = w.labels;
          earliest = w.earliest;
          best = w.best;
          stop_stamp = w.stop_stamp;
          reached = elim flagged [ true ↦ w.reached | false ↦ w.reached ++ stamped (suc (suc round)) w.stop_stamp s.arrivals.reached ];
          seg_queue = w.seg_queue;
          seg_reach = w.seg_reach;
        };
        boardings = record {
          trip_stamp = s.boardings.trip_stamp;
          board_offset = s.boardings.board_offset;
          board_departure = s.boardings.board_departure;
          line_boards = s.boardings.line_boards;
          scans = s.boardings.scans;
          queued = length w.seg_queue ∷ s.boardings.queued;
        };
      }

  -- no stop is left to board at and, flagged, no segment to ride
  unfoldable pub idle : Bool → Arrivals → Bool
  idle flagged a = eqb (length a.reached) 0 && (not flagged || eqb (length a.seg_queue) 0)

  -- THE ROUNDS: n of them from round r on
  unfoldable pub rounds : Bool → ℕ → ℕ → State → State
  rounds flagged zero r s = s
  rounds flagged (suc n) r s = elim (idle flagged s.arrivals)
      [ true ↦ s | false ↦ rounds flagged n (suc r) (walk_phase flagged r (ride_phase flagged r s)) ]

  -- ACCESS: one origin
  unfoldable pub set_out : Origin → Arrivals → Arrivals
  set_out o a =
      let v : ℕ = Q.start + o.duration in
      elim (ltb v (at a o.stop)) [
        | true ↦ record {
          labels = set a.labels (record_of o.stop 0) (Access o.stop v o.duration o.distance);
          earliest = set a.earliest o.stop v;
          best = best_after o.stop v a.best;
          stop_stamp = set a.stop_stamp o.stop 1;
          reached = a.reached ++ (o.stop ∷ []);
          seg_queue = a.seg_queue;
          seg_reach = a.seg_reach;
        }
        | false ↦ record {
          labels = a.labels;
          earliest = a.earliest;
          best = best_after o.stop v a.best;
          stop_stamp = a.stop_stamp;
          reached = a.reached;
          seg_queue = a.seg_queue;
          seg_reach = a.seg_reach;
        }
      ]

  unfoldable pub access : List Origin → Arrivals → Arrivals
  access [] a = a
  access (o ∷ os) a = access os (set_out o a)

  -- TbrScratch::new
  abbrev pub new_arrivals : Arrivals
  new_arrivals =
      record {
        labels = replicate (stops T * 13) Empty;
        earliest = replicate (stops T) never;
        best = never;
        stop_stamp = replicate (stops T) 0;
        reached = [];
        seg_queue = [];
        seg_reach = replicate (trips T) never;
      }

  abbrev pub new_boardings : Boardings
  new_boardings =
      record {
        trip_stamp = replicate (trips T) 0;
        board_offset = replicate (trips T) 0;
        board_departure = replicate (trips T) 0;
        line_boards = [];
        scans = [];
        queued = [];
      }

  abbrev pub begin : State
  begin = record { arrivals = access Q.origins new_arrivals; boardings = new_boardings }

  -- THE BEST TARGET: the least total over the egress stops with its stop; equal ones keep the lowest stop
  unfoldable pub best_target : Arrivals → List (ℕ × ℕ) → ℕ × ℕ → ℕ × ℕ
  best_target a [] b = b
  best_target a (e ∷ es) b =
      elim (eqb (at a e.0) never) [
        | true ↦ best_target a es b
        | false ↦ elim (ltb (at a e.0 + e.1) b.0) [ true ↦ best_target a es (at a e.0 + e.1, e.0) | false ↦ best_target a es b ]
      ]

  -- the same over the labels of row r
  unfoldable pub row_target : Arrivals → ℕ → List (ℕ × ℕ) → ℕ × ℕ → ℕ × ℕ
  row_target a r [] b = b
  row_target a r (e ∷ es) b =
      elim (reached_by (get_or a.labels (record_of e.0 r) Empty)) [
        | zero ↦ row_target a r es b
        | suc v ↦ elim (ltb (v + e.1) b.0) [ true ↦ row_target a r es (v + e.1, e.0) | false ↦ row_target a r es b ]
      ]

  -- THE CANDIDATES (total, stop, row) of k rows from r on: earlier than the last one taken, and not later than the best by more than
  -- the slack
  unfoldable pub candidates_from : (a : Arrivals) (top left row last : ℕ) → List (ℕ × ℕ × ℕ)
  candidates_from a top zero r last = []
  candidates_from a top (suc k) r last =
      let b = row_target a r Q.egress (never, never) in
      elim (ltb b.0 last && leb b.0 (top + Q.settings.candidate_slack)) [
        | true ↦ (b.0, b.1, r) ∷ candidates_from a top k (suc r) b.0
        | false ↦ candidates_from a top k (suc r) last
      ]

  unfoldable pub final : Bool → State
  final flagged = rounds flagged (rounds_of Q) 0 begin

  -- "no way" has no candidates
  unfoldable pub search_answer : Bool → SearchAnswer
  search_answer flagged =
      let s = final flagged in
      let b = best_target s.arrivals Q.egress (never, never) in
      record {
        total = b.0;
        stop = b.1;
        candidates = elim (eqb b.0 never) [ true ↦ [] | false ↦ candidates_from s.arrivals b.0 (suc (rounds_of Q)) 0 never ];
        labels = s.arrivals.labels;
        scans = s.boardings.scans;
        queued = s.boardings.queued;
      }

-- QUESTION 8: is one of these numbers of queued segments more than a queue half has rows?
unfoldable pub overflows : ℕ → List ℕ → Bool
overflows room [] = false
overflows room (m ∷ ms) = ltb room m || overflows room ms

-- a query with the switch put off
abbrev pub put_off : Query → Query
put_off Q =
    record {
      start = Q.start;
      origins = Q.origins;
      egress = Q.egress;
      modes = Q.modes;
      wheelchair = Q.wheelchair;
      change = Q.change;
      wanted_rounds = Q.wanted_rounds;
      transfers = Q.transfers;
      delays = Q.delays;
      flags_off = true;
      settings = Q.settings;
    }

-- `run_tbr` as the Rust has it
unfoldable pub run_tbr : Tables → Query → SearchAnswer
run_tbr T Q = search_answer T Q (use_arc_flags T Q)

-- THE QUERY: `run_tbr` with the switch put off where the flags would skip nothing
unfoldable pub query : Tables → Query → SearchAnswer
query T Q = search_answer T Q (flags_in_use T Q)
