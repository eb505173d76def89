-- WITH ARC FLAGS OFF no transfer is read: the search answers alike whatever the transfers are, and so do the calls.
use Prim.Native.Nat.{ℕ, zero, suc, ◌+◌, ◌-◌, ◌<◌}
use mathlib.Core.Path.{◌≡◌, refl, sym, ◌∙◌, ap}
use mathlib.Core.Bool.{Bool, true, false, ◌&&◌, ◌||◌, not, cond}
use mathlib.Core.List.{List, [], ◌∷◌, ◌++◌}
use lib.ListN.{length, set}
use lib.Dec.{leb, ltb, eqb}
use borrow.Author.Tests.{ltb-true}
use Rattle.loops.specs.Iter.{Hit}
use Rattle.cell_bitset.specs.declared.CellBitSet.{CellBitSet}
use Rattle.cell_bitset.specs.CellSet.{empty_set, with_cell, holds_none}
use Rattle.std.specs.Prelude.{Option, None, Some}
use Rattle.frequency.specs.declared.BoardedRun.{BoardedRun}
use Rattle.departures.specs.declared.DepartureRow.{DepartureRow}
use Rattle.label.specs.declared.Label.TheVariants.{Walk}
use Rattle.event_transfers.specs.Transfers.{Transfer}
use Rattle.model.specs.Tables.{Tables, Query, never, stops, trips, rounds_of, change_before, edges_from, edge_to, walk_time, departure, no_pickup, position, fifo, mode_wanted, usable, permitted}
use Rattle.model.specs.Search.{Arrivals, Boardings, State, at, delay_of, undelayed, skipped, margin_of, targets_from, target_cells, use_arc_flags, emptied, round_start, departures_at, mark_at, line_at, not_before, board_at, best_after, improve, relax, alightings, scan_trip_forward, dominated, pruned, passed_over, boarding, board, scan_departures, scan_stops, walk_from, walk_all, ride_phase, stamped, walk_phase, idle, rounds, set_out, access, begin, best_target, row_target, candidates_from, final, search_answer, SearchAnswer, skips_edge, skips_transfer, flags_in_use, run_tbr, query}
use Rattle.model.proofs.Switch.{answer_of}
use Rattle.departures.specs.Departures.{listed_at}
use Rattle.line_layout.specs.Layout.{line_trips_in}
use Rattle.query_input.specs.Lent.{Lent, tables_of, query_of}
use Rattle.query_door.specs.Door.{query_verdict}
use Rattle.query_reply.specs.Outcome.{QueryAreas, query_lengths, query_settled, queue_full}
use Rattle.query_call.specs.Call.{run_tbr_outcome, query_outcome}
use Rattle.promise.specs.Claims.{lent_with, SameButTransfers, TransfersUnread}

-- tables with other transfers; past the trips and the stops the numbers of lines and the marks may be any
abbrev pub otherwise : Tables → (ℕ → ℕ) → (ℕ → ℕ) → (ℕ → ℕ → List Transfer) → Tables
otherwise T line_of mark transfers =
    record {
      timetable = T.timetable;
      distance = T.distance;
      lines = T.lines;
      line_of = line_of;
      line = T.line;
      departures = T.departures;
      mark = mark;
      transfers = transfers;
      cells = T.cells;
      patterns = T.patterns;
      pattern = T.pattern;
    }

module _ (T : Tables) (Q : Query) (line_of mark : ℕ → ℕ) (transfers : ℕ → ℕ → List Transfer)
    (lines : (t : ℕ) → t < trips T → line_of t ≡ T.line_of t) (marks : (x : ℕ) → x < stops T → mark x ≡ T.mark x) where
  abbrev U : Tables
  U = otherwise T line_of mark transfers

  same_line : (t : ℕ) → line_at U t ≡ line_at T t
  unfolding line_at
  same_line t = go (ltb t (trips T)) refl
    where
      go : (b : Bool) → ltb t (trips T) ≡ b → ◌≡◌ {A = ℕ} (elim b [ true ↦ line_of t | false ↦ never ]) (elim b [ true ↦ T.line_of t | false ↦ never ])
      go true e = lines t (ltb-true t (trips T) e)
      go false e = refl

  same_mark : (x : ℕ) → mark_at U x ≡ mark_at T x
  unfolding mark_at
  same_mark x = go (ltb x (stops T)) refl
    where
      go : (b : Bool) → ltb x (stops T) ≡ b → (b && eqb (mark x) 1) ≡ (b && eqb (T.mark x) 1)
      go true e = ap (λ (n : ℕ). eqb n 1) (marks x (ltb-true x (stops T) e))
      go false e = refl

  -- are arc flags used? The target cells are the same
  same_targets : (es : List (ℕ × ℕ)) (c : CellBitSet) → targets_from U es c ≡ targets_from T es c
  unfolding targets_from
  same_targets [] c = refl
  same_targets (e ∷ es) c = same_targets es (with_cell c (T.timetable.cell e.0))

  pub same_use : use_arc_flags U Q ≡ use_arc_flags T Q
  unfolding use_arc_flags target_cells
  same_use = ap (λ (c : CellBitSet). (not (holds_none c) && not (eqb T.patterns 0)) && not Q.flags_off) (same_targets Q.egress (empty_set T.cells))

  -- line pruning
  same_dominated : (t o : ℕ) (bs : List (ℕ × ℕ)) → dominated U Q t o bs ≡ dominated T Q t o bs
  unfolding dominated
  same_dominated t o [] = refl
  same_dominated t o (b ∷ bs) = λ i. ((eqb (same_line b.0 i) (same_line t i) && ltb (position T b.0) (position T t)) && leb b.1 o) || same_dominated t o bs i

  same_pruned : (adj : Hit) (t o : ℕ) (b : Boardings) → pruned U Q adj t o b ≡ pruned T Q adj t o b
  unfolding pruned fifo
  same_pruned adj t o b = λ i. (undelayed adj && fifo T (same_line t i)) && same_dominated t o b.line_boards i

  same_boarding : (stamp after : ℕ) (adj : Hit) (t o : ℕ) (s : State) → boarding U Q stamp after adj t o s ≡ boarding T Q stamp after adj t o s
  unfolding boarding board_at passed_over permitted usable mode_wanted
  same_boarding stamp after adj t o s = ap tested (same_pruned adj t o s.boardings)
    where
      tested : Bool → Option BoardedRun
      tested p =
          elim (((not (permitted T Q t) || p) || no_pickup T t o) || skipped T Q adj t o) [
            | true ↦ None
            | false ↦ elim (board_at T Q adj t o after) [
              | None ↦ None
              | Some b ↦ elim (leb s.arrivals.best b.departure || passed_over T Q stamp t o b.departure s.boardings)
                  [ true ↦ None | false ↦ Some b ]
            ]
          ]

  same_board : (round stamp : ℕ) (adj : Hit) (t o dep : ℕ) (b : Boardings) → board U Q round stamp adj t o dep b ≡ board T Q round stamp adj t o dep b
  unfolding board fifo
  same_board round stamp adj t o dep b = λ i.
      record {
        trip_stamp = set b.trip_stamp t stamp;
        board_offset = set b.board_offset t o;
        board_departure = set b.board_departure t dep;
        line_boards = cond (undelayed adj && fifo T (same_line t i)) ((t, o) ∷ b.line_boards) b.line_boards;
        scans = (round, t, o) ∷ b.scans;
        queued = b.queued;
      }

  -- the departures from the first on that is not before a time
  same_not_before : (m : ℕ) (ds : List DepartureRow) → not_before U m ds ≡ not_before T m ds
  unfolding not_before
  same_not_before m [] = refl
  same_not_before m (d ∷ ds) = go (ltb (departure T d.trip d.offset) m) (same_not_before m ds)
    where
      go : (b : Bool) → not_before U m ds ≡ not_before T m ds
          → ◌≡◌ {A = List DepartureRow} (elim b [ true ↦ not_before U m ds | false ↦ d ∷ ds ]) (elim b [ true ↦ not_before T m ds | false ↦ d ∷ ds ])
      go true e = e
      go false e = refl

  -- the walks from a stop, and from all
  abbrev walk_by : Tables → ℕ → ℕ → ℕ → ℕ → List ℕ → Arrivals → Bool → Arrivals
  walk_by P stamp x v e es a b =
      elim b [
        | false ↦ walk_from P Q false stamp x v es a
        | true ↦ walk_from P Q false stamp x v es
            (relax P Q stamp (edge_to T e) (v + walk_time T Q e) (Walk (v + walk_time T Q e) x (edge_to T e) (walk_time T Q e) (T.distance e) (stamp - 1)) a)
      ]

  same_from : (stamp x v : ℕ) (es : List ℕ) (a : Arrivals) → walk_from U Q false stamp x v es a ≡ walk_from T Q false stamp x v es a
  unfolding walk_from relax improve best_after
  same_from stamp x v [] a = refl
  same_from stamp x v (e ∷ es) a = go (ltb (v + walk_time T Q e) a.best) (λ u. same_from stamp x v es u)
    where
      go : (b : Bool) → ((u : Arrivals) → walk_from U Q false stamp x v es u ≡ walk_from T Q false stamp x v es u)
          → walk_by U stamp x v e es a b ≡ walk_by T stamp x v e es a b
      go true r = r (relax T Q stamp (edge_to T e) (v + walk_time T Q e) (Walk (v + walk_time T Q e) x (edge_to T e) (walk_time T Q e) (T.distance e) (stamp - 1)) a)
      go false r = r a

  same_walks : (stamp : ℕ) (xs : List ℕ) (a : Arrivals) → walk_all U Q false stamp xs a ≡ walk_all T Q false stamp xs a
  unfolding walk_all edges_from
  same_walks stamp [] a = refl
  same_walks stamp (x ∷ xs) a =
      same_walks stamp xs (walk_from U Q false stamp x (at a x) (edges_from T x) a)
      ∙ ap (walk_all T Q false stamp xs) (same_from stamp x (at a x) (edges_from T x) a)

  -- the departures of a stop: b, the scan ends; m, how the first is boarded
  abbrev scan_by : Tables → Bool → ℕ → ℕ → ℕ → ℕ → DepartureRow → List DepartureRow → State → Bool → Option BoardedRun → State
  scan_by P has_freq round stamp x after d ds s b m =
      elim b [
        | true ↦ s
        | false ↦ elim m [
          | None ↦ scan_departures P Q false has_freq round stamp x after ds s
          | Some r ↦ scan_departures P Q false has_freq round stamp x after ds (record {
            arrivals = scan_trip_forward P Q false stamp (delay_of Q d.trip) r.time_shift_s d.trip x d.offset s.arrivals;
            boardings = board P Q round stamp (delay_of Q d.trip) d.trip d.offset r.departure s.boardings;
          })
        ]
      ]

  same_departures : (has_freq : Bool) (round stamp x after : ℕ) (ds : List DepartureRow) (s : State)
      → scan_departures U Q false has_freq round stamp x after ds s ≡ scan_departures T Q false has_freq round stamp x after ds s
  unfolding scan_departures scan_trip_forward alightings relax improve best_after
  same_departures has_freq round stamp x after [] s = refl
  same_departures has_freq round stamp x after (d ∷ ds) s =
      ap (scan_by U has_freq round stamp x after d ds s ends) (same_boarding stamp after (delay_of Q d.trip) d.trip d.offset s)
      ∙ go ends (boarding T Q stamp after (delay_of Q d.trip) d.trip d.offset s) (λ u. same_departures has_freq round stamp x after ds u)
    where
      ends : Bool
      ends = not has_freq && leb (s.arrivals.best + margin_of T Q) (departure T d.trip d.offset)

      go : (b : Bool) (m : Option BoardedRun)
          → ((u : State) → scan_departures U Q false has_freq round stamp x after ds u ≡ scan_departures T Q false has_freq round stamp x after ds u)
          → scan_by U has_freq round stamp x after d ds s b m ≡ scan_by T has_freq round stamp x after d ds s b m
      go true m r = refl
      go false None r = r s
      go false (Some b) r =
          let scanned : Boardings → State = λ w. record {
            arrivals = scan_trip_forward T Q false stamp (delay_of Q d.trip) b.time_shift_s d.trip x d.offset s.arrivals;
            boardings = w;
          } in
          r (scanned (board U Q round stamp (delay_of Q d.trip) d.trip d.offset b.departure s.boardings))
          ∙ ap (λ (w : Boardings). scan_departures T Q false has_freq round stamp x after ds (scanned w))
          (same_board round stamp (delay_of Q d.trip) d.trip d.offset b.departure s.boardings)

  -- the stops: b, one is passed over; c, it bears the mark
  abbrev stop_by : Tables → ℕ → ℕ → ℕ → List ℕ → State → ℕ → Bool → Bool → State
  stop_by P round stamp x xs s after b c =
      elim b [
        | true ↦ scan_stops P Q false round stamp xs s
        | false ↦ elim c [
          | true ↦ scan_stops P Q false round stamp xs (scan_departures P Q false true round stamp x after (departures_at P x) s)
          | false ↦ scan_stops P Q false round stamp xs
              (scan_departures P Q false false round stamp x after (not_before P (after - margin_of T Q) (departures_at P x)) s)
        ]
      ]

  same-stops : (round stamp : ℕ) (xs : List ℕ) (s : State) → scan_stops U Q false round stamp xs s ≡ scan_stops T Q false round stamp xs s
  unfolding scan_stops departures_at
  same-stops round stamp [] s = refl
  same-stops round stamp (x ∷ xs) s =
      ap (stop_by U round stamp x xs s now passed) (same_mark x) ∙ go passed (mark_at T x) (λ u. same-stops round stamp xs u)
    where
      now : ℕ
      now = at s.arrivals x + change_before Q round

      passed : Bool
      passed = eqb (at s.arrivals x) never || leb s.arrivals.best now

      go : (b c : Bool) → ((u : State) → scan_stops U Q false round stamp xs u ≡ scan_stops T Q false round stamp xs u)
          → stop_by U round stamp x xs s now b c ≡ stop_by T round stamp x xs s now b c
      go true c r = r s
      go false true r =
          r (scan_departures U Q false true round stamp x now (departures_at T x) s)
          ∙ ap (scan_stops T Q false round stamp xs) (same_departures true round stamp x now (departures_at T x) s)
      go false false r =
          let ds = not_before T (now - margin_of T Q) (departures_at T x) in
          r (scan_departures U Q false false round stamp x now (not_before U (now - margin_of T Q) (departures_at T x)) s)
          ∙ ap (λ (l : List DepartureRow). scan_stops T Q false round stamp xs (scan_departures U Q false false round stamp x now l s))
          (same_not_before (now - margin_of T Q) (departures_at T x))
          ∙ ap (scan_stops T Q false round stamp xs) (same_departures false round stamp x now ds s)

  same_ride : (r : ℕ) (s : State) → ride_phase U Q false r s ≡ ride_phase T Q false r s
  unfolding ride_phase
  same_ride r s = same-stops r (suc (suc r)) s.arrivals.reached (round_start T Q s)

  -- a round's end, after its walks
  abbrev walked : ℕ → State → Arrivals → State
  walked r s w =
      record {
        arrivals = record {
          labels = w.labels;
          earliest = w.earliest;
          best = w.best;
          stop_stamp = w.stop_stamp;
          reached = w.reached ++ stamped T Q (suc (suc r)) w.stop_stamp s.arrivals.reached;
          seg_queue = w.seg_queue;
          seg_reach = w.seg_reach;
        };
        boardings = record {
          trip_stamp = s.boardings.trip_stamp;
          board_offset = s.boardings.board_offset;
          board_departure = s.boardings.board_departure;
          line_boards = s.boardings.line_boards;
          scans = s.boardings.scans;
          queued = length w.seg_queue ∷ s.boardings.queued;
        };
      }

  same_walk : (r : ℕ) (s : State) → walk_phase U Q false r s ≡ walk_phase T Q false r s
  unfolding walk_phase stamped
  same_walk r s =
      ap (walked r s) (same_walks (suc (suc r)) s.arrivals.reached (emptied T Q s.arrivals.seg_queue s.arrivals))

  same_rounds : (n r : ℕ) (s : State) → rounds U Q false n r s ≡ rounds T Q false n r s
  unfolding rounds idle
  same_rounds zero r s = refl
  same_rounds (suc n) r s =
      go (eqb (length s.arrivals.reached) 0 && true)
      (same_rounds n (suc r) (walk_phase U Q false r (ride_phase U Q false r s)) ∙ ap (rounds T Q false n (suc r))
      (same_walk r (ride_phase U Q false r s) ∙ ap (walk_phase T Q false r) (same_ride r s)))
    where
      go : (b : Bool)
          → rounds U Q false n (suc r) (walk_phase U Q false r (ride_phase U Q false r s)) ≡ rounds T Q false n (suc r) (walk_phase T Q false r (ride_phase T Q false r s))
          → ◌≡◌ {A = State} (elim b [ true ↦ s | false ↦ rounds U Q false n (suc r) (walk_phase U Q false r (ride_phase U Q false r s)) ])
          (elim b [ true ↦ s | false ↦ rounds T Q false n (suc r) (walk_phase T Q false r (ride_phase T Q false r s)) ])
      go true e = refl
      go false e = e

  same_begin : begin U Q ≡ begin T Q
  unfolding access set_out best_after
  same_begin = refl

  same_out : (s : State) → answer_of U Q s ≡ answer_of T Q s
  unfolding best_target candidates_from row_target
  same_out s = refl

  -- THE SEARCH without flags
  pub same_unflagged : search_answer U Q false ≡ search_answer T Q false
  unfolding search_answer final
  same_unflagged =
      same_out (rounds U Q false (rounds_of Q) 0 (begin U Q))
      ∙ ap (answer_of T Q) (same_rounds (rounds_of Q) 0 (begin U Q) ∙ ap (rounds T Q false (rounds_of Q) 0) same_begin)

-- OF THE CALLS: the tables and the query that the slices say
module _ (x : Lent) (transfers : ℕ) (built area : List ℕ) (h : SameButTransfers x built) where
  abbrev y : Lent
  y = lent_with x transfers built area

  says : tables_of y ≡ otherwise (tables_of x) (tables_of y).line_of (tables_of y).mark (tables_of y).transfers
  says = λ i.
      record {
        timetable = (tables_of x).timetable;
        distance = (tables_of x).distance;
        lines = x.n.lines;
        line_of = (tables_of y).line_of;
        line = line_trips_in (h.line-runs i) (h.entries i);
        departures = listed_at (h.stop-runs i) (h.departures i);
        mark = (tables_of y).mark;
        transfers = (tables_of y).transfers;
        cells = x.n.cells;
        patterns = x.n.patterns;
        pattern = (tables_of x).pattern;
      }

  -- the flags are off in both
  use_same : use_arc_flags (tables_of y) (query_of x) ≡ use_arc_flags (tables_of x) (query_of x)
  use_same =
      ap (λ (T : Tables). use_arc_flags T (query_of x)) says
      ∙ same_use (tables_of x) (query_of x) (tables_of y).line_of (tables_of y).mark (tables_of y).transfers h.line h.mark

  search_same : search_answer (tables_of y) (query_of x) false ≡ search_answer (tables_of x) (query_of x) false
  search_same =
      ap (λ (T : Tables). search_answer T (query_of x) false) says
      ∙ same_unflagged (tables_of x) (query_of x) (tables_of y).line_of (tables_of y).mark (tables_of y).transfers h.line h.mark

  module _ (off : use_arc_flags (tables_of x) (query_of x) ≡ false) where
    rust_same : run_tbr (tables_of y) (query_of y) ≡ run_tbr (tables_of x) (query_of x)
    unfolding run_tbr
    rust_same =
        ap (search_answer (tables_of y) (query_of x)) (use_same ∙ off) ∙ search_same ∙ sym (ap (search_answer (tables_of x) (query_of x)) off)

    -- flags that are off are not in use
    unused : (T : Tables) → use_arc_flags T (query_of x) ≡ false → flags_in_use T (query_of x) ≡ false
    unfolding flags_in_use
    unused T e = ap (λ (b : Bool). b && (skips_edge T (query_of x) || skips_transfer T (query_of x))) e

    query_same : query (tables_of y) (query_of y) ≡ query (tables_of x) (query_of x)
    unfolding query
    query_same =
        ap (search_answer (tables_of y) (query_of x)) (unused (tables_of y) (use_same ∙ off)) ∙ search_same
        ∙ sym (ap (search_answer (tables_of x) (query_of x)) (unused (tables_of x) off))

-- two outcomes of what passed the door, with the same answer
settled_same : (s : QueryAreas) (v w : ℕ) (a b : SearchAnswer) → v ≡ 0 → w ≡ 0 → a ≡ b → query_settled v (queue_full a s) a s ≡ query_settled w (queue_full b s) b s
settled_same s v w a b p q e = λ i. query_settled ((p ∙ sym q) i) (queue_full (e i) s) (e i) s

pub other_transfers : (x : Lent) → use_arc_flags (tables_of x) (query_of x) ≡ false → TransfersUnread x query_outcome
unfolding query_outcome
other_transfers x off =
    record {
      outcome = λ k built area s h p q. settled_same s (query_verdict (lent_with x k built area) (query_lengths s)) (query_verdict x (query_lengths s)) _ _ q p (query_same x k built area h off);
    }

pub other_transfers_rust : (x : Lent) → use_arc_flags (tables_of x) (query_of x) ≡ false → TransfersUnread x run_tbr_outcome
unfolding run_tbr_outcome
other_transfers_rust x off =
    record {
      outcome = λ k built area s h p q. settled_same s (query_verdict (lent_with x k built area) (query_lengths s)) (query_verdict x (query_lengths s)) _ _ q p (rust_same x k built area h off);
    }
