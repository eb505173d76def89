-- The two calls: `query` is `run_tbr`, but where the flags would skip nothing; the switch is read where the mode is chosen and nowhere else.
use Prim.Native.Nat.{ℕ, zero, suc, ◌+◌, ◌-◌}
use mathlib.Core.Path.{◌≡◌, refl, sym, ◌∙◌, ap}
use mathlib.Core.Logic.{◌⊎◌, ⊎_elim}
use mathlib.Core.Bool.{Bool, true, false, ◌&&◌, ◌||◌, not}
use mathlib.Core.List.{List, [], ◌∷◌}
use lib.ListN.{length}
use lib.Dec.{leb, eqb}
use Rattle.loops.proofs.Iter.{and_left}
use Rattle.cell_bitset.specs.CellSet.{holds_none}
use Rattle.departures.specs.declared.DepartureRow.{DepartureRow}
use Rattle.model.specs.Tables.{never, Tables, Query, rounds_of, change_before, usable, permitted}
use Rattle.model.specs.Search.{State, SearchAnswer, at, departures_at, mark_at, not_before, margin_of, round_start, targets_from, target_cells, holds_target, use_arc_flags, skips_edge, skips_transfer, flags_in_use, board_at, best_after, improve, relax, resolve_in, line_trips_at, resolve, enqueue, take_transfers, alightings, transferring, scan_trip_forward, ride_segments, dominated, pruned, passed_over, boarding, board, scan_departures, scan_stops, walk_from, walk_all, ride_phase, stamped, walk_phase, idle, rounds, set_out, access, begin, best_target, row_target, candidates_from, final, search_answer, put_off, run_tbr, query}

-- the answer that a state holds
abbrev pub answer_of : Tables → Query → State → SearchAnswer
answer_of T Q s =
    let b = best_target T Q s.arrivals Q.egress (never, never) in
    record {
      total = b.0;
      stop = b.1;
      candidates = elim (eqb b.0 never) [ true ↦ [] | false ↦ candidates_from T Q s.arrivals b.0 (suc (rounds_of Q)) 0 never ];
      labels = s.arrivals.labels;
      scans = s.boardings.scans;
      queued = s.boardings.queued;
    }

module _ (T : Tables) (Q : Query) where
  -- the switch in each phase
  same_departures : scan_departures T (put_off Q) ≡ scan_departures T Q
  unfolding scan_departures board boarding passed_over pruned dominated permitted usable board_at scan_trip_forward alightings transferring take_transfers enqueue resolve line_trips_at resolve_in holds_target target_cells targets_from relax improve best_after
  same_departures = refl

  same_change : (r : ℕ) → change_before (put_off Q) r ≡ change_before Q r
  unfolding change_before
  same_change zero = refl
  same_change (suc r) = refl

  -- one stop, boarded from second `after` on, and then the stops xs: b, it is passed over; c, it bears the mark
  abbrev stop_of : Query → Bool → ℕ → ℕ → ℕ → List ℕ → State → ℕ → Bool → Bool → State
  stop_of P flagged round stamp x xs s after b c =
      elim b [
        | true ↦ scan_stops T P flagged round stamp xs s
        | false ↦ elim c [
          | true ↦ scan_stops T P flagged round stamp xs (scan_departures T P flagged true round stamp x after (departures_at T x) s)
          | false ↦ scan_stops T P flagged round stamp xs
              (scan_departures T P flagged false round stamp x after (not_before T (after - margin_of T P) (departures_at T x)) s)
        ]
      ]

  same-stops : (flagged : Bool) (round stamp : ℕ) (xs : List ℕ) (s : State)
      → scan_stops T (put_off Q) flagged round stamp xs s ≡ scan_stops T Q flagged round stamp xs s
  unfolding scan_stops
  same-stops flagged round stamp [] s = refl
  same-stops flagged round stamp (x ∷ xs) s =
      ap (λ (c : ℕ). let after : ℕ = at s.arrivals x + c in stop_of (put_off Q) flagged round stamp x xs s after
      (eqb (at s.arrivals x) never || leb s.arrivals.best after) (mark_at T x)) (same_change round)
      ∙ go (eqb (at s.arrivals x) never || leb s.arrivals.best now) (mark_at T x) (λ u. same-stops flagged round stamp xs u)
    where
      now : ℕ
      now = at s.arrivals x + change_before Q round

      ds : List DepartureRow
      ds = not_before T (now - margin_of T Q) (departures_at T x)

      go : (b c : Bool) → ((u : State) → scan_stops T (put_off Q) flagged round stamp xs u ≡ scan_stops T Q flagged round stamp xs u)
          → stop_of (put_off Q) flagged round stamp x xs s now b c ≡ stop_of Q flagged round stamp x xs s now b c
      go true c r = r s
      go false true r =
          r (scan_departures T (put_off Q) flagged true round stamp x now (departures_at T x) s)
          ∙ ap (λ f. scan_stops T Q flagged round stamp xs (f flagged true round stamp x now (departures_at T x) s)) same_departures
      go false false r =
          r (scan_departures T (put_off Q) flagged false round stamp x now ds s)
          ∙ ap (λ f. scan_stops T Q flagged round stamp xs (f flagged false round stamp x now ds s)) same_departures

  same_segments : ride_segments T (put_off Q) ≡ ride_segments T Q
  unfolding ride_segments permitted usable board_at scan_trip_forward alightings transferring take_transfers enqueue resolve line_trips_at resolve_in holds_target target_cells targets_from relax improve best_after
  same_segments = refl

  same_ride : (flagged : Bool) (r : ℕ) (s : State) → ride_phase T (put_off Q) flagged r s ≡ ride_phase T Q flagged r s
  unfolding ride_phase
  same_ride true r s =
      same-stops true r (suc (suc r)) s.arrivals.reached
      (ride_segments T (put_off Q) true r (suc (suc r)) s.arrivals.seg_queue (round_start T Q s))
      ∙ ap (λ f. scan_stops T Q true r (suc (suc r)) s.arrivals.reached
      (f true r (suc (suc r)) s.arrivals.seg_queue (round_start T Q s))) same_segments
  same_ride false r s = same-stops false r (suc (suc r)) s.arrivals.reached (round_start T Q s)

  same_walk : (flagged : Bool) (r : ℕ) (s : State) → walk_phase T (put_off Q) flagged r s ≡ walk_phase T Q flagged r s
  unfolding walk_phase stamped walk_all walk_from holds_target target_cells targets_from relax improve best_after
  same_walk flagged r s = refl

  same_rounds : (flagged : Bool) (n r : ℕ) (s : State) → rounds T (put_off Q) flagged n r s ≡ rounds T Q flagged n r s
  unfolding rounds idle
  same_rounds flagged zero r s = refl
  same_rounds flagged (suc n) r s =
      go (eqb (length s.arrivals.reached) 0 && (not flagged || eqb (length s.arrivals.seg_queue) 0))
      (same_rounds flagged n (suc r) (walk_phase T (put_off Q) flagged r (ride_phase T (put_off Q) flagged r s)) ∙ ap (rounds T Q flagged n (suc r))
      (same_walk flagged r (ride_phase T (put_off Q) flagged r s) ∙ ap (walk_phase T Q flagged r) (same_ride flagged r s)))
    where
      go : (b : Bool)
          → rounds T (put_off Q) flagged n (suc r) (walk_phase T (put_off Q) flagged r (ride_phase T (put_off Q) flagged r s)) ≡ rounds T Q flagged n (suc r) (walk_phase T Q flagged r (ride_phase T Q flagged r s))
          → ◌≡◌ {A = State} (elim b [ true ↦ s | false ↦ rounds T (put_off Q) flagged n (suc r) (walk_phase T (put_off Q) flagged r (ride_phase T (put_off Q) flagged r s)) ])
          (elim b [ true ↦ s | false ↦ rounds T Q flagged n (suc r) (walk_phase T Q flagged r (ride_phase T Q flagged r s)) ])
      go true e = refl
      go false e = e

  same_begin : begin T (put_off Q) ≡ begin T Q
  unfolding access set_out best_after
  same_begin = refl

  same_out : (s : State) → answer_of T (put_off Q) s ≡ answer_of T Q s
  unfolding best_target candidates_from row_target
  same_out s = refl

  -- THE SWITCH is read where the mode is chosen and nowhere else
  pub same_answer : (flagged : Bool) → search_answer T (put_off Q) flagged ≡ search_answer T Q flagged
  unfolding search_answer final
  same_answer flagged =
      same_out (rounds T (put_off Q) flagged (rounds_of Q) 0 (begin T (put_off Q)))
      ∙ ap (answer_of T Q) (same_rounds flagged (rounds_of Q) 0 (begin T (put_off Q)) ∙ ap (rounds T Q flagged (rounds_of Q) 0) same_begin)

  -- where the flags are not used, or skip something, the query is `run_tbr`
  pub query_is_rust : (use_arc_flags T Q ≡ false) ⊎ (flags_in_use T Q ≡ true) → query T Q ≡ run_tbr T Q
  unfolding query run_tbr flags_in_use
  query_is_rust h =
      ap (search_answer T Q)
      (⊎_elim (λ e. ap (λ (b : Bool). b && skips) e ∙ sym e) (λ e. e ∙ sym (and_left (use_arc_flags T Q) skips e)) h)
    where
      skips : Bool
      skips = skips_edge T Q || skips_transfer T Q

  -- `run_tbr` with the switch put off is the search without flags
  pub put-off : run_tbr T (put_off Q) ≡ search_answer T Q false
  unfolding run_tbr use_arc_flags
  put-off = ap (search_answer T (put_off Q)) (off (not (holds_none (target_cells T (put_off Q))) && not (eqb T.patterns 0))) ∙ same_answer false
    where
      off : (b : Bool) → b && false ≡ false
      off true = refl
      off false = refl

  -- where the flags are not in use, the query is `run_tbr` of the same query with the switch put off
  pub query_put_off : flags_in_use T Q ≡ false → query T Q ≡ run_tbr T (put_off Q)
  unfolding query
  query_put_off h = ap (search_answer T Q) h ∙ sym put-off
