-- The working numbers laid out: all that the rounds read is in memory. Assumes nothing.
use Prim.Native.Nat.{ℕ, ◌+◌, ◌*◌, ◌-◌, ◌≤◌, ◌<◌}
use mathlib.Core.Path.{◌≡◌, refl, sym, ap, ◌∙◌, subst}
use mathlib.Core.Bool.{Bool, ◌&&◌}
use mathlib.Core.List.{List, []}
use native.Mathlib.Omega.{arith}
use lib.ListN.{length, get_or}
use borrow.Author.Tests.{lt-ltb}
use Rattle.loops.specs.Count.{one}
use Rattle.tables.specs.Timetable.{timetable}
use Rattle.tables.specs.Tables.{count_of}
use Rattle.line_layout.specs.Layout.{position_in, line_trips_in, line_run_at, fifo_of, fifo_line}
use Rattle.event_transfers.specs.Transfers.{events_before, transfers_at}
use Rattle.model.specs.Tables.{fifo}
use Rattle.query_types.specs.declared.Lay.{Lay}
use Rattle.search_state.specs.Places.{Walks, Same, EgressTable, turned}
use Rattle.query_types.specs.Layout.{rest_at, work_size, positions_at, fifo_at, trip_stamps_at, events_at, lay_of}
use Rattle.search_begin.specs.Fill.{EgressRows, Egressed, egress_of}
use Rattle.search_state.proofs.Part.{drop_at}
use Rattle.query_types.specs.declared.Lined.{Lined}
use Rattle.trip_boarding.specs.Reads.{Ground}
use Rattle.target_resolving.specs.Resolving.{lined_of, LinesHeld, LinesOf, line_run_first, line_run_count}
use Rattle.query_types.specs.declared.QueryCounts.{QueryCounts}
use Rattle.query_types.specs.declared.Lengths.{Lengths}
use Rattle.query_input.specs.Lent.{egress_at, Lent, lent, tables_of, query_of, line_runs, line_entries, delay_rows, stop_rows, transfer_run_at, entries_at, event_count, transfer_rows}
use Rattle.query_input.specs.Sane.{Admitted}
use Rattle.query_input.proofs.Parts.{part_at, entries_size, marks_room, runs_room}
use Rattle.query_input.proofs.Laws.{events_below, door_of}
use Rattle.trip_scan.specs.Scan.{Nets, Netted, RunIn, event_at}
use Rattle.ride_step.specs.Laid.{Rides, Laid}
use Rattle.search_begin.specs.Begin.{net_of, LaidOut, context_of, slices_of}
use Rattle.search_begin.specs.Laying.{Put}
use Rattle.search_begin.proofs.Reading.{sane_of, egress-rows}

-- THE SECTIONS ONE AFTER THE OTHER: egress table, positions, FIFO flags, events
pub laid_out : (n : QueryCounts) (t built q : List ℕ) (lay : Lay) (w w1 w2 w3 w4 : List ℕ) → lay ≡ lay_of n
    → Egressed (egress_of q (egress_at n) n.egress) lay w w1
    → Put (positions_at lay) lay.trips (position_in (line_trips_in (line_runs built n) (line_entries built n)) n.lines) w1 w2
    → Put (fifo_at lay) lay.lines (fifo_of (timetable t n.timetable) (line_runs built n) (line_entries built n)) w2 w3
    → Put (events_at lay) lay.trips (events_before (timetable t n.timetable)) w3 w4
    → LaidOut (lent n t built [] [] [] q) lay w w4
laid_out n t built q lay w w1 w2 w3 w4 s e p f v =
    record {
      size = v.size ∙ f.size ∙ p.size ∙ e.size;
      egress = record { at = λ x u. egress-at x u ∙ rw (egress-rows q n) at (e.table.at x u) };
      walks = record { small = λ x u. rw (egress-at x u) (e.walks.small x u) };
      position = λ i u. v.below (positions_at lay + i) (omega (arith, u)) ∙ f.below (positions_at lay + i) (omega (arith, u)) ∙ p.inside i u;
      fifo = λ i u. v.below (fifo_at lay + i) (omega (arith, u)) ∙ f.inside i u;
      events = v.inside;
      below = λ i u. v.below i (omega (arith, u)) ∙ f.below i (omega (arith, u)) ∙ p.below i (omega (arith, u)) ∙ e.below i u;
      above = λ i u. v.above i (omega (arith, u)) ∙ f.above i (omega (arith, u)) ∙ p.above i (omega (arith, u)) ∙ e.above i (omega (arith, u));
    }
  where
    egress-at : (x : ℕ) → x < lay.stops → get_or w4 (rest_at lay + x) 0 ≡ get_or w1 (rest_at lay + x) 0
    egress-at x u = v.below (rest_at lay + x) (omega (arith, u)) ∙ f.below (rest_at lay + x) (omega (arith, u)) ∙ p.below (rest_at lay + x) (omega (arith, u))

pub egress_over : (n : QueryCounts) {lay : Lay} {q : List ℕ} {first m : ℕ} → lay ≡ lay_of n → EgressRows (lay_of n) q first m → EgressRows lay q first m
egress_over n {q = q} {first = first} {m = m} e p = subst (λ (k : Lay). EgressRows k q first m) (sym e) p

-- what is laid out does not depend on transfers, patterns and distances
pub laid_as : (x : Lent) (lay : Lay) (w w' : List ℕ) → LaidOut (lent x.n x.t x.built [] [] [] x.q) lay w w' → LaidOut x lay w w'
laid_as x lay w w' p =
    record { size = p.size; egress = p.egress; walks = p.walks; position = p.position; fifo = p.fifo; events = p.events; below = p.below; above = p.above }

-- WHAT IS READ of the working numbers
pub record Held (x : Lent) (w : List ℕ) : Type 0 where
  pub size : length w ≡ work_size (lay_of x.n)
  pub egress : EgressTable (query_of x).egress (lay_of x.n) w
  pub walks : Walks (lay_of x.n) w
  pub position : (i : ℕ) → i < x.n.timetable.trips → get_or w (positions_at (lay_of x.n) + i) 0 ≡ position_in (line_trips_in (line_runs x.built x.n) (line_entries x.built x.n)) x.n.lines i
  pub fifo : (l : ℕ) → l < x.n.lines → get_or w (fifo_at (lay_of x.n) + l) 0 ≡ fifo_of (timetable x.t x.n.timetable) (line_runs x.built x.n) (line_entries x.built x.n) l
  pub events : (i : ℕ) → i < x.n.timetable.trips → get_or w (events_at (lay_of x.n) + i) 0 ≡ events_before (timetable x.t x.n.timetable) i

-- from `rest_at` on a list's filling changes nothing, over either list
rest-at : (lay : Lay) (w w' : List ℕ) → Same (turned lay) w w' → (i : ℕ) → rest_at lay ≤ i → get_or w' i 0 ≡ get_or w i 0
rest-at lay w w' s i h = let e : rest_at lay + (i - rest_at lay) ≡ i = omega arith in rw e at (drop_at w w' (rest_at lay) (i - rest_at lay) s.rest)

pub held : (x : Lent) (w w' w'' : List ℕ) → length w ≡ work_size (lay_of x.n) → LaidOut x (lay_of x.n) w w' → Same (turned (lay_of x.n)) w' w'' → Held x w''
held x w w' w'' e p s =
    let at = rest-at (lay_of x.n) w' w'' s in
    record {
      size = s.size ∙ p.size ∙ e;
      egress = record { at = λ k u. at _ (omega arith) ∙ p.egress.at k u };
      walks = record { small = λ k u. rw (at (rest_at (lay_of x.n) + k) (omega arith)) (p.walks.small k u) };
      position = λ i u. at _ (omega arith) ∙ p.position i u;
      fifo = λ i u. at _ (omega arith) ∙ p.fifo i u;
      events = λ i u. at _ (omega arith) ∙ p.events i u;
    }

-- past what is laid out all is zero where it was
pub zeros : (x : Lent) (w w' w'' : List ℕ) → LaidOut x (lay_of x.n) w w' → Same (turned (lay_of x.n)) w' w'' → ((i : ℕ) → trip_stamps_at (lay_of x.n) ≤ i → get_or w i 0 ≡ 0)
    → (i : ℕ) → trip_stamps_at (lay_of x.n) ≤ i → get_or w'' i 0 ≡ 0
zeros x w w' w'' p s z i h = rest-at (lay_of x.n) w' w'' s i (omega (arith, h)) ∙ p.above i h ∙ z i h

module _ (x : Lent) (l : Lengths) (A : Admitted x l) (w : List ℕ) (H : Held x w) where
  abbrev lined : Lined
  lined = lined_of x.n.timetable x.n.lines

  ground : Ground x.t x.n.timetable (delay_rows x.q x.n) (stop_rows x.q x.n)
  ground = record { sane = sane_of x l A; delay_rows = A.delays.delay_rows; stop_rows = A.delays.stop_rows }

  -- LINES: line k's run, as the section has it
  first_is : (k : ℕ) → k < x.n.lines → (line_run_at (line_runs x.built x.n) k).first ≡ line_run_first lined x.built k
  first_is k u = part_at x.built x.n.timetable.trips (x.n.lines * 2) (k * 2) (omega arith)

  count_is : (k : ℕ) → k < x.n.lines → (line_run_at (line_runs x.built x.n) k).count ≡ line_run_count lined x.built k
  count_is k u =
      let e : x.n.timetable.trips + (k * 2 + 1) ≡ x.n.timetable.trips + k * 2 + 1 = omega arith in
      part_at x.built x.n.timetable.trips (x.n.lines * 2) (k * 2 + 1) (omega arith) ∙ ap (λ (i : ℕ). get_or x.built i 0) e

  run_in : (k : ℕ) → k < x.n.lines → line_run_first lined x.built k + line_run_count lined x.built k ≤ x.n.entries
  run_in k u = omega (arith, A.lines.run k u, first_is k u, count_is k u, entries_size x.built x.n (marks_room A.sized))

  lines_held : LinesHeld x.n.timetable lined x.built w
  lines_held =
      let few = A.limits in
      let m = marks_room A.sized in
      record {
        few = A.limits.lines;
        near = (omega (arith, few.counts.trips), omega (arith, few.counts.trips, few.lines), omega (arith, few.counts.trips, few.counts.stops), omega (arith, few.counts.trips, few.counts.stops));
        trips = omega (arith, m);
        runs = omega (arith, m);
        entries = λ k u. omega (arith, run_in k u, m);
        positions = omega (arith, H.size);
        fifo = omega (arith, H.size);
      }

  lines_of : LinesOf (tables_of x) x.n.timetable lined x.built w
  unfolding fifo
  lines_of =
      record {
        lines = refl;
        line_of = λ i u. refl;
        count = λ k u. count_is k u;
        entry = λ k p u v.
            let e : entries_at x.n + (line_run_first lined x.built k + p) ≡ lined.entries + line_run_first lined x.built k + p = omega arith in
            ap (λ (i : ℕ). get_or (line_entries x.built x.n) (i + p) 0) (first_is k u)
            ∙ part_at x.built (entries_at x.n) x.n.entries (line_run_first lined x.built k + p) (omega (arith, v, run_in k u))
            ∙ ap (λ (i : ℕ). get_or x.built i 0) e;
        position = λ i u. sym (H.position i u);
        fifo = λ k u.
            ap (λ (b : Bool). one (b && fifo_line (timetable x.t x.n.timetable) (line_trips_in (line_runs x.built x.n) (line_entries x.built x.n) k))) (lt-ltb k x.n.lines u)
            ∙ sym (H.fifo k u);
      }

  -- TRANSFERS: the event's number, and its run
  event_is : (i o : ℕ) → i < x.n.timetable.trips → event_at (net_of x) w i o ≡ events_before (timetable x.t x.n.timetable) i + o
  event_is i o u = ap (λ (e : ℕ). e + o) (H.events i u)

  event_in : (i o : ℕ) → i < x.n.timetable.trips → o < count_of x.t x.n.timetable i → event_at (net_of x) w i o < event_count x.t x.n
  event_in i o u v = omega (arith, event_is i o u, events_below (timetable x.t x.n.timetable) x.n.timetable.trips i o u v)

  run_of : (e : ℕ) → e < event_count x.t x.n → RunIn x.transfers (transfer_run_at x.built x.n e).first (transfer_run_at x.built x.n e).length
  run_of e u =
      let p = A.placed.transfers e u in
      let r : transfer_rows x.n (length x.transfers) * 4 ≤ length x.transfers = omega arith in
      let s : transfer_rows x.n (length x.transfers) ≤ 65536 = omega (arith, A.limits.transfers) in
      record {
        near = omega (arith, p, s);
        inside = omega (arith, p, r);
        small = λ k h. A.ranged.transfer ((transfer_run_at x.built x.n e).first + k) (omega (arith, p, h));
      }

  nets : (flagged : Bool) → Nets (context_of x (net_of x) (lay_of x.n) flagged) (slices_of x) w (tables_of x) (query_of x)
  nets flagged =
      record {
        agree = record { timetable = refl; delays = refl };
        egress = H.egress;
        asks = record { modes = refl; wheelchair = refl; margin = refl; line_scan = refl };
        lines = lines_of;
        patterned = record { size = refl; pattern = λ p u. refl };
        target = refl;
        transfers = λ i o u v. ap (λ (e : ℕ). transfers_at x.transfers (transfer_run_at x.built x.n e)) (sym (event_is i o u));
      }

  netted : (flagged : Bool) → Netted (context_of x (net_of x) (lay_of x.n) flagged) (slices_of x) w
  netted flagged =
      record {
        ground = ground;
        stops = refl;
        trips = refl;
        held = lines_held;
        patterns = record { few = A.limits.patterns; long = A.lengthy.patterns_is };
        events = omega (arith, H.size);
        words = λ i o u v. omega (arith, event_in i o u v, A.sized.built_is);
        run = λ i o u v. run_of (event_at (net_of x) w i o) (event_in i o u v);
        past = record { positions = omega arith; fifo = omega arith; events = omega arith };
        T = tables_of x;
        Q = query_of x;
        door = door_of x l A;
        nets = nets flagged;
      }

  pub rides : (flagged : Bool) → Rides (context_of x (net_of x) (lay_of x.n) flagged) (slices_of x) w (tables_of x) (query_of x)
  rides flagged = record { nets = nets flagged; departures = λ s u. refl; mark = λ s u. refl }

  pub laid : (flagged : Bool) → Laid (context_of x (net_of x) (lay_of x.n) flagged) (slices_of x) w
  unfolding netted
  laid flagged =
      record {
        netted = netted flagged;
        rides = rides flagged;
        limits = A.limits;
        long = let m = runs_room A.sized in omega (arith, m);
        listed = A.numbered.listed;
        lined = refl;
        events = refl;
      }
