-- In unflagged mode, without frequency trips and where arrivals do not depend on the boarding, the full search goes step by step with the
-- small one.
use Prim.Native.Nat.{ℕ, zero, suc, ◌+◌, ◌*◌, ◌-◌, ◌≤◌, ◌<◌}
use mathlib.Core.Path.{◌≡◌, refl, sym, ap, subst, ◌∙◌}
use mathlib.Core.Bool.{Bool, true, false, cond, ◌&&◌, ◌||◌, not}
use mathlib.Core.List.Memᴰ
use mathlib.Core.List.{List, [], ◌∷◌, ◌++◌, map, Memᴰ}
use native.Mathlib.Omega.{arith}
use lib.ListN.{length, get_or, set, replicate, length-set, length-replicate, get_or-map}
use lib.Dec.{ltb, leb, eqb}
use borrow.Author.Tests.{ltb-true, leb-false, lt-ltb, eqb-true, eq-eqb, ne_eqb}
use Rattle.frequency.specs.declared.BoardedRun.{BoardedRun}
use Rattle.std.specs.Prelude.{Option, None, Some}
use Rattle.label.specs.declared.Label.{Label}
use Rattle.label.specs.declared.Label.TheVariants.{Empty, Access, Transit, Walk}
use Rattle.label.specs.Table.{record_of}
use Rattle.departures.specs.declared.DepartureRow.{DepartureRow}
use Rattle.frequency.specs.Gtfs.{board_ordinary, earliest_freq_board}
use Rattle.model.specs.Tables.{never, Tables, Origin, Query, rounds_of, change_before, is_egress, egress_walk, stops, trips, stop_count, stop_at, departure, no_pickup, no_drop_off, no_windows, edges_from, edge_to, walk_time, position, permitted}
use Rattle.model.specs.Search.{reached_by, Arrivals, Boardings, State, trip_window, delay_of, skipped, arrival_now, margin_of, prunable, board_at, not_before, departures_at, mark_at, line_at, best_after, improve, relax, alightings, scan_trip_forward, dominated, pruned, passed_over, boarding, board, scan_departures, scan_stops, walk_from, walk_all, stamped, emptied, round_start, ride_phase, walk_phase, idle, rounds, set_out, access, new_arrivals, begin, best_target, row_target, candidates_from, final, search_answer}
use Rattle.model.specs.Promise.{effective}
use Rattle.model.proofs.Base.{no_both}
use Rattle.model.proofs.Net.{Net, Plain}
use Rattle.model.proofs.PlainSearch
use Rattle.model.proofs.Early.{trip-skips, pick_skips, early_skips, early}
use Rattle.model.proofs.Departures.{takes_by, deps_le, deps_graph}
use Rattle.model.proofs.Rounds.{Inv, round_inv}
use Rattle.model.proofs.Access.{begin_inv}
use Rattle.model.proofs.Stamps.{transit_stamped, round_long, idle_rounds}
use Rattle.model.proofs.NetOf.{net, shift_at, core_of, book_of, state_of, pair_of, walk_of, origin_of, count_at}

map_set : {A : Type 0} (f : A → ℕ) (l : List A) (i : ℕ) (x : A) → map f (set l i x) ≡ set (map f l) i (f x)
map_set f [] i x = refl
map_set f (y ∷ l) zero x = refl
map_set f (y ∷ l) (suc i) x = ap (λ (z : List ℕ). f y ∷ z) (map_set f l i x)

map_replicate : {A : Type 0} (f : A → ℕ) (n : ℕ) (x : A) → map f (replicate n x) ≡ replicate n (f x)
map_replicate f zero x = refl
map_replicate f (suc n) x = ap (λ (z : List ℕ). f x ∷ z) (map_replicate f n x)

module _ (T : Tables) (Q : Query) where
  abbrev N : Net
  N = net T Q

  sim_improve : (stamp s v : ℕ) (l : Label) (c : Arrivals) → reached_by l ≡ suc v → core_of (improve T Q stamp s v l c) ≡ PlainSearch.imp N stamp s v (core_of c)
  unfolding improve PlainSearch.imp best_after PlainSearch.best
  sim_improve stamp s v l c e =
      ap (λ (z : List ℕ). record { lab = z; E = set c.earliest s v; B = best_after T Q s v c.best; SS = cond (not (eqb (get_or c.stop_stamp s 0) stamp)) (set c.stop_stamp s stamp) c.stop_stamp; Q = cond (not (eqb (get_or c.stop_stamp s 0) stamp)) (c.reached ++ (s ∷ [])) c.reached })
      (map_set reached_by c.labels (record_of s (stamp - 1)) l ∙ ap (λ (z : ℕ). set (map reached_by c.labels) (record_of s (stamp - 1)) z) e)

  sim_relax : (stamp s v : ℕ) (l : Label) (c : Arrivals) → reached_by l ≡ suc v → core_of (relax T Q stamp s v l c) ≡ PlainSearch.relax N stamp s v (core_of c)
  unfolding relax PlainSearch.relax
  sim_relax stamp s v l c e = go (ltb v (get_or c.earliest s 0))
    where
      go : (b : Bool) → core_of (cond b (improve T Q stamp s v l c) c) ≡ cond b (PlainSearch.imp N stamp s v (core_of c)) (core_of c)
      go true = sim_improve stamp s v l c e
      go false = refl

  -- of a trip whose arrivals from here on, moved by this shift, are the net's wherever it may be left
  sim_alightings : (stamp t x o z k off : ℕ) → ((p : ℕ) → off ≤ p → p < off + k → N.alight t p ≡ true → arrival_now T Q (delay_of Q t) z t p ≡ N.arr t p) → (c : Arrivals)
      → core_of (alightings T Q stamp (delay_of Q t) z t x o k off c) ≡ PlainSearch.scan N stamp t k off (core_of c)
  unfolding alightings PlainSearch.scan
  sim_alightings stamp t x o z zero off A c = refl
  sim_alightings stamp t x o z (suc k) off A c =
      go (no_drop_off T t off || skipped T Q (delay_of Q t) t off) refl (sim_alightings stamp t x o z k (suc off) A' c)
      (sim_alightings stamp t x o z k (suc off) A' (n v) ∙ ap (PlainSearch.scan N stamp t k (suc off)) (sim_relax stamp (stop_at T t off) v _ c refl))
    where
      A' : (p : ℕ) → suc off ≤ p → p < suc off + k → N.alight t p ≡ true → arrival_now T Q (delay_of Q t) z t p ≡ N.arr t p
      A' p l u = A p (omega arith) (omega arith)

      v : ℕ
      v = (effective T Q).arrives t off

      n : ℕ → Arrivals
      n a = relax T Q stamp (stop_at T t off) a (Transit a t x o off (stamp - 2) z) c

      n' : PlainSearch.Core
      n' = PlainSearch.relax N stamp (stop_at T t off) v (core_of c)

      -- what is done at an arrival a, where the net's is v
      left : (d : Bool) → core_of (alightings T Q stamp (delay_of Q t) z t x o k (suc off) (n v)) ≡ PlainSearch.scan N stamp t k (suc off) n'
          → core_of (elim d [ false ↦ c | true ↦ alightings T Q stamp (delay_of Q t) z t x o k (suc off) (n v) ]) ≡ elim d [ false ↦ core_of c | true ↦ PlainSearch.scan N stamp t k (suc off) n' ]
      left false q = refl
      left true q = q

      go : (b : Bool) → (no_drop_off T t off || skipped T Q (delay_of Q t) t off) ≡ b → core_of (alightings T Q stamp (delay_of Q t) z t x o k (suc off) c) ≡ PlainSearch.scan N stamp t k (suc off) (core_of c)
          → core_of (alightings T Q stamp (delay_of Q t) z t x o k (suc off) (n v)) ≡ PlainSearch.scan N stamp t k (suc off) n'
          → let a = arrival_now T Q (delay_of Q t) z t off in
          core_of (elim b [ true ↦ alightings T Q stamp (delay_of Q t) z t x o k (suc off) c | false ↦ elim (ltb a c.best) [ false ↦ c | true ↦ alightings T Q stamp (delay_of Q t) z t x o k (suc off) (n a) ] ])
          ≡ elim (not b) [ false ↦ PlainSearch.scan N stamp t k (suc off) (core_of c) | true ↦ elim (ltb v c.best) [ false ↦ core_of c | true ↦ PlainSearch.scan N stamp t k (suc off) n' ] ]
      go true e p q = p
      go false e p q =
          subst (λ (a : ℕ). core_of (elim (ltb a c.best) [ false ↦ c | true ↦ alightings T Q stamp (delay_of Q t) z t x o k (suc off) (n a) ]) ≡ elim (ltb v c.best) [ false ↦ core_of c | true ↦ PlainSearch.scan N stamp t k (suc off) n' ])
          (sym (A off (omega arith) (omega arith) (ap not e))) (left (ltb v c.best) q)

  sim_scan : (stamp t x o z : ℕ) (c : Arrivals) → t < trips T → ((p : ℕ) → o < p → p < stop_count T t → N.alight t p ≡ true → arrival_now T Q (delay_of Q t) z t p ≡ N.arr t p) → core_of (scan_trip_forward T Q false stamp (delay_of Q t) z t x o c) ≡ PlainSearch.ride N stamp t o (core_of c)
  unfolding scan_trip_forward PlainSearch.ride count_at
  sim_scan stamp t x o z c h A =
      sim_alightings stamp t x o z (stop_count T t - suc o) (suc o) (λ p l u. A p (omega arith) (omega arith)) c
      ∙ ap (λ (b : Bool). PlainSearch.scan N stamp t (elim b as (λ z. ℕ) [ true ↦ stop_count T t | false ↦ 0 ] - suc o) (suc o) (core_of c)) (sym (lt-ltb t (trips T) h))

  sim_blocked : (t o : ℕ) (bs : List (ℕ × ℕ)) → dominated T Q t o bs ≡ PlainSearch.blocked N t o bs
  unfolding dominated PlainSearch.blocked
  sim_blocked t o [] = refl
  sim_blocked t o (b ∷ bs) = ap (λ (z : Bool). ((eqb (line_at T b.0) (line_at T t) && ltb (position T b.0) (position T t)) && leb b.1 o) || z) (sim_blocked t o bs)

  -- a boarding
  abbrev boarded_at : ℕ → ℕ → ℕ → BoardedRun
  boarded_at t o after = board_ordinary (departure T t o) ((effective T Q).departs t o) after

  calm_board : (t o after : ℕ) → no_windows T t ≡ true → board_at T Q (delay_of Q t) t o after ≡ elim (ltb ((effective T Q).departs t o) after) [ true ↦ None | false ↦ Some (boarded_at t o after) ]
  unfolding board_at
  calm_board t o after w =
      ap (λ (b : Bool). elim b as (λ z. Option BoardedRun) [ true ↦ elim (ltb ((effective T Q).departs t o) after) [ true ↦ None | false ↦ Some (boarded_at t o after) ] | false ↦ earliest_freq_board (T.timetable.trip t).windows (trip_window T t) (departure T t 0) ((effective T Q).departs t o) after ]) w

  -- one listed departure
  sim_boarding : (stamp after t o : ℕ) (s : State) → no_windows T t ≡ true
      → boarding T Q stamp after (delay_of Q t) t o s ≡ elim (PlainSearch.skips N stamp after t o (state_of s)) [ true ↦ None | false ↦ Some (boarded_at t o after) ]
  unfolding boarding pruned passed_over PlainSearch.skips PlainSearch.passed
  sim_boarding stamp after t o s w =
      go (permitted T Q t) (prunable T Q (delay_of Q t) t && dominated T Q t o s.boardings.line_boards) (prunable T Q (delay_of Q t) t && PlainSearch.blocked N t o s.boardings.line_boards) (ap (λ (z : Bool). prunable T Q (delay_of Q t) t && z) (sim_blocked t o s.boardings.line_boards))
      (no_pickup T t o) (skipped T Q (delay_of Q t) t o) (ltb ((effective T Q).departs t o) after) (λ x. leb s.arrivals.best x || passed_over T Q stamp t o x s.boardings) (board_at T Q (delay_of Q t) t o after) (calm_board t o after w)
    where
      go : (A B B' : Bool) → B ≡ B' → (C S D : Bool) (F : ℕ → Bool) (z : Option BoardedRun) → z ≡ elim D as (λ y. Option BoardedRun) [ true ↦ None | false ↦ Some (boarded_at t o after) ]
          → ◌≡◌ {A = Option BoardedRun} (elim (((not A || B) || C) || S) [ true ↦ None | false ↦ elim z [ None ↦ None | Some b ↦ elim (F b.departure) [ true ↦ None | false ↦ Some b ] ] ])
          (elim ((((not A || B') || not (not (C || S))) || D) || F ((effective T Q).departs t o)) [ true ↦ None | false ↦ Some (boarded_at t o after) ])
      go false B B' b C S D F z e = refl
      go true true true b C S D F z e = refl
      go true true false b C S D F z e = absurd (no_both refl b)
      go true false true b C S D F z e = absurd (no_both b refl)
      go true false false b true S D F z e = refl
      go true false false b false true D F z e = refl
      go true false false b false false true F z e = ap (λ (z : Option BoardedRun). elim z as (λ y. Option BoardedRun) [ None ↦ None | Some b ↦ elim (F b.departure) [ true ↦ None | false ↦ Some b ] ]) e
      go true false false b false false false F z e = ap (λ (z : Option BoardedRun). elim z as (λ y. Option BoardedRun) [ None ↦ None | Some b ↦ elim (F b.departure) [ true ↦ None | false ↦ Some b ] ]) e

  sim_board : (round stamp t o : ℕ) (k : Boardings) → book_of (board T Q round stamp (delay_of Q t) t o ((effective T Q).departs t o) k) ≡ PlainSearch.board N round stamp t o (book_of k)
  unfolding board PlainSearch.board
  sim_board round stamp t o k = refl

  -- what a listed departure must have: its trip in the table and without windows; and, if it may be boarded, the net's arrivals
  pub record Ridable (d : DepartureRow) : Type 0 where
    pub known : d.trip < trips T
    pub unwindowed : no_windows T d.trip ≡ true
    pub arrives : N.ok_trip d.trip ≡ true → N.pick d.trip d.offset ≡ true → (p : ℕ) → d.offset < p → p < stop_count T d.trip → N.alight d.trip p ≡ true
        → arrival_now T Q (delay_of Q d.trip) (shift_at T Q d.trip d.offset) d.trip p ≡ (effective T Q).arrives d.trip p

  sim_departing : (round stamp x after : ℕ) (ds : List DepartureRow) (s : State) → ((d : DepartureRow) → Memᴰ d ds → Ridable d)
      → state_of (scan_departures T Q false false round stamp x after ds s) ≡ PlainSearch.departures N round stamp after (map pair_of ds) (state_of s)
  unfolding scan_departures PlainSearch.departures
  sim_departing round stamp x after [] s I = refl
  sim_departing round stamp x after (d ∷ ds) s I =
      go (leb (s.arrivals.best + margin_of T Q) (departure T d.trip d.offset)) (sim_departing round stamp x after ds s (λ e m. I e (Memᴰ.tail m)))
      (λ z. sim_departing round stamp x after ds n (λ e m. I e (Memᴰ.tail m))
      ∙ ap (λ (z : PlainSearch.St). PlainSearch.departures N round stamp after (map pair_of ds) z)
      (ap (λ (c : PlainSearch.Core). record { c = c; k = book_of n.boardings })
      (sim_scan stamp d.trip x d.offset (shift_at T Q d.trip d.offset) s.arrivals (I d (Memᴰ.head refl)).known
      (let w = takes_by N round stamp after d.trip d.offset (state_of s) z in (I d (Memᴰ.head refl)).arrives w.ok w.pick))
      ∙ ap (λ (k : PlainSearch.Book). record { c = PlainSearch.ride N stamp d.trip d.offset (core_of s.arrivals); k = k }) (sim_board round stamp d.trip d.offset s.boardings)))
    where
      n : State
      n = record { arrivals = scan_trip_forward T Q false stamp (delay_of Q d.trip) (shift_at T Q d.trip d.offset) d.trip x d.offset s.arrivals; boardings = board T Q round stamp (delay_of Q d.trip) d.trip d.offset ((effective T Q).departs d.trip d.offset) s.boardings }

      n' : PlainSearch.St
      n' = record { c = PlainSearch.ride N stamp d.trip d.offset (core_of s.arrivals); k = PlainSearch.board N round stamp d.trip d.offset (book_of s.boardings) }

      F : Option BoardedRun → State
      F z =
          elim z [
            | None ↦ scan_departures T Q false false round stamp x after ds s
            | Some b ↦ scan_departures T Q false false round stamp x after ds (record {
              arrivals = scan_trip_forward T Q false stamp (delay_of Q d.trip) b.time_shift_s d.trip x d.offset s.arrivals;
              boardings = board T Q round stamp (delay_of Q d.trip) d.trip d.offset b.departure s.boardings;
            })
          ]

      R : Bool → Bool → PlainSearch.St
      R a b = elim a [ true ↦ state_of s | false ↦ elim b [ true ↦ PlainSearch.departures N round stamp after (map pair_of ds) (state_of s) | false ↦ PlainSearch.departures N round stamp after (map pair_of ds) n' ] ]

      pick : (b : Bool) → PlainSearch.skips N stamp after d.trip d.offset (state_of s) ≡ b → state_of (scan_departures T Q false false round stamp x after ds s) ≡ PlainSearch.departures N round stamp after (map pair_of ds) (state_of s)
          → (PlainSearch.skips N stamp after d.trip d.offset (state_of s) ≡ false → state_of (scan_departures T Q false false round stamp x after ds n) ≡ PlainSearch.departures N round stamp after (map pair_of ds) n')
          → state_of (F (elim b [ true ↦ None | false ↦ Some (boarded_at d.trip d.offset after) ])) ≡ elim b [ true ↦ PlainSearch.departures N round stamp after (map pair_of ds) (state_of s) | false ↦ PlainSearch.departures N round stamp after (map pair_of ds) n' ]
      pick true e p q = p
      pick false e p q = q e

      go : (a : Bool) → state_of (scan_departures T Q false false round stamp x after ds s) ≡ PlainSearch.departures N round stamp after (map pair_of ds) (state_of s)
          → (PlainSearch.skips N stamp after d.trip d.offset (state_of s) ≡ false → state_of (scan_departures T Q false false round stamp x after ds n) ≡ PlainSearch.departures N round stamp after (map pair_of ds) n')
          → state_of (elim a [ true ↦ s | false ↦ F (boarding T Q stamp after (delay_of Q d.trip) d.trip d.offset s) ]) ≡ R a (PlainSearch.skips N stamp after d.trip d.offset (state_of s))
      go true p q = refl
      go false p q = ap (λ z. state_of (F z)) (sim_boarding stamp after d.trip d.offset s (I d (Memᴰ.head refl)).unwindowed) ∙ pick (PlainSearch.skips N stamp after d.trip d.offset (state_of s)) refl p q

  -- the scan may begin at the first departure that is not too early
  late_enough : (round stamp after : ℕ) (ds : List DepartureRow) (s : PlainSearch.St) → after ≤ s.c.B
      → ((d : DepartureRow) → Memᴰ d ds → N.ok_trip d.trip ≡ true → N.pick d.trip d.offset ≡ true → (effective T Q).departs d.trip d.offset ≤ departure T d.trip d.offset + margin_of T Q)
      → PlainSearch.departures N round stamp after (map pair_of (not_before T (after - margin_of T Q) ds)) s ≡ PlainSearch.departures N round stamp after (map pair_of ds) s
  unfolding not_before
  late_enough round stamp after [] s h I = refl
  late_enough round stamp after (d ∷ ds) s h I = go (ltb (departure T d.trip d.offset) (after - margin_of T Q)) refl (late_enough round stamp after ds s h (λ e m. I e (Memᴰ.tail m)))
    where
      go : (b : Bool) → ltb (departure T d.trip d.offset) (after - margin_of T Q) ≡ b → PlainSearch.departures N round stamp after (map pair_of (not_before T (after - margin_of T Q) ds)) s ≡ PlainSearch.departures N round stamp after (map pair_of ds) s
          → PlainSearch.departures N round stamp after (map pair_of (elim b as (λ z. List DepartureRow) [ true ↦ not_before T (after - margin_of T Q) ds | false ↦ d ∷ ds ])) s ≡ PlainSearch.departures N round stamp after (map pair_of (d ∷ ds)) s
      go true e p =
          let l : departure T d.trip d.offset < after - margin_of T Q = ltb-true _ _ e in
          p ∙ sym (early N round stamp after (pair_of d ∷ []) (map pair_of ds) s h
          (λ z m. subst (λ (y : ℕ × ℕ). (departure T y.0 y.1 < after) × ((s : PlainSearch.St) → PlainSearch.skips N stamp after y.0 y.1 s ≡ true))
          (sym (Memᴰ.eq_of_singleton m)) (omega arith, passed_over l (N.ok_trip d.trip) refl (N.pick d.trip d.offset) refl)))
        where
          before : (a m s d : ℕ) → s < a - m → d ≤ s + m → d < a
          before a m s d u v = omega arith

          passed_over : departure T d.trip d.offset < after - margin_of T Q → (b : Bool) → N.ok_trip d.trip ≡ b → (c : Bool) → N.pick d.trip d.offset ≡ c
              → (s : PlainSearch.St) → PlainSearch.skips N stamp after d.trip d.offset s ≡ true
          passed_over l false i c k s = trip-skips N round stamp after d.trip d.offset s i
          passed_over l true i false k s = pick_skips N round stamp after d.trip d.offset s k
          passed_over l true i true k s = early_skips N round stamp after d.trip d.offset s (before _ _ _ _ l (I d (Memᴰ.head refl) i k))
      go false e p = refl

  kept_members : (P : DepartureRow → Type 0) (after : ℕ) (ds : List DepartureRow) → ((d : DepartureRow) → Memᴰ d ds → P d) → (d : DepartureRow) → Memᴰ d (not_before T after ds) → P d
  unfolding not_before
  kept_members P after [] I d m = I d m
  kept_members P after (e ∷ ds) I d m = go (ltb (departure T e.trip e.offset) after) (kept_members P after ds (λ d m. I d (Memᴰ.tail m)) d) m
    where
      go : (b : Bool) → (Memᴰ d (not_before T after ds) → P d) → Memᴰ {A = DepartureRow} d (elim b [ true ↦ not_before T after ds | false ↦ e ∷ ds ]) → P d
      go true p m = p m
      go false p m = I d m

  sim_change : (r : ℕ) → change_before Q r ≡ PlainSearch.change N r
  unfolding change_before PlainSearch.change
  sim_change zero = refl
  sim_change (suc r) = refl

  -- what the tables must give: no mark, and listed departures as above
  pub record Calm : Type 0 where
    pub marks : (x : ℕ) → mark_at T x ≡ false
    pub listed : (x : ℕ) (d : DepartureRow) → Memᴰ d (departures_at T x) → Ridable d

  sim_stops : Plain N → Calm → (round stamp : ℕ) (xs : List ℕ) (s : State) → s.arrivals.best ≤ never → state_of (scan_stops T Q false round stamp xs s) ≡ PlainSearch.stops N round stamp xs (state_of s)
  unfolding scan_stops PlainSearch.stops
  sim_stops P C round stamp [] s top = refl
  sim_stops P C round stamp (x ∷ xs) s top =
      go (eqb v never) refl (leb s.arrivals.best a) refl (mark_at T x) (C.marks x) (sim_stops P C round stamp xs s top)
      (sim_stops P C round stamp xs n (omega (arith, top, ap (λ (z : PlainSearch.St). z.c.B) departed, (deps_le N round stamp a (deps_graph N round stamp a (map pair_of (not_before T (a - margin_of T Q) (departures_at T x))) (state_of s))).b)) ∙ ap (PlainSearch.stops N round stamp xs) departed)
      ∙ ap R (ap (λ (z : ℕ). v + z) (sim_change round))
    where
      v : ℕ
      v = get_or s.arrivals.earliest x 0

      a : ℕ
      a = get_or s.arrivals.earliest x 0 + change_before Q round

      n : State
      n = scan_departures T Q false false round stamp x a (not_before T (a - margin_of T Q) (departures_at T x)) s

      departed : state_of (scan_departures T Q false false round stamp x a (not_before T (a - margin_of T Q) (departures_at T x)) s) ≡ PlainSearch.departures N round stamp a (map pair_of (not_before T (a - margin_of T Q) (departures_at T x))) (state_of s)
      departed = sim_departing round stamp x a (not_before T (a - margin_of T Q) (departures_at T x)) s (kept_members Ridable (a - margin_of T Q) (departures_at T x) (C.listed x))

      R : ℕ → PlainSearch.St
      R z = elim (leb s.arrivals.best z) [ true ↦ PlainSearch.stops N round stamp xs (state_of s) | false ↦ PlainSearch.stops N round stamp xs (PlainSearch.departures N round stamp z (map pair_of (departures_at T x)) (state_of s)) ]

      -- an unreached stop is passed over: from it nothing leaves before the best total
      go : (u : Bool) → eqb v never ≡ u → (b : Bool) → leb s.arrivals.best a ≡ b → (m : Bool) → m ≡ false → state_of (scan_stops T Q false round stamp xs s) ≡ PlainSearch.stops N round stamp xs (state_of s) → state_of (scan_stops T Q false round stamp xs n) ≡ PlainSearch.stops N round stamp xs (PlainSearch.departures N round stamp a (map pair_of (not_before T (a - margin_of T Q) (departures_at T x))) (state_of s))
          → state_of (elim (u || b) [ true ↦ scan_stops T Q false round stamp xs s | false ↦ elim m [ true ↦ scan_stops T Q false round stamp xs (scan_departures T Q false true round stamp x a (departures_at T x) s) | false ↦ scan_stops T Q false round stamp xs n ] ])
          ≡ elim b [ true ↦ PlainSearch.stops N round stamp xs (state_of s) | false ↦ PlainSearch.stops N round stamp xs (PlainSearch.departures N round stamp a (map pair_of (departures_at T x)) (state_of s)) ]
      go true f true e m g p q = p
      go false f true e m g p q = p
      go true f false e m g p q = absurd (omega (arith, top, eqb-true (get_or s.arrivals.earliest x 0) never f, leb-false s.arrivals.best (get_or s.arrivals.earliest x 0 + change_before Q round) e))
      go false f false e true g p q = absurd (no_both refl g)
      go false f false e false g p q = q ∙ ap (PlainSearch.stops N round stamp xs) (late_enough round stamp a (departures_at T x) (state_of s) (let l : a < s.arrivals.best = leb-false _ _ e in omega arith) (λ d m i k. P.late d.trip d.offset (record { at = x; listed = Memᴰ.map pair_of m; ok = i; pick = k })))

  sim_walk_from : (stamp x v : ℕ) (es : List ℕ) (c : Arrivals) → core_of (walk_from T Q false stamp x v es c) ≡ PlainSearch.walk N stamp v (map (walk_of T Q) es) (core_of c)
  unfolding walk_from PlainSearch.walk
  sim_walk_from stamp x v [] c = refl
  sim_walk_from stamp x v (e ∷ es) c =
      go (ltb (v + d) c.best) (sim_walk_from stamp x v es c) (sim_walk_from stamp x v es n ∙ ap (PlainSearch.walk N stamp v (map (walk_of T Q) es)) (sim_relax stamp (edge_to T e) (v + d) _ c refl))
    where
      d : ℕ
      d = walk_time T Q e

      n : Arrivals
      n = relax T Q stamp (edge_to T e) (v + d) (Walk (v + d) x (edge_to T e) d (T.distance e) (stamp - 1)) c

      n' : PlainSearch.Core
      n' = PlainSearch.relax N stamp (edge_to T e) (v + d) (core_of c)

      go : (b : Bool) → core_of (walk_from T Q false stamp x v es c) ≡ PlainSearch.walk N stamp v (map (walk_of T Q) es) (core_of c) → core_of (walk_from T Q false stamp x v es n) ≡ PlainSearch.walk N stamp v (map (walk_of T Q) es) n'
          → core_of (elim b [ false ↦ walk_from T Q false stamp x v es c | true ↦ walk_from T Q false stamp x v es n ]) ≡ elim b [ false ↦ PlainSearch.walk N stamp v (map (walk_of T Q) es) (core_of c) | true ↦ PlainSearch.walk N stamp v (map (walk_of T Q) es) n' ]
      go false p q = p
      go true p q = q

  sim_walking : (stamp : ℕ) (xs : List ℕ) (c : Arrivals) → core_of (walk_all T Q false stamp xs c) ≡ PlainSearch.walks N stamp xs (core_of c)
  unfolding walk_all PlainSearch.walks
  sim_walking stamp [] c = refl
  sim_walking stamp (x ∷ xs) c = sim_walking stamp xs (walk_from T Q false stamp x (get_or c.earliest x 0) (edges_from T x) c) ∙ ap (PlainSearch.walks N stamp xs) (sim_walk_from stamp x (get_or c.earliest x 0) (edges_from T x) c)

  sim_riding : Plain N → Calm → (r : ℕ) (s : State) → s.arrivals.best ≤ never → state_of (ride_phase T Q false r s) ≡ PlainSearch.ride_st N r (state_of s)
  unfolding ride_phase
  sim_riding P C r s top = sim_stops P C r (suc (suc r)) s.arrivals.reached (round_start T Q s) top

  all_stamped : (stamp : ℕ) (ss xs : List ℕ) → ((x : ℕ) → Memᴰ x xs → get_or ss x 0 ≡ stamp) → stamped T Q stamp ss xs ≡ xs
  unfolding stamped
  all_stamped stamp ss [] h = refl
  all_stamped stamp ss (x ∷ xs) h =
      ap (λ (b : Bool). elim b as (λ z. List ℕ) [ true ↦ x ∷ stamped T Q stamp ss xs | false ↦ stamped T Q stamp ss xs ]) (eq-eqb (get_or ss x 0) stamp (h x (Memᴰ.head refl)))
      ∙ ap (λ (z : List ℕ). x ∷ z) (all_stamped stamp ss xs (λ y m. h y (Memᴰ.tail m)))

  sim_footing : (r : ℕ) (s : State) → ((x : ℕ) → Memᴰ x s.arrivals.reached → get_or (PlainSearch.walk_st N r (state_of s)).c.SS x 0 ≡ suc (suc r)) → state_of (walk_phase T Q false r s) ≡ PlainSearch.walk_st N r (state_of s)
  unfolding walk_phase
  sim_footing r s h =
      ap (λ (z : List ℕ). record { c = record { lab = map reached_by w.labels; E = w.earliest; B = w.best; SS = w.stop_stamp; Q = w.reached ++ z }; k = book_of s.boardings })
      (all_stamped (suc (suc r)) w.stop_stamp s.arrivals.reached (λ x m. ap (λ (c : PlainSearch.Core). get_or c.SS x 0) walked ∙ h x m))
      ∙ ap (λ (w : PlainSearch.Core). record { c = record { lab = w.lab; E = w.E; B = w.B; SS = w.SS; Q = w.Q ++ s.arrivals.reached }; k = book_of s.boardings }) walked
    where
      w : Arrivals
      w = walk_all T Q false (suc (suc r)) s.arrivals.reached (emptied T Q s.arrivals.seg_queue s.arrivals)

      walked : core_of (walk_all T Q false (suc (suc r)) s.arrivals.reached (emptied T Q s.arrivals.seg_queue s.arrivals)) ≡ PlainSearch.walks N (suc (suc r)) s.arrivals.reached (core_of (emptied T Q s.arrivals.seg_queue s.arrivals))
      walked = sim_walking (suc (suc r)) s.arrivals.reached (emptied T Q s.arrivals.seg_queue s.arrivals)

  -- a round
  sim_round : Plain N → Calm → (r : ℕ) (s : State) → Inv N r (state_of s) → length s.arrivals.stop_stamp ≡ stops T → state_of (walk_phase T Q false r (ride_phase T Q false r s)) ≡ PlainSearch.walk_st N r (PlainSearch.ride_st N r (state_of s))
  sim_round P C r s I long =
      sim_footing r (ride_phase T Q false r s)
      (λ x m. ap (λ (t : PlainSearch.St). get_or (PlainSearch.walk_st N r t).c.SS x 0) rode ∙ transit_stamped N P r (state_of s) I long x (subst (λ (t : PlainSearch.St). Memᴰ x t.c.Q) rode m))
      ∙ ap (PlainSearch.walk_st N r) rode
    where
      rode : state_of (ride_phase T Q false r s) ≡ PlainSearch.ride_st N r (state_of s)
      rode = sim_riding P C r s I.top

  -- the two states agree, but for the line boardings of a round that did not run
  pub record Agree (s : State) (t : PlainSearch.St) : Type 0 where
    pub core : core_of s.arrivals ≡ t.c
    pub scans : s.boardings.scans ≡ t.k.log

  sim_rounds : Plain N → Calm → (n r : ℕ) (s : State) → Inv N r (state_of s) → length s.arrivals.stop_stamp ≡ stops T → Agree (rounds T Q false n r s) (PlainSearch.rounds N n r (state_of s))
  unfolding rounds PlainSearch.rounds idle
  sim_rounds P C zero r s I long = record { core = refl; scans = refl }
  sim_rounds P C (suc n) r s I long =
      go s.arrivals.reached refl
      (subst (λ (t : PlainSearch.St). Agree (rounds T Q false n (suc r) next) (PlainSearch.rounds N n (suc r) t)) round
      (sim_rounds P C n (suc r) next (subst (Inv N (suc r)) (sym round) (round_inv N P r (state_of s) I)) (ap (λ (t : PlainSearch.St). length t.c.SS) round ∙ round_long N P r (state_of s) I long)))
    where
      next : State
      next = walk_phase T Q false r (ride_phase T Q false r s)

      round : state_of (walk_phase T Q false r (ride_phase T Q false r s)) ≡ PlainSearch.walk_st N r (PlainSearch.ride_st N r (state_of s))
      round = sim_round P C r s I long

      S : List ℕ → PlainSearch.St
      S q = record { c = record { lab = map reached_by s.arrivals.labels; E = s.arrivals.earliest; B = s.arrivals.best; SS = s.arrivals.stop_stamp; Q = q }; k = book_of s.boardings }

      go : (q : List ℕ) → s.arrivals.reached ≡ q → Agree (rounds T Q false n (suc r) next) (PlainSearch.rounds N n (suc r) (PlainSearch.walk_st N r (PlainSearch.ride_st N r (state_of s))))
          → Agree (elim (eqb (length q) 0 && true) [ true ↦ s | false ↦ rounds T Q false n (suc r) next ]) (PlainSearch.rounds N n (suc r) (PlainSearch.walk_st N r (PlainSearch.ride_st N r (state_of s))))
      go [] e h =
          let i = idle_rounds N (suc n) r (map reached_by s.arrivals.labels) s.arrivals.earliest s.arrivals.best s.arrivals.stop_stamp (book_of s.boardings) in
          record { core = ap (λ (q : List ℕ). (S q).c) e ∙ (sym i.0 ∙ ap (λ (q : List ℕ). (PlainSearch.rounds N (suc n) r (S q)).c) (sym e)); scans = sym i.1 ∙ ap (λ (q : List ℕ). (PlainSearch.rounds N (suc n) r (S q)).k.log) (sym e) }
      go (x ∷ q) e h =
          subst (λ (b : Bool). Agree (elim (b && true) [ true ↦ s | false ↦ rounds T Q false n (suc r) next ]) (PlainSearch.rounds N n (suc r) (PlainSearch.walk_st N r (PlainSearch.ride_st N r (state_of s))))) (sym (ne_eqb (suc (length q)) 0 (λ z. omega arith))) h

  sim_arrive : (o : Origin) (c : Arrivals) → core_of (set_out T Q o c) ≡ PlainSearch.arrive N (origin_of o) (core_of c)
  unfolding set_out PlainSearch.arrive best_after PlainSearch.best
  sim_arrive o c = go (ltb v (get_or c.earliest o.stop 0))
    where
      v : ℕ
      v = Q.start + o.duration

      b : ℕ
      b = cond (is_egress Q.egress o.stop && ltb (v + egress_walk Q.egress o.stop) c.best) (v + egress_walk Q.egress o.stop) c.best

      go : (t : Bool) → core_of (elim t [
        | true ↦ record { labels = set c.labels (record_of o.stop 0) (Access o.stop v o.duration o.distance); earliest = set c.earliest o.stop v; best = b; stop_stamp = set c.stop_stamp o.stop 1; reached = c.reached ++ (o.stop ∷ []); seg_queue = c.seg_queue; seg_reach = c.seg_reach }
        | false ↦ record { labels = c.labels; earliest = c.earliest; best = b; stop_stamp = c.stop_stamp; reached = c.reached; seg_queue = c.seg_queue; seg_reach = c.seg_reach }
      ])
          ≡ elim t [
            | true ↦ record { lab = set (map reached_by c.labels) (record_of o.stop 0) (suc v); E = set c.earliest o.stop v; B = b; SS = set c.stop_stamp o.stop 1; Q = c.reached ++ (o.stop ∷ []) }
            | false ↦ record { lab = map reached_by c.labels; E = c.earliest; B = b; SS = c.stop_stamp; Q = c.reached }
          ]
      go true = ap (λ (z : List ℕ). record { lab = z; E = set c.earliest o.stop v; B = b; SS = set c.stop_stamp o.stop 1; Q = c.reached ++ (o.stop ∷ []) }) (map_set reached_by c.labels (record_of o.stop 0) (Access o.stop v o.duration o.distance))
      go false = refl

  sim_set_out : (os : List Origin) (c : Arrivals) → core_of (access T Q os c) ≡ PlainSearch.access N (map origin_of os) (core_of c)
  unfolding access PlainSearch.access
  sim_set_out [] c = refl
  sim_set_out (o ∷ os) c = sim_set_out os (set_out T Q o c) ∙ ap (PlainSearch.access N (map origin_of os)) (sim_arrive o c)

  sim_begin : state_of (begin T Q) ≡ PlainSearch.begin N (trips T)
  sim_begin =
      ap (λ (c : PlainSearch.Core). record { c = c; k = book_of (begin T Q).boardings })
      (sim_set_out Q.origins (new_arrivals T Q) ∙ ap (λ (z : List ℕ). PlainSearch.access N (map origin_of Q.origins) (record { lab = z; E = replicate (stops T) never; B = never; SS = replicate (stops T) 0; Q = [] })) (map_replicate reached_by (stops T * 13) Empty))

  set_out_long : (os : List Origin) (c : Arrivals) → length (access T Q os c).stop_stamp ≡ length c.stop_stamp
  unfolding access set_out
  set_out_long [] c = refl
  set_out_long (o ∷ os) c = set_out_long os (set_out T Q o c) ∙ go (ltb (Q.start + o.duration) (get_or c.earliest o.stop 0))
    where
      go : (b : Bool) → length (elim b as (λ z. Arrivals) [
        | true ↦ record { labels = set c.labels (record_of o.stop 0) (Access o.stop (Q.start + o.duration) o.duration o.distance); earliest = set c.earliest o.stop (Q.start + o.duration); best = best_after T Q o.stop (Q.start + o.duration) c.best; stop_stamp = set c.stop_stamp o.stop 1; reached = c.reached ++ (o.stop ∷ []); seg_queue = c.seg_queue; seg_reach = c.seg_reach }
        | false ↦ record { labels = c.labels; earliest = c.earliest; best = best_after T Q o.stop (Q.start + o.duration) c.best; stop_stamp = c.stop_stamp; reached = c.reached; seg_queue = c.seg_queue; seg_reach = c.seg_reach }
      ]).stop_stamp ≡ length c.stop_stamp
      go true = length-set c.stop_stamp o.stop 1
      go false = refl

  pub sim_final : Plain N → Calm → Agree (final T Q false) (PlainSearch.run N (trips T) (rounds_of Q))
  unfolding final PlainSearch.run
  sim_final P C =
      subst (λ (t : PlainSearch.St). Agree (rounds T Q false (rounds_of Q) 0 (begin T Q)) (PlainSearch.rounds N (rounds_of Q) 0 t)) sim_begin
      (sim_rounds P C (rounds_of Q) 0 (begin T Q) (subst (Inv N 0) (sym sim_begin) (begin_inv N P (trips T))) (set_out_long Q.origins (new_arrivals T Q) ∙ length-replicate (stops T) 0))

  sim_target : (c : Arrivals) (es : List (ℕ × ℕ)) (a : ℕ × ℕ) → best_target T Q c es a ≡ PlainSearch.target N (core_of c) es a
  unfolding best_target PlainSearch.target
  sim_target c [] a = refl
  sim_target c (e ∷ es) a = go (eqb v never) (ltb (v + e.1) a.0) (sim_target c es a) (sim_target c es (v + e.1, e.0))
    where
      v : ℕ
      v = get_or c.earliest e.0 0

      go : (x y : Bool) → best_target T Q c es a ≡ PlainSearch.target N (core_of c) es a → best_target T Q c es (v + e.1, e.0) ≡ PlainSearch.target N (core_of c) es (v + e.1, e.0)
          → ◌≡◌ {A = ℕ × ℕ} (elim x [ true ↦ best_target T Q c es a | false ↦ elim y [ true ↦ best_target T Q c es (v + e.1, e.0) | false ↦ best_target T Q c es a ] ])
          (elim x [ true ↦ PlainSearch.target N (core_of c) es a | false ↦ elim y [ true ↦ PlainSearch.target N (core_of c) es (v + e.1, e.0) | false ↦ PlainSearch.target N (core_of c) es a ] ])
      go true y p q = p
      go false true p q = q
      go false false p q = p

  sim_row : (c : Arrivals) (r : ℕ) (es : List (ℕ × ℕ)) (a : ℕ × ℕ) → row_target T Q c r es a ≡ PlainSearch.row_best N (core_of c) r es a
  unfolding row_target PlainSearch.row_best
  sim_row c r [] a = refl
  sim_row c r (e ∷ es) a =
      go (reached_by (get_or c.labels (record_of e.0 r) Empty)) (sim_row c r es a) (λ v. sim_row c r es (v + e.1, e.0))
      ∙ ap (λ (x : ℕ). elim x as (λ z. ℕ × ℕ) [ zero ↦ PlainSearch.row_best N (core_of c) r es a | suc v ↦ elim (ltb (v + e.1) a.0) as (λ z. ℕ × ℕ) [ true ↦ PlainSearch.row_best N (core_of c) r es (v + e.1, e.0) | false ↦ PlainSearch.row_best N (core_of c) r es a ] ])
      (sym (get_or-map reached_by c.labels (record_of e.0 r) Empty))
    where
      one : (v : ℕ) (y : Bool) → row_target T Q c r es a ≡ PlainSearch.row_best N (core_of c) r es a → row_target T Q c r es (v + e.1, e.0) ≡ PlainSearch.row_best N (core_of c) r es (v + e.1, e.0)
          → ◌≡◌ {A = ℕ × ℕ} (elim y [ true ↦ row_target T Q c r es (v + e.1, e.0) | false ↦ row_target T Q c r es a ]) (elim y [ true ↦ PlainSearch.row_best N (core_of c) r es (v + e.1, e.0) | false ↦ PlainSearch.row_best N (core_of c) r es a ])
      one v true p q = q
      one v false p q = p

      go : (x : ℕ) → row_target T Q c r es a ≡ PlainSearch.row_best N (core_of c) r es a → ((v : ℕ) → row_target T Q c r es (v + e.1, e.0) ≡ PlainSearch.row_best N (core_of c) r es (v + e.1, e.0))
          → ◌≡◌ {A = ℕ × ℕ} (elim x [ zero ↦ row_target T Q c r es a | suc v ↦ elim (ltb (v + e.1) a.0) [ true ↦ row_target T Q c r es (v + e.1, e.0) | false ↦ row_target T Q c r es a ] ])
          (elim x [ zero ↦ PlainSearch.row_best N (core_of c) r es a | suc v ↦ elim (ltb (v + e.1) a.0) [ true ↦ PlainSearch.row_best N (core_of c) r es (v + e.1, e.0) | false ↦ PlainSearch.row_best N (core_of c) r es a ] ])
      go zero p q = p
      go (suc v) p q = one v (ltb (v + e.1) a.0) p (q v)

  sim_candidates : (c : Arrivals) (top k r last : ℕ) → candidates_from T Q c top k r last ≡ PlainSearch.cands N (core_of c) top k r last
  unfolding candidates_from PlainSearch.cands
  sim_candidates c top zero r last = refl
  sim_candidates c top (suc k) r last =
      go (ltb b.0 last && leb b.0 (top + Q.settings.candidate_slack)) (sim_candidates c top k (suc r) b.0) (sim_candidates c top k (suc r) last) ∙ ap R (sim_row c r Q.egress (never, never))
    where
      b : ℕ × ℕ
      b = row_target T Q c r Q.egress (never, never)

      R : ℕ × ℕ → List (ℕ × ℕ × ℕ)
      R b = elim (ltb b.0 last && leb b.0 (top + Q.settings.candidate_slack)) [ true ↦ (b.0, b.1, r) ∷ PlainSearch.cands N (core_of c) top k (suc r) b.0 | false ↦ PlainSearch.cands N (core_of c) top k (suc r) last ]

      go : (x : Bool) → candidates_from T Q c top k (suc r) b.0 ≡ PlainSearch.cands N (core_of c) top k (suc r) b.0 → candidates_from T Q c top k (suc r) last ≡ PlainSearch.cands N (core_of c) top k (suc r) last
          → ◌≡◌ {A = List (ℕ × ℕ × ℕ)} (elim x [ true ↦ (b.0, b.1, r) ∷ candidates_from T Q c top k (suc r) b.0 | false ↦ candidates_from T Q c top k (suc r) last ])
          (elim x [ true ↦ (b.0, b.1, r) ∷ PlainSearch.cands N (core_of c) top k (suc r) b.0 | false ↦ PlainSearch.cands N (core_of c) top k (suc r) last ])
      go true p q = ap (λ (z : List (ℕ × ℕ × ℕ)). (b.0, b.1, r) ∷ z) p
      go false p q = q

  -- the small model's answer, of a state of the full one; it goes through the rows for "no way" too
  abbrev pub small : State → PlainSearch.Answer N
  small s = let b = best_target T Q s.arrivals Q.egress (never, never) in record { total = b.0; stop = b.1; cand = candidates_from T Q s.arrivals b.0 (suc (rounds_of Q)) 0 never }

  pub sim_answer : Plain N → Calm → small (final T Q false) ≡ PlainSearch.answer N (trips T) (rounds_of Q)
  unfolding PlainSearch.answer
  sim_answer P C =
      ap (λ (b : ℕ × ℕ). record { total = b.0; stop = b.1; cand = candidates_from T Q c b.0 (suc (rounds_of Q)) 0 never }) (sim_target c Q.egress (never, never))
      ∙ ap (λ (l : List (ℕ × ℕ × ℕ)). record { total = t.0; stop = t.1; cand = l }) (sim_candidates c t.0 (suc (rounds_of Q)) 0 never)
      ∙ ap (λ (c : PlainSearch.Core). let t = PlainSearch.target N c Q.egress (never, never) in record { total = t.0; stop = t.1; cand = PlainSearch.cands N c t.0 (suc (rounds_of Q)) 0 never }) (sim_final P C).core
    where
      c : Arrivals
      c = (final T Q false).arrivals

      t : ℕ × ℕ
      t = PlainSearch.target N (core_of c) Q.egress (never, never)

  pub sim_scans : Plain N → Calm → (search_answer T Q false).scans ≡ (PlainSearch.run N (trips T) (rounds_of Q)).k.log
  unfolding search_answer
  sim_scans P C = (sim_final P C).scans
