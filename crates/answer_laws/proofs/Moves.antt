-- A run of the search goes by moves: an arrival improved at a stop, or a segment queued. What moves keep, every phase keeps.
use Prim.Native.Nat.{ℕ, zero, suc, ◌+◌, ◌-◌, ◌<◌, min}
use mathlib.Core.Path.{◌≡◌, refl, sym, ◌∙◌, subst}
use mathlib.Core.Logic.{⊎_elim}
use mathlib.Core.Bool.{Bool, true, false, cond, ◌&&◌, ◌||◌, not}
use mathlib.Core.List.Memᴰ
use mathlib.Core.List.{List, [], ◌∷◌, ◌++◌, Memᴰ}
use Rattle.std.specs.Prelude.{Option, None, Some}
use native.Mathlib.Omega.{arith}
use lib.ListN.{get_or, set}
use lib.Dec.{ltb, leb, eqb}
use borrow.Author.Tests.{ltb-true}
use Rattle.loops.specs.Iter.{Hit}
use Rattle.loops.specs.Count.{tab_from, upto}
use Rattle.loops.proofs.Iter.{and_left, and_right}
use Rattle.sorts.specs.Orders.{keep}
use Rattle.frequency.specs.declared.BoardedRun.{BoardedRun}
use Rattle.label.specs.declared.Label.{Label}
use Rattle.label.specs.declared.Label.TheVariants.{Access, Transit, Walk}
use Rattle.label.specs.Table.{record_of}
use Rattle.label.specs.Label.{no_distance}
use Rattle.departures.specs.declared.DepartureRow.{DepartureRow}
use Rattle.line_layout.specs.Layout.{LineTrips}
use Rattle.event_transfers.specs.Transfers.{Transfer}
use Rattle.model.specs.Tables.{never, Tables, Origin, Query, change_before, stops, trips, stop_count, stop_at, departure, no_pickup, no_drop_off, no_windows, edges_from, edge_to, walk_time, position, fifo, usable, permitted}
use Rattle.model.specs.Door.{Door}
use Rattle.model.specs.Search.{Segment, Arrivals, best_after, set_out, access, State, at, holds_target, departures_at, mark_at, line_at, not_before, delay_of, skipped, arrival_now, margin_of, board_at, improve, relax, resolve_in, line_trips_at, resolve, enqueue, take_transfers, alightings, transferring, scan_trip_forward, logged, ride_segments, boarding, board, scan_departures, scan_stops, walk_from, walk_all, emptied, round_start, ride_phase, walk_phase, idle, rounds, new_arrivals, begin}
use Rattle.answer_laws.specs.Queue.{round_of}

-- a number counted to is below the count
pub below_upto : (i n k : ℕ) → Memᴰ k (tab_from (λ j. j) i n) → k < i + n
unfolding tab_from
below_upto i zero k m = absurd (Memᴰ.not-nil m)
below_upto i (suc n) k m = ⊎_elim (λ (e : k ≡ i). omega arith) (λ r. omega (arith, below_upto (suc i) n k r)) (Memᴰ.cases_cons m)

-- one that is kept was there
pub kept_there : {A : Type 0} {x : A} (p : A → Bool) (l : List A) → Memᴰ x (keep p l) → Memᴰ x l
unfolding keep
kept_there p [] m = m
kept_there {x = x} p (y ∷ l) m = go (p y) m (kept_there p l)
  where
    go : (b : Bool) → Memᴰ x (cond b (y ∷ keep p l) (keep p l)) → (Memᴰ x (keep p l) → Memᴰ x l) → Memᴰ x (y ∷ l)
    go true m f = ⊎_elim (λ e. Memᴰ.head e) (λ r. Memᴰ.tail (f r)) (Memᴰ.cases_cons m)
    go false m f = Memᴰ.tail (f m)

-- a departure not passed over was listed
late_there : (T : Tables) (m : ℕ) (d : DepartureRow) (ds : List DepartureRow) → Memᴰ d (not_before T m ds) → Memᴰ d ds
unfolding not_before
late_there T m d [] i = i
late_there T m d (e ∷ ds) i = go (ltb (departure T e.trip e.offset) m) i (late_there T m d ds)
  where
    go : (b : Bool) → Memᴰ d (elim b [ true ↦ not_before T m ds | false ↦ e ∷ ds ]) → (Memᴰ d (not_before T m ds) → Memᴰ d ds)
        → Memᴰ d (e ∷ ds)
    go true i f = Memᴰ.tail (f i)
    go false i f = i

module _ (T : Tables) (Q : Query) where
  -- R holds of every trip that the tables name, J of every stop
  pub record Fits (R J : ℕ → Type 0) : Type 0 where
    pub trip_in : (t : ℕ) → t < trips T → R t
    pub listed_in : (x : ℕ) (d : DepartureRow) → x < stops T → Memᴰ d (T.departures x) → R d.trip
    pub stop_in : (t o : ℕ) → R t → o < stop_count T t → J (stop_at T t o)
    pub edge_in : (e : ℕ) → e < T.timetable.edges → J (edge_to T e)

  -- with trip t queued (w: it has no windows)
  abbrev pub pushed : Bool → ℕ → ℕ → ℕ → ℕ → Arrivals → Arrivals
  pushed w t o s shift a =
      record {
        labels = a.labels;
        earliest = a.earliest;
        best = a.best;
        stop_stamp = a.stop_stamp;
        reached = a.reached;
        seg_queue = a.seg_queue ++ (record { trip = t; offset = o; stop = s; shift = shift } ∷ []);
        seg_reach = elim w [ true ↦ set a.seg_reach t o | false ↦ a.seg_reach ];
      }

  -- with an origin taken
  abbrev pub taken : Origin → Arrivals → Arrivals
  taken o a =
      record {
        labels = set a.labels (record_of o.stop 0) (Access o.stop (Q.start + o.duration) o.duration o.distance);
        earliest = set a.earliest o.stop (Q.start + o.duration);
        best = best_after T Q o.stop (Q.start + o.duration) a.best;
        stop_stamp = set a.stop_stamp o.stop 1;
        reached = a.reached ++ (o.stop ∷ []);
        seg_queue = a.seg_queue;
        seg_reach = a.seg_reach;
      }

  -- with an origin that is no earlier than what the stop has
  abbrev pub left_out : Origin → Arrivals → Arrivals
  left_out o a =
      record {
        labels = a.labels;
        earliest = a.earliest;
        best = best_after T Q o.stop (Q.start + o.duration) a.best;
        stop_stamp = a.stop_stamp;
        reached = a.reached;
        seg_queue = a.seg_queue;
        seg_reach = a.seg_reach;
      }

  -- from one to the other by moves: arrivals at stops of which J holds; flagged, also segments queued, of trips of which R holds
  pub data Moves (R J : ℕ → Type 0) (flagged : Bool) (stamp : ℕ) : Arrivals → Arrivals → Type 0 where
    stay : {a : Arrivals} → Moves R J flagged stamp a a
    arrive : {a b : Arrivals} (s v : ℕ) (l : Label) → J s → Moves R J flagged stamp (improve T Q stamp s v l a) b → Moves R J flagged stamp a b
    queue : {a b : Arrivals} (t o s shift : ℕ) → flagged ≡ true → R t → o < stop_count T t → Moves R J flagged stamp (enqueue T Q t o s shift a) b
        → Moves R J flagged stamp a b

  -- states: the arrivals go by moves, and no round's end is noted
  pub record Goes (R J : ℕ → Type 0) (flagged : Bool) (stamp : ℕ) (s s' : State) : Type 0 where
    pub moves : Moves R J flagged stamp s.arrivals s'.arrivals
    pub queued : s'.boardings.queued ≡ s.boardings.queued

  -- a resolved target is a trip of the table, boarded at an offset of its
  pub data Found (o : ℕ) : Option (ℕ × BoardedRun) → Type 0 where
    nowhere : Found o None
    there : {b : ℕ × BoardedRun} → b.0 < trips T → o < stop_count T b.0 → Found o (Some b)

  resolve_in_found : (is_fifo : Bool) (o after best : ℕ) (trip : ℕ → ℕ) (k p : ℕ) → Found o (resolve_in T Q is_fifo o after best trip k p)
  unfolding resolve_in
  resolve_in_found is_fifo o after best trip zero p = nowhere
  resolve_in_found is_fifo o after best trip (suc k) p =
      go (ltb (trip p) (trips T) && ltb o (stop_count T (trip p))) refl
      ((is_fifo && leb (best + margin_of T Q) (departure T (trip p) o)) && no_windows T (trip p))
      ((not (usable T Q (trip p)) || no_pickup T (trip p) o) || skipped T Q (delay_of Q (trip p)) (trip p) o)
      (board_at T Q (delay_of Q (trip p)) (trip p) o after) is_fifo
      (λ f. resolve_in_found f o after best trip k (suc p))
    where
      go : (a : Bool) → (ltb (trip p) (trips T) && ltb o (stop_count T (trip p))) ≡ a → (b c : Bool) (f : Option BoardedRun) (i : Bool)
          → ((i : Bool) → Found o (resolve_in T Q i o after best trip k (suc p)))
          → Found o (elim a [
            | false ↦ resolve_in T Q i o after best trip k (suc p)
            | true ↦ elim b [
              | true ↦ None
              | false ↦ elim c [
                | true ↦ resolve_in T Q i o after best trip k (suc p)
                | false ↦ elim f [
                  | None ↦ resolve_in T Q i o after best trip k (suc p)
                  | Some g ↦ elim (ltb g.departure best) [
                    | true ↦ Some (trip p, g)
                    | false ↦ elim i [ true ↦ None | false ↦ resolve_in T Q false o after best trip k (suc p) ]
                  ]
                ]
              ]
            ]
          ])
      go false e b c f i r = r i
      go true e true c f i r = nowhere
      go true e false true f i r = r i
      go true e false false None i r = r i
      go true e false false (Some g) i r = last (ltb g.departure best) i
        where
          last : (l i : Bool)
              → Found o (elim l [
                | true ↦ Some (trip p, g)
                | false ↦ elim i [ true ↦ None | false ↦ resolve_in T Q false o after best trip k (suc p) ]
              ])
          last true i = let u : ltb (trip p) (trips T) ≡ true = and_left (ltb (trip p) (trips T)) (ltb o (stop_count T (trip p))) e in
              let w : ltb o (stop_count T (trip p)) ≡ true = and_right (ltb (trip p) (trips T)) (ltb o (stop_count T (trip p))) e in
              there {b = (trip p, g)} (ltb-true (trip p) (trips T) u) (ltb-true o (stop_count T (trip p)) w)
          last false true = nowhere
          last false false = r false

  -- what a transfer resolves to
  pub resolve_found : (e : Transfer) (after best : ℕ) → Found e.offset (resolve T Q e after best)
  unfolding resolve
  resolve_found e after best = go (ltb p l.count && eqb (l.trip p) e.target)
    where
      l : LineTrips
      l = line_trips_at T Q (line_at T e.target)

      p : ℕ
      p = position T e.target

      is_fifo : Bool
      is_fifo = fifo T (line_at T e.target)

      go : (b : Bool) → Found e.offset (elim b [
        | true ↦ resolve_in T Q is_fifo e.offset after best l.trip (min (l.count - p) Q.settings.line_scan) p
        | false ↦ resolve_in T Q is_fifo e.offset after best (λ p. e.target) (min 1 Q.settings.line_scan) 0
      ])
      go true = resolve_in_found is_fifo e.offset after best l.trip (min (l.count - p) Q.settings.line_scan) p
      go false = resolve_in_found is_fifo e.offset after best (λ p. e.target) (min 1 Q.settings.line_scan) 0

module _ (T : Tables) (Q : Query) {R J : ℕ → Type 0} where
  -- moves after moves
  pub moves_trans : {flagged : Bool} {stamp : ℕ} {a b c : Arrivals} → Moves T Q R J flagged stamp a b → Moves T Q R J flagged stamp b c
      → Moves T Q R J flagged stamp a c
  moves_trans stay q = q
  moves_trans (arrive s v l j r) q = arrive s v l j (moves_trans r q)
  moves_trans (queue t o s x f h i r) q = queue t o s x f h i (moves_trans r q)

  -- an arrival that is tried
  pub relax_moves : (flagged : Bool) (stamp s v : ℕ) (l : Label) (a : Arrivals) → J s → Moves T Q R J flagged stamp a (relax T Q stamp s v l a)
  unfolding relax
  relax_moves flagged stamp s v l a j = go (ltb v (at a s))
    where
      go : (b : Bool) → Moves T Q R J flagged stamp a (cond b (improve T Q stamp s v l a) a)
      go true = arrive s v l j stay
      go false = stay

  -- and of states
  pub goes_trans : {flagged : Bool} {stamp : ℕ} {a b c : State} → Goes T Q R J flagged stamp a b → Goes T Q R J flagged stamp b c
      → Goes T Q R J flagged stamp a c
  goes_trans p q = record { moves = moves_trans p.moves q.moves; queued = q.queued ∙ p.queued }

  goes_stay : (flagged : Bool) (stamp : ℕ) (s : State) → Goes T Q R J flagged stamp s s
  goes_stay flagged stamp s = record { moves = stay; queued = refl }

  module _ (F : Fits T Q R J) where
    -- alighting at the stops of a trip
    pub alightings_moves : (flagged : Bool) (stamp : ℕ) (adj : Hit) (shift t s o k p : ℕ) (a : Arrivals) → R t → k ≡ stop_count T t - p
        → Moves T Q R J flagged stamp a (alightings T Q stamp adj shift t s o k p a)
    unfolding alightings
    alightings_moves flagged stamp adj shift t s o zero p a h e = stay
    alightings_moves flagged stamp adj shift t s o (suc k) p a h e =
        go (no_drop_off T t p || skipped T Q adj t p) (ltb v a.best)
        (λ c. alightings_moves flagged stamp adj shift t s o k (suc p) c h (omega arith))
      where
        v : ℕ
        v = arrival_now T Q adj shift t p

        n : Arrivals
        n = relax T Q stamp (stop_at T t p) v (Transit v t s o p (stamp - 2) shift) a

        go : (b c : Bool) → ((c : Arrivals) → Moves T Q R J flagged stamp c (alightings T Q stamp adj shift t s o k (suc p) c))
            → Moves T Q R J flagged stamp a (elim b [
              | true ↦ alightings T Q stamp adj shift t s o k (suc p) a
              | false ↦ elim c [ false ↦ a | true ↦ alightings T Q stamp adj shift t s o k (suc p) n ]
            ])
        go true c r = r a
        go false false r = stay
        go false true r = moves_trans (relax_moves flagged stamp (stop_at T t p) v _ a (F.stop_in t p h (omega arith))) (r n)

    -- the transfers of one stop event
    pub take_transfers_moves : (stamp v x : ℕ) (es : List Transfer) (a : Arrivals) → Moves T Q R J true stamp a (take_transfers T Q stamp v x es a)
    unfolding take_transfers
    take_transfers_moves stamp v x [] a = stay
    take_transfers_moves stamp v x (e ∷ es) a =
        go (holds_target T Q e.pattern) (resolve T Q e (v + e.time) a.best) (resolve_found T Q e (v + e.time) a.best)
        (λ c. take_transfers_moves stamp v x es c)
      where
        after : ℕ × BoardedRun → Arrivals
        after b =
            let s : ℕ = stop_at T b.0 e.offset in
            let d : ℕ = b.1.departure in
            enqueue T Q b.0 e.offset s b.1.time_shift_s (relax T Q stamp s d (Walk d x s e.time no_distance (stamp - 1)) a)

        go : (b : Bool) (o : Option (ℕ × BoardedRun)) → Found T Q e.offset o
            → ((c : Arrivals) → Moves T Q R J true stamp c (take_transfers T Q stamp v x es c))
            → Moves T Q R J true stamp a (elim b [
              | false ↦ take_transfers T Q stamp v x es a
              | true ↦ elim o [ None ↦ take_transfers T Q stamp v x es a | Some b ↦ take_transfers T Q stamp v x es (after b) ]
            ])
        go false o f r = r a
        go true None f r = r a
        go true (Some b) (there l m) r =
            moves_trans
            (relax_moves true stamp (stop_at T b.0 e.offset) b.1.departure _ a (F.stop_in b.0 e.offset (F.trip_in b.0 l) m))
            (queue b.0 e.offset (stop_at T b.0 e.offset) b.1.time_shift_s refl (F.trip_in b.0 l) m (r (after b)))

    -- the transfers of a scan
    pub transferring_moves : (stamp : ℕ) (adj : Hit) (shift t k p : ℕ) (a : Arrivals)
        → Moves T Q R J true stamp a (transferring T Q stamp adj shift t k p a)
    unfolding transferring
    transferring_moves stamp adj shift t zero p a = stay
    transferring_moves stamp adj shift t (suc k) p a =
        go (no_drop_off T t p) (ltb v a.best) (λ c. transferring_moves stamp adj shift t k (suc p) c)
      where
        v : ℕ
        v = arrival_now T Q adj shift t p

        n : Arrivals
        n = take_transfers T Q stamp v (stop_at T t p) (T.transfers t p) a

        go : (b c : Bool) → ((c : Arrivals) → Moves T Q R J true stamp c (transferring T Q stamp adj shift t k (suc p) c))
            → Moves T Q R J true stamp a (elim b [
              | true ↦ transferring T Q stamp adj shift t k (suc p) a
              | false ↦ elim c [ false ↦ a | true ↦ transferring T Q stamp adj shift t k (suc p) n ]
            ])
        go true c r = r a
        go false false r = stay
        go false true r = moves_trans (take_transfers_moves stamp v (stop_at T t p) (T.transfers t p) a) (r n)

    -- a scan of a trip goes by moves
    pub scan_moves : (flagged : Bool) (stamp : ℕ) (adj : Hit) (shift t s o : ℕ) (a : Arrivals) → R t
        → Moves T Q R J flagged stamp a (scan_trip_forward T Q flagged stamp adj shift t s o a)
    unfolding scan_trip_forward
    scan_moves true stamp adj shift t s o a h =
        moves_trans (alightings_moves true stamp adj shift t s o (stop_count T t - suc o) (suc o) a h refl)
        (transferring_moves stamp adj shift t (stop_count T t - suc o) (suc o) _)
    scan_moves false stamp adj shift t s o a h = alightings_moves false stamp adj shift t s o (stop_count T t - suc o) (suc o) a h refl

    -- the walks from one stop: moves that queue nothing
    pub walk_from_moves : (flagged : Bool) (stamp x v : ℕ) (es : List ℕ) (a : Arrivals) → ((e : ℕ) → Memᴰ e es → e < T.timetable.edges)
        → Moves T Q R J false stamp a (walk_from T Q flagged stamp x v es a)
    unfolding walk_from
    walk_from_moves flagged stamp x v [] a I = stay
    walk_from_moves flagged stamp x v (e ∷ es) a I =
        go (flagged && not (holds_target T Q (T.timetable.edge e).pattern)) (ltb w a.best)
        (λ c. walk_from_moves flagged stamp x v es c (λ e m. I e (Memᴰ.tail m)))
      where
        w : ℕ
        w = v + walk_time T Q e

        n : Arrivals
        n = relax T Q stamp (edge_to T e) w (Walk w x (edge_to T e) (walk_time T Q e) (T.distance e) (stamp - 1)) a

        go : (b c : Bool) → ((c : Arrivals) → Moves T Q R J false stamp c (walk_from T Q flagged stamp x v es c))
            → Moves T Q R J false stamp a (elim b [
              | true ↦ walk_from T Q flagged stamp x v es a
              | false ↦ elim c [ false ↦ walk_from T Q flagged stamp x v es a | true ↦ walk_from T Q flagged stamp x v es n ]
            ])
        go true c r = r a
        go false false r = r a
        go false true r = moves_trans (relax_moves false stamp (edge_to T e) w _ a (F.edge_in e (I e (Memᴰ.head refl)))) (r n)

    -- those of a phase's stops
    pub walk_all_moves : (flagged : Bool) (stamp : ℕ) (xs : List ℕ) (a : Arrivals) → Moves T Q R J false stamp a (walk_all T Q flagged stamp xs a)
    unfolding walk_all edges_from
    walk_all_moves flagged stamp [] a = stay
    walk_all_moves flagged stamp (x ∷ xs) a =
        moves_trans (walk_from_moves flagged stamp x (at a x) (edges_from T x) a (λ e m. omega (
          arith,
          below_upto 0 T.timetable.edges e
              (kept_there (λ k. eqb (T.timetable.edge k).from x) (upto T.timetable.edges) m),
        )))
        (walk_all_moves flagged stamp xs _)

    -- the segment phase, of segments on trips of which R holds
    pub ride_segments_goes : (flagged : Bool) (round stamp : ℕ) (gs : List Segment) (s : State) → ((g : Segment) → Memᴰ g gs → R g.trip)
        → Goes T Q R J flagged stamp s (ride_segments T Q flagged round stamp gs s)
    unfolding ride_segments
    ride_segments_goes flagged round stamp [] s I = goes_stay flagged stamp s
    ride_segments_goes flagged round stamp (g ∷ gs) s I =
        go (permitted T Q g.trip) (λ u. ride_segments_goes flagged round stamp gs u (λ h m. I h (Memᴰ.tail m)))
      where
        n : State
        n =
            record {
              arrivals = scan_trip_forward T Q flagged stamp (delay_of Q g.trip) g.shift g.trip g.stop g.offset s.arrivals;
              boardings = logged T Q round g.trip g.offset s.boardings;
            }

        go : (b : Bool) → ((u : State) → Goes T Q R J flagged stamp u (ride_segments T Q flagged round stamp gs u))
            → Goes T Q R J flagged stamp s (elim b [
              | false ↦ ride_segments T Q flagged round stamp gs s
              | true ↦ ride_segments T Q flagged round stamp gs n
            ])
        go false r = r s
        go true r =
            goes_trans (record {
              moves = scan_moves flagged stamp (delay_of Q g.trip) g.shift g.trip g.stop g.offset s.arrivals
                  (I g (Memᴰ.head refl));
              queued = refl;
            })
            (r n)

    -- the departures of a stop, on trips of which R holds
    pub scan_departures_goes : (flagged has_freq : Bool) (round stamp x after : ℕ) (ds : List DepartureRow) (s : State)
        → ((d : DepartureRow) → Memᴰ d ds → R d.trip)
        → Goes T Q R J flagged stamp s (scan_departures T Q flagged has_freq round stamp x after ds s)
    unfolding scan_departures board
    scan_departures_goes flagged has_freq round stamp x after [] s I = goes_stay flagged stamp s
    scan_departures_goes flagged has_freq round stamp x after (d ∷ ds) s I =
        go (not has_freq && leb (s.arrivals.best + margin_of T Q) (departure T d.trip d.offset))
        (boarding T Q stamp after (delay_of Q d.trip) d.trip d.offset s)
        (λ u. scan_departures_goes flagged has_freq round stamp x after ds u (λ h m. I h (Memᴰ.tail m)))
      where
        n : BoardedRun → State
        n b =
            record {
              arrivals = scan_trip_forward T Q flagged stamp (delay_of Q d.trip) b.time_shift_s d.trip x d.offset s.arrivals;
              boardings = board T Q round stamp (delay_of Q d.trip) d.trip d.offset b.departure s.boardings;
            }

        go : (b : Bool) (f : Option BoardedRun) → ((u : State) → Goes T Q R J flagged stamp u (scan_departures T Q flagged has_freq round stamp x after ds u))
            → Goes T Q R J flagged stamp s (elim b [
              | true ↦ s
              | false ↦ elim f [
                | None ↦ scan_departures T Q flagged has_freq round stamp x after ds s
                | Some b ↦ scan_departures T Q flagged has_freq round stamp x after ds (n b)
              ]
            ])
        go true f r = goes_stay flagged stamp s
        go false None r = r s
        go false (Some b) r =
            goes_trans (record {
              moves = scan_moves flagged stamp (delay_of Q d.trip) b.time_shift_s d.trip x d.offset s.arrivals
                  (I d (Memᴰ.head refl));
              queued = refl;
            })
            (r (n b))

    -- the departures read at a stop
    read_in : (x : ℕ) (d : DepartureRow) → Memᴰ d (departures_at T x) → R d.trip
    unfolding departures_at
    read_in x d m = go (ltb x (stops T)) refl m
      where
        go : (b : Bool) → ltb x (stops T) ≡ b → Memᴰ d (elim b [ true ↦ T.departures x | false ↦ [] ]) → R d.trip
        go true e m = F.listed_in x d (ltb-true x (stops T) e) m
        go false e m = absurd (Memᴰ.not-nil m)

    -- the departure scan
    pub scan_stops_goes : (flagged : Bool) (round stamp : ℕ) (xs : List ℕ) (s : State)
        → Goes T Q R J flagged stamp s (scan_stops T Q flagged round stamp xs s)
    unfolding scan_stops
    scan_stops_goes flagged round stamp [] s = goes_stay flagged stamp s
    scan_stops_goes flagged round stamp (x ∷ xs) s =
        go (eqb (at s.arrivals x) never || leb s.arrivals.best after) (mark_at T x) (λ u. scan_stops_goes flagged round stamp xs u)
      where
        after : ℕ
        after = at s.arrivals x + change_before Q round

        ds : List DepartureRow
        ds = not_before T (after - margin_of T Q) (departures_at T x)

        go : (b c : Bool) → ((u : State) → Goes T Q R J flagged stamp u (scan_stops T Q flagged round stamp xs u))
            → Goes T Q R J flagged stamp s (elim b [
              | true ↦ scan_stops T Q flagged round stamp xs s
              | false ↦ elim c [
                | true ↦ scan_stops T Q flagged round stamp xs (scan_departures T Q flagged true round stamp x after (departures_at T x) s)
                | false ↦ scan_stops T Q flagged round stamp xs (scan_departures T Q flagged false round stamp x after ds s)
              ]
            ])
        go true c r = r s
        go false true r = goes_trans (scan_departures_goes flagged true round stamp x after (departures_at T x) s (read_in x)) (r _)
        go false false r =
            goes_trans (scan_departures_goes flagged false round stamp x after ds s
            (λ d m. read_in x d (late_there T (after - margin_of T Q) d (departures_at T x) m))) (r _)

    -- a ride phase goes by moves from the round's start, where no stop is reached and no segment queued
    pub ride_phase_goes : (flagged : Bool) (round : ℕ) (s : State) → ((g : Segment) → Memᴰ g s.arrivals.seg_queue → R g.trip)
        → Goes T Q R J flagged (suc (suc round)) (round_start T Q s) (ride_phase T Q flagged round s)
    unfolding ride_phase
    ride_phase_goes true round s I =
        goes_trans (ride_segments_goes true round (suc (suc round)) s.arrivals.seg_queue (round_start T Q s) I)
        (scan_stops_goes true round (suc (suc round)) s.arrivals.reached _)
    ride_phase_goes false round s I = scan_stops_goes false round (suc (suc round)) s.arrivals.reached (round_start T Q s)

  -- moves queue trips of which R holds
  pub moves_trips : {flagged : Bool} {stamp : ℕ} {a b : Arrivals} → Moves T Q R J flagged stamp a b
      → ((g : Segment) → Memᴰ g a.seg_queue → R g.trip)
      → (g : Segment) → Memᴰ g b.seg_queue → R g.trip
  unfolding improve enqueue
  moves_trips stay I = I
  moves_trips (arrive s v l j r) I = moves_trips r I
  moves_trips (queue {a = a} t o s x f h i r) I = moves_trips r (go (not (no_windows T t) || ltb o (get_or a.seg_reach t 0)))
    where
      go : (b : Bool) (g : Segment) → Memᴰ g
          (elim b as (λ z. Arrivals) [ false ↦ a | true ↦ pushed T Q (no_windows T t) t o s x a ]).seg_queue
          → R g.trip
      go false g m = I g m
      go true g m =
          ⊎_elim (λ i. I g i) (λ i. subst (λ (z : Segment). R z.trip) (sym (Memᴰ.eq_of_singleton i)) h)
          (Memᴰ.append_cases a.seg_queue m)

  -- unflagged, moves queue nothing
  pub moves_none : {stamp : ℕ} {a b : Arrivals} → Moves T Q R J false stamp a b → (b.seg_queue ≡ a.seg_queue) × (b.seg_reach ≡ a.seg_reach)
  unfolding improve
  moves_none stay = (refl, refl)
  moves_none (arrive s v l j r) = moves_none r
  moves_none (queue t o s x f h i r) = absurd (let z : ◌≡◌ {A = ℕ} 0 1 = cc in omega arith)

-- ROUNDS
module _ (T : Tables) (Q : Query) (flagged : Bool) where
  -- where a round's walks begin
  abbrev pub walks_from : State → Arrivals
  walks_from s = emptied T Q s.arrivals.seg_queue s.arrivals

  -- and where they end
  abbrev pub walks_to : ℕ → State → Arrivals
  walks_to r s = walk_all T Q flagged (suc (suc r)) s.arrivals.reached (walks_from s)

  -- what every round takes from its number to the next holds of a run's end, at some number
  pub rounds_keep : (P : ℕ → State → Type 0) → ((r : ℕ) (s : State) → P r s → P (suc r) (round_of T Q flagged r s)) → (n r : ℕ) (s : State) → P r s
      → (k : ℕ) × P k (rounds T Q flagged n r s)
  unfolding rounds
  rounds_keep P k zero r s p = (r, p)
  rounds_keep P k (suc n) r s p = go (idle T Q flagged s.arrivals) (rounds_keep P k n (suc r) (round_of T Q flagged r s) (k r s p))
    where
      go : (b : Bool) → (k : ℕ) × P k (rounds T Q flagged n (suc r) (round_of T Q flagged r s))
          → (k : ℕ) × P k (elim b [ true ↦ s | false ↦ rounds T Q flagged n (suc r) (round_of T Q flagged r s) ])
      go true q = (r, p)
      go false q = q

-- access queues nothing
pub access_queue : (T : Tables) (Q : Query) (os : List Origin) (a : Arrivals) → (access T Q os a).seg_queue ≡ a.seg_queue
unfolding access set_out
access_queue T Q [] a = refl
access_queue T Q (o ∷ os) a = access_queue T Q os (set_out T Q o a) ∙ go (ltb (Q.start + o.duration) (at a o.stop))
  where
    go : (b : Bool) → (elim b as (λ z. Arrivals) [ true ↦ taken T Q o a | false ↦ left_out T Q o a ]).seg_queue ≡ a.seg_queue
    go true = refl
    go false = refl

-- the numbers that the door's tables name are below their counts
pub door_fits : (T : Tables) (Q : Query) → Door T Q → Fits T Q (λ t. t < trips T) (λ s. s < stops T)
door_fits T Q D = record { trip_in = λ t h. h; listed_in = D.listed_trip; stop_in = D.stop_in; edge_in = D.edge_to }

-- of any tables: nothing is claimed of trips and stops
pub any_fits : (T : Tables) (Q : Query) → Fits T Q (λ t. t ≡ t) (λ s. s ≡ s)
any_fits T Q = record { trip_in = λ t h. refl; listed_in = λ x d h m. refl; stop_in = λ t o h l. refl; edge_in = λ e h. refl }

-- every segment queued is of a trip of the table
pub record Queues (T : Tables) (s : State) : Type 0 where
  pub trip_in : (g : Segment) → Memᴰ g s.arrivals.seg_queue → g.trip < trips T

-- ONE ROUND of tables that passed the door: it rides by moves from its start, then walks by moves that queue nothing
module _ (T : Tables) (Q : Query) (D : Door T Q) (flagged : Bool) where
  -- the ride phase
  pub rides : (r : ℕ) (s : State) → Queues T s
      → Goes T Q (λ t. t < trips T) (λ x. x < stops T) flagged (suc (suc r)) (round_start T Q s) (ride_phase T Q flagged r s)
  rides r s I = ride_phase_goes T Q (door_fits T Q D) flagged r s I.trip_in

  -- the walk phase
  pub walks : (r : ℕ) (s : State)
      → Moves T Q (λ t. t < trips T) (λ x. x < stops T) false (suc (suc r)) (walks_from T Q flagged s) (walks_to T Q flagged r s)
  walks r s = walk_all_moves T Q (door_fits T Q D) flagged (suc (suc r)) s.arrivals.reached (walks_from T Q flagged s)

  -- a round queues trips of the table
  pub round_queues : (r : ℕ) (s : State) → Queues T s → Queues T (round_of T Q flagged r s)
  unfolding walk_phase
  round_queues r s I =
      record {
        trip_in = moves_trips T Q (walks r (ride_phase T Q flagged r s))
            (moves_trips T Q (rides r s I).moves (λ g i. absurd (Memᴰ.not-nil i)));
      }

-- a run begins with none queued
pub begin_queues : (T : Tables) (Q : Query) → Queues T (begin T Q)
begin_queues T Q =
    record {
      trip_in = λ g m. absurd (Memᴰ.not-nil
          (subst (λ (q : List Segment). Memᴰ g q) (access_queue T Q Q.origins (new_arrivals T Q)) m));
    }
