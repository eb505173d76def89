-- A run as improvements, each with its reason; which predicates a run keeps.
-- A round's stamp is its number plus two, and its label row the stamp less one; the origins have stamp 1.
use Prim.Native.Nat.{ℕ, suc, ◌+◌, ◌-◌, ◌≤◌, ◌<◌}
use mathlib.Core.Path.{◌≡◌, refl, sym, ap, subst, ◌∙◌}
use mathlib.Core.Logic.{◌⊎◌, inl, inr, ⊎_elim}
use mathlib.Core.Bool.{true, false}
use mathlib.Core.List.Memᴰ
use mathlib.Core.List.{List, [], ◌∷◌, ◌++◌, Memᴰ}
use native.Mathlib.Nat.{le_refl, le_trans}
use native.Mathlib.Omega.{arith}
use lib.ListN.{length, get_or, set, length-set}
use Rattle.door.specs.Door.{time_limit}
use Rattle.frequency.specs.declared.BoardedRun.{BoardedRun}
use Rattle.label.specs.declared.Label.{Label}
use Rattle.label.specs.declared.Label.TheVariants.{Access, Transit, Walk}
use Rattle.label.specs.Label.{no_distance}
use Rattle.label.specs.Table.{record_of}
use Rattle.model.specs.Tables.{Tables, Origin, Query, stop_at, edges_from, edge_to, walk_time, permitted}
use Rattle.model.specs.Search.{Segment, Arrivals, Boardings, at, reached_by, delay_of, skipped, best_after, emptied, new_arrivals, new_boardings, logged, board}
use Rattle.answer_laws.specs.Lawful.{Boarded, Begins, Leaves, left_at}
use Rattle.answer_laws.proofs.Stores.{set_le, set_hit}

module _ (T : Tables) (Q : Query) where
  -- why a stop is reached at a time, with this label, in the ride phase: on leaving a ride at a stop that is not skipped, or on a transfer from
  -- where a ride is left to a trip
  pub data Rides (stamp : ℕ) : ℕ → ℕ → Label → Type 0 where
    alighted : (g : Segment) (p : ℕ) → Begins T Q g → Leaves T Q g p → skipped T Q (delay_of Q g.trip) g.trip p ≡ false
        → Rides stamp (stop_at T g.trip p) (left_at T Q g p) (Transit (left_at T Q g p) g.trip g.stop g.offset p (stamp - 2) g.shift)
    changed : (g : Segment) (p : ℕ) → Begins T Q g → Leaves T Q g p → (t o time : ℕ) (b : BoardedRun) (B : Boarded T Q t o b)
        → B.after ≡ left_at T Q g p + time → time ≤ time_limit
        → Rides stamp (stop_at T t o) b.departure (Walk b.departure (stop_at T g.trip p) (stop_at T t o) time no_distance (stamp - 1))

  -- .. at all: from an origin, by a ride, or by a walk from a stop x that this round's rides reached at w, and that is
  -- reached at u by now
  pub data Why : ℕ → ℕ → ℕ → Label → Type 0 where
    origin : (a : Origin) → Memᴰ a Q.origins
        → Why 1 a.stop (Q.start + a.duration) (Access a.stop (Q.start + a.duration) a.duration a.distance)
    ride : {stamp s v : ℕ} {l : Label} → 2 ≤ stamp → Rides stamp s v l → Why stamp s v l
    foot : {stamp : ℕ} (x e u w : ℕ) (l : Label) → 2 ≤ stamp → Rides stamp x w l → u ≤ w → Memᴰ e (edges_from T x)
        → Why stamp (edge_to T e) (u + walk_time T Q e) (Walk (u + walk_time T Q e) x (edge_to T e) (walk_time T Q e) (T.distance e) (stamp - 1))

  -- from a to b stop s is stamped and listed, unless it bears the stamp already; an origin is listed each time
  pub data Lists (stamp s : ℕ) (a b : Arrivals) : Type 0 where
    again : get_or a.stop_stamp s 0 ≡ stamp → b.stop_stamp ≡ a.stop_stamp → b.reached ≡ a.reached → Lists stamp s a b
    anew : (get_or a.stop_stamp s 0 ≡ stamp → ⊥) ⊎ (stamp ≡ 1) → b.stop_stamp ≡ set a.stop_stamp s stamp → b.reached ≡ a.reached ++ (s ∷ [])
        → Lists stamp s a b

  -- from a to b stop s is reached at v, with label l
  pub record Improved (stamp s v : ℕ) (l : Label) (a b : Arrivals) : Type 0 where
    pub labels : b.labels ≡ set a.labels (record_of s (stamp - 1)) l
    pub earliest : b.earliest ≡ set a.earliest s v
    pub best : b.best ≡ best_after T Q s v a.best
    pub lists : Lists stamp s a b
    pub queue : b.seg_queue ≡ a.seg_queue
    pub reaches : b.seg_reach ≡ a.seg_reach

  -- from a to b only queues change
  pub record Same (a b : Arrivals) : Type 0 where
    pub labels : b.labels ≡ a.labels
    pub earliest : b.earliest ≡ a.earliest
    pub best : b.best ≡ a.best
    pub stamps : b.stop_stamp ≡ a.stop_stamp
    pub reaches : length b.seg_reach ≡ length a.seg_reach

  -- from a to b segment g is queued
  pub record Queued (g : Segment) (a b : Arrivals) : Type 0 where
    pub same : Same a b
    pub reached : b.reached ≡ a.reached
    pub queue : b.seg_queue ≡ a.seg_queue ++ (g ∷ [])

  -- from a to b stop s is reached at v, no earlier than before: only the best total may fall (an origin)
  pub record Heard (s v : ℕ) (a b : Arrivals) : Type 0 where
    pub late : at a s ≤ v
    pub labels : b.labels ≡ a.labels
    pub earliest : b.earliest ≡ a.earliest
    pub best : b.best ≡ best_after T Q s v a.best
    pub stamps : b.stop_stamp ≡ a.stop_stamp
    pub reached : b.reached ≡ a.reached
    pub queue : b.seg_queue ≡ a.seg_queue
    pub reaches : b.seg_reach ≡ a.seg_reach

  -- STEPS from a on, each with its reason J
  pub data Steps (J : ℕ → ℕ → Label → Type 0) (stamp : ℕ) (a : Arrivals) : Arrivals → Type 0 where
    stay : Steps J stamp a a
    improved : {b c : Arrivals} (s v : ℕ) (l : Label) → Steps J stamp a b → J s v l → reached_by l ≡ suc v → v < at b s → Improved stamp s v l b c
        → Steps J stamp a c
    heard : {b c : Arrivals} (s v : ℕ) (l : Label) → Steps J stamp a b → J s v l → Heard s v b c → Steps J stamp a c
    queued : {b c : Arrivals} (g : Segment) → Steps J stamp a b → Begins T Q g → Queued g b c → Steps J stamp a c

  -- from a to b a round ends: only the stops reached are listed anew, out of those that either phase reached
  pub record Ended (xs : List ℕ) (a b : Arrivals) : Type 0 where
    pub same : Same a b
    pub reached : (x : ℕ) → Memᴰ x b.reached → Memᴰ x a.reached ⊎ Memᴰ x xs
    pub few : length b.reached ≤ length a.reached + length xs
    pub queue : b.seg_queue ≡ a.seg_queue

  -- A RUN up to a stamp: the origins, then rounds, each of a ride phase and a walk phase
  pub data Run : ℕ → Arrivals → Type 0 where
    begun : {a : Arrivals} → Steps (Why 1) 1 (new_arrivals T Q) a → Run 1 a
    round : {stamp : ℕ} {a b c d : Arrivals} → Run stamp a → Steps (Rides (suc stamp)) (suc stamp) (emptied T Q [] a) b
        → Steps (Why (suc stamp)) (suc stamp) (emptied T Q b.seg_queue b) c → Ended b.reached c d → Run (suc stamp) d

  -- BOARDINGS from b on: each a scan of a permitted trip that is boarded so, from the departures or as a segment
  pub data Boards (round stamp : ℕ) (b : Boardings) : Boardings → Type 0 where
    none : Boards round stamp b b
    listed : {c : Boardings} (t o : ℕ) (y : BoardedRun) → Boards round stamp b c → permitted T Q t ≡ true → Boarded T Q t o y
        → Boards round stamp b (board T Q round stamp (delay_of Q t) t o y.departure c)
    segment : {c : Boardings} (g : Segment) → Boards round stamp b c → permitted T Q g.trip ≡ true → Begins T Q g
        → Boards round stamp b (logged T Q round g.trip g.offset c)

  -- no line is boarded yet
  abbrev pub cleared : Boardings → Boardings
  cleared b =
      record {
        trip_stamp = b.trip_stamp;
        board_offset = b.board_offset;
        board_departure = b.board_departure;
        line_boards = [];
        scans = b.scans;
        queued = b.queued;
      }

  -- a round ends, with n segments queued
  abbrev pub closed : ℕ → Boardings → Boardings
  closed n b =
      record {
        trip_stamp = b.trip_stamp;
        board_offset = b.board_offset;
        board_departure = b.board_departure;
        line_boards = b.line_boards;
        scans = b.scans;
        queued = n ∷ b.queued;
      }

  -- the boardings of a run of this many rounds
  pub data Books : ℕ → Boardings → Type 0 where
    new : Books 0 (new_boardings T Q)
    round : {r : ℕ} {b c : Boardings} (n : ℕ) → Books r b → Boards r (suc (suc r)) (cleared b) c → Books (suc r) (closed n c)

  -- predicates of boardings that a run keeps, after so many rounds
  pub record Books-kept (P : ℕ → Boardings → Type 0) : Type 0 where
    pub new : P 0 (new_boardings T Q)
    pub clears : {b : Boardings} (r : ℕ) → P r b → P (suc r) (cleared b)
    pub lists : {b : Boardings} (r stamp t o : ℕ) (y : BoardedRun) → permitted T Q t ≡ true → Boarded T Q t o y → P (suc r) b
        → P (suc r) (board T Q r stamp (delay_of Q t) t o y.departure b)
    pub segments : {b : Boardings} (r : ℕ) (g : Segment) → permitted T Q g.trip ≡ true → Begins T Q g → P (suc r) b
        → P (suc r) (logged T Q r g.trip g.offset b)
    pub closes : {b : Boardings} (r n : ℕ) → P (suc r) b → P (suc r) (closed n b)

  module _ {P : ℕ → Boardings → Type 0} (K : Books-kept P) where
    pub boards_keep : (r stamp : ℕ) {b c : Boardings} → Boards r stamp b c → P (suc r) b → P (suc r) c
    boards_keep r stamp none p = p
    boards_keep r stamp (listed t o y S w B) p = K.lists r stamp t o y w B (boards_keep r stamp S p)
    boards_keep r stamp (segment g S w G) p = K.segments r g w G (boards_keep r stamp S p)

    pub books_keep : {r : ℕ} {b : Boardings} → Books r b → P r b
    books_keep new = K.new
    books_keep (round {r} n B S) = K.closes r n (boards_keep r (suc (suc r)) S (K.clears r (books_keep B)))

  pub run_stamp : {stamp : ℕ} {a : Arrivals} → Run stamp a → 1 ≤ stamp
  run_stamp (begun S) = omega arith
  run_stamp (round R S W E) = omega arith

  pub lists_long : {stamp s : ℕ} {a b : Arrivals} → Lists stamp s a b → length b.stop_stamp ≡ length a.stop_stamp
  lists_long (again e p q) = ap length p
  lists_long {stamp} {s} {a = a} (anew n p q) = ap length p ∙ length-set a.stop_stamp s stamp

  lists_in : {stamp s : ℕ} {a b : Arrivals} → Lists stamp s a b → (x : ℕ) → Memᴰ x b.reached → Memᴰ x a.reached ⊎ (x ≡ s)
  lists_in (again e p q) x m = inl (rw q at m)
  lists_in {a = a} (anew n p q) x m =
      ⊎_elim (λ n. inl n) (λ n. inr (Memᴰ.eq_of_singleton n)) (Memᴰ.append_cases a.reached (rw q at m))

  pub improved_le : {stamp s v : ℕ} {l : Label} {b c : Arrivals} → Improved stamp s v l b c → v < at b s → (x : ℕ) → at c x ≤ at b x
  improved_le {s = s} {v = v} {b = b} i h x = rw i.earliest (set_le b.earliest s v x (omega arith))

  module _ {J : ℕ → ℕ → Label → Type 0} {stamp : ℕ} {a : Arrivals} where
    -- no earliest arrival rises
    pub steps_le : {b : Arrivals} → Steps J stamp a b → (x : ℕ) → at b x ≤ at a x
    steps_le stay x = le_refl _
    steps_le (improved s v l S j e h i) x = le_trans (improved_le i h x) (steps_le S x)
    steps_le (heard s v l S j h) x = rw h.earliest (steps_le S x)
    steps_le (queued g S q h) x = rw h.same.earliest (steps_le S x)

    -- a stop listed anew has its reason, and is reached no later
    pub steps_reached : {b : Arrivals} → Steps J stamp a b → (x : ℕ) → Memᴰ x b.reached
        → Memᴰ x a.reached ⊎ ((v : ℕ) × (l : Label) × J x v l × (at b x ≤ v))
    steps_reached stay x m = inl m
    steps_reached (improved {b} {c} s v l S j e h i) x m =
        ⊎_elim
        (λ n. ⊎_elim (λ k. inl k) (λ k. inr (k.0, k.1, k.2, le_trans (improved_le i h x) k.3)) (steps_reached S x n))
        (λ n. inr (v, l, subst (λ (y : ℕ). J y v l) (sym n) j, subst (λ (y : ℕ). at c y ≤ v) (sym n) (rw i.earliest (set_hit b.earliest s v))))
        (lists_in i.lists x m)
    steps_reached (heard s v l S j h) x m = rw h.earliest (steps_reached S x (rw h.reached at m))
    steps_reached (queued g S q h) x m = rw h.same.earliest (steps_reached S x (rw h.reached at m))

    -- a segment queued anew begins a ride
    pub steps_queue : {b : Arrivals} → Steps J stamp a b → (g : Segment) → Memᴰ g b.seg_queue → Memᴰ g a.seg_queue ⊎ Begins T Q g
    steps_queue stay g m = inl m
    steps_queue (improved s v l S j e h i) g m = steps_queue S g (rw i.queue at m)
    steps_queue (heard s v l S j h) g m = steps_queue S g (rw h.queue at m)
    steps_queue (queued {b} k S q h) g m =
        ⊎_elim (λ n. steps_queue S g n) (λ n. inr (subst (λ (z : Segment). Begins T Q z) (sym (Memᴰ.eq_of_singleton n)) q))
        (Memᴰ.append_cases b.seg_queue (rw h.queue at m))

  -- PREDICATES THAT A RUN KEEPS: every justified improvement keeps it, and so does what changes the best total or the queues only
  pub record Kept (P : ℕ → Arrivals → Type 0) : Type 0 where
    pub new : P 1 (new_arrivals T Q)
    pub improves : {stamp s v : ℕ} {l : Label} {a b : Arrivals} → Why stamp s v l → reached_by l ≡ suc v → v < at a s → Improved stamp s v l a b
        → P stamp a → P stamp b
    pub hears : {stamp s v : ℕ} {l : Label} {a b : Arrivals} → Why stamp s v l → Heard s v a b → P stamp a → P stamp b
    pub queues : {stamp : ℕ} {a b : Arrivals} → Same a b → P stamp a → P stamp b
    pub next : {stamp : ℕ} {a : Arrivals} → P stamp a → P (suc stamp) a

  module _ {P : ℕ → Arrivals → Type 0} (K : Kept P) where
    pub steps_keep : {J : ℕ → ℕ → Label → Type 0} {stamp : ℕ} {a b : Arrivals} → ((s v : ℕ) (l : Label) → J s v l → Why stamp s v l)
        → Steps J stamp a b → P stamp a → P stamp b
    steps_keep f stay p = p
    steps_keep f (improved s v l S j e h i) p = K.improves (f s v l j) e h i (steps_keep f S p)
    steps_keep f (heard s v l S j h) p = K.hears (f s v l j) h (steps_keep f S p)
    steps_keep f (queued g S q h) p = K.queues h.same (steps_keep f S p)

    -- a run keeps it
    pub run_keeps : {stamp : ℕ} {a : Arrivals} → Run stamp a → P stamp a
    run_keeps (begun S) = steps_keep (λ s v l j. j) S K.new
    run_keeps (round R S W E) =
        K.queues E.same
        (steps_keep (λ s v l j. j) W
        (K.queues (record { labels = refl; earliest = refl; best = refl; stamps = refl; reaches = refl })
        (steps_keep (λ s v l j. ride (omega (arith, run_stamp R)) j) S
        (K.queues (record { labels = refl; earliest = refl; best = refl; stamps = refl; reaches = refl }) (K.next (run_keeps R))))))
