-- The model's search loses no arrival and no segment: what it makes of arrivals is no later at any stop, and queues no fewer. Assumes nothing.
use Prim.Native.Nat.{ℕ, zero, suc, ◌+◌, ◌-◌, ◌≤◌}
use mathlib.Core.Path.{◌≡◌, refl}
use mathlib.Core.Bool.{Bool, true, false, not, cond, ◌&&◌, ◌||◌}
use mathlib.Core.List.{List, [], ◌∷◌}
use Rattle.std.specs.Prelude.{Option, None, Some}
use native.Mathlib.Omega.{arith}
use native.Mathlib.Nat.{le_refl, le_trans}
use lib.ListN.{length, get_or}
use lib.Dec.{ltb, leb, eqb}
use borrow.Author.Tests.{ltb-true}
use Rattle.loops.specs.Iter.{Hit}
use Rattle.frequency.specs.declared.BoardedRun.{BoardedRun}
use Rattle.label.specs.declared.Label.{Label}
use Rattle.label.specs.declared.Label.TheVariants.{Transit, Walk}
use Rattle.label.specs.Label.{no_distance}
use Rattle.departures.specs.declared.DepartureRow.{DepartureRow}
use Rattle.event_transfers.specs.Transfers.{Transfer}
use Rattle.model.specs.Tables.{never, Tables, Query, change_before, stop_count, stop_at, departure, no_drop_off, no_windows, edges_from, edge_to, walk_time, permitted}
use Rattle.model.specs.Search.{Segment, Arrivals, State, at, holds_target, departures_at, mark_at, not_before, delay_of, skipped, arrival_now, margin_of, improve, relax, resolve, enqueue, take_transfers, alightings, transferring, scan_trip_forward, logged, ride_segments, boarding, board, scan_departures, scan_stops, walk_from, walk_all}
use Rattle.answer_laws.proofs.Moves.{pushed}
use Rattle.answer_laws.proofs.Stores.{set_le}
use Rattle.trip_scan.proofs.Taking.{enqueue_grows}

-- b is no later than a at any stop, and has no fewer segments queued
pub record Later (a b : Arrivals) : Type 0 where
  pub earlier : (x : ℕ) → at b x ≤ at a x
  pub queue : length a.seg_queue ≤ length b.seg_queue

pub later_refl : (a : Arrivals) → Later a a
later_refl a = record { earlier = λ x. le_refl _; queue = le_refl _ }

pub later_trans : {a b c : Arrivals} → Later a b → Later b c → Later a c
later_trans p q = record { earlier = λ x. le_trans (q.earlier x) (p.earlier x); queue = le_trans p.queue q.queue }

module _ (T : Tables) (Q : Query) where
  -- an arrival that is tried
  pub relax_later : (stamp s v : ℕ) (l : Label) (a : Arrivals) → Later a (relax T Q stamp s v l a)
  unfolding relax improve
  relax_later stamp s v l a = go (ltb v (at a s)) refl
    where
      go : (b : Bool) → ltb v (at a s) ≡ b → Later a (cond b (improve T Q stamp s v l a) a)
      go true e = record { earlier = λ x. set_le a.earliest s v x (omega (arith, ltb-true v (at a s) e)); queue = le_refl _ }
      go false e = later_refl a

  -- a segment that is queued, or not
  pub enqueue_later : (t o s shift : ℕ) (a : Arrivals) → Later a (enqueue T Q t o s shift a)
  unfolding enqueue
  enqueue_later t o s shift a = record { earlier = go (not (no_windows T t) || ltb o (get_or a.seg_reach t 0)); queue = enqueue_grows T Q t o s shift a }
    where
      go : (b : Bool) (x : ℕ) → at (elim b as (λ z. Arrivals) [ false ↦ a | true ↦ pushed T Q (no_windows T t) t o s shift a ]) x ≤ at a x
      go true x = le_refl _
      go false x = le_refl _

  -- the transfers of one stop event
  pub take_later : (stamp v x : ℕ) (es : List Transfer) (a : Arrivals) → Later a (take_transfers T Q stamp v x es a)
  unfolding take_transfers
  take_later stamp v x [] a = later_refl a
  take_later stamp v x (e ∷ es) a = go (holds_target T Q e.pattern) (resolve T Q e (v + e.time) a.best) (λ c. take_later stamp v x es c)
    where
      arrived : ℕ × BoardedRun → Arrivals
      arrived b =
          let s : ℕ = stop_at T b.0 e.offset in
          let d : ℕ = b.1.departure in
          relax T Q stamp s d (Walk d x s e.time no_distance (stamp - 1)) a

      next : ℕ × BoardedRun → Arrivals
      next b = enqueue T Q b.0 e.offset (stop_at T b.0 e.offset) b.1.time_shift_s (arrived b)

      go : (h : Bool) (r : Option (ℕ × BoardedRun)) → ((c : Arrivals) → Later c (take_transfers T Q stamp v x es c))
          → Later a (elim h [
            | false ↦ take_transfers T Q stamp v x es a
            | true ↦ elim r [ None ↦ take_transfers T Q stamp v x es a | Some b ↦ take_transfers T Q stamp v x es (next b) ]
          ])
      go false r on = on a
      go true None on = on a
      go true (Some b) on =
          later_trans (later_trans (relax_later stamp _ _ _ a) (enqueue_later b.0 e.offset _ b.1.time_shift_s (arrived b))) (on (next b))

  -- alighting at the stops of a trip
  pub alightings_later : (stamp : ℕ) (adj : Hit) (shift t s o k p : ℕ) (a : Arrivals) → Later a (alightings T Q stamp adj shift t s o k p a)
  unfolding alightings
  alightings_later stamp adj shift t s o zero p a = later_refl a
  alightings_later stamp adj shift t s o (suc k) p a =
      go (no_drop_off T t p || skipped T Q adj t p) (ltb v a.best) (λ c. alightings_later stamp adj shift t s o k (suc p) c)
    where
      v : ℕ
      v = arrival_now T Q adj shift t p

      next : Arrivals
      next = relax T Q stamp (stop_at T t p) v (Transit v t s o p (stamp - 2) shift) a

      go : (b c : Bool) → ((c : Arrivals) → Later c (alightings T Q stamp adj shift t s o k (suc p) c))
          → Later a (elim b [
            | true ↦ alightings T Q stamp adj shift t s o k (suc p) a
            | false ↦ elim c [ false ↦ a | true ↦ alightings T Q stamp adj shift t s o k (suc p) next ]
          ])
      go true c on = on a
      go false false on = later_refl a
      go false true on = later_trans (relax_later stamp (stop_at T t p) v _ a) (on next)

  -- the transfers at them
  pub transferring_later : (stamp : ℕ) (adj : Hit) (shift t k p : ℕ) (a : Arrivals) → Later a (transferring T Q stamp adj shift t k p a)
  unfolding transferring
  transferring_later stamp adj shift t zero p a = later_refl a
  transferring_later stamp adj shift t (suc k) p a =
      go (no_drop_off T t p) (ltb v a.best) (λ c. transferring_later stamp adj shift t k (suc p) c)
    where
      v : ℕ
      v = arrival_now T Q adj shift t p

      next : Arrivals
      next = take_transfers T Q stamp v (stop_at T t p) (T.transfers t p) a

      go : (b c : Bool) → ((c : Arrivals) → Later c (transferring T Q stamp adj shift t k (suc p) c))
          → Later a (elim b [
            | true ↦ transferring T Q stamp adj shift t k (suc p) a
            | false ↦ elim c [ false ↦ a | true ↦ transferring T Q stamp adj shift t k (suc p) next ]
          ])
      go true c on = on a
      go false false on = later_refl a
      go false true on = later_trans (take_later stamp v (stop_at T t p) (T.transfers t p) a) (on next)

  -- the scan of a trip
  pub scan_later : (flagged : Bool) (stamp : ℕ) (adj : Hit) (shift t s o : ℕ) (a : Arrivals)
      → Later a (scan_trip_forward T Q flagged stamp adj shift t s o a)
  unfolding scan_trip_forward
  scan_later true stamp adj shift t s o a =
      later_trans (alightings_later stamp adj shift t s o (stop_count T t - suc o) (suc o) a)
      (transferring_later stamp adj shift t (stop_count T t - suc o) (suc o) _)
  scan_later false stamp adj shift t s o a = alightings_later stamp adj shift t s o (stop_count T t - suc o) (suc o) a

  -- the segments
  pub segments_later : (flagged : Bool) (round stamp : ℕ) (gs : List Segment) (s : State)
      → Later s.arrivals (ride_segments T Q flagged round stamp gs s).arrivals
  unfolding ride_segments
  segments_later flagged round stamp [] s = later_refl _
  segments_later flagged round stamp (g ∷ gs) s = go (permitted T Q g.trip) (λ z. segments_later flagged round stamp gs z)
    where
      next : State
      next =
          record {
            arrivals = scan_trip_forward T Q flagged stamp (delay_of Q g.trip) g.shift g.trip g.stop g.offset s.arrivals;
            boardings = logged T Q round g.trip g.offset s.boardings;
          }

      go : (b : Bool) → ((z : State) → Later z.arrivals (ride_segments T Q flagged round stamp gs z).arrivals)
          → Later s.arrivals (elim b as (λ z. State) [
            | false ↦ ride_segments T Q flagged round stamp gs s
            | true ↦ ride_segments T Q flagged round stamp gs next
          ]).arrivals
      go false on = on s
      go true on = later_trans (scan_later flagged stamp (delay_of Q g.trip) g.shift g.trip g.stop g.offset s.arrivals) (on next)

  -- the departures of a stop
  pub departures_later : (flagged has_freq : Bool) (round stamp x after : ℕ) (ds : List DepartureRow) (s : State)
      → Later s.arrivals (scan_departures T Q flagged has_freq round stamp x after ds s).arrivals
  unfolding scan_departures
  departures_later flagged has_freq round stamp x after [] s = later_refl _
  departures_later flagged has_freq round stamp x after (d ∷ ds) s =
      go (not has_freq && leb (s.arrivals.best + margin_of T Q) (departure T d.trip d.offset))
      (boarding T Q stamp after (delay_of Q d.trip) d.trip d.offset s) (λ z. departures_later flagged has_freq round stamp x after ds z)
    where
      next : BoardedRun → State
      next b =
          record {
            arrivals = scan_trip_forward T Q flagged stamp (delay_of Q d.trip) b.time_shift_s d.trip x d.offset s.arrivals;
            boardings = board T Q round stamp (delay_of Q d.trip) d.trip d.offset b.departure s.boardings;
          }

      go : (y : Bool) (f : Option BoardedRun) → ((z : State) → Later z.arrivals (scan_departures T Q flagged has_freq round stamp x after ds z).arrivals)
          → Later s.arrivals (elim y as (λ z. State) [
            | true ↦ s
            | false ↦ elim f as (λ z. State) [
              | None ↦ scan_departures T Q flagged has_freq round stamp x after ds s
              | Some b ↦ scan_departures T Q flagged has_freq round stamp x after ds (next b)
            ]
          ]).arrivals
      go true f on = later_refl _
      go false None on = on s
      go false (Some b) on =
          later_trans (scan_later flagged stamp (delay_of Q d.trip) b.time_shift_s d.trip x d.offset s.arrivals) (on (next b))

  -- the stops reached before
  pub stops_later : (flagged : Bool) (round stamp : ℕ) (xs : List ℕ) (s : State)
      → Later s.arrivals (scan_stops T Q flagged round stamp xs s).arrivals
  unfolding scan_stops
  stops_later flagged round stamp [] s = later_refl _
  stops_later flagged round stamp (x ∷ xs) s =
      go (eqb (at s.arrivals x) never || leb s.arrivals.best after) (mark_at T x) (λ z. stops_later flagged round stamp xs z)
    where
      after : ℕ
      after = at s.arrivals x + change_before Q round

      listed : List DepartureRow
      listed = not_before T (after - margin_of T Q) (departures_at T x)

      next : Bool → List DepartureRow → State
      next has_freq ds = scan_departures T Q flagged has_freq round stamp x after ds s

      one : (has_freq : Bool) (ds : List DepartureRow) → Later s.arrivals (next has_freq ds).arrivals
      one has_freq ds = departures_later flagged has_freq round stamp x after ds s

      go : (y m : Bool) → ((z : State) → Later z.arrivals (scan_stops T Q flagged round stamp xs z).arrivals)
          → Later s.arrivals (elim y as (λ z. State) [
            | true ↦ scan_stops T Q flagged round stamp xs s
            | false ↦ elim m as (λ z. State) [
              | true ↦ scan_stops T Q flagged round stamp xs (next true (departures_at T x))
              | false ↦ scan_stops T Q flagged round stamp xs (next false listed)
            ]
          ]).arrivals
      go true m on = on s
      go false true on = later_trans (one true (departures_at T x)) (on (next true (departures_at T x)))
      go false false on = later_trans (one false listed) (on (next false listed))

  -- the walk edges of a stop
  pub edges_later : (flagged : Bool) (stamp x v : ℕ) (es : List ℕ) (a : Arrivals) → Later a (walk_from T Q flagged stamp x v es a)
  unfolding walk_from
  edges_later flagged stamp x v [] a = later_refl a
  edges_later flagged stamp x v (e ∷ es) a =
      go (flagged && not (holds_target T Q (T.timetable.edge e).pattern)) (ltb w a.best) (λ c. edges_later flagged stamp x v es c)
    where
      w : ℕ
      w = v + walk_time T Q e

      next : Arrivals
      next = relax T Q stamp (edge_to T e) w (Walk w x (edge_to T e) (walk_time T Q e) (T.distance e) (stamp - 1)) a

      go : (y z : Bool) → ((c : Arrivals) → Later c (walk_from T Q flagged stamp x v es c))
          → Later a (elim y [
            | true ↦ walk_from T Q flagged stamp x v es a
            | false ↦ elim z [ false ↦ walk_from T Q flagged stamp x v es a | true ↦ walk_from T Q flagged stamp x v es next ]
          ])
      go true z on = on a
      go false false on = on a
      go false true on = later_trans (relax_later stamp (edge_to T e) w _ a) (on next)

  -- of all stops reached
  pub walks_later : (flagged : Bool) (stamp : ℕ) (xs : List ℕ) (a : Arrivals) → Later a (walk_all T Q flagged stamp xs a)
  unfolding walk_all
  walks_later flagged stamp [] a = later_refl a
  walks_later flagged stamp (x ∷ xs) a =
      later_trans (edges_later flagged stamp x (at a x) (edges_from T x) a) (walks_later flagged stamp xs _)
