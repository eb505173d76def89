-- BOUNDS of every admitted run, in both modes: no time of it comes near 2^27, every number lies in its table, and every table keeps
-- its length.
use Prim.Native.Nat.{ℕ, suc, ◌+◌, ◌≤◌, ◌<◌}
use mathlib.Core.Path.{◌≡◌, refl, sym, ap, subst, ◌∙◌}
use mathlib.Core.Logic.{◌⊎◌, inl, inr, ⊎_elim}
use mathlib.Core.Bool.{Bool, true, false, cond, ◌&&◌}
use mathlib.Core.List.Memᴰ
use mathlib.Core.List.{List, [], ◌∷◌, Memᴰ}
use native.Mathlib.Nat.{le_trans}
use native.Mathlib.Omega.{arith}
use lib.ListN.{length, get_or, length-set, length-replicate}
use lib.Dec.{ltb, eqb}
use borrow.Author.Tests.{eqb-true}
use Rattle.door.specs.Door.{time_limit}
use Rattle.loops.proofs.Iter.{and_left}
use Rattle.walk_time.proofs.Laws.{rounds_most}
use Rattle.frequency.specs.declared.BoardedRun.{BoardedRun}
use Rattle.stop_delay.specs.Times.{size_of}
use Rattle.label.specs.declared.Label.{Label}
use Rattle.model.specs.Tables.{Tables, Query, rounds_of, is_egress, egress_walk, never, stops, trips, stop_count, permitted}
use Rattle.model.specs.Search.{Segment, Arrivals, Boardings, at, reached_by, best_after, delay_of, prunable, board, emptied, final}
use Rattle.model.specs.Door.{Door}
use Rattle.answer_laws.specs.Lawful.{Boarded, Begins, latest, LabelFits, empty, access, transit, walk, latest_total, ScanFits}
use Rattle.answer_laws.proofs.Stores.{set_cases, get_d_replicate}
use Rattle.model.proofs.Base.{no_both}
use Rattle.answer_laws.proofs.Steps.{Rides, Why, ride, Same, Steps, Kept, Run, begun, round, run_stamp, steps_keep, steps_reached, steps_queue, Books-kept, books_keep}
use Rattle.answer_laws.proofs.Runs.{final_ran}
use Rattle.model.proofs.Sizes.{latest_boarding, boards_soon}
use Rattle.answer_laws.proofs.Labels.{label_at, begins_shift, rides_early, why_early}
use Rattle.answer_laws.proofs.Rows.{Known, unreached, reached, Rows, rows_up, rows_kept}

-- an egress stop's walk is listed
pub egress_listed : (es : List (ℕ × ℕ)) (s : ℕ) → is_egress es s ≡ true → Memᴰ (s, egress_walk es s) es
unfolding is_egress egress_walk
egress_listed [] s h = absurd (no_both h refl)
egress_listed (e ∷ es) s h = go (eqb e.0 s) refl h (egress_listed es s)
  where
    go : (b : Bool) → eqb e.0 s ≡ b → elim b as (λ z. Bool) [ true ↦ true | false ↦ is_egress es s ] ≡ true
        → (is_egress es s ≡ true → Memᴰ (s, egress_walk es s) es)
        → Memᴰ (s, elim b as (λ z. ℕ) [ true ↦ e.1 | false ↦ egress_walk es s ]) (e ∷ es)
    go true q h f = Memᴰ.head (ap (λ (x : ℕ). (x, e.1)) (sym (eqb-true _ _ q)))
    go false q h f = Memᴰ.tail (f h)

module _ (T : Tables) (Q : Query) where
  -- a queued segment, in numbers
  pub record SegmentFits (g : Segment) : Type 0 where
    pub trip : g.trip < trips T
    pub inside : g.offset < stop_count T g.trip
    pub stop : g.stop < stops T
    pub shifts : size_of g.shift ≤ time_limit

  -- ARRIVALS ANYWHERE IN A RUN, up to a stamp: label rows, the best total, the stops reached, the segments queued
  pub record Sound (stamp : ℕ) (a : Arrivals) : Type 0 where
    pub rows : Rows T Q stamp a
    pub best : (a.best ≡ never) ⊎ (a.best ≤ latest_total)
    pub reached : (x : ℕ) → Memᴰ x a.reached → x < stops T
    pub segments : (g : Segment) → Memᴰ g a.seg_queue → SegmentFits g

  abbrev Scans : ℕ → List (ℕ × ℕ × ℕ) → Type 0
  Scans n l = (r t o : ℕ) → Memᴰ (r, t, o) l → ScanFits T Q n r t o

  -- boardings after so many rounds: tables of their lengths, early departures, numbers in range
  pub record BoardingsFit (rounds : ℕ) (b : Boardings) : Type 0 where
    pub trip_stamp : length b.trip_stamp ≡ trips T
    pub board_offset : length b.board_offset ≡ trips T
    pub board_departure : length b.board_departure ≡ trips T
    pub offsets : (t : ℕ) → t < trips T → get_or b.board_offset t 0 < stop_count T t
    pub departures : (t : ℕ) → get_or b.board_departure t 0 ≤ latest_boarding
    pub line_boards : (t o : ℕ) → Memᴰ (t, o) b.line_boards → (t < trips T) × (o < stop_count T t)
    pub scans : (r t o : ℕ) → Memᴰ (r, t, o) b.scans → ScanFits T Q rounds r t o

module _ (T : Tables) (Q : Query) (D : Door T Q) where
  -- a label's arrival
  pub fits_early : {s row v : ℕ} {l : Label} → LabelFits T Q s row l → reached_by l ≡ suc v → v ≤ latest
  fits_early empty e = absurd (omega arith)
  fits_early (access f) e = omega (arith, f.arrival, D.start_small, D.origin_small f.origin f.listed)
  fits_early (transit f) e = omega (arith, f.arrives)
  fits_early (walk f) e = omega (arith, f.arrives)

  -- an earliest arrival is none, or a label's
  pub rows_early : (top : ℕ) (a : Arrivals) → top ≤ 13 → Rows T Q top a → (s : ℕ) → s < stops T → (at a s ≡ never) ⊎ (at a s ≤ latest)
  rows_early top a h R s u = go (R.known s u)
    where
      go : Known top a s → (at a s ≡ never) ⊎ (at a s ≤ latest)
      go (unreached n f) = inl n
      go (reached row c f) = inr (fits_early (R.fits s row u (omega arith)) f)

  -- the best total
  best-after : (s v b : ℕ) → v ≤ latest → (b ≡ never) ⊎ (b ≤ latest_total) → (best_after T Q s v b ≡ never) ⊎ (best_after T Q s v b ≤ latest_total)
  unfolding best_after
  best-after s v b u p = go (is_egress Q.egress s && ltb (v + egress_walk Q.egress s) b) refl
    where
      go : (x : Bool) → (is_egress Q.egress s && ltb (v + egress_walk Q.egress s) b) ≡ x
          → (cond x (v + egress_walk Q.egress s) b ≡ never) ⊎ (cond x (v + egress_walk Q.egress s) b ≤ latest_total)
      go true h = inr (omega (arith, D.egress_small s (egress_walk Q.egress s) (egress_listed Q.egress s (and_left _ _ h))))
      go false h = p

  pub best_kept : Kept T Q (λ stamp a. (a.best ≡ never) ⊎ (a.best ≤ latest_total))
  best_kept =
      record {
        new = inl refl;
        improves = λ {stamp} {s} {v} {l} {a} {b} w e h i p. rw i.best (best-after s v a.best (why_early T Q D w).1 p);
        hears = λ {stamp} {s} {v} {l} {a} {b} w h p. rw h.best (best-after s v a.best (why_early T Q D w).1 p);
        queues = λ h p. rw h.best p;
        next = λ p. p;
      }

  pub begins_fits : (g : Segment) → Begins T Q g → SegmentFits T Q g
  begins_fits g G =
      record {
        trip = G.boarded.trip;
        inside = G.boarded.inside;
        stop = rw G.stop (D.stop_in g.trip g.offset G.boarded.trip G.boarded.inside);
        shifts = begins_shift T Q D g G;
      }

  -- steps keep it
  pub sound_steps : {J : ℕ → ℕ → Label → Type 0} {stamp : ℕ} {a b : Arrivals} → stamp ≤ 13 → ((s v : ℕ) (l : Label) → J s v l → Why T Q stamp s v l)
      → Steps T Q J stamp a b
      → Sound T Q stamp a → Sound T Q stamp b
  sound_steps u f S A =
      record {
        rows = steps_keep T Q (rows_kept T Q D) f S (λ u. A.rows) u;
        best = steps_keep T Q best_kept f S A.best;
        reached = λ x m. ⊎_elim (λ n. A.reached x n) (λ k. (why_early T Q D (f x k.0 k.1 k.2)).0) (steps_reached T Q S x m);
        segments = λ g m. ⊎_elim (λ n. A.segments g n) (λ G. begins_fits g G) (steps_queue T Q S g m);
      }

  sound_same : {stamp : ℕ} {a b : Arrivals} → stamp ≤ 13 → Same T Q a b → ((x : ℕ) → Memᴰ x b.reached → x < stops T)
      → ((g : Segment) → Memᴰ g b.seg_queue → SegmentFits T Q g)
      → Sound T Q stamp a → Sound T Q stamp b
  sound_same {stamp} u h r q A =
      record {
        rows = (rows_kept T Q D).queues {stamp = stamp} h (λ u. A.rows) u;
        best = best_kept.queues {stamp = stamp} h A.best;
        reached = r;
        segments = q;
      }

  still : (q : List Segment) (a : Arrivals) → Same T Q a (emptied T Q q a)
  still q a = record { labels = refl; earliest = refl; best = refl; stamps = refl; reaches = refl }

  -- as a ride phase begins, as a walk phase begins
  pub sound_ride : (stamp : ℕ) (a : Arrivals) → suc stamp ≤ 13 → Sound T Q stamp a → Sound T Q (suc stamp) (emptied T Q [] a)
  sound_ride stamp a u A =
      sound_same u (still [] a) (λ x m. absurd (Memᴰ.not-nil m)) (λ g m. absurd (Memᴰ.not-nil m))
      (record { rows = rows_up T Q stamp (suc stamp) a (omega arith) A.rows; best = A.best; reached = A.reached; segments = A.segments })

  pub sound_walk : (stamp : ℕ) (a : Arrivals) → stamp ≤ 13 → Sound T Q stamp a → Sound T Q stamp (emptied T Q a.seg_queue a)
  sound_walk stamp a u A = sound_same u (still a.seg_queue a) (λ x m. absurd (Memᴰ.not-nil m)) A.segments A

  -- after the origins, and after each round
  pub run_sound : {stamp : ℕ} {a : Arrivals} → Run T Q stamp a → stamp ≤ 13 → Sound T Q stamp a
  run_sound (begun S) u =
      sound_steps u (λ s v l j. j) S
      (record {
        rows = (rows_kept T Q D).new u;
        best = inl refl;
        reached = λ x m. absurd (Memᴰ.not-nil m);
        segments = λ g m. absurd (Memᴰ.not-nil m);
      })
  run_sound (round {stamp} {a} {b} {c} R S W E) u =
      let B = sound_steps u (λ s v l j. ride (omega (arith, run_stamp T Q R)) j) S (sound_ride stamp a u (run_sound R (omega arith))) in
      let C = sound_steps u (λ s v l j. j) W (sound_walk (suc stamp) b u B) in
      sound_same u E.same (λ x m. ⊎_elim (λ n. C.reached x n) (λ n. B.reached x n) (E.reached x m)) (rw E.queue C.segments) C

  -- anywhere in the ride phase, and in the walk phase, of the next round
  pub ride_sound : {stamp : ℕ} {a b : Arrivals} → Run T Q stamp a → suc stamp ≤ 13
      → Steps T Q (Rides T Q (suc stamp)) (suc stamp) (emptied T Q [] a) b
      → Sound T Q (suc stamp) b
  ride_sound {stamp} {a} R u S =
      sound_steps u (λ s v l j. ride (omega (arith, run_stamp T Q R)) j) S (sound_ride stamp a u (run_sound R (omega arith)))

  -- a stop reached in a ride phase is reached by the latest boarding, so each walk begins by then
  pub reached_early : {stamp : ℕ} {b : Arrivals} (a : Arrivals) → Steps T Q (Rides T Q stamp) stamp (emptied T Q [] a) b → (x : ℕ)
      → Memᴰ x b.reached → at b x ≤ latest_boarding
  reached_early a S x m = ⊎_elim (λ n. absurd (Memᴰ.not-nil n)) (λ k. le_trans k.3 (rides_early T Q D k.2).1) (steps_reached T Q S x m)

  scan_in : (n r t o : ℕ) → ScanFits T Q n r t o → (l : List (ℕ × ℕ × ℕ)) → Scans T Q n l → Scans T Q n ((r, t, o) ∷ l)
  scan_in n r t o F l S q x p m =
      ⊎_elim
      (λ e. subst (λ (z : ℕ × ℕ × ℕ). ScanFits T Q n z.0 z.1 z.2) (sym e) F)
      (λ k. S q x p k)
      (Memᴰ.cases_cons m)

  boards_on : {b : Boardings} (r stamp t o : ℕ) (y : BoardedRun) → permitted T Q t ≡ true → Boarded T Q t o y → BoardingsFit T Q (suc r) b
      → BoardingsFit T Q (suc r) (board T Q r stamp (delay_of Q t) t o y.departure b)
  unfolding board
  boards_on {b} r stamp t o y w B F =
      record {
        trip_stamp = length-set b.trip_stamp t stamp ∙ F.trip_stamp;
        board_offset = length-set b.board_offset t o ∙ F.board_offset;
        board_departure = length-set b.board_departure t y.departure ∙ F.board_departure;
        offsets = λ x u. ⊎_elim (λ p. rw (p.1, p.0) B.inside) (λ p. rw p (F.offsets x u)) (set_cases b.board_offset t o x 0);
        departures = λ x. ⊎_elim (λ p. rw p.1 early) (λ p. rw p (F.departures x)) (set_cases b.board_departure t y.departure x 0);
        line_boards = go (prunable T Q (delay_of Q t) t);
        scans = scan_in (suc r) r t o (record { round = omega arith; trip = B.trip; inside = B.inside; permits = w }) b.scans F.scans;
      }
    where
      early : y.departure ≤ latest_boarding
      early = (boards_soon T Q D t o B.trip B.inside B.after y B.boards).departs

      go : (x : Bool) (u p : ℕ) → Memᴰ (u, p) (cond x ((t, o) ∷ b.line_boards) b.line_boards) → (u < trips T) × (p < stop_count T u)
      go true u p m =
          ⊎_elim
          (λ e. subst (λ (z : ℕ × ℕ). (z.0 < trips T) × (z.1 < stop_count T z.0)) (sym e) (B.trip, B.inside))
          (λ n. F.line_boards u p n)
          (Memᴰ.cases_cons m)
      go false u p m = F.line_boards u p m

  -- only the line boards and the log change
  refit : {n m : ℕ} {b c : Boardings} → c.trip_stamp ≡ b.trip_stamp → c.board_offset ≡ b.board_offset → c.board_departure ≡ b.board_departure
      → ((t o : ℕ) → Memᴰ (t, o) c.line_boards → (t < trips T) × (o < stop_count T t)) → Scans T Q m c.scans → BoardingsFit T Q n b
      → BoardingsFit T Q m c
  refit p q r l s F =
      record {
        trip_stamp = ap length p ∙ F.trip_stamp;
        board_offset = ap length q ∙ F.board_offset;
        board_departure = ap length r ∙ F.board_departure;
        offsets = rw q F.offsets;
        departures = rw r F.departures;
        line_boards = l;
        scans = s;
      }

  pub boardings_kept : Books-kept T Q (BoardingsFit T Q)
  boardings_kept =
      record {
        new = record {
          trip_stamp = length-replicate (trips T) 0;
          board_offset = length-replicate (trips T) 0;
          board_departure = length-replicate (trips T) 0;
          offsets = λ t u. rw (get_d_replicate {A = ℕ} (trips T) t 0) (D.counted t u);
          departures = λ t. rw (get_d_replicate {A = ℕ} (trips T) t 0) (omega arith);
          line_boards = λ t o m. absurd (Memᴰ.not-nil m);
          scans = λ r t o m. absurd (Memᴰ.not-nil m);
        };
        clears = λ r F. refit refl refl refl (λ t o m. absurd (Memᴰ.not-nil m)) (λ q t o m. later r (F.scans q t o m)) F;
        lists = boards_on;
        segments = λ {b} r g w G F. refit refl refl refl F.line_boards
            (scan_in (suc r) r g.trip g.offset (record {
              round = omega arith;
              trip = G.boarded.trip;
              inside = G.boarded.inside;
              permits = w;
            }) b.scans F.scans) F;
        closes = λ r n F. refit refl refl refl F.line_boards F.scans F;
      }
    where
      later : {q t o : ℕ} (r : ℕ) → ScanFits T Q r q t o → ScanFits T Q (suc r) q t o
      later r F = record { round = omega (arith, F.round); trip = F.trip; inside = F.inside; permits = F.permits }

  -- OF EVERY ADMITTED RUN'S END
  module _ (flagged : Bool) where
    abbrev end : Arrivals
    end = (final T Q flagged).arrivals

    -- rows are filled up to the round count only; times, stops, segments and lengths as above
    pub final_sound : Sound T Q (suc (rounds_of Q)) end
    final_sound =
        let R = final_ran T Q D flagged in
        let n = rounds_most Q.wanted_rounds Q.transfers in
        let A = run_sound R.2.arrivals (omega (arith, R.1, n)) in
        record {
          rows = rows_up T Q (suc R.0) (suc (rounds_of Q)) end (omega (arith, R.1)) A.rows;
          best = A.best;
          reached = A.reached;
          segments = A.segments;
        }

    -- each stop's earliest arrival is none, or at most 108,003,224
    pub final_earliest : (s : ℕ) → s < stops T → (at end s ≡ never) ⊎ (at end s ≤ latest)
    final_earliest = rows_early (suc (rounds_of Q)) end (omega (arith, rounds_most Q.wanted_rounds Q.transfers)) final_sound.rows

    -- the best total is none, or at most 109,051,799
    pub final_best : (end.best ≡ never) ⊎ (end.best ≤ latest_total)
    final_best = final_sound.best

    -- each label's arrival is at most 108,003,224
    pub final_arrival : (s row v : ℕ) → s < stops T → row < 13 → reached_by (label_at end s row) ≡ suc v → v ≤ latest
    final_arrival s row v u n e = fits_early (final_sound.rows.fits s row u n) e

    -- boardings
    pub final_boardings : BoardingsFit T Q (rounds_of Q) (final T Q flagged).boardings
    final_boardings =
        let R = final_ran T Q D flagged in
        let F = books_keep T Q boardings_kept R.2.boardings in
        refit refl refl refl F.line_boards
        (λ q t o m. let z = F.scans q t o m in record {
          round = omega (arith, z.round, R.1);
          trip = z.trip;
          inside = z.inside;
          permits = z.permits;
        }) F
