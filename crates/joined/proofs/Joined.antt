-- Every ride of an admitted run is joined to a label of the stop where it was boarded (specs/Joined), function by function.
-- A label is replaced only by an earlier one of the same stop and row; so what was in time stays in time.
use Prim.Native.Nat.{ℕ, zero, suc, ◌+◌, ◌*◌, ◌-◌, ◌≤◌, ◌<◌}
use mathlib.Core.Path.{◌≡◌, refl, sym, ap, subst, ◌∙◌}
use mathlib.Core.Logic.{◌⊎◌, inl, inr, ⊎_elim}
use mathlib.Core.Bool.{Bool, true, false, cond, ◌&&◌, ◌||◌, not}
use mathlib.Core.List.Memᴰ
use mathlib.Core.List.{List, [], ◌∷◌, ◌++◌, Memᴰ}
use Rattle.std.specs.Prelude.{Option, None, Some}
use native.Mathlib.Nat.{le_trans}
use native.Mathlib.Omega.{arith}
use lib.ListN.{length, get_or, set, length-set, length-replicate}
use lib.Dec.{ltb, leb, eqb}
use lib.Ieee.{Float}
use borrow.Author.Tests.{ltb-true, ltb-false, eqb-true, eqb-false}
use Rattle.loops.specs.Iter.{Hit}
use Rattle.walk_time.proofs.Laws.{rounds_most}
use Rattle.frequency.specs.declared.BoardedRun.{BoardedRun}
use Rattle.frequency.specs.Gtfs.{board_ordinary, earliest_freq_board}
use Rattle.frequency.proofs.Reading.{board_is}
use Rattle.label.specs.declared.Label.{Label}
use Rattle.label.specs.declared.Label.TheVariants.{Empty, Access, Transit, Walk}
use Rattle.label.specs.Label.{no_distance}
use Rattle.label.specs.Table.{record_of}
use Rattle.departures.specs.declared.DepartureRow.{DepartureRow}
use Rattle.event_transfers.specs.Transfers.{Transfer}
use Rattle.model.specs.Tables.{Tables, Origin, Query, rounds_of, change_before, never, stops, stop_count, stop_at, departure, no_pickup, no_drop_off, no_windows, edges_from, edge_to, walk_time, permitted}
use Rattle.model.specs.Search.{Segment, Arrivals, State, at, reached_by, delay_of, skipped, board_at, departure_now, arrival_now, trip_window, margin_of, holds_target, departures_at, mark_at, not_before, best_after, improve, relax, resolve, enqueue, take_transfers, alightings, transferring, scan_trip_forward, logged, ride_segments, pruned, passed_over, boarding, board, scan_departures, scan_stops, walk_from, walk_all, emptied, round_start, ride_phase, walk_phase, idle, rounds, set_out, access, new_arrivals, begin, final, search_answer, use_arc_flags, flags_in_use, run_tbr, query}
use Rattle.model.specs.Door.{Door}
use Rattle.joined.specs.Joined.{InTime, BoardedFrom, Joined, BoardedBy, JoinedByDeparture}
use Rattle.answer_laws.proofs.Stores.{set_cases, set_there, set_le, lt_get_d, get_d_replicate, get_d_replicate_in}
use Rattle.model.proofs.Base.{no_both}
use Rattle.model.proofs.Sizes.{boards_soon}
use Rattle.answer_laws.proofs.Phases.{Found, found, resolve_finds}
use Rattle.answer_laws.proofs.Runs.{later_at_stop}

-- a stop's label in a row
abbrev label-in : List Label → ℕ → ℕ → Label
label-in labels s row = get_or labels (record_of s row) Empty

-- what was in time with these labels is in time with those, in the rows that there are
abbrev Stays : List Label → List Label → Type 0
Stays before after = (row x change time : ℕ) → row < 13 → InTime before row x change time → InTime after row x change time

module _ (T : Tables) (Q : Query) where
  from_kept : {ls ms : List Label} {row x t o r shift : ℕ} → Stays ls ms → row < 13 → BoardedFrom T Q ls row x t o r shift
      → BoardedFrom T Q ms row x t o r shift
  from_kept {row = row} {x = x} {r = r} k n B =
      record {
        after = B.after;
        reaches = k row x (change_before Q r) B.after n B.reaches;
        boarding = B.boarding;
        boards = B.boards;
        shift_is = B.shift_is;
        departs = B.departs;
      }

  by_kept : {ls ms : List Label} {row x t o shift : ℕ} → Stays ls ms → row < 13 → BoardedBy T Q ls row x t o shift → BoardedBy T Q ms row x t o shift
  by_kept {row = row} {x = x} k n B =
      record {
        after = B.after;
        boarding = B.boarding;
        boards = B.boards;
        shift_is = B.shift_is;
        reaches = k row x 0 B.boarding.departure n B.reaches;
      }

  -- a segment that may be boarded
  abbrev Ready : List Label → ℕ → Segment → Type 0
  Ready ls row g = BoardedBy T Q ls row g.stop g.trip g.offset g.shift

  -- a boarding departs no sooner than a time
  data Since (after : ℕ) : Option BoardedRun → Type 0 where
    no_boarding : Since after None
    since : {b : BoardedRun} → after ≤ b.departure → Since after (Some b)

  -- a trip is boarded no sooner than was asked
  pub boards_after : (t o after : ℕ) (b : BoardedRun) → board_at T Q (delay_of Q t) t o after ≡ Some b → after ≤ b.departure
  unfolding board_at
  boards_after t o after b f = of (subst (Since after) f (go (no_windows T t) (ltb dep after) refl))
    where
      dep : ℕ
      dep = departure_now T Q (delay_of Q t) t o

      of : Since after (Some b) → after ≤ b.departure
      of (since h) = h

      frequent : (y : Option BoardedRun) → earliest_freq_board (T.timetable.trip t).windows (trip_window T t) (departure T t 0) dep after ≡ y → Since after y
      frequent None e = no_boarding
      frequent (Some c) e =
          let E = board_is (trip_window T t) (departure T t 0) dep after (T.timetable.trip t).windows c e in
          since {b = c} (omega (arith, E.departs, E.boards.wanted))

      go : (x y : Bool) → ltb dep after ≡ y → Since after (elim x [
        | true ↦ elim y [
          | true ↦ None
          | false ↦ Some (board_ordinary (departure T t o) dep after)
        ]
        | false ↦ earliest_freq_board (T.timetable.trip t).windows (trip_window T t) (departure T t 0) dep after
      ])
      go true true e = no_boarding
      go true false e =
          since {b = board_ordinary (departure T t o) dep after} (ltb-false dep after e)
      go false y e = frequent _ refl

  -- a stop's earliest arrival is none, or that of a label in a row below
  data Known (below : ℕ) (a : Arrivals) (s : ℕ) : Type 0 where
    unreached : at a s ≡ never → Known below a s
    reached : (row : ℕ) → row < below → reached_by (label-in a.labels s row) ≡ suc (at a s) → Known below a s

  module _ (flagged : Bool) where
    -- how a ride began: by a listed departure or, with arc flags, by a transfer
    data Began (labels : List Label) (row x t o r shift : ℕ) : Type 0 where
      listed : BoardedFrom T Q labels row x t o r shift → Began labels row x t o r shift
      transferred : flagged ≡ true → BoardedBy T Q labels row x t o shift → Began labels row x t o r shift

    -- a label in a row: if it is a ride's, the ride began so
    data Backed (labels : List Label) (row : ℕ) : Label → Type 0 where
      empty : Backed labels row Empty
      accessed : {x v d : ℕ} {f : Float} → Backed labels row (Access x v d f)
      rode : {v t x o p r shift : ℕ} → Began labels row x t o r shift → Backed labels row (Transit v t x o p r shift)
      walked : {v x y d r : ℕ} {f : Float} → Backed labels row (Walk v x y d f r)

    -- WHAT A RUN KEEPS, up to a stamp: the lengths of the tables; no label is earlier than its stop's earliest arrival, and that is a
    -- label's; every ride is joined; every queued segment may be boarded
    record Held (stamp : ℕ) (a : Arrivals) : Type 0 where
      pub labels : length a.labels ≡ stops T * 13
      pub earliest : length a.earliest ≡ stops T
      pub least : (s row v : ℕ) → s < stops T → row < 13 → reached_by (label-in a.labels s row) ≡ suc v → at a s ≤ v
      pub known : (s : ℕ) → s < stops T → Known stamp a s
      pub backed : (s row : ℕ) → s < stops T → row < 13 → Backed a.labels row (label-in a.labels s row)
      pub queue : (g : Segment) → Memᴰ g a.seg_queue → Ready a.labels (stamp - 1) g

    began_kept : {ls ms : List Label} {row x t o r shift : ℕ} → Stays ls ms → row < 13 → Began ls row x t o r shift → Began ms row x t o r shift
    began_kept k n (listed B) = listed (from_kept k n B)
    began_kept k n (transferred f B) = transferred f (by_kept k n B)

    backed_kept : {ls ms : List Label} {row : ℕ} {l : Label} → Stays ls ms → row < 13 → Backed ls row l → Backed ms row l
    backed_kept k n empty = empty
    backed_kept k n accessed = accessed
    backed_kept k n (rode B) = rode (began_kept k n B)
    backed_kept k n walked = walked

    -- AN IMPROVEMENT: stop s is reached earlier, at v, with label l in the stamp's row
    module _ (stamp s v : ℕ) (l : Label) (a b : Arrivals) (low : 1 ≤ stamp) (top : stamp ≤ 13) (e : reached_by l ≡ suc v) (h : v < at a s)
        (p : b.labels ≡ set a.labels (record_of s (stamp - 1)) l) (q : b.earliest ≡ set a.earliest s v) (H : Held stamp a) where
      inside : s < stops T
      inside = omega (arith, lt_get_d a.earliest s v h, H.earliest)

      at_here : at b s ≡ v
      at_here = ap (λ (z : List ℕ). get_or z s 0) q ∙ set_there a.earliest s v 0 (lt_get_d a.earliest s v h)

      at_other : (x : ℕ) → (x ≡ s → ⊥) → at b x ≡ at a x
      at_other x n =
          ⊎_elim (λ c. absurd (n c.0)) (λ c. ap (λ (z : List ℕ). get_or z x 0) q ∙ c) (set_cases a.earliest s v x 0)

      at_le : (x : ℕ) → at b x ≤ at a x
      at_le x = rw q (set_le a.earliest s v x (omega arith))

      here : label-in b.labels s (stamp - 1) ≡ l
      here =
          ap (λ (z : List Label). get_or z (record_of s (stamp - 1)) Empty) p
          ∙ set_there a.labels (record_of s (stamp - 1)) l Empty (omega (arith, H.labels, inside))

      -- the label of a row after it: the new one, there, or the old one
      read : (x row : ℕ) → row < 13
          → ((x ≡ s) × (row ≡ stamp - 1) × (label-in b.labels x row ≡ l)) ⊎ (label-in b.labels x row ≡ label-in a.labels x row)
      read x row u =
          ⊎_elim
          (λ c. inl (omega (arith, c.0), omega (arith, c.0), ap (λ (z : List Label). get_or z (record_of x row) Empty) p ∙ c.1))
          (λ c. inr (ap (λ (z : List Label). get_or z (record_of x row) Empty) p ∙ c))
          (set_cases a.labels (record_of s (stamp - 1)) l (record_of x row) Empty)

      -- what was in time stays in time
      improve_keeps : Stays a.labels b.labels
      improve_keeps row x change time n I =
          ⊎_elim
          (λ c.
          let y : at a x ≡ at a s = ap (at a) c.0 in
          let m : at a x ≤ I.reached = H.least x I.before I.reached (omega (arith, c.0, inside)) (omega (arith, I.not-above)) I.label in
          record { before = I.before; not-above = I.not-above; reached = v; label = ap reached_by c.2 ∙ e; in_time = omega (arith, I.in_time) })
          (λ c. record {
            before = I.before;
            not-above = I.not-above;
            reached = I.reached;
            label = ap reached_by c ∙ I.label;
            in_time = I.in_time;
          })
          (read x I.before (omega (arith, I.not-above)))

      least_on : (x row u : ℕ) → x < stops T → row < 13 → reached_by (label-in b.labels x row) ≡ suc u → at b x ≤ u
      least_on x row u m n f =
          ⊎_elim
          (λ c.
          let z : suc v ≡ suc u = sym e ∙ sym (ap reached_by c.2) ∙ f in
          let y : at b x ≡ v = ap (at b) c.0 ∙ at_here in
          omega arith)
          (λ c. le_trans (at_le x) (H.least x row u m n (sym (ap reached_by c) ∙ f)))
          (read x row n)

      known_on : (x : ℕ) → x < stops T → Known stamp b x
      known_on x m = go (eqb x s) refl (H.known x m)
        where
          old : (x ≡ s → ⊥) → (row : ℕ) → row < 13 → label-in b.labels x row ≡ label-in a.labels x row
          old k row n = ⊎_elim (λ c. absurd (k c.0)) (λ c. c) (read x row n)

          go : (t : Bool) → eqb x s ≡ t → Known stamp a x → Known stamp b x
          go true z k =
              subst (Known stamp b) (sym (eqb-true x s z)) (reached (stamp - 1) (omega arith) (ap reached_by here ∙ e ∙ ap suc (sym at_here)))
          go false z (unreached n) = unreached (at_other x (eqb-false x s z) ∙ n)
          go false z (reached row c f) =
              let k = eqb-false x s z in reached row c (ap reached_by (old k row (omega arith)) ∙ f ∙ ap suc (sym (at_other x k)))

      backed_on : Backed a.labels (stamp - 1) l → (x row : ℕ) → x < stops T → row < 13 → Backed b.labels row (label-in b.labels x row)
      backed_on B x row m n =
          ⊎_elim
          (λ c. rw (c.2, c.1) (backed_kept improve_keeps (omega arith) B))
          (λ c. rw c (backed_kept improve_keeps n (H.backed x row m n)))
          (read x row n)

      improve_holds : b.seg_queue ≡ a.seg_queue → Backed a.labels (stamp - 1) l → Held stamp b
      improve_holds z B =
          record {
            labels = ap length p ∙ length-set a.labels (record_of s (stamp - 1)) l ∙ H.labels;
            earliest = ap length q ∙ length-set a.earliest s v ∙ H.earliest;
            least = least_on;
            known = known_on;
            backed = backed_on B;
            queue = λ g m. by_kept improve_keeps (omega arith) (H.queue g (rw z at m));
          }

    in_time_up : {ls : List Label} {x change time : ℕ} (row top : ℕ) → row ≤ top → InTime ls row x change time → InTime ls top x change time
    in_time_up row top h I =
        record { before = I.before; not-above = omega (arith, I.not-above); reached = I.reached; label = I.label; in_time = I.in_time }

    by_up : {ls : List Label} {x t o shift : ℕ} (row top : ℕ) → row ≤ top → BoardedBy T Q ls row x t o shift → BoardedBy T Q ls top x t o shift
    by_up row top h B =
        record { after = B.after; boarding = B.boarding; boards = B.boards; shift_is = B.shift_is; reaches = in_time_up row top h B.reaches }

    -- what changes the queues only
    held_same : (stamp : ℕ) (a b : Arrivals) → b.labels ≡ a.labels → b.earliest ≡ a.earliest
        → ((g : Segment) → Memᴰ g b.seg_queue → Ready a.labels (stamp - 1) g)
        → Held stamp a → Held stamp b
    held_same stamp a b p q z H =
        record {
          labels = ap length p ∙ H.labels;
          earliest = ap length q ∙ H.earliest;
          least = rw (p, q) H.least;
          known = λ s u. go s (H.known s u);
          backed = rw p H.backed;
          queue = rw p z;
        }
      where
        go : (s : ℕ) → Known stamp a s → Known stamp b s
        go s (unreached n) = unreached (rw q n)
        go s (reached row c f) = reached row c (rw (p, q) f)

    -- a round later
    held_up : (stamp : ℕ) (a : Arrivals) → Held stamp a → Held (suc stamp) a
    held_up stamp a H =
        record {
          labels = H.labels;
          earliest = H.earliest;
          least = H.least;
          known = λ s u. go s (H.known s u);
          backed = H.backed;
          queue = λ g m. by_up (stamp - 1) (suc stamp - 1) (omega arith) (H.queue g m);
        }
      where
        go : (s : ℕ) → Known stamp a s → Known (suc stamp) a s
        go s (unreached n) = unreached n
        go s (reached row c f) = reached row (omega arith) f

    -- a stop that is reached is in time for a boarding after the change time before round r, whose stamp is its number plus two
    known_in_time : (r : ℕ) (a : Arrivals) (x : ℕ) → Held (suc (suc r)) a → x < stops T → eqb (at a x) never ≡ false
        → InTime a.labels (suc (suc r) - 1) x (change_before Q (suc (suc r) - 2)) (at a x + change_before Q r)
    known_in_time r a x H u e = go (H.known x u)
      where
        z : suc (suc r) - 2 ≡ r
        z = omega arith

        go : Known (suc (suc r)) a x → InTime a.labels (suc (suc r) - 1) x (change_before Q (suc (suc r) - 2)) (at a x + change_before Q r)
        go (unreached n) = absurd (eqb-false _ _ e n)
        go (reached row c f) =
            record { before = row; not-above = omega arith; reached = at a x; label = f; in_time = omega (arith, ap (change_before Q) z) }

    -- WITHIN A PHASE that begins with a
    module _ (D : Door T Q) (stamp : ℕ) (low : 1 ≤ stamp) (top : stamp ≤ 13) (a : Arrivals) where
      record On (b : Arrivals) : Type 0 where
        pub held : Held stamp b
        pub kept : Stays a.labels b.labels

      relax_on : (s v : ℕ) (l : Label) → reached_by l ≡ suc v → (b : Arrivals) → Backed b.labels (stamp - 1) l → On b
          → On (relax T Q stamp s v l b)
      unfolding relax improve
      relax_on s v l e b B O = go (ltb v (at b s)) refl
        where
          go : (x : Bool) → ltb v (at b s) ≡ x → On (cond x (improve T Q stamp s v l b) b)
          go true h =
              record {
                held = improve_holds stamp s v l b (improve T Q stamp s v l b) low top e (ltb-true _ _ h) refl refl O.held refl B;
                kept = λ row x c t n I. improve_keeps stamp s v l b (improve T Q stamp s v l b) low top e (ltb-true _ _ h) refl refl O.held
                    row x c t n (O.kept row x c t n I);
              }
          go false h = O

      alights_on : (adj : Hit) (shift t x o : ℕ) → Began a.labels (stamp - 1) x t o (stamp - 2) shift → (k p : ℕ) (b : Arrivals) → On b
          → On (alightings T Q stamp adj shift t x o k p b)
      unfolding alightings
      alights_on adj shift t x o B zero p b O = O
      alights_on adj shift t x o B (suc k) p b O =
          go (no_drop_off T t p || skipped T Q adj t p) (ltb v b.best) (λ c C. alights_on adj shift t x o B k (suc p) c C)
        where
          v : ℕ
          v = arrival_now T Q adj shift t p

          next : Arrivals
          next = relax T Q stamp (stop_at T t p) v (Transit v t x o p (stamp - 2) shift) b

          go : (y z : Bool) → ((c : Arrivals) → On c → On (alightings T Q stamp adj shift t x o k (suc p) c))
              → On (elim y [
                | true ↦ alightings T Q stamp adj shift t x o k (suc p) b
                | false ↦ elim z [ false ↦ b | true ↦ alightings T Q stamp adj shift t x o k (suc p) next ]
              ])
          go true z on = on b O
          go false false on = O
          go false true on =
              on next
              (relax_on (stop_at T t p) v (Transit v t x o p (stamp - 2) shift) refl b (rode (began_kept O.kept (omega arith) B)) O)

      -- after it the stop is reached by then
      relax_reaches : (s v : ℕ) (l : Label) → reached_by l ≡ suc v → s < stops T → v < never → (b : Arrivals) → Held stamp b
          → InTime (relax T Q stamp s v l b).labels (stamp - 1) s 0 v
      unfolding relax improve
      relax_reaches s v l e u n b H = go (ltb v (at b s)) refl (H.known s u)
        where
          go : (x : Bool) → ltb v (at b s) ≡ x → Known stamp b s → InTime (cond x (improve T Q stamp s v l b) b).labels (stamp - 1) s 0 v
          go true h k =
              record {
                before = stamp - 1;
                not-above = omega arith;
                reached = v;
                label = ap reached_by (here stamp s v l b (improve T Q stamp s v l b) low top e (ltb-true _ _ h) refl refl H) ∙ e;
                in_time = omega arith;
              }
          go false h (unreached z) = absurd (omega (arith, ltb-false v (at b s) h))
          go false h (reached row c f) =
              record { before = row; not-above = omega arith; reached = at b s; label = f; in_time = omega (arith, ltb-false v (at b s) h) }

      -- a segment that may be boarded is queued
      enqueue_on : (t o s shift : ℕ) (b : Arrivals) → BoardedBy T Q b.labels (stamp - 1) s t o shift → On b → On (enqueue T Q t o s shift b)
      unfolding enqueue
      enqueue_on t o s shift b B O = go (not (no_windows T t) || ltb o (get_or b.seg_reach t 0))
        where
          g : Segment
          g = record { trip = t; offset = o; stop = s; shift = shift }

          next : Arrivals
          next =
              record {
                labels = b.labels;
                earliest = b.earliest;
                best = b.best;
                stop_stamp = b.stop_stamp;
                reached = b.reached;
                seg_queue = b.seg_queue ++ (g ∷ []);
                seg_reach = elim (no_windows T t) [ true ↦ set b.seg_reach t o | false ↦ b.seg_reach ];
              }

          add : (h : Segment) → Memᴰ h (b.seg_queue ++ (g ∷ [])) → Ready b.labels (stamp - 1) h
          add h m =
              ⊎_elim
              (λ n. O.held.queue h n)
              (λ n. subst (λ (z : Segment). Ready b.labels (stamp - 1) z)
              (sym (Memᴰ.eq_of_singleton n)) B)
              (Memᴰ.append_cases b.seg_queue m)

          go : (x : Bool) → On (elim x [ false ↦ b | true ↦ next ])
          go false = O
          go true = record { held = held_same stamp b next refl refl add O.held; kept = O.kept }

      takes_on : (v x : ℕ) (es : List Transfer) (b : Arrivals) → On b → On (take_transfers T Q stamp v x es b)
      unfolding take_transfers
      takes_on v x [] b O = O
      takes_on v x (e ∷ es) b O =
          go (λ c C. takes_on v x es c C) (holds_target T Q e.pattern) (resolve T Q e (v + e.time) b.best)
          (resolve_finds T Q e (v + e.time) b.best)
        where
          label : (t : ℕ) → BoardedRun → Label
          label t y = Walk y.departure x (stop_at T t e.offset) e.time no_distance (stamp - 1)

          relaxed : (t : ℕ) → BoardedRun → Arrivals
          relaxed t y = relax T Q stamp (stop_at T t e.offset) y.departure (label t y) b

          next : (t : ℕ) → BoardedRun → Arrivals
          next t y = enqueue T Q t e.offset (stop_at T t e.offset) y.time_shift_s (relaxed t y)

          go : ((c : Arrivals) → On c → On (take_transfers T Q stamp v x es c)) → (h : Bool) (z : Option (ℕ × BoardedRun)) → Found T Q e.offset (v + e.time) z
              → On (elim h [
                | false ↦ take_transfers T Q stamp v x es b
                | true ↦ elim z [ None ↦ take_transfers T Q stamp v x es b | Some y ↦ take_transfers T Q stamp v x es (next y.0 y.1) ]
              ])
          go on false z F = on b O
          go on true None F = on b O
          go on true (Some y) (found {t = t} {b = c} B f) =
              let s = stop_at T t e.offset in
              let n = (boards_soon T Q D t e.offset B.trip B.inside B.after c B.boards).departs in
              on (next t c)
              (enqueue_on t e.offset s c.time_shift_s (relaxed t c)
              (record {
                after = B.after;
                boarding = c;
                boards = B.boards;
                shift_is = refl;
                reaches = relax_reaches s c.departure (label t c) refl (D.stop_in t e.offset B.trip B.inside) (omega arith) b O.held;
              })
              (relax_on s c.departure (label t c) refl b walked O))

      transfers_on : (adj : Hit) (shift t k p : ℕ) (b : Arrivals) → On b → On (transferring T Q stamp adj shift t k p b)
      unfolding transferring
      transfers_on adj shift t zero p b O = O
      transfers_on adj shift t (suc k) p b O =
          go (no_drop_off T t p) (ltb (arrival_now T Q adj shift t p) b.best) (λ c C. transfers_on adj shift t k (suc p) c C)
        where
          next : Arrivals
          next = take_transfers T Q stamp (arrival_now T Q adj shift t p) (stop_at T t p) (T.transfers t p) b

          go : (y z : Bool) → ((c : Arrivals) → On c → On (transferring T Q stamp adj shift t k (suc p) c))
              → On (elim y [
                | true ↦ transferring T Q stamp adj shift t k (suc p) b
                | false ↦ elim z [ false ↦ b | true ↦ transferring T Q stamp adj shift t k (suc p) next ]
              ])
          go true z on = on b O
          go false false on = O
          go false true on = on next (takes_on (arrival_now T Q adj shift t p) (stop_at T t p) (T.transfers t p) b O)

      scan_on : (f : Bool) (adj : Hit) (shift t x o : ℕ) → Began a.labels (stamp - 1) x t o (stamp - 2) shift → (b : Arrivals) → On b
          → On (scan_trip_forward T Q f stamp adj shift t x o b)
      unfolding scan_trip_forward
      scan_on true adj shift t x o B b O =
          transfers_on adj shift t (stop_count T t - suc o) (suc o) _ (alights_on adj shift t x o B (stop_count T t - suc o) (suc o) b O)
      scan_on false adj shift t x o B b O = alights_on adj shift t x o B (stop_count T t - suc o) (suc o) b O

      edges_on : (f : Bool) (x v : ℕ) (es : List ℕ) (b : Arrivals) → On b → On (walk_from T Q f stamp x v es b)
      unfolding walk_from
      edges_on f x v [] b O = O
      edges_on f x v (e ∷ es) b O =
          go (f && not (holds_target T Q (T.timetable.edge e).pattern)) (ltb w b.best) (λ c C. edges_on f x v es c C)
        where
          w : ℕ
          w = v + walk_time T Q e

          l : Label
          l = Walk w x (edge_to T e) (walk_time T Q e) (T.distance e) (stamp - 1)

          next : Arrivals
          next = relax T Q stamp (edge_to T e) w l b

          go : (y z : Bool) → ((c : Arrivals) → On c → On (walk_from T Q f stamp x v es c))
              → On (elim y [
                | true ↦ walk_from T Q f stamp x v es b
                | false ↦ elim z [ false ↦ walk_from T Q f stamp x v es b | true ↦ walk_from T Q f stamp x v es next ]
              ])
          go true z on = on b O
          go false false on = on b O
          go false true on = on next (relax_on (edge_to T e) w l refl b walked O)

    -- how a listed departure is boarded, if it is: as the boarding from `after` on
    data Takes (t o after : ℕ) : Option BoardedRun → Type 0 where
      passed : Takes t o after None
      taken : {y : BoardedRun} → board_at T Q (delay_of Q t) t o after ≡ Some y → Takes t o after (Some y)

    boarding_takes : (stamp after t o : ℕ) (s : State) → Takes t o after (boarding T Q stamp after (delay_of Q t) t o s)
    unfolding boarding
    boarding_takes stamp after t o s =
        go (((not (permitted T Q t) || pruned T Q (delay_of Q t) t o s.boardings) || no_pickup T t o) || skipped T Q (delay_of Q t) t o)
        (board_at T Q (delay_of Q t) t o after) refl
      where
        last : (x : Bool) (y : BoardedRun) → Takes t o after (Some y) → Takes t o after (elim x [ true ↦ None | false ↦ Some y ])
        last true y k = passed
        last false y k = k

        go : (x : Bool) (y : Option BoardedRun) → board_at T Q (delay_of Q t) t o after ≡ y
            → Takes t o after (elim x [
              | true ↦ None
              | false ↦ elim y [
                | None ↦ None
                | Some b ↦ elim (leb s.arrivals.best b.departure || passed_over T Q stamp t o b.departure s.boardings) [
                  | true ↦ None
                  | false ↦ Some b
                ]
              ]
            ])
        go true y e = passed
        go false None e = passed
        go false (Some b) e = last (leb s.arrivals.best b.departure || passed_over T Q stamp t o b.departure s.boardings) b (taken e)

    -- a stop with listed departures is one of the timetable's
    lists_in : (x : ℕ) (d : DepartureRow) → Memᴰ d (departures_at T x) → x < stops T
    unfolding departures_at
    lists_in x d = go (ltb x (stops T)) refl
      where
        go : (b : Bool) → ltb x (stops T) ≡ b → Memᴰ d (elim b [ true ↦ T.departures x | false ↦ [] ]) → x < stops T
        go true e m = ltb-true x (stops T) e
        go false e m = absurd (Memᴰ.not-nil m)

    -- A ROUND, whose stamp is its number plus two
    module _ (D : Door T Q) (r : ℕ) (top : suc (suc r) ≤ 13) where
      abbrev stamp : ℕ
      stamp = suc (suc r)

      departures_on : (a : Arrivals) (has_freq : Bool) (x after : ℕ) (ds : List DepartureRow)
          → ((d : DepartureRow) → Memᴰ d ds → InTime a.labels (stamp - 1) x (change_before Q (stamp - 2)) after) → (s : State)
          → On D stamp (omega arith) top a s.arrivals
          → On D stamp (omega arith) top a (scan_departures T Q flagged has_freq r stamp x after ds s).arrivals
      unfolding scan_departures
      departures_on a has_freq x after [] I s O = O
      departures_on a has_freq x after (d ∷ ds) I s O =
          go (not has_freq && leb (s.arrivals.best + margin_of T Q) (departure T d.trip d.offset))
          (boarding T Q stamp after (delay_of Q d.trip) d.trip d.offset s) (boarding_takes stamp after d.trip d.offset s)
          (λ z Z. departures_on a has_freq x after ds (λ e m. I e (Memᴰ.tail m)) z Z)
        where
          next : BoardedRun → State
          next b =
              record {
                arrivals = scan_trip_forward T Q flagged stamp (delay_of Q d.trip) b.time_shift_s d.trip x d.offset s.arrivals;
                boardings = board T Q r stamp (delay_of Q d.trip) d.trip d.offset b.departure s.boardings;
              }

          go : (y : Bool) (z : Option BoardedRun) → Takes d.trip d.offset after z
              → ((z : State) → On D stamp (omega arith) top a z.arrivals
              → On D stamp (omega arith) top a (scan_departures T Q flagged has_freq r stamp x after ds z).arrivals)
              → On D stamp (omega arith) top a (elim y as (λ w. State) [
                | true ↦ s
                | false ↦ elim z [
                  | None ↦ scan_departures T Q flagged has_freq r stamp x after ds s
                  | Some b ↦ scan_departures T Q flagged has_freq r stamp x after ds (next b)
                ]
              ]).arrivals
          go true z k on = O
          go false None k on = on s O
          go false (Some b) (taken e) on =
              on (next b)
              (scan_on D stamp (omega arith) top a flagged (delay_of Q d.trip) b.time_shift_s d.trip x d.offset
              (listed (record {
                after = after;
                reaches = I d (Memᴰ.head refl);
                boarding = b;
                boards = e;
                shift_is = refl;
                departs = boards_after d.trip d.offset after b e;
              })) s.arrivals O)

      begins : (a : Arrivals) → Held stamp a → On D stamp (omega arith) top a a
      begins a H = record { held = H; kept = λ row x c t n I. I }

      stops_held : (xs : List ℕ) (s : State) → Held stamp s.arrivals → Held stamp (scan_stops T Q flagged r stamp xs s).arrivals
      unfolding scan_stops
      stops_held [] s H = H
      stops_held (x ∷ xs) s H =
          go (eqb (at a x) never) refl (leb a.best after) (mark_at T x) (λ z Z. stops_held xs z Z)
        where
          a : Arrivals
          a = s.arrivals

          after : ℕ
          after = at a x + change_before Q r

          all : State
          all = scan_departures T Q flagged true r stamp x after (departures_at T x) s

          later : State
          later = scan_departures T Q flagged false r stamp x after (not_before T (after - margin_of T Q) (departures_at T x)) s

          go : (y : Bool) → eqb (at a x) never ≡ y → (w m : Bool)
              → ((z : State) → Held stamp z.arrivals → Held stamp (scan_stops T Q flagged r stamp xs z).arrivals)
              → Held stamp (elim (y || w) as (λ u. State) [
                | true ↦ scan_stops T Q flagged r stamp xs s
                | false ↦ elim m [ true ↦ scan_stops T Q flagged r stamp xs all | false ↦ scan_stops T Q flagged r stamp xs later ]
              ]).arrivals
          go true e w m on = on s H
          go false e true m on = on s H
          go false e false true on =
              on all
              (departures_on a true x after (departures_at T x) (λ d m. known_in_time r a x H (lists_in x d m) e) s (begins a H)).held
          go false e false false on =
              on later
              (departures_on a false x after (not_before T (after - margin_of T Q) (departures_at T x))
              (λ d m. known_in_time r a x H (lists_in x d (later_at_stop T Q D (after - margin_of T Q) d (departures_at T x) m)) e) s (begins a H)).held

      walks_held : (xs : List ℕ) (a : Arrivals) → Held stamp a → Held stamp (walk_all T Q flagged stamp xs a)
      unfolding walk_all
      walks_held [] a H = H
      walks_held (x ∷ xs) a H =
          walks_held xs _ (edges_on D stamp (omega arith) top a flagged x (at a x) (edges_from T x) a (begins a H)).held

      segments_on : flagged ≡ true → (a : Arrivals) (gs : List Segment)
          → ((g : Segment) → Memᴰ g gs → Ready a.labels (stamp - 1) g) → (s : State)
          → On D stamp (omega arith) top a s.arrivals
          → On D stamp (omega arith) top a (ride_segments T Q true r stamp gs s).arrivals
      unfolding ride_segments
      segments_on e a [] I s O = O
      segments_on e a (g ∷ gs) I s O = go (permitted T Q g.trip) (λ z Z. segments_on e a gs (λ h m. I h (Memᴰ.tail m)) z Z)
        where
          next : State
          next =
              record {
                arrivals = scan_trip_forward T Q true stamp (delay_of Q g.trip) g.shift g.trip g.stop g.offset s.arrivals;
                boardings = logged T Q r g.trip g.offset s.boardings;
              }

          go : (y : Bool)
              → ((z : State) → On D stamp (omega arith) top a z.arrivals
              → On D stamp (omega arith) top a (ride_segments T Q true r stamp gs z).arrivals)
              → On D stamp (omega arith) top a (elim y as (λ u. State) [
                | false ↦ ride_segments T Q true r stamp gs s
                | true ↦ ride_segments T Q true r stamp gs next
              ]).arrivals
          go false on = on s O
          go true on =
              on next
              (scan_on D stamp (omega arith) top a true (delay_of Q g.trip) g.shift g.trip g.stop g.offset
              (transferred e (I g (Memᴰ.head refl))) s.arrivals O)

      starts : (s : State) → Held (suc r) s.arrivals → Held stamp (round_start T Q s).arrivals
      starts s H = held_same stamp s.arrivals _ refl refl (λ g m. absurd (Memᴰ.not-nil m)) (held_up (suc r) s.arrivals H)

      ride_held : (s : State) → Held (suc r) s.arrivals → Held stamp (ride_phase T Q flagged r s).arrivals
      unfolding ride_phase
      ride_held s H = stops_held s.arrivals.reached _ (go flagged refl)
        where
          go : (f : Bool) → flagged ≡ f
              → Held stamp (elim f as (λ u. State) [
                | true ↦ ride_segments T Q true r stamp s.arrivals.seg_queue (round_start T Q s)
                | false ↦ round_start T Q s
              ]).arrivals
          go true e = (segments_on e a s.arrivals.seg_queue ready (round_start T Q s) (begins a (starts s H))).held
            where
              a : Arrivals
              a = (round_start T Q s).arrivals

              ready : (g : Segment) → Memᴰ g s.arrivals.seg_queue → Ready a.labels (stamp - 1) g
              ready g m = by_up (suc r - 1) (stamp - 1) (omega arith) (H.queue g m)
          go false e = starts s H

      walk_held : (s : State) → Held stamp s.arrivals → Held stamp (walk_phase T Q flagged r s).arrivals
      unfolding walk_phase
      walk_held s H =
          let E = held_same stamp s.arrivals (emptied T Q s.arrivals.seg_queue s.arrivals) refl refl H.queue H in
          let W = walks_held s.arrivals.reached (emptied T Q s.arrivals.seg_queue s.arrivals) E in
          held_same stamp _ _ refl refl W.queue W

    -- THE ORIGINS
    set_out_held : (o : Origin) (a : Arrivals) → Held 1 a → Held 1 (set_out T Q o a)
    unfolding set_out
    set_out_held o a H = go (ltb v (at a o.stop)) refl
      where
        v : ℕ
        v = Q.start + o.duration

        l : Label
        l = Access o.stop v o.duration o.distance

        earlier : Arrivals
        earlier =
            record {
              labels = set a.labels (record_of o.stop 0) l;
              earliest = set a.earliest o.stop v;
              best = best_after T Q o.stop v a.best;
              stop_stamp = set a.stop_stamp o.stop 1;
              reached = a.reached ++ (o.stop ∷ []);
              seg_queue = a.seg_queue;
              seg_reach = a.seg_reach;
            }

        heard : Arrivals
        heard =
            record {
              labels = a.labels;
              earliest = a.earliest;
              best = best_after T Q o.stop v a.best;
              stop_stamp = a.stop_stamp;
              reached = a.reached;
              seg_queue = a.seg_queue;
              seg_reach = a.seg_reach;
            }

        go : (x : Bool) → ltb v (at a o.stop) ≡ x → Held 1 (elim x [ true ↦ earlier | false ↦ heard ])
        go true e =
            improve_holds 1 o.stop v l a earlier (omega arith) (omega arith) refl (ltb-true _ _ e) refl refl H refl accessed
        go false e = held_same 1 a heard refl refl H.queue H

    access_held : (os : List Origin) (a : Arrivals) → Held 1 a → Held 1 (access T Q os a)
    unfolding access
    access_held [] a H = H
    access_held (o ∷ os) a H = access_held os _ (set_out_held o a H)

    new_held : Held 1 (new_arrivals T Q)
    new_held =
        record {
          labels = length-replicate (stops T * 13) Empty;
          earliest = length-replicate (stops T) never;
          least = λ s row v u n f. absurd (let z : 0 ≡ suc v = sym (ap reached_by (none_yet s row)) ∙ f in omega arith);
          known = λ s u. unreached (get_d_replicate_in (stops T) s never 0 u);
          backed = λ s row u n. rw (none_yet s row) empty;
          queue = λ g m. absurd (Memᴰ.not-nil m);
        }
      where
        none_yet : (s row : ℕ) → label-in (new_arrivals T Q).labels s row ≡ Empty
        none_yet s row = get_d_replicate (stops T * 13) (record_of s row) Empty

    -- THE ROUNDS
    AllBacked : List Label → Type 0
    AllBacked ls = (s row : ℕ) → s < stops T → row < 13 → Backed ls row (label-in ls s row)

    rounds_held : Door T Q → (n r : ℕ) → n + r ≤ 12 → (s : State) → Held (suc r) s.arrivals
        → AllBacked (rounds T Q flagged n r s).arrivals.labels
    unfolding rounds AllBacked
    rounds_held D zero r u s H = H.backed
    rounds_held D (suc n) r u s H =
        go (idle T Q flagged s.arrivals)
        (rounds_held D n (suc r) (omega arith) next (walk_held D r (omega arith) (ride_phase T Q flagged r s) (ride_held D r (omega arith) s H)))
      where
        next : State
        next = walk_phase T Q flagged r (ride_phase T Q flagged r s)

        go : (x : Bool) → AllBacked (rounds T Q flagged n (suc r) next).arrivals.labels
            → AllBacked (elim x as (λ z. State) [ true ↦ s | false ↦ rounds T Q flagged n (suc r) next ]).arrivals.labels
        go true B = H.backed
        go false B = B

    final_backed : Door T Q → AllBacked (final T Q flagged).arrivals.labels
    unfolding final
    final_backed D =
        rounds_held D (rounds_of Q) 0 (omega (arith, rounds_most Q.wanted_rounds Q.transfers)) (begin T Q)
        (access_held Q.origins (new_arrivals T Q) new_held)

  -- a ride that began by a listed departure began no later than it departs, too
  from_by : {ls : List Label} {row x t o r shift : ℕ} → BoardedFrom T Q ls row x t o r shift → BoardedBy T Q ls row x t o shift
  from_by B =
      record {
        after = B.after;
        boarding = B.boarding;
        boards = B.boards;
        shift_is = B.shift_is;
        reaches = record {
          before = B.reaches.before;
          not-above = B.reaches.not-above;
          reached = B.reaches.reached;
          label = B.reaches.label;
          in_time = omega (arith, B.reaches.in_time, B.departs);
        };
      }

  -- OF EVERY ADMITTED RUN without arc flags
  pub joined_final : Door T Q → Joined T Q (final T Q false).arrivals.labels
  unfolding AllBacked
  joined_final D = record { joins = λ s row v t x o p r shift u n e. of (subst (Backed false _ row) e (final_backed false D s row u n)) }
    where
      began : {ls : List Label} {row x t o r shift : ℕ} → Began false ls row x t o r shift → BoardedFrom T Q ls row x t o r shift
      began (listed B) = B
      began (transferred f B) = absurd (no_both f refl)

      of : {ls : List Label} {row v t x o p r shift : ℕ} → Backed false ls row (Transit v t x o p r shift) → BoardedFrom T Q ls row x t o r shift
      of (rode B) = began B

  -- .. with or without them
  pub joined_departures : (flagged : Bool) → Door T Q → JoinedByDeparture T Q (final T Q flagged).arrivals.labels
  unfolding AllBacked
  joined_departures flagged D =
      record { joins = λ s row v t x o p r shift u n e. of (subst (Backed flagged _ row) e (final_backed flagged D s row u n)) }
    where
      began : {ls : List Label} {row x t o r shift : ℕ} → Began flagged ls row x t o r shift → BoardedBy T Q ls row x t o shift
      began (listed B) = from_by B
      began (transferred f B) = B

      of : {ls : List Label} {row v t x o p r shift : ℕ} → Backed flagged ls row (Transit v t x o p r shift) → BoardedBy T Q ls row x t o shift
      of (rode B) = began B

  -- and so of its answer
  pub answer_joined : Door T Q → Joined T Q (search_answer T Q false).labels
  unfolding search_answer
  answer_joined D = joined_final D

  pub answer_joined_departures : (flagged : Bool) → Door T Q → JoinedByDeparture T Q (search_answer T Q flagged).labels
  unfolding search_answer
  answer_joined_departures flagged D = joined_departures flagged D

  -- of `run_tbr`, and of the query
  pub run_tbr_joined : Door T Q → use_arc_flags T Q ≡ false → Joined T Q (run_tbr T Q).labels
  unfolding run_tbr
  run_tbr_joined D e = rw e (answer_joined D)

  pub run_tbr_joined_departures : Door T Q → JoinedByDeparture T Q (run_tbr T Q).labels
  unfolding run_tbr
  run_tbr_joined_departures D = answer_joined_departures (use_arc_flags T Q) D

  pub query_joined : Door T Q → flags_in_use T Q ≡ false → Joined T Q (query T Q).labels
  unfolding query
  query_joined D e = rw e (answer_joined D)

  pub query_joined_departures : Door T Q → JoinedByDeparture T Q (query T Q).labels
  unfolding query
  query_joined_departures D = answer_joined_departures (flags_in_use T Q) D
