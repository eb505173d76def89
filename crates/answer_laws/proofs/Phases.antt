-- Every phase of an admitted run goes along steps (Steps), function by function, in both modes.
use Prim.Native.Nat.{ℕ, zero, suc, ◌+◌, ◌-◌, ◌≤◌, ◌<◌, min}
use mathlib.Core.Path.{◌≡◌, refl}
use mathlib.Core.Logic.{inl}
use mathlib.Core.Bool.{Bool, true, false, cond, ◌&&◌, ◌||◌, not}
use mathlib.Core.List.{List, [], ◌∷◌, ◌++◌, Memᴰ}
use Rattle.std.specs.Prelude.{Option, None, Some}
use native.Mathlib.Omega.{arith}
use lib.ListN.{get_or, set, length-set}
use lib.Dec.{ltb, leb, eqb}
use borrow.Author.Tests.{ltb-true, eqb-true, eqb-false}
use Rattle.door.specs.Door.{time_limit}
use Rattle.loops.specs.Iter.{Hit}
use Rattle.loops.proofs.Iter.{and_left, and_right}
use Rattle.frequency.specs.declared.BoardedRun.{BoardedRun}
use Rattle.label.specs.declared.Label.{Label}
use Rattle.label.specs.declared.Label.TheVariants.{Transit, Walk}
use Rattle.label.specs.Label.{no_distance}
use Rattle.label.specs.Table.{record_of}
use Rattle.line_layout.specs.Layout.{LineTrips}
use Rattle.event_transfers.specs.Transfers.{Transfer}
use Rattle.model.specs.Tables.{Tables, Query, trips, stop_count, stop_at, departure, no_pickup, no_drop_off, no_windows, position, fifo, usable, permitted}
use Rattle.model.specs.Search.{Segment, Arrivals, at, reached_by, delay_of, skipped, board_at, arrival_now, best_after, margin_of, holds_target, line_at, improve, relax, resolve_in, line_trips_at, resolve, enqueue, take_transfers, alightings, transferring, scan_trip_forward}
use Rattle.model.specs.Door.{Door}
use Rattle.answer_laws.specs.Lawful.{Boarded, Begins, Leaves, left_at}
use Rattle.model.proofs.Base.{or-false}
use Rattle.answer_laws.proofs.Steps.{Rides, alighted, changed, again, anew, Improved, Steps, improved, queued}

module _ (T : Tables) (Q : Query) where
  -- `improve` is one step
  pub improve_does : (stamp s v : ℕ) (l : Label) (a : Arrivals) → Improved T Q stamp s v l a (improve T Q stamp s v l a)
  unfolding improve
  improve_does stamp s v l a = go (eqb (get_or a.stop_stamp s 0) stamp) refl
    where
      go : (old : Bool) → eqb (get_or a.stop_stamp s 0) stamp ≡ old → Improved T Q stamp s v l a (record {
        labels = set a.labels (record_of s (stamp - 1)) l;
        earliest = set a.earliest s v;
        best = best_after T Q s v a.best;
        stop_stamp = cond (not old) (set a.stop_stamp s stamp) a.stop_stamp;
        reached = cond (not old) (a.reached ++ (s ∷ [])) a.reached;
        seg_queue = a.seg_queue;
        seg_reach = a.seg_reach;
      })
      go true e = record { labels = refl; earliest = refl; best = refl; lists = again (eqb-true _ _ e) refl refl; queue = refl; reaches = refl }
      go false e =
          record { labels = refl; earliest = refl; best = refl; lists = anew (inl (eqb-false _ _ e)) refl refl; queue = refl; reaches = refl }

  module _ {J : ℕ → ℕ → Label → Type 0} {stamp : ℕ} {a : Arrivals} where
    pub relax_steps : {b : Arrivals} (s v : ℕ) (l : Label) → J s v l → reached_by l ≡ suc v → Steps T Q J stamp a b
        → Steps T Q J stamp a (relax T Q stamp s v l b)
    unfolding relax
    relax_steps {b} s v l j e S = go (ltb v (at b s)) refl
      where
        go : (x : Bool) → ltb v (at b s) ≡ x → Steps T Q J stamp a (cond x (improve T Q stamp s v l b) b)
        go true h = improved s v l S j e (ltb-true _ _ h) (improve_does stamp s v l b)
        go false h = S

    pub enqueue_steps : {b : Arrivals} (t o s shift : ℕ) → Begins T Q (record { trip = t; offset = o; stop = s; shift = shift })
        → Steps T Q J stamp a b
        → Steps T Q J stamp a (enqueue T Q t o s shift b)
    unfolding enqueue
    enqueue_steps {b} t o s shift q S = go (not (no_windows T t) || ltb o (get_or b.seg_reach t 0)) (no_windows T t)
      where
        go : (x w : Bool) → Steps T Q J stamp a (elim x [
          | false ↦ b
          | true ↦ record {
            labels = b.labels;
            earliest = b.earliest;
            best = b.best;
            stop_stamp = b.stop_stamp;
            reached = b.reached;
            seg_queue = b.seg_queue ++ (record { trip = t; offset = o; stop = s; shift = shift } ∷ []);
            seg_reach = elim w [ true ↦ set b.seg_reach t o | false ↦ b.seg_reach ];
          }
        ])
        go false w = S
        go true true =
            queued (record { trip = t; offset = o; stop = s; shift = shift }) S q
            (record {
              same = record { labels = refl; earliest = refl; best = refl; stamps = refl; reaches = length-set b.seg_reach t o };
              reached = refl;
              queue = refl;
            })
        go true false =
            queued (record { trip = t; offset = o; stop = s; shift = shift }) S q
            (record { same = record { labels = refl; earliest = refl; best = refl; stamps = refl; reaches = refl }; reached = refl; queue = refl })

  -- what resolving finds is a boarding from that second on
  pub data Found (o after : ℕ) : Option (ℕ × BoardedRun) → Type 0 where
    nowhere : Found o after None
    found : {t : ℕ} {b : BoardedRun} (B : Boarded T Q t o b) → B.after ≡ after → Found o after (Some (t, b))

  pub resolve-in : (is_fifo : Bool) (o after best : ℕ) (trip : ℕ → ℕ) (k p : ℕ) → Found o after (resolve_in T Q is_fifo o after best trip k p)
  unfolding resolve_in
  resolve-in is_fifo o after best trip zero p = nowhere
  resolve-in is_fifo o after best trip (suc k) p =
      go₁ (λ f. resolve-in f o after best trip k (suc p)) (ltb t (trips T) && ltb o (stop_count T t)) refl
      ((is_fifo && leb (best + margin_of T Q) (departure T t o)) && no_windows T t)
      ((not (usable T Q t) || no_pickup T t o) || skipped T Q (delay_of Q t) t o) refl (board_at T Q (delay_of Q t) t o after) refl
    where
      t : ℕ
      t = trip p

      Rest : Type 0
      Rest = (f : Bool) → Found o after (resolve_in T Q f o after best trip k (suc p))

      go₃ : Rest → (x f : Bool) (b : BoardedRun) (B : Boarded T Q t o b) → B.after ≡ after
          → Found o after (elim x [ true ↦ Some (t, b) | false ↦ elim f [ true ↦ None | false ↦ resolve_in T Q false o after best trip k (suc p) ] ])
      go₃ rest true f b B z = found B z
      go₃ rest false true b B z = nowhere
      go₃ rest false false b B z = rest false

      go₂ : Rest → (ltb t (trips T) && ltb o (stop_count T t)) ≡ true
          → ((not (usable T Q t) || no_pickup T t o) || skipped T Q (delay_of Q t) t o) ≡ false
          → (y : Option BoardedRun) → board_at T Q (delay_of Q t) t o after ≡ y
          → Found o after (elim y [
            | None ↦ resolve_in T Q is_fifo o after best trip k (suc p)
            | Some b ↦ elim (ltb b.departure best) [
              | true ↦ Some (t, b)
              | false ↦ elim is_fifo [ true ↦ None | false ↦ resolve_in T Q false o after best trip k (suc p) ]
            ]
          ])
      go₂ rest h n None e = rest is_fifo
      go₂ rest h n (Some b) e =
          let m = or-false (not (usable T Q t) || no_pickup T t o) (skipped T Q (delay_of Q t) t o) n in
          go₃ rest (ltb b.departure best) is_fifo b
          (record {
            trip = ltb-true t (trips T) (and_left (ltb t (trips T)) (ltb o (stop_count T t)) h);
            inside = ltb-true o (stop_count T t) (and_right (ltb t (trips T)) (ltb o (stop_count T t)) h);
            pickup = (or-false (not (usable T Q t)) (no_pickup T t o) m.0).1;
            served = m.1;
            after = after;
            boards = e;
          })
          refl

      go₁ : Rest → (x : Bool) → (ltb t (trips T) && ltb o (stop_count T t)) ≡ x → (y z : Bool)
          → ((not (usable T Q t) || no_pickup T t o) || skipped T Q (delay_of Q t) t o) ≡ z
          → (w : Option BoardedRun) → board_at T Q (delay_of Q t) t o after ≡ w
          → Found o after (elim x [
            | false ↦ resolve_in T Q is_fifo o after best trip k (suc p)
            | true ↦ elim y [
              | true ↦ None
              | false ↦ elim z [
                | true ↦ resolve_in T Q is_fifo o after best trip k (suc p)
                | false ↦ elim w [
                  | None ↦ resolve_in T Q is_fifo o after best trip k (suc p)
                  | Some b ↦ elim (ltb b.departure best) [
                    | true ↦ Some (t, b)
                    | false ↦ elim is_fifo [ true ↦ None | false ↦ resolve_in T Q false o after best trip k (suc p) ]
                  ]
                ]
              ]
            ]
          ])
      go₁ rest false h y z n w e = rest is_fifo
      go₁ rest true h true z n w e = nowhere
      go₁ rest true h false true n w e = rest is_fifo
      go₁ rest true h false false n w e = go₂ rest h n w e

  pub resolve_finds : (e : Transfer) (after best : ℕ) → Found e.offset after (resolve T Q e after best)
  unfolding resolve
  resolve_finds e after best = go (ltb p l.count && eqb (l.trip p) e.target)
    where
      l : LineTrips
      l = line_trips_at T Q (line_at T e.target)

      p : ℕ
      p = position T e.target

      f : Bool
      f = fifo T (line_at T e.target)

      go : (x : Bool) → Found e.offset after (elim x [
        | true ↦ resolve_in T Q f e.offset after best l.trip (min (l.count - p) Q.settings.line_scan) p
        | false ↦ resolve_in T Q f e.offset after best (λ p. e.target) (min 1 Q.settings.line_scan) 0
      ])
      go true = resolve-in f e.offset after best l.trip (min (l.count - p) Q.settings.line_scan) p
      go false = resolve-in f e.offset after best (λ p. e.target) (min 1 Q.settings.line_scan) 0

  module _ (stamp : ℕ) (a : Arrivals) where
    abbrev On : Arrivals → Type 0
    On b = Steps T Q (Rides T Q stamp) stamp a b

    -- the transfers where a ride is left
    pub takes : (g : Segment) (p : ℕ) → Begins T Q g → Leaves T Q g p → (es : List Transfer) → ((e : Transfer) → Memᴰ e es → e.time ≤ time_limit)
        → {b : Arrivals} → On b
        → On (take_transfers T Q stamp (left_at T Q g p) (stop_at T g.trip p) es b)
    unfolding take_transfers
    takes g p G L [] I S = S
    takes g p G L (e ∷ es) I {b} S =
        go (λ c S. takes g p G L es (λ d m. I d (Memᴰ.tail m)) S) (holds_target T Q e.pattern) (resolve T Q e (v + e.time) b.best)
        (resolve_finds e (v + e.time) b.best)
      where
        v : ℕ
        v = left_at T Q g p

        x : ℕ
        x = stop_at T g.trip p

        taken : (t : ℕ) → BoardedRun → Arrivals
        taken t y =
            enqueue T Q t e.offset (stop_at T t e.offset) y.time_shift_s
            (relax T Q stamp (stop_at T t e.offset) y.departure
            (Walk y.departure x (stop_at T t e.offset) e.time no_distance (stamp - 1)) b)

        go : ((c : Arrivals) → On c → On (take_transfers T Q stamp v x es c)) → (h : Bool) (z : Option (ℕ × BoardedRun)) → Found e.offset (v + e.time) z
            → On (elim h [
              | false ↦ take_transfers T Q stamp v x es b
              | true ↦ elim z [ None ↦ take_transfers T Q stamp v x es b | Some y ↦ take_transfers T Q stamp v x es (taken y.0 y.1) ]
            ])
        go on false z F = on b S
        go on true None F = on b S
        go on true (Some y) (found {t = t} {b = c} B f) =
            on (taken t c)
            (enqueue_steps t e.offset (stop_at T t e.offset) c.time_shift_s (record { boarding = c; boarded = B; stop = refl; shift = refl })
            (relax_steps (stop_at T t e.offset) c.departure (Walk c.departure x (stop_at T t e.offset) e.time no_distance (stamp - 1))
            (changed g p G L t e.offset e.time c B f (I e (Memᴰ.head refl))) refl S))

    -- a ride that begins, on a permitted trip
    module _ (D : Door T Q) (g : Segment) (G : Begins T Q g) (W : permitted T Q g.trip ≡ true) where
      abbrev adj : Hit
      adj = delay_of Q g.trip

      abbrev arrives : ℕ → ℕ
      arrives p = arrival_now T Q adj g.shift g.trip p

      abbrev alights : ℕ → ℕ → Arrivals → Arrivals
      alights k p b = alightings T Q stamp adj g.shift g.trip g.stop g.offset k p b

      abbrev transfers : ℕ → ℕ → Arrivals → Arrivals
      transfers k p b = transferring T Q stamp adj g.shift g.trip k p b

      pub alights_on : (k p : ℕ) → g.offset < p → k + p ≤ stop_count T g.trip → (b : Arrivals) → On b → On (alights k p b)
      unfolding alightings
      alights_on zero p u n b S = S
      alights_on (suc k) p u n b S =
          go (no_drop_off T g.trip p || skipped T Q adj g.trip p) refl (ltb (arrives p) b.best)
          (λ c C. alights_on k (suc p) (omega arith) (omega arith) c C)
        where
          l : Label
          l = Transit (arrives p) g.trip g.stop g.offset p (stamp - 2) g.shift

          go : (x : Bool) → (no_drop_off T g.trip p || skipped T Q adj g.trip p) ≡ x → (y : Bool)
              → ((c : Arrivals) → On c → On (alights k (suc p) c))
              → On (elim x [
                | true ↦ alights k (suc p) b
                | false ↦ elim y [ false ↦ b | true ↦ alights k (suc p) (relax T Q stamp (stop_at T g.trip p) (arrives p) l b) ]
              ])
          go true h y on = on b S
          go false h false on = S
          go false h true on =
              let d = or-false (no_drop_off T g.trip p) (skipped T Q adj g.trip p) h in
              on (relax T Q stamp (stop_at T g.trip p) (arrives p) l b)
              (relax_steps (stop_at T g.trip p) (arrives p) l
              (alighted g p G (record { permits = W; later = u; inside = omega arith; drop_off = d.0 }) d.1) refl S)

      pub transfers_on : (k p : ℕ) → g.offset < p → k + p ≤ stop_count T g.trip → (b : Arrivals) → On b → On (transfers k p b)
      unfolding transferring
      transfers_on zero p u n b S = S
      transfers_on (suc k) p u n b S =
          go (no_drop_off T g.trip p) refl (ltb (arrives p) b.best) (λ c C. transfers_on k (suc p) (omega arith) (omega arith) c C)
        where
          next : Arrivals
          next = take_transfers T Q stamp (arrives p) (stop_at T g.trip p) (T.transfers g.trip p) b

          go : (x : Bool) → no_drop_off T g.trip p ≡ x → (y : Bool) → ((c : Arrivals) → On c → On (transfers k (suc p) c))
              → On (elim x [ true ↦ transfers k (suc p) b | false ↦ elim y [ false ↦ b | true ↦ transfers k (suc p) next ] ])
          go true d y on = on b S
          go false d false on = S
          go false d true on =
              on next
              (takes g p G (record { permits = W; later = u; inside = omega arith; drop_off = d }) (T.transfers g.trip p)
              (λ e m. D.transfer_small g.trip p G.boarded.trip (omega arith) e m) S)

      pub scan_on : (flagged : Bool) (b : Arrivals) → On b → On (scan_trip_forward T Q flagged stamp adj g.shift g.trip g.stop g.offset b)
      unfolding scan_trip_forward
      scan_on true b S =
          transfers_on n (suc g.offset) (omega arith) (omega (arith, G.boarded.inside)) _
          (alights_on n (suc g.offset) (omega arith) (omega (arith, G.boarded.inside)) b S)
        where
          n : ℕ
          n = stop_count T g.trip - suc g.offset
      scan_on false b S = alights_on (stop_count T g.trip - suc g.offset) (suc g.offset) (omega arith) (omega (arith, G.boarded.inside)) b S
