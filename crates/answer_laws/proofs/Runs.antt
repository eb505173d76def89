-- An admitted run goes along steps: the ride phase, the walk phase, the rounds, the origins, in both modes.
use Prim.Native.Nat.{ℕ, zero, suc, ◌+◌, ◌-◌, ◌≤◌, ◌<◌}
use mathlib.Core.Path.{◌≡◌, refl, sym}
use mathlib.Core.Logic.{◌⊎◌, inl, inr, ⊎_elim}
use mathlib.Core.Bool.{Bool, true, false, ◌&&◌, ◌||◌, not}
use mathlib.Core.List.Memᴰ
use mathlib.Core.List.{List, [], ◌∷◌, ◌++◌, Memᴰ}
use native.Mathlib.Nat.{le_trans}
use native.Mathlib.Omega.{arith}
use lib.ListN.{length, get_or, set, length-append}
use lib.Dec.{ltb, leb, eqb}
use borrow.Author.Tests.{ltb-true, ltb-false}
use Rattle.frequency.specs.declared.BoardedRun.{BoardedRun}
use Rattle.std.specs.Prelude.{Option, None, Some}
use Rattle.label.specs.declared.Label.{Label}
use Rattle.label.specs.declared.Label.TheVariants.{Access, Walk}
use Rattle.label.specs.Table.{record_of}
use Rattle.departures.specs.declared.DepartureRow.{DepartureRow}
use Rattle.model.specs.Tables.{Tables, Origin, Query, rounds_of, change_before, never, stops, trips, stop_count, stop_at, departure, no_pickup, edges_from, edge_to, walk_time, permitted}
use Rattle.model.specs.Search.{Segment, Arrivals, State, at, delay_of, skipped, board_at, margin_of, holds_target, departures_at, mark_at, not_before, relax, best_after, scan_trip_forward, logged, ride_segments, pruned, passed_over, boarding, board, scan_departures, scan_stops, walk_from, walk_all, emptied, round_start, ride_phase, stamped, walk_phase, idle, rounds, set_out, access, new_arrivals, begin, final}
use Rattle.model.specs.Door.{Door}
use Rattle.answer_laws.specs.Lawful.{Boarded, Begins}
use Rattle.answer_laws.proofs.Stores.{not-false}
use Rattle.model.proofs.Base.{or-false}
use Rattle.answer_laws.proofs.Steps.{anew, Rides, Why, origin, foot, Steps, stay, improved, heard, Ended, Run, begun, round, Boards, none, listed, segment, Books, new, steps_le, steps_reached, steps_queue}
use Rattle.answer_laws.proofs.Phases.{relax_steps, scan_on}

module _ (T : Tables) (Q : Query) where
  -- a departure that a listed row names
  pub record Listed (x : ℕ) (d : DepartureRow) : Type 0 where
    pub trip : d.trip < trips T
    pub inside : d.offset < stop_count T d.trip
    pub stop : stop_at T d.trip d.offset ≡ x

  -- how a listed departure is boarded, if it is
  pub data Taken (t o : ℕ) : Option BoardedRun → Type 0 where
    passed : Taken t o None
    taken : {y : BoardedRun} → permitted T Q t ≡ true → Boarded T Q t o y → Taken t o (Some y)

  -- THE RUN, after r rounds
  pub record Ran (r : ℕ) (s : State) : Type 0 where
    pub arrivals : Run T Q (suc r) s.arrivals
    pub queue : (g : Segment) → Memᴰ g s.arrivals.seg_queue → Begins T Q g
    pub boardings : Books T Q r s.boardings

  -- a state of the ride phase that began with s₀
  pub record Rode (r : ℕ) (s₀ s : State) : Type 0 where
    pub arrivals : Steps T Q (Rides T Q (suc (suc r))) (suc (suc r)) s₀.arrivals s.arrivals
    pub boardings : Boards T Q r (suc (suc r)) s₀.boardings s.boardings

module _ (T : Tables) (Q : Query) (D : Door T Q) where
  -- THE RIDE PHASE
  pub at-stop : (x : ℕ) (d : DepartureRow) → Memᴰ d (departures_at T x) → Listed T Q x d
  unfolding departures_at
  at-stop x d = go (ltb x (stops T)) refl
    where
      go : (b : Bool) → ltb x (stops T) ≡ b → Memᴰ d (elim b [ true ↦ T.departures x | false ↦ [] ]) → Listed T Q x d
      go true e m =
          let u = ltb-true x (stops T) e in record { trip = D.listed_trip x d u m; inside = D.listed_offset x d u m; stop = D.listed_stop x d u m }
      go false e m = absurd (Memᴰ.not-nil m)

  pub later_at_stop : (m : ℕ) (d : DepartureRow) (ds : List DepartureRow) → Memᴰ d (not_before T m ds) → Memᴰ d ds
  unfolding not_before
  later_at_stop m d [] i = i
  later_at_stop m d (e ∷ ds) i = go (ltb (departure T e.trip e.offset) m) (later_at_stop m d ds) i
    where
      go : (b : Bool) → (Memᴰ d (not_before T m ds) → Memᴰ d ds) → Memᴰ d (elim b [ true ↦ not_before T m ds | false ↦ e ∷ ds ])
          → Memᴰ d (e ∷ ds)
      go true f i = Memᴰ.tail (f i)
      go false f i = i

  pub boarding_takes : (stamp after t o : ℕ) (s : State) → t < trips T → o < stop_count T t
      → Taken T Q t o (boarding T Q stamp after (delay_of Q t) t o s)
  unfolding boarding
  boarding_takes stamp after t o s u n =
      go (((not (permitted T Q t) || pruned T Q (delay_of Q t) t o s.boardings) || no_pickup T t o) || skipped T Q (delay_of Q t) t o) refl
      (board_at T Q (delay_of Q t) t o after) refl
    where
      last : (x : Bool) (y : BoardedRun) → Taken T Q t o (Some y) → Taken T Q t o (elim x [ true ↦ None | false ↦ Some y ])
      last true y k = passed
      last false y k = k

      go : (x : Bool)
          → (((not (permitted T Q t) || pruned T Q (delay_of Q t) t o s.boardings) || no_pickup T t o) || skipped T Q (delay_of Q t) t o) ≡ x
          → (y : Option BoardedRun) → board_at T Q (delay_of Q t) t o after ≡ y
          → Taken T Q t o (elim x [
            | true ↦ None
            | false ↦ elim y [
              | None ↦ None
              | Some b ↦ elim (leb s.arrivals.best b.departure || passed_over T Q stamp t o b.departure s.boardings) [
                | true ↦ None
                | false ↦ Some b
              ]
            ]
          ])
      go true h y e = passed
      go false h None e = passed
      go false h (Some b) e =
          let i = or-false ((not (permitted T Q t) || pruned T Q (delay_of Q t) t o s.boardings) || no_pickup T t o) (skipped T Q (delay_of Q t) t o) h in
          let j = or-false (not (permitted T Q t) || pruned T Q (delay_of Q t) t o s.boardings) (no_pickup T t o) i.0 in
          let k = or-false (not (permitted T Q t)) (pruned T Q (delay_of Q t) t o s.boardings) j.0 in
          last (leb s.arrivals.best b.departure || passed_over T Q stamp t o b.departure s.boardings) b
          (taken (not-false (permitted T Q t) k.0) (record { trip = u; inside = n; pickup = j.1; served = i.1; after = after; boards = e }))

  module _ (flagged : Bool) (r : ℕ) (s₀ : State) where
    abbrev stamp : ℕ
    stamp = suc (suc r)

    pub segments_rode : (gs : List Segment) → ((g : Segment) → Memᴰ g gs → Begins T Q g) → (s : State) → Rode T Q r s₀ s
        → Rode T Q r s₀ (ride_segments T Q flagged r stamp gs s)
    unfolding ride_segments
    segments_rode [] I s R = R
    segments_rode (g ∷ gs) I s R = go (permitted T Q g.trip) refl (λ z Z. segments_rode gs (λ h m. I h (Memᴰ.tail m)) z Z)
      where
        next : State
        next =
            record {
              arrivals = scan_trip_forward T Q flagged stamp (delay_of Q g.trip) g.shift g.trip g.stop g.offset s.arrivals;
              boardings = logged T Q r g.trip g.offset s.boardings;
            }

        go : (x : Bool) → permitted T Q g.trip ≡ x → ((z : State) → Rode T Q r s₀ z → Rode T Q r s₀ (ride_segments T Q flagged r stamp gs z))
            → Rode T Q r s₀ (elim x [ false ↦ ride_segments T Q flagged r stamp gs s | true ↦ ride_segments T Q flagged r stamp gs next ])
        go false e on = on s R
        go true e on =
            let G = I g (Memᴰ.head refl) in
            on next (record { arrivals = scan_on T Q stamp s₀.arrivals D g G e flagged s.arrivals R.arrivals; boardings = segment g R.boardings e G })

    pub departures_rode : (has_freq : Bool) (x after : ℕ) (ds : List DepartureRow) → ((d : DepartureRow) → Memᴰ d ds → Listed T Q x d)
        → (s : State) → Rode T Q r s₀ s
        → Rode T Q r s₀ (scan_departures T Q flagged has_freq r stamp x after ds s)
    unfolding scan_departures
    departures_rode has_freq x after [] I s R = R
    departures_rode has_freq x after (d ∷ ds) I s R =
        go (not has_freq && leb (s.arrivals.best + margin_of T Q) (departure T d.trip d.offset))
        (boarding T Q stamp after (delay_of Q d.trip) d.trip d.offset s) (boarding_takes stamp after d.trip d.offset s L.trip
        L.inside)
        (λ z Z. departures_rode has_freq x after ds (λ e m. I e (Memᴰ.tail m)) z Z)
      where
        L : Listed T Q x d
        L = I d (Memᴰ.head refl)

        next : BoardedRun → State
        next b =
            record {
              arrivals = scan_trip_forward T Q flagged stamp (delay_of Q d.trip) b.time_shift_s d.trip x d.offset s.arrivals;
              boardings = board T Q r stamp (delay_of Q d.trip) d.trip d.offset b.departure s.boardings;
            }

        go : (y : Bool) (z : Option BoardedRun) → Taken T Q d.trip d.offset z
            → ((z : State) → Rode T Q r s₀ z → Rode T Q r s₀ (scan_departures T Q flagged has_freq r stamp x after ds z))
            → Rode T Q r s₀ (elim y [
              | true ↦ s
              | false ↦ elim z [
                | None ↦ scan_departures T Q flagged has_freq r stamp x after ds s
                | Some b ↦ scan_departures T Q flagged has_freq r stamp x after ds (next b)
              ]
            ])
        go true z k on = R
        go false None k on = on s R
        go false (Some b) (taken p B) on =
            let g : Segment = record { trip = d.trip; offset = d.offset; stop = x; shift = b.time_shift_s } in
            on (next b)
            (record {
              arrivals = scan_on T Q stamp s₀.arrivals D g (record {
                boarding = b;
                boarded = B;
                stop = sym L.stop;
                shift = refl;
              }) p flagged s.arrivals R.arrivals;
              boardings = listed d.trip d.offset b R.boardings p B;
            })

    pub stops_rode : (xs : List ℕ) (s : State) → Rode T Q r s₀ s → Rode T Q r s₀ (scan_stops T Q flagged r stamp xs s)
    unfolding scan_stops
    stops_rode [] s R = R
    stops_rode (x ∷ xs) s R = go (eqb (at s.arrivals x) never || leb s.arrivals.best after) (mark_at T x) (λ z Z. stops_rode xs z Z)
      where
        after : ℕ
        after = at s.arrivals x + change_before Q r

        all : State
        all = scan_departures T Q flagged true r stamp x after (departures_at T x) s

        later : State
        later = scan_departures T Q flagged false r stamp x after (not_before T (after - margin_of T Q) (departures_at T x)) s

        go : (y m : Bool) → ((z : State) → Rode T Q r s₀ z → Rode T Q r s₀ (scan_stops T Q flagged r stamp xs z))
            → Rode T Q r s₀ (elim y [
              | true ↦ scan_stops T Q flagged r stamp xs s
              | false ↦ elim m [ true ↦ scan_stops T Q flagged r stamp xs all | false ↦ scan_stops T Q flagged r stamp xs later ]
            ])
        go true m on = on s R
        go false true on = on all (departures_rode true x after (departures_at T x) (at-stop x) s R)
        go false false on =
            on later
            (departures_rode false x after (not_before T (after - margin_of T Q) (departures_at T x))
            (λ d m. at-stop x d (later_at_stop (after - margin_of T Q) d (departures_at T x) m)) s R)

  pub ride-phase : (flagged : Bool) (r : ℕ) (s : State) → ((g : Segment) → Memᴰ g s.arrivals.seg_queue → Begins T Q g)
      → Rode T Q r (round_start T Q s) (ride_phase T Q flagged r s)
  unfolding ride_phase
  ride-phase true r s I =
      stops_rode true r (round_start T Q s) s.arrivals.reached _
      (segments_rode true r (round_start T Q s) s.arrivals.seg_queue I (round_start T Q s) (record { arrivals = stay; boardings = none }))
  ride-phase false r s I = stops_rode false r (round_start T Q s) s.arrivals.reached _ (record { arrivals = stay; boardings = none })

  -- THE WALK PHASE, after a ride phase that reached the stops xs
  module _ (flagged : Bool) (stamp : ℕ) (late : 2 ≤ stamp) (a : Arrivals) where
    abbrev Walks : Arrivals → Type 0
    Walks b = Steps T Q (Why T Q stamp) stamp a b

    pub edges_walk : (x v w : ℕ) (l : Label) → Rides T Q stamp x w l → v ≤ w → (es : List ℕ)
        → ((e : ℕ) → Memᴰ e es → Memᴰ e (edges_from T x)) → (b : Arrivals) → Walks b
        → Walks (walk_from T Q flagged stamp x v es b)
    unfolding walk_from
    edges_walk x v w l j u [] I b S = S
    edges_walk x v w l j u (e ∷ es) I b S =
        go (flagged && not (holds_target T Q (T.timetable.edge e).pattern)) (ltb (v + walk_time T Q e) b.best)
        (λ c C. edges_walk x v w l j u es (λ d m. I d (Memᴰ.tail m)) c C)
      where
        foot_label : Label
        foot_label = Walk (v + walk_time T Q e) x (edge_to T e) (walk_time T Q e) (T.distance e) (stamp - 1)

        next : Arrivals
        next = relax T Q stamp (edge_to T e) (v + walk_time T Q e) foot_label b

        go : (y z : Bool) → ((c : Arrivals) → Walks c → Walks (walk_from T Q flagged stamp x v es c))
            → Walks (elim y [
              | true ↦ walk_from T Q flagged stamp x v es b
              | false ↦ elim z [ false ↦ walk_from T Q flagged stamp x v es b | true ↦ walk_from T Q flagged stamp x v es next ]
            ])
        go true z on = on b S
        go false false on = on b S
        go false true on =
            on next (relax_steps T Q (edge_to T e) (v + walk_time T Q e) foot_label (foot x e v w l late j u (I e (Memᴰ.head refl))) refl S)

    pub walks_all : (xs : List ℕ) → ((x : ℕ) → Memᴰ x xs → (w : ℕ) × (l : Label) × Rides T Q stamp x w l × (at a x ≤ w)) → (b : Arrivals)
        → Walks b → Walks (walk_all T Q flagged stamp xs b)
    unfolding walk_all
    walks_all [] I b S = S
    walks_all (x ∷ xs) I b S =
        let k = I x (Memᴰ.head refl) in
        walks_all xs (λ y m. I y (Memᴰ.tail m)) _
        (edges_walk x (at b x) k.0 k.1 k.2 (le_trans (steps_le T Q S x) k.3) (edges_from T x) (λ e m. m) b S)

  stamped_in : (stamp : ℕ) (ss xs : List ℕ) (x : ℕ) → Memᴰ x (stamped T Q stamp ss xs) → Memᴰ x xs
  unfolding stamped
  stamped_in stamp ss [] x m = m
  stamped_in stamp ss (y ∷ xs) x m = go (eqb (get_or ss y 0) stamp) (stamped_in stamp ss xs x) m
    where
      go : (b : Bool) → (Memᴰ x (stamped T Q stamp ss xs) → Memᴰ x xs)
          → Memᴰ x (elim b [ true ↦ y ∷ stamped T Q stamp ss xs | false ↦ stamped T Q stamp ss xs ]) → Memᴰ x (y ∷ xs)
      go true f m = ⊎_elim (λ e. Memᴰ.head e) (λ n. Memᴰ.tail (f n)) (Memᴰ.cases_cons m)
      go false f m = Memᴰ.tail (f m)

  stamped_few : (stamp : ℕ) (ss xs : List ℕ) → length (stamped T Q stamp ss xs) ≤ length xs
  unfolding stamped
  stamped_few stamp ss [] = omega arith
  stamped_few stamp ss (y ∷ xs) = go (eqb (get_or ss y 0) stamp) (stamped_few stamp ss xs)
    where
      go : (b : Bool) → length (stamped T Q stamp ss xs) ≤ length xs
          → length {A = ℕ} (elim b [ true ↦ y ∷ stamped T Q stamp ss xs | false ↦ stamped T Q stamp ss xs ]) ≤ suc (length xs)
      go true h = omega arith
      go false h = omega arith

  -- ONE ROUND
  module _ (flagged : Bool) (r : ℕ) (s : State) (I : (g : Segment) → Memᴰ g s.arrivals.seg_queue → Begins T Q g) where
    abbrev mid : Arrivals
    mid = (ride_phase T Q flagged r s).arrivals

    abbrev walked : Arrivals
    walked = walk_all T Q flagged (suc (suc r)) mid.reached (emptied T Q mid.seg_queue mid)

    pub rode : Steps T Q (Rides T Q (suc (suc r))) (suc (suc r)) (emptied T Q [] s.arrivals) mid
    rode = (ride-phase flagged r s I).arrivals

    pub boarded : Boards T Q r (suc (suc r)) (round_start T Q s).boardings (ride_phase T Q flagged r s).boardings
    boarded = (ride-phase flagged r s I).boardings

    pub walks : Steps T Q (Why T Q (suc (suc r))) (suc (suc r)) (emptied T Q mid.seg_queue mid) walked
    walks =
        walks_all flagged (suc (suc r)) (omega arith) (emptied T Q mid.seg_queue mid) mid.reached
        (λ x m. ⊎_elim (λ n. absurd (Memᴰ.not-nil n)) (λ k. k) (steps_reached T Q rode x m)) (emptied T Q mid.seg_queue mid) stay

    pub ends : Ended T Q mid.reached walked (walk_phase T Q flagged r (ride_phase T Q flagged r s)).arrivals
    unfolding walk_phase
    ends =
        record {
          same = record { labels = refl; earliest = refl; best = refl; stamps = refl; reaches = refl };
          reached = go flagged;
          few = size flagged;
          queue = refl;
        }
      where
        go : (f : Bool) (x : ℕ)
            → Memᴰ x (elim f [ true ↦ walked.reached | false ↦ walked.reached ++ stamped T Q (suc (suc r)) walked.stop_stamp mid.reached ])
            → Memᴰ x walked.reached ⊎ Memᴰ x mid.reached
        go true x m = inl m
        go false x m =
            ⊎_elim (λ n. inl n) (λ n. inr (stamped_in (suc (suc r)) walked.stop_stamp mid.reached x n))
            (Memᴰ.append_cases walked.reached m)

        size : (f : Bool)
            → length {A = ℕ} (elim f [
              | true ↦ walked.reached
              | false ↦ walked.reached ++ stamped T Q (suc (suc r)) walked.stop_stamp mid.reached
            ])
            ≤ length walked.reached + length mid.reached
        size true = omega arith
        size false =
            let kept = stamped T Q (suc (suc r)) walked.stop_stamp mid.reached in
            omega (arith, length-append walked.reached kept, stamped_few (suc (suc r)) walked.stop_stamp mid.reached)

  -- THE ORIGINS
  pub set_out_lem : (o : Origin) → Memᴰ o Q.origins → {a b : Arrivals} → Steps T Q (Why T Q 1) 1 a b → Steps T Q (Why T Q 1) 1 a (set_out T Q o b)
  unfolding set_out
  set_out_lem o m {a} {b} S = go (ltb v (at b o.stop)) refl
    where
      v : ℕ
      v = Q.start + o.duration

      l : Label
      l = Access o.stop v o.duration o.distance

      go : (x : Bool) → ltb v (at b o.stop) ≡ x
          → Steps T Q (Why T Q 1) 1 a (elim x [
            | true ↦ record {
              labels = set b.labels (record_of o.stop 0) l;
              earliest = set b.earliest o.stop v;
              best = best_after T Q o.stop v b.best;
              stop_stamp = set b.stop_stamp o.stop 1;
              reached = b.reached ++ (o.stop ∷ []);
              seg_queue = b.seg_queue;
              seg_reach = b.seg_reach;
            }
            | false ↦ record {
              labels = b.labels;
              earliest = b.earliest;
              best = best_after T Q o.stop v b.best;
              stop_stamp = b.stop_stamp;
              reached = b.reached;
              seg_queue = b.seg_queue;
              seg_reach = b.seg_reach;
            }
          ])
      go true e =
          improved o.stop v l S (origin o m) refl (ltb-true _ _ e)
          (record {
            labels = refl;
            earliest = refl;
            best = refl;
            lists = anew (inr refl) refl refl;
            queue = refl;
            reaches = refl;
          })
      go false e =
          heard o.stop v l S (origin o m) (record {
            late = ltb-false _ _ e;
            labels = refl;
            earliest = refl;
            best = refl;
            stamps = refl;
            reached = refl;
            queue = refl;
            reaches = refl;
          })

  pub set_all_out : (os : List Origin) → ((o : Origin) → Memᴰ o os → Memᴰ o Q.origins) → (a b : Arrivals) → Steps T Q (Why T Q 1) 1 a b
      → Steps T Q (Why T Q 1) 1 a (access T Q os b)
  unfolding access
  set_all_out [] I a b S = S
  set_all_out (o ∷ os) I a b S = set_all_out os (λ p m. I p (Memᴰ.tail m)) a _ (set_out_lem o (I o (Memᴰ.head refl)) S)

  pub begin_ran : Ran T Q 0 (begin T Q)
  begin_ran =
      let S = set_all_out Q.origins (λ o m. m) (new_arrivals T Q) (new_arrivals T Q) stay in
      record { arrivals = begun S; queue = λ g m. ⊎_elim (λ n. absurd (Memᴰ.not-nil n)) (λ q. q) (steps_queue T Q S g m); boardings = new }

  pub round_ran : (flagged : Bool) (r : ℕ) (s : State) → Ran T Q r s → Ran T Q (suc r) (walk_phase T Q flagged r (ride_phase T Q flagged r s))
  unfolding walk_phase
  round_ran flagged r s R =
      record {
        arrivals = round R.arrivals (rode flagged r s R.queue) (walks flagged r s R.queue) (ends flagged r s R.queue);
        queue = λ g m. ⊎_elim
            (λ n. ⊎_elim (λ k. absurd (Memᴰ.not-nil k)) (λ q. q) (steps_queue T Q (rode flagged r s R.queue) g n))
            (λ q. q)
            (steps_queue T Q (walks flagged r s R.queue) g (rw (ends flagged r s R.queue).queue at m));
        boardings = books;
      }
    where
      books : Books T Q (suc r) (walk_phase T Q flagged r (ride_phase T Q flagged r s)).boardings
      books = round _ R.boardings (boarded flagged r s R.queue)

  pub rounds_ran : (flagged : Bool) (n r : ℕ) (s : State) → Ran T Q r s → (k : ℕ) × (k ≤ n + r) × Ran T Q k (rounds T Q flagged n r s)
  unfolding rounds
  rounds_ran flagged zero r s R = (r, omega arith, R)
  rounds_ran flagged (suc n) r s R =
      go (idle T Q flagged s.arrivals) (rounds_ran flagged n (suc r) (walk_phase T Q flagged r (ride_phase T Q flagged r s)) (round_ran flagged r s R))
    where
      go : (x : Bool) → (k : ℕ) × (k ≤ n + suc r) × Ran T Q k (rounds T Q flagged n (suc r) (walk_phase T Q flagged r (ride_phase T Q flagged r s)))
          → (k : ℕ) × (k ≤ suc n + r) × Ran T Q k (elim x [
            | true ↦ s
            | false ↦ rounds T Q flagged n (suc r) (walk_phase T Q flagged r (ride_phase T Q flagged r s))
          ])
      go true p = (r, omega arith, R)
      go false p = (p.0, omega (arith, p.1), p.2)

  -- EVERY ADMITTED RUN goes along steps, for at most as many rounds as the query has
  pub final_ran : (flagged : Bool) → (k : ℕ) × (k ≤ rounds_of Q) × Ran T Q k (final T Q flagged)
  unfolding final
  final_ran flagged = let p = rounds_ran flagged (rounds_of Q) 0 (begin T Q) begin_ran in (p.0, omega (arith, p.1), p.2)
