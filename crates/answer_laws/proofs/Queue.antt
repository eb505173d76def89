-- The segment queue (request T-13): without frequency trips no trip is queued more often, over a whole query, than it has stop times,
-- so that a queue as long as all stop counts together never fills. With arc flags in use or not.
use Prim.Native.Nat.{ℕ, zero, suc, ◌+◌, ◌≤◌, ◌<◌, min, zero-le}
use mathlib.Core.Path.{◌≡◌, refl, sym, ◌∙◌, ap, subst}
use mathlib.Core.Logic.{⊎_elim}
use mathlib.Core.Bool.{Bool, true, false, ◌||◌, not}
use mathlib.Core.List.Memᴰ
use mathlib.Core.List.{List, [], ◌∷◌, ◌++◌, append_assoc, append-nil, sum, Memᴰ}
use native.Mathlib.Nat.{le_refl}
use native.Mathlib.Omega.{arith}
use lib.ListN.{length, get_or, set}
use lib.Seq.{get_or-set_other}
use lib.Dec.{ltb, eqb}
use borrow.Author.Tests.{ltb-true, eqb-true, eqb-false, ne_eqb}
use Rattle.loops.specs.Count.{one, tab, tab_from}
use Rattle.model.specs.Tables.{Tables, Query, rounds_of, trips, stop_count, no_windows}
use Rattle.model.specs.Door.{Door}
use Rattle.model.specs.Search.{Segment, Arrivals, State, improve, enqueue, emptied, ride_phase, walk_phase, idle, rounds, begin, final, search_answer}
use Rattle.answer_laws.specs.Queue.{added, of_trip, all_stop_times, NoFrequency, round_of, times_queued}
use Rattle.answer_laws.proofs.Moves.{Moves, stay, arrive, queue, pushed, moves_trips, Queues, rides, walks, round_queues, begin_queues}

-- SUMS
added_le : (f g : ℕ → ℕ) (i n : ℕ) → ((k : ℕ) → f k ≤ g k) → added (tab_from f i n) ≤ added (tab_from g i n)
unfolding tab_from sum
added_le f g i zero h = le_refl 0
added_le f g i (suc n) h = omega (arith, h i, added_le f g (suc i) n h)

added_both : (f g : ℕ → ℕ) (i n : ℕ) → added (tab_from (λ k. f k + g k) i n) ≡ added (tab_from f i n) + added (tab_from g i n)
unfolding tab_from sum
added_both f g i zero = refl
added_both f g i (suc n) = omega (arith, added_both f g (suc i) n)

added_none : (f : ℕ → ℕ) (i n : ℕ) → ((k : ℕ) → i ≤ k → f k ≡ 0) → added (tab_from f i n) ≡ 0
unfolding tab_from sum
added_none f i zero h = refl
added_none f i (suc n) h = omega (arith, h i (le_refl i), added_none f (suc i) n (λ k l. h k (omega arith)))

-- a number stands once among those counted
added_one : (k i n : ℕ) → i ≤ k → k < i + n → added (tab_from (λ t. one (eqb k t)) i n) ≡ 1
unfolding tab_from sum
added_one k i zero l u = absurd (omega arith)
added_one k i (suc n) l u = go (eqb k i) refl (added_one k (suc i) n)
  where
    go : (b : Bool) → eqb k i ≡ b → (suc i ≤ k → k < suc i + n → added (tab_from (λ t. one (eqb k t)) (suc i) n) ≡ 1)
        → one b + added (tab_from (λ t. one (eqb k t)) (suc i) n) ≡ 1
    go true e r = omega (arith, added_none (λ t. one (eqb k t)) (suc i) n (λ t h. ap one (ne_eqb k t (λ (z : k ≡ t). omega (arith, eqb-true k i e)))))
    go false e r = let z : (k ≡ i → ⊥) = eqb-false k i e in let q = r (omega arith) (omega arith) in omega arith

added_member : (l : List ℕ) (x : ℕ) → Memᴰ x l → x ≤ added l
unfolding sum
added_member [] x m = absurd (Memᴰ.not-nil m)
added_member (y ∷ l) x m = ⊎_elim (λ (e : x ≡ y). omega arith) (λ i. omega (arith, added_member l x i)) (Memᴰ.cases_cons m)

-- a queue is as long as it has segments of the trips, all together
queue_length : (n : ℕ) (q : List Segment) → ((g : Segment) → Memᴰ g q → g.trip < n) → length q ≡ added (tab (λ t. of_trip t q) n)
unfolding of_trip
queue_length n [] I = sym (added_none (λ t. 0) 0 n (λ k h. refl))
queue_length n (g ∷ q) I =
    omega (
      arith,
      added_both (λ t. one (eqb g.trip t)) (λ t. of_trip t q) 0 n,
      added_one g.trip 0 n zero-le
          (omega (arith, I g (Memᴰ.head refl))),
      queue_length n q (λ h m. I h (Memᴰ.tail m)),
    )

of_append : (t : ℕ) (q : List Segment) (g : Segment) → of_trip t (q ++ (g ∷ [])) ≡ of_trip t q + one (eqb g.trip t)
unfolding of_trip
of_append t [] g = omega arith
of_append t (h ∷ q) g = omega (arith, of_append t q g)

-- a lower number put where one stands
set_lower : (l : List ℕ) (i v : ℕ) → v < get_or l i 0 → get_or (set l i v) i 0 ≡ v
set_lower [] i v h = absurd (omega arith)
set_lower (x ∷ l) zero v h = refl
set_lower (x ∷ l) (suc i) v h = set_lower l i v h

module _ (T : Tables) where
  -- how often trip t may still be queued: each time at a lower offset
  abbrev pub left : ℕ → Arrivals → ℕ
  left t a = min (get_or a.seg_reach t 0) (stop_count T t)

module _ (T : Tables) (Q : Query) where
  -- one trip queued: one more of it, and at least one time less left
  enqueue_room : (t o s shift : ℕ) (a : Arrivals) → no_windows T t ≡ true → o < stop_count T t → (u : ℕ)
      → of_trip u (enqueue T Q t o s shift a).seg_queue + left T u (enqueue T Q t o s shift a) ≤ of_trip u a.seg_queue + left T u a
  unfolding enqueue
  enqueue_room t o s shift a w h u = go (no_windows T t) w (ltb o (get_or a.seg_reach t 0)) refl
    where
      lower : o < get_or a.seg_reach t 0 → (b : Bool) → eqb t u ≡ b
          → of_trip u a.seg_queue + one b + min (get_or (set a.seg_reach t o) u 0) (stop_count T u) ≤ of_trip u a.seg_queue + left T u a
      lower l true e =
          subst (λ (u : ℕ). of_trip u a.seg_queue + 1 + min (get_or (set a.seg_reach t o) u 0) (stop_count T u) ≤ of_trip u a.seg_queue + left T u a)
          (eqb-true t u e) (omega (arith, set_lower a.seg_reach t o l))
      lower l false e = omega (arith, get_or-set_other a.seg_reach t u o 0 (λ z. eqb-false t u e (sym z)))

      go : (w : Bool) → w ≡ true → (b : Bool) → ltb o (get_or a.seg_reach t 0) ≡ b
          → let n : Arrivals = elim (not w || b) [ false ↦ a | true ↦ pushed T Q w t o s shift a ] in
          of_trip u n.seg_queue + min (get_or n.seg_reach u 0) (stop_count T u) ≤ of_trip u a.seg_queue + left T u a
      go true e false l = le_refl _
      go true e true l =
          omega (arith, of_append u a.seg_queue (record { trip = t; offset = o; stop = s; shift = shift }), lower (ltb-true _ _ l) (eqb t u) refl)
      go false e b l = absurd (let z : ◌≡◌ {A = ℕ} 0 1 = cc in omega arith)

  -- moves add to the queue and take nothing from it
  pub moves_add : {R J : ℕ → Type 0} {flagged : Bool} {stamp : ℕ} {a b : Arrivals} → Moves T Q R J flagged stamp a b
      → (new : List Segment) × (b.seg_queue ≡ a.seg_queue ++ new)
  unfolding improve enqueue
  moves_add {a = a} stay = ([], sym (append-nil a.seg_queue))
  moves_add (arrive s v l j r) = moves_add r
  moves_add (queue {a = a} {b = b} t o s x f h i r) = go (not (no_windows T t) || ltb o (get_or a.seg_reach t 0)) (moves_add r)
    where
      go : (c : Bool)
          → (new : List Segment) × (b.seg_queue
          ≡ (elim c as (λ z. Arrivals) [ false ↦ a | true ↦ pushed T Q (no_windows T t) t o s x a ]).seg_queue ++ new)
          → (new : List Segment) × (b.seg_queue ≡ a.seg_queue ++ new)
      go false p = p
      go true p =
          let g : Segment = record { trip = t; offset = o; stop = s; shift = x } in
          (g ∷ p.0, p.1 ∙ append_assoc a.seg_queue (g ∷ []) p.0)

module _ (T : Tables) (Q : Query) (D : Door T Q) (flagged : Bool) where
  one_more : (r : ℕ) (s : State) → Queues T s
      → added (round_of T Q flagged r s).boardings.queued ≡ length (round_of T Q flagged r s).arrivals.seg_queue + added s.boardings.queued
  unfolding walk_phase sum
  one_more r s I = ap (λ (l : List ℕ). length (round_of T Q flagged r s).arrivals.seg_queue + added l) (rides T Q D flagged r s I).queued

  -- the segments queued at the rounds' ends are those of the trips, all together
  run_adds : (n r : ℕ) (s : State) → Queues T s
      → added (rounds T Q flagged n r s).boardings.queued
      ≡ added s.boardings.queued + added (tab (λ t. times_queued T Q flagged t n r s) (trips T))
  unfolding rounds times_queued
  run_adds zero r s I = omega (arith, added_none (λ t. 0) 0 (trips T) (λ k h. refl))
  run_adds (suc n) r s I = go (idle T Q flagged s.arrivals) (run_adds n (suc r) (round_of T Q flagged r s) (round_queues T Q D flagged r s I))
    where
      s' : State
      s' = round_of T Q flagged r s

      go : (b : Bool)
          → added (rounds T Q flagged n (suc r) s').boardings.queued
          ≡ added s'.boardings.queued + added (tab (λ t. times_queued T Q flagged t n (suc r) s') (trips T))
          → added (elim b as (λ z. State) [ true ↦ s | false ↦ rounds T Q flagged n (suc r) s' ]).boardings.queued
          ≡ added s.boardings.queued + added (tab
          (λ t. elim b as (λ z. ℕ) [ true ↦ 0 | false ↦ of_trip t s'.arrivals.seg_queue + times_queued T Q flagged t n (suc r) s' ]) (trips T))
      go true q = omega (arith, added_none (λ t. 0) 0 (trips T) (λ k h. refl))
      go false q =
          omega (
            arith,
            q,
            one_more r s I,
            queue_length (trips T) s'.arrivals.seg_queue (round_queues T Q D flagged r s I).trip_in,
            added_both (λ t. of_trip t s'.arrivals.seg_queue) (λ t. times_queued T Q flagged t n (suc r) s') 0 (trips T),
          )

  -- what an answer says was queued is what its trips were, all together
  pub queued_adds : added (search_answer T Q flagged).queued ≡ added (tab (λ t. times_queued T Q flagged t (rounds_of Q) 0 (begin T Q)) (trips T))
  unfolding search_answer final sum
  queued_adds = omega (arith, run_adds (rounds_of Q) 0 (begin T Q) (begin_queues T Q))

module _ (T : Tables) (Q : Query) (none : NoFrequency T) where
  -- ALL MOVES: a trip's segments in the queue and the times left to it never grow together
  pub moves_room : {J : ℕ → Type 0} {flagged : Bool} {stamp : ℕ} {a b : Arrivals} → Moves T Q (λ t. t < trips T) J flagged stamp a b → (t : ℕ)
      → of_trip t b.seg_queue + left T t b ≤ of_trip t a.seg_queue + left T t a
  unfolding improve
  moves_room stay t = le_refl _
  moves_room (arrive s v l j r) t = moves_room r t
  moves_room (queue {a = a} u o s x f h i r) t = omega (arith, moves_room r t, enqueue_room T Q u o s x a (none u h) i t)

  -- AT ANY TIME IN A ROUND the queue is no longer than all stop counts together
  pub queue_fits : {J : ℕ → Type 0} {flagged : Bool} {stamp : ℕ} (a : Arrivals) {b : Arrivals}
      → Moves T Q (λ t. t < trips T) J flagged stamp (emptied T Q [] a) b
      → length b.seg_queue ≤ all_stop_times T
  unfolding of_trip
  queue_fits a {b = b} m =
      omega (
        arith,
        queue_length (trips T) b.seg_queue (moves_trips T Q m (λ g i. absurd (Memᴰ.not-nil i))),
        added_le (λ t. of_trip t b.seg_queue) (λ t. stop_count T t) 0 (trips T) (λ t. omega (arith, moves_room m t)),
      )

  module _ (D : Door T Q) (flagged : Bool) where
    -- ONE ROUND: a trip's segments in the queue at its end are no more than the times left to it fell
    pub round_room : (r : ℕ) (s : State) → Queues T s → (t : ℕ)
        → of_trip t (round_of T Q flagged r s).arrivals.seg_queue + left T t (round_of T Q flagged r s).arrivals ≤ left T t s.arrivals
    unfolding walk_phase of_trip
    round_room r s I t =
        omega (arith, moves_room (walks T Q D flagged r (ride_phase T Q flagged r s)) t, moves_room (rides T Q D flagged r s I).moves t)

    -- A WHOLE RUN
    run_room : (t n r : ℕ) (s : State) → Queues T s → times_queued T Q flagged t n r s ≤ left T t s.arrivals
    unfolding times_queued
    run_room t zero r s I = zero-le
    run_room t (suc n) r s I = go (idle T Q flagged s.arrivals) (run_room t n (suc r) (round_of T Q flagged r s) (round_queues T Q D flagged r s I))
      where
        go : (b : Bool) → times_queued T Q flagged t n (suc r) (round_of T Q flagged r s) ≤ left T t (round_of T Q flagged r s).arrivals
            → elim b as (λ z. ℕ) [
              | true ↦ 0
              | false ↦ of_trip t (round_of T Q flagged r s).arrivals.seg_queue + times_queued T Q flagged t n (suc r)
                  (round_of T Q flagged r s)
            ] ≤ left T t s.arrivals
        go true q = zero-le
        go false q = omega (arith, round_room r s I t)

    -- T-13: over a whole query no trip is queued more often than it has stop times
    pub trip_queued : (t : ℕ) → times_queued T Q flagged t (rounds_of Q) 0 (begin T Q) ≤ stop_count T t
    trip_queued t = omega (arith, run_room t (rounds_of Q) 0 (begin T Q) (begin_queues T Q))

    -- over a whole query no more segments are queued than all stop counts together
    pub queue_total : added (search_answer T Q flagged).queued ≤ all_stop_times T
    queue_total =
        omega (
          arith,
          queued_adds T Q D flagged,
          added_le (λ t. times_queued T Q flagged t (rounds_of Q) 0 (begin T Q)) (λ t. stop_count T t) 0
              (trips T) trip_queued,
        )

    -- T-13: at no round's end is the queue longer than that
    pub queue_never_fills : (n : ℕ) → Memᴰ n (search_answer T Q flagged).queued → n ≤ all_stop_times T
    queue_never_fills n m = omega (arith, queue_total, added_member (search_answer T Q flagged).queued n m)
