-- What "no way" says, in either mode; what the definition of the search leaves out.
use Prim.Native.Nat.{ℕ, zero, suc, ◌+◌, ◌*◌, ◌≤◌, ◌<◌}
use mathlib.Core.Path.{◌≡◌, refl, sym, ◌∙◌, ap, subst}
use mathlib.Core.Logic.{◌⊎◌, inl, inr, ⊎_elim}
use mathlib.Core.Bool.{Bool, true, false, ◌&&◌, ◌||◌, not}
use mathlib.Core.List.{List, [], ◌∷◌, Memᴰ}
use native.Mathlib.Omega.{arith}
use lib.ListN.{length, get_or, replicate, length-append, get_or-replicate}
use lib.Dec.{ltb, eqb}
use borrow.Author.Tests.{ltb-true, eq-eqb}
use Rattle.sorts.specs.Orders.{All, nil, cons}
use Rattle.label.specs.declared.Label.{Label}
use Rattle.label.specs.declared.Label.TheVariants.{Empty}
use Rattle.model.specs.Tables.{never, Tables, Origin, Query, rounds_of, stops}
use Rattle.model.specs.Door.{Door}
use Rattle.model.specs.Search.{Segment, Arrivals, State, SearchAnswer, at, round_start, ride_segments, ride_phase, walk_phase, idle, rounds, set_out, access, new_arrivals, begin, best_target, candidates_from, final, search_answer}
use Rattle.answer_laws.specs.Queue.{round_of}
use Rattle.answer_laws.proofs.Moves.{taken, left_out, Goes, any_fits, moves_none, ride_phase_goes, walk_all_moves, access_queue, walks_from, walks_to, rounds_keep}
use Rattle.model.proofs.Switch.{answer_of}

module _ (T : Tables) (Q : Query) where
  -- the best target is as before, or earlier
  target_falls : (a : Arrivals) (es : List (ℕ × ℕ)) (b : ℕ × ℕ) → (best_target T Q a es b ≡ b) ⊎ ((best_target T Q a es b).0 < b.0)
  unfolding best_target
  target_falls a [] b = inl refl
  target_falls a (e ∷ es) b = go (eqb (at a e.0) never) (ltb (at a e.0 + e.1) b.0) refl (λ c. target_falls a es c)
    where
      go : (n l : Bool) → ltb (at a e.0 + e.1) b.0 ≡ l → ((c : ℕ × ℕ) → (best_target T Q a es c ≡ c) ⊎ ((best_target T Q a es c).0 < c.0))
          → let c : ℕ × ℕ = elim n [
            | true ↦ best_target T Q a es b
            | false ↦ elim l [ true ↦ best_target T Q a es (at a e.0 + e.1, e.0) | false ↦ best_target T Q a es b ]
          ] in
          (c ≡ b) ⊎ (c.0 < b.0)
      go true l f r = r b
      go false false f r = r b
      go false true f r =
          let h : at a e.0 + e.1 < b.0 = ltb-true (at a e.0 + e.1) b.0 f in
          inr (⊎_elim (λ q. omega (arith, ap (λ (c : ℕ × ℕ). c.0) q, h))
          (λ (q : (best_target T Q a es (at a e.0 + e.1, e.0)).0 < at a e.0 + e.1). omega arith) (r (at a e.0 + e.1, e.0)))

  -- "NO WAY", in either mode: with the total the stop is `never` too, and there is no candidate
  pub no_way : (flagged : Bool) → (search_answer T Q flagged).total ≡ never → ((search_answer T Q flagged).stop ≡ never) × ((search_answer T Q flagged).candidates ≡ [])
  unfolding search_answer
  no_way flagged e = (
    ⊎_elim (λ q. ap (λ (c : ℕ × ℕ). c.1) q) (λ (q : b.0 < never). absurd (omega arith)) (target_falls a Q.egress (never, never)),
    go (eqb b.0 never) (eq-eqb b.0 never e),
  )
    where
      a : Arrivals
      a = (final T Q flagged).arrivals

      b : ℕ × ℕ
      b = best_target T Q a Q.egress (never, never)

      go : (c : Bool) → c ≡ true
          → ◌≡◌ {A = List (ℕ × ℕ × ℕ)} (elim c [ true ↦ [] | false ↦ candidates_from T Q a b.0 (suc (rounds_of Q)) 0 never ]) []
      go true h = refl
      go false h = absurd (let z : ◌≡◌ {A = ℕ} 0 1 = cc in omega arith)

-- the answer "no way" on labels that no phase wrote
abbrev pub nowhere : Tables → SearchAnswer
nowhere T = record { total = never; stop = never; candidates = []; labels = replicate (stops T * 13) Empty; scans = []; queued = [] }

module _ (T : Tables) (Q : Query) where
  access_grows : (os : List Origin) (a : Arrivals) → length a.reached ≤ length (access T Q os a).reached
  unfolding access set_out
  access_grows [] a = omega arith
  access_grows (o ∷ os) a = omega (arith, access_grows os (set_out T Q o a), go (ltb (Q.start + o.duration) (at a o.stop)))
    where
      go : (b : Bool) → length a.reached ≤ length (elim b as (λ z. Arrivals) [ true ↦ taken T Q o a | false ↦ left_out T Q o a ]).reached
      go true = omega (arith, length-append a.reached (o.stop ∷ []))
      go false = omega arith

  -- where access reaches no stop, it writes no label and no arrival
  access_none : (os : List Origin) (a : Arrivals) → (access T Q os a).reached ≡ []
      → ((access T Q os a).labels ≡ a.labels) × ((access T Q os a).earliest ≡ a.earliest)
  unfolding access set_out
  access_none [] a e = (refl, refl)
  access_none (o ∷ os) a e = go (ltb (Q.start + o.duration) (at a o.stop)) e (λ c. access_none os c)
    where
      go : (b : Bool) → let c : Arrivals = elim b [ true ↦ taken T Q o a | false ↦ left_out T Q o a ] in
          (access T Q os c).reached ≡ []
          → ((c : Arrivals) → (access T Q os c).reached ≡ [] → ((access T Q os c).labels ≡ c.labels) × ((access T Q os c).earliest ≡ c.earliest))
          → ((access T Q os c).labels ≡ a.labels) × ((access T Q os c).earliest ≡ a.earliest)
      go true e r = absurd (omega (arith, access_grows os (taken T Q o a), length-append a.reached (o.stop ∷ []), ap length e))
      go false e r = r (left_out T Q o a) e

  -- nothing to board at, nothing to ride
  idle_empty : (flagged : Bool) (a : Arrivals) → a.reached ≡ [] → a.seg_queue ≡ [] → idle T Q flagged a ≡ true
  unfolding idle
  idle_empty flagged a e q =
      ap (λ (xs : List ℕ). eqb (length xs) 0 && (not flagged || eqb (length a.seg_queue) 0)) e
      ∙ (ap (λ (gs : List Segment). not flagged || eqb (length gs) 0) q ∙ either flagged)
    where
      either : (b : Bool) → not b || true ≡ true
      either true = refl
      either false = refl

  -- a run that is idle at its start stays there
  idle_rounds : (flagged : Bool) (n r : ℕ) (s : State) → idle T Q flagged s.arrivals ≡ true → rounds T Q flagged n r s ≡ s
  unfolding rounds
  idle_rounds flagged zero r s e = refl
  idle_rounds flagged (suc n) r s e =
      ap (λ (b : Bool). elim b as (λ z. State) [ true ↦ s | false ↦ rounds T Q flagged n (suc r) (round_of T Q flagged r s) ]) e

  -- targets none of which is reached
  target_none : (a : Arrivals) (es : List (ℕ × ℕ)) (b : ℕ × ℕ) → ((s d : ℕ) → Memᴰ (s, d) es → at a s ≡ never) → best_target T Q a es b ≡ b
  unfolding best_target
  target_none a [] b h = refl
  target_none a (e ∷ es) b h =
      go (eqb (at a e.0) never) (eq-eqb (at a e.0) never (h e.0 e.1 (Memᴰ.head refl)))
      (target_none a es b (λ s d m. h s d (Memᴰ.tail m)))
    where
      go : (n : Bool) → n ≡ true → best_target T Q a es b ≡ b
          → ◌≡◌ {A = ℕ × ℕ} (elim n [
            | true ↦ best_target T Q a es b
            | false ↦ elim (ltb (at a e.0 + e.1) b.0) [
              | true ↦ best_target T Q a es
                  (at a e.0 + e.1, e.0)
              | false ↦ best_target T Q a es b
            ]
          ]) b
      go true f r = r
      go false f r = absurd (let z : ◌≡◌ {A = ℕ} 0 1 = cc in omega arith)

  -- WHERE NO ORIGIN IS REACHED the answer is "no way", nothing is scanned and nothing queued: what the Rust answers at once
  pub no_origin : Door T Q → (flagged : Bool) → (begin T Q).arrivals.reached ≡ [] → search_answer T Q flagged ≡ nowhere T
  unfolding search_answer final idle
  no_origin D flagged e =
      ap (answer_of T Q)
      (idle_rounds flagged (rounds_of Q) 0 (begin T Q) (idle_empty flagged (begin T Q).arrivals e (access_queue T Q Q.origins (new_arrivals T Q))))
      ∙ ap (λ (b : ℕ × ℕ). out b (begin T Q).arrivals.labels) (target_none (begin T Q).arrivals Q.egress (never, never) unreached)
      ∙ ap (out (never, never)) (access_none Q.origins (new_arrivals T Q) e).0
    where
      out : ℕ × ℕ → List Label → SearchAnswer
      out b l =
          record {
            total = b.0;
            stop = b.1;
            candidates = elim (eqb b.0 never) [ true ↦ [] | false ↦ candidates_from T Q (begin T Q).arrivals b.0 (suc (rounds_of Q)) 0 never ];
            labels = l;
            scans = [];
            queued = [];
          }

      unreached : (s d : ℕ) → Memᴰ (s, d) Q.egress → at (begin T Q).arrivals s ≡ never
      unreached s d m =
          ap (λ (l : List ℕ). get_or l s 0) (access_none Q.origins (new_arrivals T Q) e).1 ∙ get_or-replicate (stops T) s never 0 (D.egress_in s d m)

  -- UNFLAGGED no segment is ever queued
  pub record Unqueued (s : State) : Type 0 where
    pub empty : s.arrivals.seg_queue ≡ []
    pub zeros : All (λ n. n ≡ 0) s.boardings.queued

  round_unqueued : (r : ℕ) (s : State) → Unqueued s → Unqueued (round_of T Q false r s)
  unfolding walk_phase
  round_unqueued r s U = record { empty = empty; zeros = cons (ap length empty) (subst (All (λ n. n ≡ 0)) (sym rode.queued) U.zeros) }
    where
      rode : Goes T Q (λ t. t ≡ t) (λ x. x ≡ x) false (suc (suc r)) (round_start T Q s) (ride_phase T Q false r s)
      rode = ride_phase_goes T Q (any_fits T Q) false r s (λ g m. refl)

      empty : (walks_to T Q false r (ride_phase T Q false r s)).seg_queue ≡ []
      empty =
          (moves_none T Q (walk_all_moves T Q (any_fits T Q) false (suc (suc r)) (ride_phase T Q false r s).arrivals.reached
          (walks_from T Q false (ride_phase T Q false r s)))).0 ∙ (moves_none T Q rode.moves).0

  -- at the start of every round and at the run's end
  pub unqueued : (n : ℕ) → Unqueued (rounds T Q false n 0 (begin T Q))
  unqueued n =
      (rounds_keep T Q false (λ r s. Unqueued s) round_unqueued n 0 (begin T Q)
      (record { empty = access_queue T Q Q.origins (new_arrivals T Q); zeros = nil })).1

  -- so at the end
  pub unflagged_final : Unqueued (final T Q false)
  unfolding final
  unflagged_final = unqueued (rounds_of Q)

  -- and in the answer
  pub unflagged_zeros : All (λ n. n ≡ 0) (search_answer T Q false).queued
  unfolding search_answer
  unflagged_zeros = unflagged_final.zeros

  -- and the segment phase, left out there, would change nothing at the start of any round
  pub no_segment_phase : (n round stamp : ℕ) (s : State)
      → ride_segments T Q false round stamp (rounds T Q false n 0 (begin T Q)).arrivals.seg_queue s ≡ s
  unfolding ride_segments
  no_segment_phase n round stamp s = ap (λ (gs : List Segment). ride_segments T Q false round stamp gs s) (unqueued n).empty
