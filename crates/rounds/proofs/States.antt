-- The model's states round by round: their bounds, and how the rounds go on from one. Assumes nothing.
use Prim.Native.Nat.{ℕ, zero, suc, ◌+◌, ◌-◌, ◌≤◌, ◌<◌}
use mathlib.Core.Path.{◌≡◌, refl, sym, ap, ◌∙◌}
use mathlib.Core.Logic.{⊎_elim}
use mathlib.Core.Bool.{Bool, true, false, ◌||◌}
use mathlib.Core.List.Memᴰ
use mathlib.Core.List.{List, [], ◌∷◌, Memᴰ}
use native.Mathlib.Nat.{le_trans}
use native.Mathlib.Omega.{arith}
use lib.ListN.{length, get_or}
use lib.Dec.{ltb}
use borrow.Author.Tests.{lt-ltb, le-ltb}
use Rattle.model.specs.Tables.{Tables, Query, rounds_of}
use Rattle.model.specs.Search.{Arrivals, Boardings, State, at, board, emptied, ride_phase, walk_phase, idle, rounds, begin, final, overflows}
use Rattle.model.specs.Door.{Door}
use Rattle.answer_laws.specs.Lawful.{latest}
use Rattle.answer_laws.proofs.Moves.{rounds_keep}
use Rattle.answer_laws.proofs.Steps.{Run, begun, round, Boards, none, listed, segment, steps_le, steps_reached}
use Rattle.answer_laws.proofs.Labels.{rides_early, why_early}
use Rattle.answer_laws.proofs.Runs.{Ran, boarded, begin_ran, round_ran}
use Rattle.ride_step.proofs.Later.{walks_later}
use Rattle.rounds.specs.Round.{state_at}

-- what stands in a list is one of its members
pub stands_in : {A : Type 0} (l : List A) (i : ℕ) (d : A) → i < length l → Memᴰ (get_or l i d) l
stands_in [] i d h = absurd (omega arith)
stands_in (x ∷ l) zero d h = Memᴰ.head refl
stands_in (x ∷ l) (suc i) d h = Memᴰ.tail (stands_in l i d (omega arith))

-- question 8 of one number more
pub overflow_now : (room m : ℕ) (ms : List ℕ) → room < m → overflows room (m ∷ ms) ≡ true
unfolding overflows
overflow_now room m ms h = ap (λ (b : Bool). b || overflows room ms) (lt-ltb room m h)

pub overflow_none : (room m : ℕ) (ms : List ℕ) → m ≤ room → overflows room ms ≡ false → overflows room (m ∷ ms) ≡ false
unfolding overflows
overflow_none room m ms h e = ap (λ (b : Bool). b || overflows room ms) (le-ltb room m h) ∙ e

overflow_more : (room m : ℕ) (ms : List ℕ) → overflows room ms ≡ true → overflows room (m ∷ ms) ≡ true
unfolding overflows
overflow_more room m ms e = go (ltb room m)
  where
    go : (b : Bool) → (b || overflows room ms) ≡ true
    go true = refl
    go false = e

module _ (T : Tables) (Q : Query) where
  boards_queued : {r stamp : ℕ} {b c : Boardings} → Boards T Q r stamp b c → c.queued ≡ b.queued
  unfolding board
  boards_queued none = refl
  boards_queued (listed t o y S w B) = boards_queued S
  boards_queued (segment g S w G) = boards_queued S

module _ (T : Tables) (Q : Query) (D : Door T Q) where
  -- a stop reached before a round is reached by the latest arrival
  pub run_early : {stamp : ℕ} {a : Arrivals} → Run T Q stamp a → (x : ℕ) → Memᴰ x a.reached → at a x ≤ latest
  run_early (begun S) x m =
      ⊎_elim (λ n. absurd (Memᴰ.not-nil n)) (λ k. le_trans k.3 (why_early T Q D k.2).1) (steps_reached T Q S x m)
  run_early (round {b = b} {c = c} R S W E) x m =
      rw E.same.earliest
      (⊎_elim
      (λ n. ⊎_elim (λ z. absurd (Memᴰ.not-nil z)) (λ k. le_trans k.3 (why_early T Q D k.2).1) (steps_reached T Q W x n))
      (λ n. ⊎_elim (λ z. absurd (Memᴰ.not-nil z)) (λ k. omega (arith, steps_le T Q W x, k.3, (rides_early T Q D k.2).1)) (steps_reached T Q S x n))
      (E.reached x m))

  -- no round's end is noted in a ride phase
  pub ride_queued : (flagged : Bool) (r : ℕ) (s : State) → Ran T Q r s → (ride_phase T Q flagged r s).boardings.queued ≡ s.boardings.queued
  ride_queued flagged r s R = boards_queued T Q (boarded T Q D flagged r s R.queue)

  module _ (flagged : Bool) where
    pub state_ran : (r : ℕ) → Ran T Q r (state_at T Q flagged r)
    unfolding state_at
    state_ran zero = begin_ran T Q D
    state_ran (suc r) = round_ran T Q D flagged r (state_at T Q flagged r) (state_ran r)

    -- a number noted stays noted
    round_over : (room r : ℕ) (s : State) → Ran T Q r s → overflows room s.boardings.queued ≡ true
        → overflows room (walk_phase T Q flagged r (ride_phase T Q flagged r s)).boardings.queued ≡ true
    unfolding walk_phase
    round_over room r s R e = overflow_more room _ _ (ap (overflows room) (ride_queued flagged r s R) ∙ e)

    record Overfull (room r : ℕ) (s : State) : Type 0 where
      ran : Ran T Q r s
      over : overflows room s.boardings.queued ≡ true

    pub overflow_stays : (room n r : ℕ) (s : State) → Ran T Q r s → overflows room s.boardings.queued ≡ true
        → overflows room (rounds T Q flagged n r s).boardings.queued ≡ true
    overflow_stays room n r s R e =
        (rounds_keep T Q flagged (Overfull room)
        (λ k u p. record { ran = round_ran T Q D flagged k u p.ran; over = round_over room k u p.ran p.over }) n r s
        (record { ran = R; over = e })).1.over

  -- a ride phase that queues more than there is room for
  pub round_overflows : (flagged : Bool) (room r : ℕ) → room < length (ride_phase T Q flagged r (state_at T Q flagged r)).arrivals.seg_queue
      → overflows room (state_at T Q flagged (suc r)).boardings.queued ≡ true
  unfolding state_at walk_phase
  round_overflows flagged room r h =
      let s : State = ride_phase T Q flagged r (state_at T Q flagged r) in
      overflow_now room _ _ (omega (arith, h, (walks_later T Q flagged (suc (suc r)) s.arrivals.reached (emptied T Q s.arrivals.seg_queue s.arrivals)).queue))

module _ (T : Tables) (Q : Query) (flagged : Bool) where
  -- the rounds from round r on are the search's
  abbrev pub Onward : ℕ → ℕ → Type 0
  Onward limit r = (k : ℕ) → r + k ≡ limit → rounds T Q flagged k r (state_at T Q flagged r) ≡ final T Q flagged

  pub onward_start : Onward (rounds_of Q) 0
  unfolding state_at final
  onward_start k e = let f : k ≡ rounds_of Q = omega (arith, e) in ap (λ (n : ℕ). rounds T Q flagged n 0 (begin T Q)) f

  idle_stays : (k r : ℕ) (s : State) → idle T Q flagged s.arrivals ≡ true → rounds T Q flagged k r s ≡ s
  unfolding rounds
  idle_stays zero r s e = refl
  idle_stays (suc k) r s e = ap (λ (b : Bool). elim b as (λ z. State) [ true ↦ s | false ↦ rounds T Q flagged k (suc r) (walk_phase T Q flagged r (ride_phase T Q flagged r s)) ]) e

  pub onward_next : (limit r : ℕ) → idle T Q flagged (state_at T Q flagged r).arrivals ≡ false → Onward limit r → Onward limit (suc r)
  unfolding rounds state_at
  onward_next limit r e o k h =
      let s : State = state_at T Q flagged r in
      let q : r + suc k ≡ limit = omega (arith, h) in
      sym (ap (λ (b : Bool). elim b as (λ z. State) [ true ↦ s | false ↦ rounds T Q flagged k (suc r) (walk_phase T Q flagged r (ride_phase T Q flagged r s)) ]) e) ∙ o (suc k) q

  pub onward_idle : (limit r : ℕ) → idle T Q flagged (state_at T Q flagged r).arrivals ≡ true → r ≤ limit → Onward limit r → final T Q flagged ≡ state_at T Q flagged r
  onward_idle limit r e h o =
      let q : r + (limit - r) ≡ limit = omega (arith, h) in
      sym (o (limit - r) q) ∙ idle_stays (limit - r) r (state_at T Q flagged r) e

  pub onward_end : (limit r : ℕ) → r ≤ limit → limit ≤ r → Onward limit r → final T Q flagged ≡ state_at T Q flagged r
  unfolding rounds
  onward_end limit r h l o = let q : r + 0 ≡ limit = omega (arith, h, l) in sym (o 0 q)
