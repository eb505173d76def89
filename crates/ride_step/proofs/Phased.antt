-- Segments, then stops: the ride phase. Assumes nothing.
use Prim.Native.Nat.{ℕ, suc, ◌-◌, ◌/◌, ◌<◌}
use mathlib.Core.Path.{◌≡◌, refl, sym, ap, subst, ◌∙◌}
use mathlib.Core.Bool.{Bool, true, false, cond}
use mathlib.Core.List.{List, []}
use native.Mathlib.Omega.{arith}
use lib.ListN.{length}
use lib.Ieee.{Float}
use Rattle.loops.specs.Count.{tab_from}
use Rattle.model.specs.Tables.{Tables, Query, change_before}
use Rattle.model.specs.Search.{Arrivals, State, emptied, round_start, ride_segments, scan_stops, ride_phase}
use Rattle.query_types.specs.declared.Lay.{Lay}
use Rattle.query_types.specs.declared.Head.{Head}
use Rattle.search_state.specs.Part.{part}
use Rattle.answer_laws.specs.Lawful.{latest}
use Rattle.search_state.specs.Places.{turned, StopsListed}
use Rattle.search_state.specs.View.{Memory, memory, arrivals_of, queue_of}
use Rattle.ride_step.specs.Laid.{Rides, Laid, Segments}
use Rattle.ride_step.specs.Phase.{Seen, Before, Opening, start_head, RidePhase}
use Rattle.ride_step.specs.Going.{Going, Rode, Changing}
use Rattle.ride_step.proofs.Later.{stops_later}
use Rattle.ride_step.proofs.Keep.{laid_kept, changing_kept, part_kept, kept_other}
use Rattle.search_state.proofs.Lists.{listed_kept}
use Rattle.ride_step.proofs.Riding.{Riding, ride_start, ride_turn, ride_over, ride_end}
use Rattle.query_types.specs.Slices.{Slices}
use Rattle.query_types.specs.declared.Context.{Context}

-- no stop reached, no segment queued
emptied_is : (T : Tables) (Q : Query) (lay : Lay) (w l : List ℕ) (m : List Float) (h : Head) (from q : List ℕ)
    → emptied T Q [] (arrivals_of (turned lay) (memory w l m h) from) ≡ arrivals_of lay (memory w l m (start_head h)) q
unfolding part queue_of tab_from
emptied_is T Q lay w l m h from q = refl

-- a state from which a part of the ride phase goes on, after others
pub going_on : {ctx : Context} {sl : Slices} {stamp : ℕ} {a b : Memory} {q r : List ℕ}
    {agree : Tables → Query → Type 0} {whole rest : Tables → Query → State → State} → Going ctx sl stamp a q
    → Riding ctx.lay stamp agree whole rest a b q r → Going ctx sl stamp b r
going_on G p = record { laid = laid_kept G.laid p.kept; ready = p.ready; chains = p.chains; room = p.room }

module _ {ctx : Context} {sl : Slices} {stamp change : ℕ} {w l : List ℕ} {m : List Float} {h : Head} {from : List ℕ}
    (L : Laid ctx sl w) (O : Opening ctx.counts.timetable ctx.lay stamp change (memory w l m h) from) where
  pub going_first : (q : List ℕ) → Going ctx sl stamp (memory w l m (start_head h)) q
  going_first q = record { laid = L; ready = O.ready; chains = O.chains; room = record { none = refl; room = omega arith } }

  abbrev agree : Tables → Query → Type 0
  agree = Changing ctx sl (stamp - 2) change w

  -- what the phase does to the state as it begins
  abbrev segments_in : Bool → Tables → Query → State → State
  segments_in flagged T Q s = elim flagged as (λ z. State) [ true ↦ ride_segments T Q true (stamp - 2) stamp (queue_of from h.queued) s | false ↦ s ]

  abbrev phase_in : Bool → Tables → Query → State → State
  phase_in flagged T Q s = scan_stops T Q flagged (stamp - 2) stamp (part w ctx.lay.other h.count) (segments_in flagged T Q s)

  -- the segments that are ridden: none without arc flags
  pub segments_first : (flagged : Bool) (k : ℕ) → k ≡ cond flagged h.queued 0 → Segments ctx.counts.timetable from k
  segments_first flagged k e = subst (Segments ctx.counts.timetable from) (sym e) (go flagged)
    where
      go : (f : Bool) → Segments ctx.counts.timetable from (cond f h.queued 0)
      go true = O.segments
      go false = record { room = omega arith; trip = λ j u. absurd (omega arith); shift = λ j u. absurd (omega arith) }

  -- those, then the stops
  module _ (flagged : Bool) (k : ℕ) (are : k ≡ cond flagged h.queued 0) {b : Memory} {q r : List ℕ}
      (z : Rode ctx.lay stamp (Rides ctx sl w) (λ T Q. ride_segments T Q flagged (stamp - 2) stamp (queue_of from k)) (memory w l m (start_head h)) b q r) where
    same_segments : (T : Tables) (Q : Query) (s : State) → ride_segments T Q flagged (stamp - 2) stamp (queue_of from k) s ≡ segments_in flagged T Q s
    unfolding ride_segments queue_of tab_from
    same_segments T Q s = ap (λ (j : ℕ). ride_segments T Q flagged (stamp - 2) stamp (queue_of from j) s) are ∙ go flagged
      where
        go : (f : Bool) → ride_segments T Q f (stamp - 2) stamp (queue_of from (cond f h.queued 0)) s ≡ segments_in f T Q s
        go true = refl
        go false = refl

    abbrev stops_in : Tables → Query → State → State
    stops_in T Q = scan_stops T Q flagged (stamp - 2) stamp (part w ctx.lay.other h.count)

    first : Riding ctx.lay stamp agree (phase_in flagged) (phase_in flagged) (memory w l m (start_head h)) (memory w l m (start_head h)) q q
    first = let G = going_first q in ride_start (phase_in flagged) (phase_in flagged) (memory w l m (start_head h)) q G.ready G.chains G.room (λ T Q y s. refl)

    ridden : b.head.full ≡ false → Riding ctx.lay stamp agree (phase_in flagged) stops_in (memory w l m (start_head h)) b q r
    ridden = ride_turn stops_in first z (λ T Q y. y.rides) (λ T Q y x e. ap (stops_in T Q) (same_segments T Q x))

    -- a segment does not fit
    pub phase_over : b.head.full ≡ true → Rode ctx.lay stamp agree (phase_in flagged) (memory w l m (start_head h)) b q r
    phase_over u =
        ride_over stops_in first z (λ T Q y. y.rides) (λ T Q y x e. ap (stops_in T Q) (same_segments T Q x)) u
        (λ T Q x. (stops_later T Q flagged (stamp - 2) stamp (part w ctx.lay.other h.count) x).queue)

    -- all fit so far: the stops then
    module _ (fit : b.head.full ≡ false) where
      pub going_then : Going ctx sl stamp b r
      going_then = going_on (going_first q) (ridden fit)

      pub waiting_then : StopsListed ctx.lay b.work h.count latest
      waiting_then = listed_kept O.waiting (kept_other z.step.kept) (z.falls fit)

      pub phase_then : {c : Memory} {s : List ℕ}
          → Rode ctx.lay stamp (Changing ctx sl (stamp - 2) change b.work) (λ T Q. scan_stops T Q flagged (stamp - 2) stamp (part b.work ctx.lay.other h.count)) b c r s
          → Rode ctx.lay stamp agree (phase_in flagged) (memory w l m (start_head h)) c q s
      phase_then {c} {s} k = go c.head.full refl
        where
          listed : part b.work ctx.lay.other h.count ≡ part w ctx.lay.other h.count
          listed = part_kept ctx.lay w b.work h.count z.step.kept O.waiting.few

          turn : (T : Tables) (Q : Query) → agree T Q → (x : State) → Seen ctx.lay stamp T Q b r x → scan_stops T Q flagged (stamp - 2) stamp (part b.work ctx.lay.other h.count) x ≡ stops_in T Q x
          turn T Q y x e = ap (λ (xs : List ℕ). scan_stops T Q flagged (stamp - 2) stamp xs x) listed

          kept : (T : Tables) (Q : Query) → agree T Q → Changing ctx sl (stamp - 2) change b.work T Q
          kept T Q y = changing_kept L z.step.kept y

          go : (f : Bool) → c.head.full ≡ f → Rode ctx.lay stamp agree (phase_in flagged) (memory w l m (start_head h)) c q s
          go true e = ride_over (λ T Q x. x) (ridden fit) k kept turn e (λ T Q x. omega arith)
          go false e = ride_end (phase_in flagged) (ride_turn (λ T Q x. x) (ridden fit) k kept turn e) (λ T Q y x v. refl)

  -- THE RIDE PHASE of the model, from the state before it
  module _ (flagged : Bool) {b : Memory} {q q' : List ℕ} (z : Rode ctx.lay stamp agree (phase_in flagged) (memory w l m (start_head h)) b q q') where
    module _ (T : Tables) (Q : Query) (round : ℕ) (is : stamp ≡ suc (suc round)) (s : State) (p : Before ctx.lay stamp T Q (memory w l m h) from s) where
      seen_first : Seen ctx.lay stamp T Q (memory w l m (start_head h)) q (round_start T Q s)
      seen_first = record { arrivals = ap (emptied T Q []) p.arrivals ∙ emptied_is T Q ctx.lay w l m h from q; boardings = p.boardings }

      phase_is : phase_in flagged T Q (round_start T Q s) ≡ ride_phase T Q flagged round s
      unfolding ride_phase
      phase_is =
          let e : stamp - 2 ≡ round = omega (arith, is) in
          let a : part w ctx.lay.other h.count ≡ s.arrivals.reached = sym (ap (λ (x : Arrivals). x.reached) p.arrivals) in
          let g : queue_of from h.queued ≡ s.arrivals.seg_queue = sym (ap (λ (x : Arrivals). x.seg_queue) p.arrivals) in
          λ i. scan_stops T Q flagged (e i) (is i) (a i) (elim flagged as (λ z. State) [ true ↦ ride_segments T Q true (e i) (is i) (g i) (round_start T Q s) | false ↦ round_start T Q s ])

    changing : (T : Tables) (Q : Query) (round : ℕ) → stamp ≡ suc (suc round) → change_before Q round ≡ change → Rides ctx sl w T Q → agree T Q
    changing T Q round is e y = let k : stamp - 2 ≡ round = omega (arith, is) in record { rides = y; before = ap (change_before Q) k ∙ e }

    pub phase_is_ride : RidePhase ctx.lay flagged stamp change (Rides ctx sl w) (memory w l m h) b from q q'
    phase_is_ride =
        record {
          view = λ u T Q y round is e s p.
              subst (Seen ctx.lay stamp T Q b q') (phase_is T Q round is s p) (z.step.view u T Q (changing T Q round is e y) (round_start T Q s) (seen_first T Q round is s p));
          over = λ u T Q y round is e s p.
              subst (λ (x : State). length q / 4 < length x.arrivals.seg_queue) (phase_is T Q round is s p)
              (z.step.over u T Q (changing T Q round is e y) (round_start T Q s) (seen_first T Q round is s p));
          kept = z.step.kept;
          ready = z.step.ready;
          chains = z.step.chains;
          size = z.step.size;
          room = z.step.room;
        }
