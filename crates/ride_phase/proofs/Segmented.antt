-- The segments, one by one. Assumes nothing.
use Prim.Native.Nat.{ℕ, suc, ◌+◌, ◌-◌, ◌≤◌, ◌<◌}
use mathlib.Core.Path.{◌≡◌, refl, sym, ap, subst, ◌∙◌}
use mathlib.Core.Bool.{Bool, true, false, not}
use mathlib.Core.List.{List, [], ◌∷◌}
use native.Mathlib.Omega.{arith}
use native.Mathlib.Numerals.{add-one}
use lib.Ieee.{Float}
use borrow.Author.Tests.{not-true, not-false}
use Rattle.door.specs.Door.{time_limit}
use Rattle.loops.specs.Count.{tab_from}
use Rattle.stop_delay.specs.Times.{size_of}
use Rattle.tables.specs.declared.Counts.{Counts}
use Rattle.tables.specs.Timetable.{timetable}
use Rattle.std.specs.Prelude.{Option}
use Rattle.delay_rows.specs.Flat.{delay_tables}
use Rattle.model.specs.Tables.{Tables, Query, permitted}
use Rattle.model.specs.Search.{Segment, State, delay_of, logged, scan_trip_forward, ride_segments}
use Rattle.query_types.specs.declared.Head.{Head}
use Rattle.query_types.specs.declared.Ride.{Ride}
use Rattle.search_state.specs.View.{Memory, memory, segment_at, queue_of}
use Rattle.search_state.specs.Step.{Ready, QueueStep}
use Rattle.trip_boarding.specs.Reads.{hit_of, Known, Asks}
use Rattle.trip_scan.specs.Scan.{Nets, Riding}
use Rattle.ride_step.specs.Laid.{Rides, Segments}
use Rattle.ride_step.specs.Going.{Going, Rode, ride_of}
use Rattle.ride_step.proofs.Keep.{kept_refl}
use Rattle.ride_step.proofs.Riding.{ride_none, ride_as}
use Rattle.ride_step.proofs.Scanned.{books_logged, riding_on, scan_rode}
use Rattle.search_state.proofs.Falls.{falls_refl}
use Rattle.query_types.specs.Slices.{Slices}
use Rattle.query_types.specs.declared.Context.{Context}

module _ (T : Tables) (Q : Query) (flagged : Bool) (round stamp : ℕ) where
  -- the state after a segment that is ridden
  abbrev ridden : Segment → State → State
  ridden g s =
      record {
        arrivals = scan_trip_forward T Q flagged stamp (delay_of Q g.trip) g.shift g.trip g.stop g.offset s.arrivals;
        boardings = logged T Q round g.trip g.offset s.boardings;
      }

  segments_cons : (g : Segment) (gs : List Segment) (s : State)
      → ride_segments T Q flagged round stamp gs (ride_segments T Q flagged round stamp (g ∷ []) s) ≡ ride_segments T Q flagged round stamp (g ∷ gs) s
  unfolding ride_segments
  segments_cons g gs s = go (permitted T Q g.trip)
    where
      go : (b : Bool) → ride_segments T Q flagged round stamp gs (elim b as (λ z. State) [ false ↦ s | true ↦ ridden g s ])
          ≡ elim b as (λ z. State) [ false ↦ ride_segments T Q flagged round stamp gs s | true ↦ ride_segments T Q flagged round stamp gs (ridden g s) ]
      go true = refl
      go false = refl

  segments_nil : (s : State) → ride_segments T Q flagged round stamp [] s ≡ s
  unfolding ride_segments
  segments_nil s = refl

  segment_one : (g : Segment) (s : State) (b : Bool) → permitted T Q g.trip ≡ b → elim b as (λ z. State) [ false ↦ s | true ↦ ridden g s ] ≡ ride_segments T Q flagged round stamp (g ∷ []) s
  unfolding ride_segments
  segment_one g s b e = ap (λ (y : Bool). elim y as (λ z. State) [ false ↦ s | true ↦ ridden g s ]) (sym e)

  -- the segments of a queue, m of them, from row k on
  abbrev pub segments_from : List ℕ → ℕ → ℕ → State → State
  segments_from from m k s = ride_segments T Q flagged round stamp (tab_from (segment_at from) k (m - k)) s

  pub segments_turn : (from : List ℕ) (m k : ℕ) (s : State) → k < m
      → segments_from from m (k + 1) (ride_segments T Q flagged round stamp (segment_at from k ∷ []) s) ≡ segments_from from m k s
  unfolding tab_from
  segments_turn from m k s h =
      let e : suc (m - (k + 1)) ≡ m - k = omega arith in
      ap (λ (i : ℕ). ride_segments T Q flagged round stamp (tab_from (segment_at from) i (m - (k + 1))) (ride_segments T Q flagged round stamp (segment_at from k ∷ []) s)) (add-one k)
      ∙ segments_cons (segment_at from k) (tab_from (segment_at from) (suc k) (m - (k + 1))) s
      ∙ ap (λ (i : ℕ). ride_segments T Q flagged round stamp (tab_from (segment_at from) k i) s) e

  pub segments_end : (from : List ℕ) (m k : ℕ) (s : State) → m ≤ k → s ≡ segments_from from m k s
  unfolding tab_from
  segments_end from m k s h =
      let e : m - k ≡ 0 = omega arith in
      sym (ap (λ (i : ℕ). ride_segments T Q flagged round stamp (tab_from (segment_at from) k i) s) e ∙ segments_nil s)

  pub segments_start : (from : List ℕ) (m : ℕ) (s : State) → segments_from from m 0 s ≡ ride_segments T Q flagged round stamp (queue_of from m) s
  unfolding queue_of
  segments_start from m s =
      let e : m - 0 ≡ m = omega arith in ap (λ (i : ℕ). ride_segments T Q flagged round stamp (tab_from (segment_at from) 0 i) s) e

-- fewer segments
pub segments_fewer : {c : Counts} {q : List ℕ} {n : ℕ} (k : ℕ) → Segments c q n → k ≤ n → Segments c q k
segments_fewer k p h = record { room = omega (arith, p.room); trip = λ i l. p.trip i (omega arith); shift = λ i l. p.shift i (omega arith) }

module _ {ctx : Context} {sl : Slices} {stamp : ℕ} {w l : List ℕ} {m : List Float} {h : Head} {q : List ℕ}
    (G : Going ctx sl stamp (memory w l m h) q) (flagged : Bool) (round k : ℕ) (from : List ℕ) (S : Segments ctx.counts.timetable from (k + 1))
    (ride : Ride) (is : ride ≡ ride_of stamp (segment_at from k)) where
  pub segment_trip : ride.trip < ctx.counts.timetable.trips
  segment_trip = omega (arith, ap (λ (r : Ride). r.trip) is, S.trip k (omega arith))

  pub segment_riding : (adj : Option ℕ) → Known sl.delay_rows adj → Riding sl.tables ctx.counts.timetable sl.delay_rows sl.stop_rows adj ctx.lay ride
  segment_riding adj known = riding_on G adj ride known segment_trip (subst (λ (r : Ride). size_of r.shift ≤ time_limit) (sym is) (S.shift k (omega arith)))

  pub segment_ready : Ready ctx.lay ride.stamp (memory w l m h)
  segment_ready = subst (λ (r : Ride). Ready ctx.lay r.stamp (memory w l m h)) (sym is) G.ready

  module _ (p : Bool) (told : (T : Tables) (Q : Query) → T.timetable ≡ timetable sl.tables ctx.counts.timetable → Asks Q ctx.net.terms → p ≡ permitted T Q ride.trip) where
    allowed : (T : Tables) (Q : Query) → Rides ctx sl w T Q → p ≡ permitted T Q (segment_at from k).trip
    allowed T Q y = told T Q y.nets.agree.timetable y.nets.asks ∙ ap (λ (r : Ride). permitted T Q r.trip) is

    -- its trip is not permitted
    pub segment_barred : not p ≡ true
        → Rode ctx.lay stamp (Rides ctx sl w) (λ T Q. ride_segments T Q flagged round stamp (segment_at from k ∷ [])) (memory w l m h) (memory w l m h) q q
    segment_barred e =
        ride_none (λ T Q. ride_segments T Q flagged round stamp (segment_at from k ∷ [])) (memory w l m h) q G.ready G.chains G.room
        (λ T Q y s z. segment_one T Q flagged round stamp (segment_at from k) s false (sym (allowed T Q y) ∙ not-true p e))

    -- it is ridden
    pub segment_ridden : not p ≡ false → (adj : Option ℕ) → ((Q : Query) (stops : List ℕ) → Q.delays ≡ delay_tables sl.delay_rows stops → hit_of adj ≡ delay_of Q ride.trip) → {b : Memory} {q' : List ℕ}
        → QueueStep ctx.lay ride.stamp (Nets ctx sl w) (λ T Q. scan_trip_forward T Q flagged ride.stamp (hit_of adj) ride.shift ride.trip ride.stop ride.offset) (memory w l m h) b q q'
        → Rode ctx.lay stamp (Rides ctx sl w) (λ T Q. ride_segments T Q flagged round stamp (segment_at from k ∷ [])) (memory w l m h) b q q'
    segment_ridden e adj row {b} {q'} z =
        let g = segment_at from k in
        ride_as (λ T Q. ride_segments T Q flagged round stamp (g ∷ []))
        (scan_rode G flagged adj g.shift g.trip g.stop g.offset (λ T Q. logged T Q round g.trip g.offset)
        (λ Q stops d. row Q stops d ∙ ap (λ (r : Ride). delay_of Q r.trip) is) (kept_refl ctx.lay w) refl (falls_refl ctx.lay w) G.chains
        (λ T Q y c u. books_logged round g.trip g.offset c u)
        (subst (λ (r : Ride). QueueStep ctx.lay r.stamp (Nets ctx sl w) (λ T Q. scan_trip_forward T Q flagged r.stamp (hit_of adj) r.shift r.trip r.stop r.offset) (memory w l m h) b q q') is z))
        (λ T Q y. y) (λ T Q y s v. segment_one T Q flagged round stamp g s true (sym (allowed T Q y) ∙ not-false p e))
