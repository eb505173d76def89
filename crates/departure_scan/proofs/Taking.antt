-- A listed departure, by what board_listed says of it: not boarded, or boarded, noted and scanned. Assumes nothing.
use Prim.Native.Nat.{ℕ, ◌≤◌}
use mathlib.Core.Path.{◌≡◌, sym, ap, subst, ◌∙◌}
use mathlib.Core.Bool.{Bool}
use mathlib.Core.List.{List}
use native.Mathlib.Omega.{arith}
use lib.Ieee.{Float}
use Rattle.loops.specs.Iter.{Hit}
use Rattle.stop_delay.specs.Times.{size_of}
use Rattle.door.specs.Door.{time_limit}
use Rattle.tables.specs.Timetable.{Timetable}
use Rattle.std.specs.Prelude.{Option, None, Some}
use Rattle.delay_rows.specs.Flat.{delay_tables}
use Rattle.frequency.specs.declared.BoardedRun.{BoardedRun}
use Rattle.model.specs.Tables.{Tables, Query}
use Rattle.model.specs.Search.{Arrivals, State, delay_of, board_at, boarding, board, scan_trip_forward}
use Rattle.model.proofs.Sizes.{boards_soon}
use Rattle.query_types.specs.declared.Head.{Head}
use Rattle.search_state.specs.View.{Memory, memory}
use Rattle.search_state.specs.Step.{QueueStep}
use Rattle.trip_boarding.specs.Reads.{hit_of, Event, Agree, Asks}
use Rattle.line_pruning.specs.Books.{Agrees, Books, Noted}
use Rattle.line_pruning.proofs.Kept.{noted_at, arrivals_noted}
use Rattle.trip_scan.specs.Scan.{Nets, Netted}
use Rattle.departure_scan.specs.Listed.{RoundChains, AsBoarded}
use Rattle.ride_step.specs.Laid.{Rides, Kept}
use Rattle.ride_step.specs.Phase.{Seen}
use Rattle.ride_step.specs.Going.{Going, Rode, taken, taken_by}
use Rattle.ride_step.proofs.Keep.{kept_noted, laid_kept, agrees_of}
use Rattle.ride_step.proofs.Riding.{ride_none, ride_as}
use Rattle.ride_step.proofs.Scanned.{count_few, scan_rode}
use Rattle.query_types.specs.Slices.{Slices}
use Rattle.query_types.specs.declared.Context.{Context}

module _ {ctx : Context} {sl : Slices} {stamp : ℕ} {w l : List ℕ} {m : List Float} {h : Head} {q : List ℕ}
    (G : Going ctx sl stamp (memory w l m h) q) where
  -- the chains of the round, as a listed departure is tested against them
  pub chained : RoundChains ctx.lay stamp ctx.counts.timetable sl.built w
  chained =
      record {
        sized = G.ready.sized.sections;
        chains = G.chains;
        trips = G.laid.netted.trips;
        lines = omega (arith, G.laid.netted.held.trips, G.laid.netted.trips);
      }

  -- A LISTED DEPARTURE, by what board_listed says of it
  module _ (flagged : Bool) (adj : Option ℕ) (x after trip off round : ℕ) (r : Option BoardedRun)
      (told : (T : Tables) (Q : Query) (s : State) → Agree T Q sl.tables ctx.counts.timetable sl.delay_rows sl.stop_rows → Asks Q ctx.net.terms → Agrees T ctx.lay ctx.counts.timetable sl.built w
      → Books ctx.lay stamp T Q w s.boardings → s.arrivals.best ≡ h.best → r ≡ boarding T Q stamp after (hit_of adj) trip off s)
      (row : (Q : Query) (stops : List ℕ) → Q.delays ≡ delay_tables sl.delay_rows stops → hit_of adj ≡ delay_of Q trip) where
    told_seen : (T : Tables) (Q : Query) → Rides ctx sl w T Q → (s : State) → Seen ctx.lay stamp T Q (memory w l m h) q s
        → r ≡ boarding T Q stamp after (delay_of Q trip) trip off s
    told_seen T Q y s e =
        told T Q s y.nets.agree y.nets.asks (agrees_of G.laid y) e.boardings (ap (λ (a : Arrivals). a.best) e.arrivals)
        ∙ ap (λ (k : Hit). boarding T Q stamp after k trip off s) (row Q sl.stop_rows y.nets.agree.delays)

    taken_as : (f : Option BoardedRun) → r ≡ f → (T : Tables) (Q : Query) → Rides ctx sl w T Q → (s : State) → Seen ctx.lay stamp T Q (memory w l m h) q s
        → taken_by T Q flagged round stamp x (record { trip = trip; offset = off }) f s ≡ taken T Q flagged round stamp x after (record { trip = trip; offset = off }) s
    taken_as f i T Q y s e = ap (λ (g : Option BoardedRun). taken_by T Q flagged round stamp x (record { trip = trip; offset = off }) g s) (sym i ∙ told_seen T Q y s e)

    -- it is not boarded
    pub taken_none : r ≡ None → Rode ctx.lay stamp (Rides ctx sl w) (λ T Q. taken T Q flagged round stamp x after (record { trip = trip; offset = off })) (memory w l m h) (memory w l m h) q q
    taken_none i = ride_none (λ T Q. taken T Q flagged round stamp x after (record { trip = trip; offset = off })) (memory w l m h) q G.ready G.chains G.room (taken_as None i)

    module _ (c : BoardedRun) (i : r ≡ Some c) where
      -- its shift is small
      pub shift_small : AsBoarded sl.tables ctx.counts.timetable sl.delay_rows sl.stop_rows adj trip off after r → Event sl.tables ctx.counts.timetable trip off → size_of c.time_shift_s ≤ time_limit
      shift_small a v =
          let T = G.laid.netted.T in
          let Q = G.laid.netted.Q in
          let y = G.laid.rides in
          let same : T.timetable ≡ _ = y.nets.agree.timetable in
          (boards_soon T Q G.laid.netted.door trip off (omega (arith, v.trip, ap (λ (z : Timetable). z.trips) same))
          (omega (arith, v.offset, ap (λ (z : Timetable). (z.trip trip).count) same)) after c
          (ap (λ (k : Hit). board_at T Q k trip off after) (sym (row Q sl.stop_rows y.nets.agree.delays)) ∙ a.at c i T Q y.nets.agree)).shift

      module _ {w1 : List ℕ} (v : Noted ctx.lay stamp sl.built (hit_of adj) trip off c.departure w w1) where
        pub noted_kept : Kept ctx.lay w w1
        noted_kept = kept_noted G.ready.sized.sections v

        pub noted_netted : Netted ctx sl w1
        noted_netted = (laid_kept G.laid noted_kept).netted

        -- it is boarded, noted and scanned
        pub taken_board : {b : Memory} {q' : List ℕ}
            → QueueStep ctx.lay stamp (Nets ctx sl w1) (λ T Q. scan_trip_forward T Q flagged stamp (hit_of adj) c.time_shift_s trip x off) (memory w1 l m h) b q q'
            → Rode ctx.lay stamp (Rides ctx sl w) (λ T Q. taken T Q flagged round stamp x after (record { trip = trip; offset = off })) (memory w l m h) b q q'
        taken_board z =
            ride_as (λ T Q. taken T Q flagged round stamp x after (record { trip = trip; offset = off }))
            (scan_rode G flagged adj c.time_shift_s trip x off (λ T Q. board T Q round stamp (delay_of Q trip) trip off c.departure) row noted_kept
            (arrivals_noted ctx.lay stamp sl.built (hit_of adj) trip off c.departure w w1 v G.ready.sized.sections l m h (count_few G.ready) q)
            (record { earlier = λ e o. let u = noted_at ctx.lay stamp sl.built (hit_of adj) trip off c.departure w w1 v e (omega (arith, o)) in omega (arith, u) }) v.chains
            (λ T Q y k p. subst (λ (g : Hit). Books ctx.lay stamp T Q w1 (board T Q round stamp g trip off c.departure k)) (row Q sl.stop_rows y.nets.agree.delays)
            (v.books T Q ctx.counts.timetable (agrees_of G.laid y) (row Q sl.stop_rows y.nets.agree.delays) round k p)) z)
            (λ T Q y. y) (taken_as (Some c) i)
