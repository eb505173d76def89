-- What a round leaves: the model's state after its walk phase, or question 8 answered no after its ride phase. Assumes nothing.
use Prim.Native.Nat.{ℕ, suc, ◌/◌, ◌≤◌}
use mathlib.Core.Path.{◌≡◌, sym, ap, subst, ◌∙◌}
use mathlib.Core.Bool.{true, false}
use mathlib.Core.List.{List}
use native.Mathlib.Omega.{arith}
use lib.ListN.{length}
use lib.Ieee.{Float}
use Rattle.model.specs.Tables.{Tables, Query, change_before}
use Rattle.model.specs.Search.{Arrivals, Boardings, State, ride_phase, walk_phase, overflows}
use Rattle.model.proofs.Base.{no_both}
use Rattle.query_types.specs.declared.Lay.{Lay}
use Rattle.search_state.specs.Places.{turned}
use Rattle.search_state.specs.View.{Memory, arrivals_of}
use Rattle.search_state.proofs.Marking.{counted_stops}
use Rattle.search_state.proofs.Lists.{turned_sized}
use Rattle.line_pruning.specs.Books.{Chains, Books}
use Rattle.line_pruning.proofs.Rounds.{chains_rest, books_rest}
use Rattle.walk_phase.specs.Walking.{WalksAgree}
use Rattle.walk_phase.specs.Lists.{noted, WalkPhase}
use Rattle.ride_step.specs.Laid.{Rides, Laid}
use Rattle.ride_step.specs.Phase.{RidePhase}
use Rattle.rounds.specs.Round.{state_at, Fed, Holds, BeforeRound, Round}
use Rattle.rounds.proofs.Keep.{laid_walked, rides_walked}
use Rattle.rounds.proofs.States.{overflow_none, ride_queued, state_ran, round_overflows}
use Rattle.rounds.proofs.Opening.{rode_laid, rode_rides, seen, walk_agree, before_ride}
use Rattle.query_types.specs.Slices.{Slices}
use Rattle.query_types.specs.declared.Context.{Context}

-- the log of queued segments is no part of the books
books_noted : {lay : Lay} {stamp : ℕ} {T : Tables} {Q : Query} {w : List ℕ} {b : Boardings} (m : ℕ) → Books lay stamp T Q w b → Books lay stamp T Q w (noted m b)
books_noted m k =
    record { trip_stamp = k.trip_stamp; board_offset = k.board_offset; board_departure = k.board_departure; own = k.own; held = k.held; test = k.test }

module _ {ctx : Context} {sl : Slices} {distances : List Float} {r : ℕ} {a b : Memory} {from q q' : List ℕ}
    {stamp before : ℕ} (o : BeforeRound ctx sl distances r a from (length q)) (e : stamp ≡ suc (suc r))
    (ch : (Q : Query) → Q.change ≡ ctx.change → change_before Q r ≡ before)
    (p : RidePhase ctx.lay ctx.flagged stamp before (Rides ctx sl a.work) a b from q q') where
  abbrev laid_then : Laid ctx sl b.work
  laid_then = rode_laid o.between o.T o.Q o.fed o.holds e (ch o.Q o.fed.changes) p o.early

  -- A RIDE PHASE IN WHICH A SEGMENT DID NOT FIT
  pub round_full : b.head.full ≡ true → Round ctx sl distances r a b from q q'
  round_full f =
      record {
        between = record { laid = laid_then; sized = p.ready.sized; walks = p.ready.walks; written = p.ready.written };
        view = λ T Q F H. record {
          on = λ g. absurd (no_both f g);
          over = λ g. rw p.size (round_overflows T Q F.door ctx.flagged (length q / 4) r
              (p.over f T Q H.rides r e (ch Q F.changes) (state_at T Q ctx.flagged r) (before_ride o.between T Q F H stamp e)));
        };
        size = p.size;
      }

  -- A WHOLE ROUND
  module _ (f : b.head.full ≡ false) {d : Memory}
      (ph : WalkPhase ctx.lay ctx.flagged stamp (WalksAgree ctx.lay ctx sl.tables distances sl.patterns b.work) b d) where
    module _ (T : Tables) (Q : Query) (F : Fed ctx sl distances T Q) (H : Holds ctx sl T Q r a from) where
      abbrev u : State
      u = ride_phase T Q ctx.flagged r (state_at T Q ctx.flagged r)

      abbrev rides_then : Rides ctx sl b.work T Q
      rides_then = rode_rides o.between T Q F H e (ch Q F.changes) p o.early

      state_next : state_at T Q ctx.flagged (suc r) ≡ record { arrivals = arrivals_of (turned ctx.lay) d q'; boardings = noted d.head.queued u.boardings }
      unfolding state_at
      state_next =
          ap (λ (A : Arrivals). walk_phase T Q ctx.flagged r (record { arrivals = A; boardings = u.boardings })) (seen o.between T Q F H e (ch Q F.changes) p o.early f).arrivals
          ∙ sym (ph.view T Q (walk_agree laid_then F rides_then) r e q' u.boardings)

      books_then : Books ctx.lay stamp T Q d.work (noted d.head.queued u.boardings)
      books_then =
          books_noted d.head.queued
          (books_rest ctx.lay stamp b.work d.work ph.same.rest T Q u.boardings (seen o.between T Q F H e (ch Q F.changes) p o.early f).boardings)

      room_then : d.head.queued ≤ length q' / 4
      room_then = omega (arith, ph.queued, p.room)

      holds_next : Holds ctx sl T Q (suc r) d q'
      holds_next =
          record {
            rides = rides_walked laid_then ph.same rides_then;
            view = ap (λ (s : State). s.arrivals) state_next;
            books =
                subst (λ (s : State). Books ctx.lay (suc (suc r)) T Q d.work s.boardings) (sym state_next)
                (subst (λ (z : ℕ). Books ctx.lay z T Q d.work (noted d.head.queued u.boardings)) e books_then);
            chains = subst (λ (z : ℕ). Chains ctx.lay z d.work) e (chains_rest ctx.lay stamp b.work d.work ph.same.rest p.chains);
            few = omega (arith, counted_stops (turned ctx.lay) d.work ph.ready.sized.sections stamp d.head.count ph.ready.counted);
            room = room_then;
            fits =
                ap (λ (s : State). overflows (length q' / 4) s.boardings.queued) state_next
                ∙ overflow_none (length q' / 4) d.head.queued u.boardings.queued room_then
                (ap (overflows (length q' / 4)) (ride_queued T Q F.door ctx.flagged r (state_at T Q ctx.flagged r) (state_ran T Q F.door ctx.flagged r))
                ∙ ap (λ (k : ℕ). overflows (k / 4) (state_at T Q ctx.flagged r).boardings.queued) (p.size ∙ sym o.halves) ∙ H.fits);
          }

    pub round_done : Round ctx sl distances r a d from q q'
    round_done =
        record {
          between = record {
            laid = laid_walked laid_then ph.same;
            sized = turned_sized ph.ready.sized;
            walks = record { small = ph.ready.walks.small };
            written = ph.ready.written;
          };
          view = λ T Q F H. record { on = λ g. holds_next T Q F H; over = λ g. absurd (no_both g (ph.full ∙ f)) };
          size = p.size;
        }
