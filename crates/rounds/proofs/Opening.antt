-- From the state before a round to its ride phase, and from there to its walk phase. Assumes nothing.
use Prim.Native.Nat.{ℕ, zero, suc, ◌+◌, ◌≤◌, ◌<◌}
use mathlib.Core.Path.{◌≡◌, sym, ap, subst, ◌∙◌}
use mathlib.Core.Bool.{false}
use mathlib.Core.List.{List, Memᴰ}
use native.Mathlib.Omega.{arith}
use lib.ListN.{length, get_or}
use lib.Ieee.{Float}
use Rattle.door.specs.Door.{time_limit}
use Rattle.loops.proofs.Count.{get_d_tab}
use Rattle.tables.specs.Timetable.{Timetable}
use Rattle.model.specs.Tables.{Tables, Query, change_before, stops, trips}
use Rattle.model.specs.Search.{Segment, Arrivals, State, at, round_start, ride_phase}
use Rattle.answer_laws.proofs.Bounds.{Sound, run_sound, ride_sound, reached_early}
use Rattle.answer_laws.proofs.Runs.{Ran, rode}
use Rattle.query_types.specs.declared.Lay.{Lay}
use Rattle.search_state.specs.Part.{part}
use Rattle.search_state.specs.Places.{WorkSized, StopsListed, turned}
use Rattle.search_state.specs.View.{Memory, arrivals_of, segment_at, queue_of}
use Rattle.search_state.specs.Step.{Stamp}
use Rattle.search_state.proofs.Part.{part_at, part_length, first_at}
use Rattle.search_state.proofs.Marking.{counted_stops}
use Rattle.search_state.proofs.Queue.{queue_length}
use Rattle.search_state.proofs.Lists.{turned_sized}
use Rattle.line_pruning.specs.Books.{Chains, Books}
use Rattle.line_pruning.proofs.Rounds.{chains_next, books_next}
use Rattle.walk_phase.specs.Walking.{WalkGround, WalksAgree}
use Rattle.walk_phase.specs.Lists.{latest_walker}
use Rattle.ride_step.specs.Laid.{Rides, Laid}
use Rattle.ride_step.proofs.Keep.{rides_kept, laid_kept}
use Rattle.ride_step.specs.Phase.{Opening, Before, Seen, RidePhase}
use Rattle.rounds.specs.Round.{state_at, Fed, Between, Holds}
use Rattle.rounds.proofs.States.{stands_in, run_early, state_ran}
use Rattle.query_types.specs.Slices.{Slices}
use Rattle.query_types.specs.declared.Context.{Context}

-- WHAT STANDS IN MEMORY IS IN THE MODEL'S STATE: the stops listed, the earliest arrivals, the segments queued
module _ (lay : Lay) (a : Memory) (q : List ℕ) {A : Arrivals} (view : A ≡ arrivals_of lay a q) where
  pub stop_in : (i : ℕ) → WorkSized lay (length a.work) → a.head.count ≤ lay.stops + 64 → i < a.head.count
      → Memᴰ (get_or a.work (lay.list + i) 0) A.reached
  stop_in i ok few h =
      let l : List ℕ = part a.work lay.list a.head.count in
      subst (λ (z : Arrivals). Memᴰ (get_or a.work (lay.list + i) 0) z.reached) (sym view)
      (subst (λ (x : ℕ). Memᴰ x l) (part_at a.work lay.list a.head.count i h)
      (stands_in l i 0 (omega (arith, part_length a.work lay.list a.head.count (omega (arith, ok.words, ok.fits, few)), h))))

  pub time-at : (x : ℕ) → x < lay.stops → at A x ≡ get_or a.work x 0
  time-at x h = ap (λ (z : Arrivals). at z x) view ∙ first_at a.work lay.stops x h

  pub segment_in : (k : ℕ) → k < a.head.queued → Memᴰ (segment_at q k) A.seg_queue
  unfolding queue_of
  segment_in k h =
      let l : List Segment = queue_of q a.head.queued in
      subst (λ (z : Arrivals). Memᴰ (segment_at q k) z.seg_queue) (sym view)
      (subst (λ (x : Segment). Memᴰ x l) (get_d_tab (segment_at q) a.head.queued k (segment_at q 0) h)
      (stands_in l k (segment_at q 0) (omega (arith, queue_length q a.head.queued, h))))

change_small : (Q : Query) (r : ℕ) → Q.change ≤ time_limit → change_before Q r ≤ time_limit
unfolding change_before
change_small Q zero h = omega arith
change_small Q (suc r) h = h

-- BEFORE A RIDE PHASE
module _ {ctx : Context} {sl : Slices} {distances : List Float} {r : ℕ} {a : Memory} {from : List ℕ}
    (B : Between ctx sl a) (T : Tables) (Q : Query) (F : Fed ctx sl distances T Q)
    (H : Holds ctx sl T Q r a from) where
  abbrev s₀ : State
  s₀ = state_at T Q ctx.flagged r

  abbrev ran : Ran T Q r s₀
  ran = state_ran T Q F.door ctx.flagged r

  pub stops_are : stops T ≡ ctx.lay.stops
  stops_are = ap (λ (z : Timetable). z.stops) H.rides.nets.agree.timetable ∙ B.laid.netted.stops

  pub trips_are : trips T ≡ ctx.counts.timetable.trips
  trips_are = ap (λ (z : Timetable). z.trips) H.rides.nets.agree.timetable

  module _ (early : r < 12) where
    sound : Sound T Q (suc r) s₀.arrivals
    sound = run_sound T Q F.door ran.arrivals (omega arith)

    pub stamp_right : (stamp : ℕ) → stamp ≡ suc (suc r) → Stamp stamp
    stamp_right stamp e = record { low = omega (arith, e); high = omega (arith, e, early) }

    pub opening : (stamp before : ℕ) → stamp ≡ suc (suc r) → change_before Q r ≡ before → Opening ctx.counts.timetable ctx.lay stamp before a from
    opening stamp before e ch =
        let ok = (turned_sized B.sized).sections in
        let here : (i : ℕ) → i < a.head.count → Memᴰ (get_or a.work (ctx.lay.other + i) 0) s₀.arrivals.reached = λ i h. stop_in (turned ctx.lay) a from H.view i ok H.few h in
        let inside : (i : ℕ) → i < a.head.count → get_or a.work (ctx.lay.other + i) 0 < ctx.lay.stops = λ i h. omega (arith, sound.reached _ (here i h), stops_are) in
        record {
          ready = record {
            sized = B.sized;
            walks = B.walks;
            counted = record { fits = omega arith };
            round = stamp_right stamp e;
            written = B.written;
          };
          chains = subst (λ (z : ℕ). Chains ctx.lay z a.work) (sym e) (chains_next ctx.lay (suc r) a.work H.chains);
          waiting = record {
            few = H.few;
            inside = inside;
            early = λ i h. omega (arith, run_early T Q F.door ran.arrivals _ (here i h), time-at (turned ctx.lay) a from H.view (get_or a.work (ctx.lay.other + i) 0) (inside i h));
          };
          segments = record {
            room = H.room;
            trip = λ k h. omega (arith, (sound.segments (segment_at from k) (segment_in (turned ctx.lay) a from H.view k h)).trip, trips_are);
            shift = λ k h. (sound.segments (segment_at from k) (segment_in (turned ctx.lay) a from H.view k h)).shifts;
          };
          small = omega (arith, ch, change_small Q r F.door.change_small);
        }

  pub before_ride : (stamp : ℕ) → stamp ≡ suc (suc r) → Before ctx.lay stamp T Q a from s₀
  before_ride stamp e =
      record {
        arrivals = H.view;
        boardings = subst (λ (z : ℕ). Books ctx.lay z T Q a.work (round_start T Q s₀).boardings) (sym e) (books_next ctx.lay (suc r) T Q a.work s₀ H.chains H.books);
      }

  -- BEFORE THE WALK PHASE
  module _ {stamp before : ℕ} {b : Memory} {q q' : List ℕ} (e : stamp ≡ suc (suc r)) (ch : change_before Q r ≡ before)
      (p : RidePhase ctx.lay ctx.flagged stamp before (Rides ctx sl a.work) a b from q q') (early : r < 12) where
    pub rode_laid : Laid ctx sl b.work
    rode_laid = laid_kept B.laid p.kept

    pub rode_rides : Rides ctx sl b.work T Q
    rode_rides = rides_kept B.laid p.kept H.rides

    pub seen : b.head.full ≡ false → Seen ctx.lay stamp T Q b q' (ride_phase T Q ctx.flagged r s₀)
    seen f = p.view f T Q H.rides r e ch s₀ (before_ride stamp e)

    pub walkers : b.head.full ≡ false → StopsListed (turned ctx.lay) b.work b.head.count latest_walker
    walkers f =
        let few : b.head.count ≤ ctx.lay.stops = counted_stops ctx.lay b.work p.ready.sized.sections stamp b.head.count p.ready.counted in
        let A = (ride_phase T Q ctx.flagged r s₀).arrivals in
        let S = rode T Q F.door ctx.flagged r s₀ ran.queue in
        let here : (i : ℕ) → i < b.head.count → Memᴰ (get_or b.work (ctx.lay.list + i) 0) A.reached =
        λ i h. stop_in ctx.lay b q' (seen f).arrivals i p.ready.sized.sections (omega (arith, few)) h in
        let inside : (i : ℕ) → i < b.head.count → get_or b.work (ctx.lay.list + i) 0 < ctx.lay.stops =
        λ i h. omega (arith, (ride_sound T Q F.door ran.arrivals (omega arith) S).reached _ (here i h), stops_are) in
        record {
          few = omega (arith, few);
          inside = inside;
          early = λ i h. omega (arith, reached_early T Q F.door s₀.arrivals S _ (here i h), time-at ctx.lay b q' (seen f).arrivals (get_or b.work (ctx.lay.list + i) 0) (inside i h));
        }

module _ {ctx : Context} {sl : Slices} {distances : List Float} {w : List ℕ} {T : Tables} {Q : Query}
    (L : Laid ctx sl w) (F : Fed ctx sl distances T Q) where
  pub walk_ground : WalkGround ctx.lay ctx sl.tables (length distances) (length sl.patterns)
  walk_ground =
      record {
        sane = L.netted.ground.sane;
        order = F.order;
        stops = L.netted.stops;
        distances = F.long;
        few = L.netted.patterns.few;
        bytes = L.netted.patterns.long;
      }

  pub walk_agree : Rides ctx sl w T Q → WalksAgree ctx.lay ctx sl.tables distances sl.patterns w T Q
  walk_agree g =
      record {
        timetable = g.nets.agree.timetable;
        distance = F.distance;
        wheelchair = g.nets.asks.wheelchair;
        patterned = g.nets.patterned;
        targets = g.nets.target;
        egress = g.nets.egress;
      }

-- a round's stamp
pub two_more : (r : ℕ) → r + 2 ≡ suc (suc r)
two_more r = omega arith
