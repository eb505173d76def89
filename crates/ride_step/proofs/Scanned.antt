-- A trip scanned, after what a boarding notes or not, is a part of the ride phase. Assumes nothing.
use Prim.Native.Nat.{ℕ, ◌+◌, ◌/◌, ◌≤◌, ◌<◌}
use mathlib.Core.Path.{◌≡◌, sym, ap, ap₂, subst, ◌∙◌}
use mathlib.Core.Bool.{Bool, false}
use mathlib.Core.List.{List}
use native.Mathlib.Omega.{arith}
use lib.ListN.{length}
use lib.Ieee.{Float}
use Rattle.loops.specs.Iter.{Hit}
use Rattle.stop_delay.specs.Times.{size_of}
use Rattle.door.specs.Door.{time_limit}
use Rattle.std.specs.Prelude.{Option}
use Rattle.delay_rows.specs.Flat.{delay_tables}
use Rattle.model.specs.Tables.{Tables, Query}
use Rattle.model.specs.Search.{Arrivals, Boardings, State, at, delay_of, logged, scan_trip_forward}
use Rattle.query_types.specs.declared.Lay.{Lay}
use Rattle.query_types.specs.declared.Head.{Head}
use Rattle.query_types.specs.declared.Ride.{Ride}
use Rattle.search_state.specs.Places.{stamps_of, Falls}
use Rattle.search_state.specs.View.{Memory, memory, arrivals_of}
use Rattle.search_state.specs.Step.{Ready, QueueStep}
use Rattle.search_state.proofs.Part.{first_at, part_length, tally_le}
use Rattle.trip_boarding.specs.Reads.{hit_of, Known}
use Rattle.line_pruning.specs.Books.{Chains, Books}
use Rattle.line_pruning.proofs.Rounds.{chains_kept, books_kept}
use Rattle.trip_scan.specs.Scan.{Nets, Riding}
use Rattle.ride_step.specs.Laid.{Rides, Kept}
use Rattle.ride_step.specs.Phase.{Seen}
use Rattle.ride_step.specs.Going.{Going, Rode}
use Rattle.ride_step.proofs.Later.{scan_later}
use Rattle.ride_step.proofs.Keep.{kept_then, kept_same, read_of, nets_kept}
use Rattle.search_state.proofs.Falls.{falls_then}
use Rattle.query_types.specs.Slices.{Slices}
use Rattle.query_types.specs.declared.Context.{Context}

-- the list has no more stops than there are
pub count_few : {lay : Lay} {stamp : ℕ} {a : Memory} → Ready lay stamp a → a.head.count ≤ lay.stops + 64
count_few {lay} {stamp} {a} ok =
    omega (
      arith,
      ok.counted.fits,
      tally_le stamp (stamps_of lay a.work),
      part_length a.work lay.stops lay.stops (omega (arith, ok.sized.sections.words)),
    )

-- a scan logged changes nothing that memory has of the boardings
pub books_logged : {lay : Lay} {stamp : ℕ} {T : Tables} {Q : Query} {w : List ℕ} (round t o : ℕ) (b : Boardings) → Books lay stamp T Q w b
    → Books lay stamp T Q w (logged T Q round t o b)
books_logged round t o b k =
    record { trip_stamp = k.trip_stamp; board_offset = k.board_offset; board_departure = k.board_departure; own = k.own; held = k.held; test = k.test }

module _ {ctx : Context} {sl : Slices} {stamp : ℕ} {w l : List ℕ} {m : List Float} {h : Head} {q : List ℕ}
    (G : Going ctx sl stamp (memory w l m h) q) where
  -- what a scan needs of the ride
  pub riding_on : (adj : Option ℕ) (ride : Ride) → Known sl.delay_rows adj → ride.trip < ctx.counts.timetable.trips → size_of ride.shift ≤ time_limit
      → Riding sl.tables ctx.counts.timetable sl.delay_rows sl.stop_rows adj ctx.lay ride
  riding_on adj ride k i s =
      record { ground = G.laid.netted.ground; known = k; stops = G.laid.netted.stops; trips = G.laid.netted.trips; trip = i; shift = s }

  -- A SCAN, from working numbers w1 in which `bookings` are noted
  module _ (flagged : Bool) (adj : Option ℕ) (shift trip x off : ℕ) (bookings : Tables → Query → Boardings → Boardings) {w1 : List ℕ} {b : Memory} {q' : List ℕ}
      (row : (Q : Query) (stops : List ℕ) → Q.delays ≡ delay_tables sl.delay_rows stops → hit_of adj ≡ delay_of Q trip)
      (k : Kept ctx.lay w w1) (ar : arrivals_of ctx.lay (memory w1 l m h) q ≡ arrivals_of ctx.lay (memory w l m h) q) (fl : Falls ctx.lay w w1) (ch : Chains ctx.lay stamp w1)
      (bk : (T : Tables) (Q : Query) → Rides ctx sl w T Q → (c : Boardings) → Books ctx.lay stamp T Q w c → Books ctx.lay stamp T Q w1 (bookings T Q c))
      (z : QueueStep ctx.lay stamp (Nets ctx sl w1) (λ T Q. scan_trip_forward T Q flagged stamp (hit_of adj) shift trip x off) (memory w1 l m h) b q q') where
    nets1 : (T : Tables) (Q : Query) → Rides ctx sl w T Q → Nets ctx sl w1 T Q
    nets1 T Q y = nets_kept (read_of G.laid) k y.nets

    -- the scan of what is seen is the scan of what is in memory
    same_scan : (T : Tables) (Q : Query) → Rides ctx sl w T Q → (s : State) → Seen ctx.lay stamp T Q (memory w l m h) q s
        → scan_trip_forward T Q flagged stamp (hit_of adj) shift trip x off (arrivals_of ctx.lay (memory w1 l m h) q) ≡ scan_trip_forward T Q flagged stamp (delay_of Q trip) shift trip x off s.arrivals
    same_scan T Q y s e =
        ap₂ (λ (r : Hit) (a : Arrivals). scan_trip_forward T Q flagged stamp r shift trip x off a) (row Q sl.stop_rows y.nets.agree.delays) (ar ∙ sym e.arrivals)

    earlier : b.head.full ≡ false → Falls ctx.lay w1 b.work
    earlier u =
        let T = G.laid.netted.T in
        let Q = G.laid.netted.Q in
        let f = scan_later T Q flagged stamp (hit_of adj) shift trip x off (arrivals_of ctx.lay (memory w1 l m h) q) in
        let e = z.view u T Q (nets1 T Q G.laid.rides) in
        record {
          earlier = λ i o.
              omega (
                arith,
                f.earlier i,
                ap (λ (a : Arrivals). at a i) e,
                first_at w1 ctx.lay.stops i o,
                first_at b.work ctx.lay.stops i o,
              );
        }

    pub scan_rode : Rode ctx.lay stamp (Rides ctx sl w) (λ T Q s. record {
      arrivals = scan_trip_forward T Q flagged stamp (delay_of Q trip) shift trip x off s.arrivals;
      boardings = bookings T Q s.boardings;
    }) (memory w l m h) b q q'
    scan_rode =
        record {
          step = record {
            view = λ u T Q y s e. record {
              arrivals = sym (same_scan T Q y s e) ∙ sym (z.view u T Q (nets1 T Q y));
              boardings = books_kept ctx.lay stamp w1 b.work z.same T Q (bookings T Q s.boardings) (bk T Q y s.boardings e.boardings);
            };
            over = λ u T Q y s e. subst (λ (a : Arrivals). length q / 4 < length a.seg_queue) (same_scan T Q y s e) (z.over u T Q (nets1 T Q y));
            kept = kept_then k (kept_same z.same);
            ready = z.ready;
            chains = chains_kept ctx.lay stamp w1 b.work z.same ch;
            size = z.size;
            room = z.room;
          };
          falls = λ u. falls_then fl (earlier u);
        }
