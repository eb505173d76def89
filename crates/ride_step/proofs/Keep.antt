-- What is read of the working numbers is kept by arrivals and by boardings. Assumes nothing.
use Prim.Native.Nat.{ℕ, ◌+◌, ◌*◌, ◌-◌, ◌≤◌, ◌<◌}
use mathlib.Core.Path.{◌≡◌, refl, sym, ap, ◌∙◌}
use mathlib.Core.List.{List}
use native.Mathlib.Omega.{arith}
use lib.ListN.{length, get_or, take, drop}
use lib.Seq.{take-take}
use lib.Ieee.{Float}
use Rattle.loops.specs.Iter.{Hit}
use Rattle.tables.specs.declared.Counts.{Counts}
use Rattle.tables.specs.Timetable.{Timetable}
use Rattle.event_transfers.specs.Transfers.{transfers_at}
use Rattle.model.specs.Tables.{Tables, Query}
use Rattle.query_types.specs.declared.Lay.{Lay}
use Rattle.query_types.specs.declared.Head.{Head}
use Rattle.search_state.specs.Part.{part}
use Rattle.search_state.specs.Places.{WorkSized, Same, EgressTable}
use Rattle.query_types.specs.Layout.{rest_at, events_at}
use Rattle.search_state.specs.View.{memory}
use Rattle.search_state.specs.Step.{Ready}
use Rattle.search_state.proofs.Part.{drop_at}
use Rattle.search_state.proofs.Lists.{OtherKept}
use Rattle.target_resolving.specs.Resolving.{lined_of}
use Rattle.line_pruning.specs.Books.{Agrees, Noted}
use Rattle.line_pruning.proofs.Kept.{noted_at, walks_noted, part_noted}
use Rattle.query_types.specs.declared.Net.{Net}
use Rattle.trip_scan.specs.Scan.{event_at, event_run_at, Nets, Netted}
use Rattle.ride_step.specs.Laid.{Rides, Laid, Kept}
use Rattle.ride_step.specs.Going.{Changing}
use Rattle.query_types.specs.Slices.{Slices}
use Rattle.query_types.specs.declared.Context.{Context}

pub kept_refl : (lay : Lay) (w : List ℕ) → Kept lay w w
kept_refl lay w = record { size = refl; list = refl; rest = λ i l h. refl }

pub kept_then : {lay : Lay} {a b c : List ℕ} → Kept lay a b → Kept lay b c → Kept lay a c
kept_then p q = record { size = q.size ∙ p.size; list = q.list ∙ p.list; rest = λ i l h. q.rest i l h ∙ p.rest i l h }

-- by arrivals
pub kept_same : {lay : Lay} {w w' : List ℕ} → Same lay w w' → Kept lay w w'
kept_same {lay} {w} {w'} s =
    record {
      size = s.size;
      list = s.list;
      rest = λ i l h.
          let e : rest_at lay + (i - rest_at lay) ≡ i = omega (arith, l) in
          ap (λ (x : ℕ). get_or w' x 0) (sym e) ∙ drop_at w w' (rest_at lay) (i - rest_at lay) s.rest ∙ ap (λ (x : ℕ). get_or w x 0) e;
    }

-- so the other list is as it came
pub kept_other : {lay : Lay} {w w' : List ℕ} → Kept lay w w' → OtherKept lay w w'
kept_other k = record { list = k.list }

-- by a boarding
pub kept_noted : {lay : Lay} {stamp : ℕ} {built : List ℕ} {adj : Hit} {t o dep : ℕ} {w w' : List ℕ} → WorkSized lay (length w)
    → Noted lay stamp built adj t o dep w w' → Kept lay w w'
kept_noted {lay} {stamp} {built} {adj} {t} {o} {dep} {w} {w'} ok n =
    record {
      size = n.size;
      list = part_noted lay stamp built adj t o dep w w' n ok lay.other (lay.stops + 64) ok.other_fits;
      rest = λ i l h. noted_at lay stamp built adj t o dep w w' n i h;
    }

pub ready_noted : {lay : Lay} {stamp : ℕ} {built : List ℕ} {adj : Hit} {t o dep : ℕ} {w w' l : List ℕ} {m : List Float} {h : Head} → Ready lay stamp (memory w l m h)
    → Noted lay stamp built adj t o dep w w' → Ready lay stamp (memory w' l m h)
ready_noted {lay} {stamp} {built} {adj} {t} {o} {dep} {w} {w'} ok n =
    record {
      sized = rw n.size ok.sized;
      walks = walks_noted lay stamp built adj t o dep w w' n ok.walks;
      counted = record { fits = rw (part_noted lay stamp built adj t o dep w w' n ok.sized.sections lay.stops lay.stops (omega arith)) ok.counted.fits };
      round = ok.round;
      written = ok.written;
    }

-- the places of what is read
pub record Read (c : Counts) (net : Net) (lay : Lay) : Type 0 where
  pub stops : c.stops ≡ lay.stops
  pub trips : c.trips ≡ lay.trips
  pub lined : net.lined ≡ lined_of c lay.lines
  pub events : net.events ≡ events_at lay

module _ {c : Counts} {net : Net} {lay : Lay} {w w' : List ℕ} (g : Read c net lay) (k : Kept lay w w') where
  position_at : (i : ℕ) → i < c.trips → get_or w' (net.lined.positions + i) 0 ≡ get_or w (net.lined.positions + i) 0
  position_at i h = rw g.lined (k.rest (c.stops * 5 + c.trips + 128 + i) (omega (arith, g.stops, g.trips)) (omega (arith, g.stops, g.trips, h)))

  fifo-at : (l : ℕ) → l < net.lined.lines → get_or w' (net.lined.fifo + l) 0 ≡ get_or w (net.lined.fifo + l) 0
  fifo-at l =
      rw g.lined (λ (h : l < lay.lines). k.rest (c.stops * 5 + c.trips * 2 + 128 + l) (omega (arith, g.stops, g.trips)) (omega (arith, g.stops, g.trips, h)))

  event-at : (i : ℕ) → i < c.trips → get_or w' (net.events + i) 0 ≡ get_or w (net.events + i) 0
  event-at i h = rw g.events (k.rest (events_at lay + i) (omega (arith, g.stops, g.trips)) (omega (arith, g.stops, g.trips, h)))

  run_kept : (built : List ℕ) (i o : ℕ) → i < c.trips → event_run_at net built w i o ≡ event_run_at net built w' i o
  run_kept built i o h = ap (λ (k : ℕ). record { first = get_or built (net.runs + (k + o) * 2) 0; length = get_or built (net.runs + (k + o) * 2 + 1) 0 }) (sym (event-at i h))

  egress_kept : {es : List (ℕ × ℕ)} → EgressTable es lay w → EgressTable es lay w'
  egress_kept e = record { at = λ s h. k.rest (rest_at lay + s) (omega arith) (omega (arith, h)) ∙ e.at s h }

module _ {ctx : Context} {sl : Slices} {w w' : List ℕ} (g : Read ctx.counts.timetable ctx.net ctx.lay) (k : Kept ctx.lay w w') where
  pub nets_kept : {T : Tables} {Q : Query} → Nets ctx sl w T Q → Nets ctx sl w' T Q
  nets_kept {T} {Q} n =
      record {
        agree = n.agree;
        egress = egress_kept g k n.egress;
        asks = n.asks;
        lines = record {
          lines = n.lines.lines;
          line_of = n.lines.line_of;
          count = n.lines.count;
          entry = n.lines.entry;
          position = λ i h. n.lines.position i h ∙ sym (position_at g k i h);
          fifo = λ l h. n.lines.fifo l h ∙ sym (fifo-at g k l h);
        };
        patterned = n.patterned;
        target = n.target;
        transfers = λ i o h j. n.transfers i o h j ∙ ap (transfers_at sl.transfers) (run_kept g k sl.built i o h);
      }

  netted_kept : Netted ctx sl w → Netted ctx sl w'
  netted_kept n =
      let e = k.size in
      let same-event : (i o : ℕ) → i < ctx.counts.timetable.trips → event_at ctx.net w' i o ≡ event_at ctx.net w i o = λ i o h. ap (λ (e : ℕ). e + o) (event-at g k i h) in
      record {
        ground = n.ground;
        stops = n.stops;
        trips = n.trips;
        held = record {
          few = n.held.few;
          near = n.held.near;
          trips = n.held.trips;
          runs = n.held.runs;
          entries = n.held.entries;
          positions = rw e n.held.positions;
          fifo = rw e n.held.fifo;
        };
        patterns = n.patterns;
        events = rw e n.events;
        words = λ i o h j. rw (same-event i o h) (n.words i o h j);
        run = λ i o h j. rw (same-event i o h) (n.run i o h j);
        past = n.past;
        T = n.T;
        Q = n.Q;
        door = n.door;
        nets = nets_kept n.nets;
      }

module _ {ctx : Context} {sl : Slices} {w : List ℕ} (L : Laid ctx sl w) where
  pub read_of : Read ctx.counts.timetable ctx.net ctx.lay
  read_of = record { stops = L.netted.stops; trips = L.netted.trips; lined = L.lined; events = L.events }

  module _ {w' : List ℕ} (k : Kept ctx.lay w w') where
    pub rides_kept : {T : Tables} {Q : Query} → Rides ctx sl w T Q → Rides ctx sl w' T Q
    rides_kept r = record { nets = nets_kept read_of k r.nets; departures = r.departures; mark = r.mark }

    pub changing_kept : {round change : ℕ} {T : Tables} {Q : Query} → Changing ctx sl round change w T Q
        → Changing ctx sl round change w' T Q
    changing_kept r = record { rides = rides_kept r.rides; before = r.before }

    pub laid_kept : Laid ctx sl w'
    unfolding netted_kept
    laid_kept =
        record {
          netted = netted_kept read_of k L.netted;
          rides = rides_kept L.rides;
          limits = L.limits;
          long = L.long;
          listed = L.listed;
          lined = L.lined;
          events = L.events;
        }

  -- the lines, as boarding has them
  pub agrees_of : {T : Tables} {Q : Query} → Rides ctx sl w T Q → Agrees T ctx.lay ctx.counts.timetable sl.built w
  agrees_of {T} r =
      record {
        trips = ap (λ (z : Timetable). z.trips) r.nets.agree.timetable ∙ L.netted.trips;
        counted = L.netted.trips;
        stops = L.netted.stops;
        lines = rw L.lined at r.nets.lines;
      }

-- the first n stops of the other list
part_shorter : (v : List ℕ) (a i j : ℕ) → i ≤ j → part v a i ≡ take i (part v a j)
unfolding part
part_shorter v a i j u = sym (take-take i j (drop a v) u)

pub part_kept : (lay : Lay) (w w' : List ℕ) (n : ℕ) → Kept lay w w' → n ≤ lay.stops + 64 → part w' lay.other n ≡ part w lay.other n
part_kept lay w w' n k h = part_shorter w' lay.other n (lay.stops + 64) h ∙ ap (take n) k.list ∙ sym (part_shorter w lay.other n (lay.stops + 64) h)
