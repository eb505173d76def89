-- What a scan reads of the working numbers is kept where all past the arrivals is as it came. Assumes nothing.
use Prim.Native.Nat.{ℕ, ◌+◌, ◌*◌, ◌-◌, ◌≤◌, ◌<◌}
use mathlib.Core.Path.{◌≡◌, sym, ap, ap₂, ◌∙◌}
use mathlib.Core.List.{List}
use native.Mathlib.Omega.{arith}
use lib.ListN.{get_or}
use Rattle.departures.specs.declared.StopRun.{StopRun}
use Rattle.event_transfers.specs.Transfers.{transfers_at}
use Rattle.model.specs.Tables.{Tables, Query}
use Rattle.query_types.specs.declared.Lay.{Lay}
use Rattle.search_state.specs.Places.{Same}
use Rattle.query_types.specs.Layout.{rest_at}
use Rattle.search_state.proofs.Part.{drop_at}
use Rattle.search_state.proofs.Steps.{egress_kept}
use Rattle.query_types.specs.declared.Net.{Net}
use Rattle.trip_scan.specs.Scan.{event_at, event_run_at, Nets, RunIn, PastArrivals, Netted}
use Rattle.query_types.specs.Slices.{Slices}
use Rattle.query_types.specs.declared.Context.{Context}

module _ {lay : Lay} {w w' : List ℕ} (s : Same lay w w') where
  -- a number past the arrivals
  pub past_at : (p i : ℕ) → rest_at lay ≤ p → get_or w' (p + i) 0 ≡ get_or w (p + i) 0
  past_at p i h =
      let e : p + i ≡ rest_at lay + (p - rest_at lay + i) = omega arith in
      ap (λ (k : ℕ). get_or w' k 0) e ∙ drop_at w w' (rest_at lay) (p - rest_at lay + i) s.rest ∙ sym (ap (λ (k : ℕ). get_or w k 0) e)

  run_kept : (net : Net) (built : List ℕ) → PastArrivals lay net → (i o : ℕ) → event_run_at net built w i o ≡ event_run_at net built w' i o
  run_kept net built p i o = ap (λ (k : ℕ). record { first = get_or built (net.runs + (k + o) * 2) 0; length = get_or built (net.runs + (k + o) * 2 + 1) 0 }) (sym (past_at net.events i p.events))

module _ {ctx : Context} {sl : Slices} {w w' : List ℕ} (s : Same ctx.lay w w') where
  pub nets_kept : {T : Tables} {Q : Query} → PastArrivals ctx.lay ctx.net → Nets ctx sl w T Q → Nets ctx sl w' T Q
  nets_kept {T} {Q} p n =
      record {
        agree = n.agree;
        egress = egress_kept s n.egress;
        asks = n.asks;
        lines = record {
          lines = n.lines.lines;
          line_of = n.lines.line_of;
          count = n.lines.count;
          entry = n.lines.entry;
          position = λ i h. n.lines.position i h ∙ sym (past_at s ctx.net.lined.positions i p.positions);
          fifo = λ l h. n.lines.fifo l h ∙ sym (past_at s ctx.net.lined.fifo l p.fifo);
        };
        patterned = n.patterned;
        target = n.target;
        transfers = λ i o h k. n.transfers i o h k ∙ ap (transfers_at sl.transfers) (run_kept s ctx.net sl.built p i o);
      }

  pub netted_kept : Netted ctx sl w → Netted ctx sl w'
  netted_kept n =
      let e = s.size in
      let same-event : (i o : ℕ) → event_at ctx.net w' i o ≡ event_at ctx.net w i o = λ i o. ap (λ (k : ℕ). k + o) (past_at s ctx.net.events i n.past.events) in
      record {
        ground = n.ground;
        stops = n.stops;
        trips = n.trips;
        held = record {
          few = n.held.few;
          near = n.held.near;
          trips = n.held.trips;
          runs = n.held.runs;
          entries = n.held.entries;
          positions = rw e n.held.positions;
          fifo = rw e n.held.fifo;
        };
        patterns = n.patterns;
        events = rw e n.events;
        words = λ i o h k. rw (same-event i o) (n.words i o h k);
        run = λ i o h k. rw (same-event i o) (n.run i o h k);
        past = n.past;
        T = n.T;
        Q = n.Q;
        door = n.door;
        nets = nets_kept n.past n.nets;
      }

-- one row of a run
pub run_one : {area : List ℕ} {first n : ℕ} → RunIn area first n → (j : ℕ) → j < n → RunIn area (first + j) 1
run_one {area} {first} {n} r j h =
    record {
      near = omega (arith, r.near);
      inside = omega (arith, r.inside);
      small = λ k l. let e : first + j + k ≡ first + j = omega arith in rw e (r.small j h);
    }

abbrev the_run : ℕ → ℕ → StopRun
the_run first n = record { first = first; length = n }

-- a run as it is read, by the events before its trip
pub run_read : (net : Net) (built w : List ℕ) (i o k first n : ℕ) → k ≡ get_or w (net.events + i) 0 → first ≡ get_or built (net.runs + (k + o) * 2) 0
    → n ≡ get_or built (net.runs + (k + o) * 2 + 1) 0 → event_run_at net built w i o ≡ the_run first n
run_read net built w i o k first n ek ef en =
    ap (λ (m : ℕ). record { first = get_or built (net.runs + (m + o) * 2) 0; length = get_or built (net.runs + (m + o) * 2 + 1) 0 }) (sym ek)
    ∙ ap₂ (λ (x y : ℕ). the_run x y) (sym ef) (sym en)
