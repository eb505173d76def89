-- What the door's yes gives the query's inner functions.
use Prim.Native.Nat.{ℕ, ◌+◌, ◌*◌, ◌<◌}
use mathlib.Core.Path.{◌≡◌, refl, sym, ap, ap₂, subst, ◌∙◌}
use mathlib.Core.Logic.{inl}
use mathlib.Core.Bool.{Bool, true, false}
use mathlib.Core.List.{List}
use native.Mathlib.Omega.{arith}
use lib.ListN.{length, get_or}
use lib.Seq.{length-slice}
use lib.Ieee.{Float}
use Rattle.loops.specs.Count.{tab}
use Rattle.departures.proofs.Parts.{get_d_slice}
use Rattle.tables.specs.Timetable.{timetable}
use Rattle.tables.specs.Sane.{Sane}
use Rattle.event_transfers.specs.Transfers.{events_before, transfer_at}
use Rattle.model.specs.Search.{use_arc_flags, flags_in_use}
use Rattle.arc_flags.specs.Skipping.{RowsIn, RunsIn, event_run_first, event_run_length, Transferring}
use Rattle.query_types.specs.declared.Lay.{Lay}
use Rattle.search_state.specs.Places.{Sized}
use Rattle.search_state.specs.View.{Memory}
use Rattle.query_types.specs.declared.QueryCounts.{QueryCounts}
use Rattle.query_types.specs.declared.Lengths.{Lengths}
use Rattle.query_input.specs.Lent.{Lent, lent, tables_of, query_of, event_count, transfer_runs_at, transfer_runs, transfer_run_at, transfer_rows}
use Rattle.query_input.specs.Sane.{Admitted}
use Rattle.query_input.proofs.Parts.{rows_room}
use Rattle.query_input.proofs.Laws.{events_below}
use Rattle.query_types.specs.declared.Net.{Net}
use Rattle.query_types.specs.Layout.{lay_of}
use Rattle.search_begin.specs.Begin.{net_of, Lends, Askable, Begun, context_of}
use Rattle.rounds.specs.Rounds.{Started, Ended}
use Rattle.query_call.specs.declared.Mode.{Mode}
use Rattle.query_call.specs.Parts.{mode_by, Flagging}

-- the transfer runs, as a part of what the building calls wrote
module _ (built : List ℕ) (n : QueryCounts) (events : ℕ) (long : length built ≡ transfer_runs_at n + events * 2) (e : ℕ) (h : e < events) where
  run-first : event_run_first (transfer_runs built n) e ≡ (transfer_run_at built n e).first
  run-first = get_d_slice (transfer_runs_at n) (length built) built (e * 2) 0 (omega arith)

  run_length : event_run_length (transfer_runs built n) e ≡ (transfer_run_at built n e).length
  run_length =
      let z : transfer_runs_at n + (e * 2 + 1) ≡ transfer_runs_at n + e * 2 + 1 = omega arith in
      get_d_slice (transfer_runs_at n) (length built) built (e * 2 + 1) 0 (omega arith) ∙ ap (λ (i : ℕ). get_or built i 0) z

-- two numbers for each event
runs_long : (t built : List ℕ) (n : QueryCounts) → length built ≡ transfer_runs_at n + event_count t n * 2 → length (transfer_runs built n) ≡ event_count t n * 2
runs_long t built n e = omega (arith, length-slice (transfer_runs_at n) (length built) built (omega arith))

module _ {x : Lent} {l : Lengths} (A : Admitted x l) where
  pub sane : Sane x.t x.n.timetable
  sane = record { counts = A.limits.counts; slices = A.sized.slices; runs = A.placed.trips; numbers = A.numbered.numbers; ranges = A.ranged.ranges }

  pub flagging : Flagging x.n x.t x.built x.transfers x.patterns
  flagging =
      record {
        limits = A.limits;
        sane = sane;
        long = A.sized.built_is;
        patterns_ok = record { few = A.limits.patterns; long = A.lengthy.patterns_is };
        rows = record {
          few = omega (arith, A.limits.transfers);
          fit = rows_room x.n (length x.transfers) (transfer_rows x.n (length x.transfers)) refl;
        };
        runs = record {
          inside = λ e h.
              let u : e < event_count x.t x.n = omega (arith, runs_long x.t x.built x.n A.sized.built_is) in
              omega (
                arith,
                run-first x.built x.n (event_count x.t x.n) A.sized.built_is e u,
                run_length x.built x.n (event_count x.t x.n) A.sized.built_is e u,
                A.placed.transfers e u,
              );
        };
      }

  pub lends : Lends x x.n x.t x.built x.distances x.q
  lends = record { counts = refl; timetable_is = refl; built-is = refl; distances-are = refl; query-is = refl }

  pub askable : Askable x.n x.t x.built x.distances x.q
  askable =
      record {
        x = x;
        l = l;
        admitted = A;
        lends = lends;
      }

  pub sized : Sized (lay_of x.n) l.work l.labels l.label_distances
  sized =
      record {
        sections = record {
          stops = A.limits.counts.stops;
          trips = A.limits.counts.trips;
          lines = A.limits.lines;
          words = A.lengthy.work;
          first = omega arith;
          fits = omega arith;
          other_first = omega arith;
          other_fits = omega arith;
          apart = inl (omega arith);
        };
        rows = omega (arith, A.lengthy.labels);
        metres = A.lengthy.label_distances;
      }

  pub sized_at : {lay : Lay} → lay ≡ lay_of x.n → Sized lay l.work l.labels l.label_distances
  sized_at e = subst (λ (y : Lay). Sized y l.work l.labels l.label_distances) (sym e) sized

  pub started : {net : Net} {lay : Lay} {flagged : Bool} {a : Memory} {qa qb : ℕ} → net ≡ net_of x → Begun x (context_of x (net_of x) lay flagged) a → qa ≡ qb
      → Started x (context_of x net lay flagged) a qa qb
  started {net} {lay} {flagged} {a} en b e =
      record { l = l; admitted = A; counts_are = refl; change_is = refl; begun = subst (λ (m : Net). Begun x (context_of x m lay flagged) a) (sym en) b; halves = e }

-- the transfers of the tables are these
pub transferring : (n : QueryCounts) (t built transfers patterns : List ℕ) (d : List Float) (q : List ℕ) → Flagging n t built transfers patterns
    → Transferring (tables_of (lent n t built transfers patterns d q)) (transfer_runs built n) transfers
transferring n t built transfers patterns d q F =
    record {
      events = runs_long t built n F.long;
      transfers = λ i o u v.
          let T = timetable t n.timetable in
          let e : events_before T i + o < events_before T n.timetable.trips = events_below T n.timetable.trips i o u v in
          ap₂ (λ (f m : ℕ). tab (λ k. transfer_at transfers (f + k)) m)
          (sym (run-first built n (events_before T n.timetable.trips) F.long (events_before T i + o) e))
          (sym (run_length built n (events_before T n.timetable.trips) F.long (events_before T i + o) e));
    }

pub runs_in : {n : QueryCounts} {t built transfers patterns runs : List ℕ} {rows : ℕ} → Flagging n t built transfers patterns → runs ≡ transfer_runs built n
    → rows ≡ transfer_rows n (length transfers) → RunsIn runs rows
runs_in {n} {t} {built} {transfers} F e er = subst (RunsIn _) (sym er) (subst (λ (l : List ℕ). RunsIn l (transfer_rows n (length transfers))) (sym e) F.runs)

pub rows_in : {n : QueryCounts} {t built transfers patterns : List ℕ} {rows : ℕ} → Flagging n t built transfers patterns → rows ≡ transfer_rows n (length transfers) → RowsIn transfers rows
rows_in {n} {t} {built} {transfers} F er = subst (RowsIn transfers) (sym er) F.rows

-- the mode
pub ended : {x : Lent} {flagged : Bool} {room : ℕ} {lay lay' : Lay} {b : Memory} (mode : Mode) → Ended x flagged room lay b → flagged ≡ mode_by mode x → lay ≡ lay' → Ended x (mode_by mode x) room lay' b
ended {x} {flagged} {room} {lay} {lay'} {b} mode E ef el = subst (λ (y : Lay). Ended x (mode_by mode x) room y b) el (subst (λ (f : Bool). Ended x f room lay b) ef E)
