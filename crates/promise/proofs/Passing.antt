-- WHAT THE DOOR ASKS OF THE TRANSFERS is so after the transfers call, and where no transfers were made and the runs are zeros.
use Prim.Native.Nat.{ℕ, ◌+◌, ◌*◌, ◌-◌, ◌<◌}
use mathlib.Core.Path.{◌≡◌, refl, sym, ap, ap₂, ◌∙◌}
use mathlib.Core.List.{List, [], ◌∷◌}
use native.Mathlib.Omega.{arith}
use lib.ListN.{length, get_or}
use lib.Dec.{ltb}
use borrow.Author.Tests.{le-leb, lt-ltb}
use Rattle.loops.specs.Count.{tab}
use Rattle.loops.proofs.Iter.{every_all}
use Rattle.door.specs.Door.{time_limit}
use Rattle.sorts.specs.Orders.{All, nil, cons}
use Rattle.sorts.proofs.Places.{all_at}
use Rattle.tables.specs.Timetable.{timetable}
use Rattle.departures.specs.declared.StopRun.{StopRun}
use Rattle.departures.specs.Departures.{run_at}
use Rattle.departures.specs.Listed.{run_in}
use Rattle.departures.proofs.All.{all_tab}
use Rattle.event_transfers.specs.Transfers.{Input, Transfer, all_transfers, built_transfers, events_before, events_of, runs_from, transfer_of, transfers_of}
use Rattle.event_transfers.proofs.Lists.{all_flatten, all_map}
use Rattle.transfers_call.specs.Call.{TransferAreas, area_with, input_of, transfers_outcome}
use Rattle.transfers_call.proofs.Laws.{Answered, answered, area_length, area_words, run-first, run_count, run_inside}
use Rattle.transfers_call.proofs.Written.{events_length}
use Rattle.query_input.specs.Lent.{Lent, transfer_run_at, transfer_runs_at, transfer_rows, event_count}
use Rattle.query_door.specs.Door.{transfer_runs_ok, column_at, column_below, transfer_ranges}
use Rattle.promise.specs.Chain.{Chain, TransferChain, TransfersPass, lent_on}
use Rattle.promise.proofs.Building.{cut}
use Rattle.promise.proofs.Transferred.{events_same, run_seen}

runs_size : {A : Type 0} (n : ℕ) (ls : List (List A)) → length (runs_from n ls) ≡ length ls * 2
unfolding runs_from
runs_size n [] = refl
runs_size n (l ∷ ls) = omega (arith, runs_size (n + length l) ls)

all_any : {A : Type 0} {P : A → Type 0} (l : List A) → ((y : A) → P y) → All P l
all_any [] h = nil
all_any (y ∷ l) h = cons (h y) (all_any l h)

-- every transfer takes the transfer time
abbrev Takes : Input → Transfer → Type 0
Takes I r = r.time ≡ I.time

all_take_time : (I : Input) → All (Takes I) (all_transfers I)
unfolding events_of
all_take_time I =
    all_flatten (Takes I) (events_of I)
    (all_flatten (All (Takes I)) (tab (λ i. tab (built_transfers I i) (I.timetable.trip i).count) I.timetable.trips)
    (all_tab (All (All (Takes I))) (λ i. tab (built_transfers I i) (I.timetable.trip i).count) 0 I.timetable.trips
    (λ i u v. all_tab (All (Takes I)) (built_transfers I i) 0 (I.timetable.trip i).count
    (λ o p q. all_map (transfer_of I.time) (Takes I) (transfers_of I i o) (all_any (transfers_of I i o) (λ y. refl))))))

module _ (x : Lent) (k : Chain x) (m : TransferChain x k) where
  abbrev I : Input
  I = input_of (lent_on x k m.on m.rows)

  abbrev rows : ℕ
  rows = transfer_rows x.n (length x.transfers)

  facts : Answered (lent_on x k m.on m.rows) m.areas x.n.transfers
  facts = answered (lent_on x k m.on m.rows) m.areas x.n.transfers m.transfers_answered

  area_is : x.transfers ≡ area_with I m.areas.area
  area_is = m.lent_transfers ∙ ap (λ (a : TransferAreas). a.area) facts.areas

  runs_are : (transfers_outcome (lent_on x k m.on m.rows) m.areas).areas.transfer_runs ≡ runs_from 0 (events_of I)
  runs_are = ap (λ (a : TransferAreas). a.transfer_runs) facts.areas

  events_told : event_count x.t x.n ≡ length (events_of I)
  events_told = ap (events_before (timetable x.t x.n.timetable)) m.on.same.trips ∙ events_same x k m m.on.c.trips (omega arith) ∙ sym (events_length I)

  area_size : length x.transfers ≡ length m.areas.area
  area_size = ap length area_is ∙ area_length I m.areas.area facts.room.space

  rows_told : rows ≡ x.n.transfers
  rows_told = omega (arith, area_size, facts.room.space, facts.counted)

  pub chain_pass : TransfersPass x k.rest
  unfolding transfer_runs_ok run_in transfer_ranges column_below
  chain_pass =
      record {
        few = omega (arith, facts.counted, facts.room.few);
        size = ap length (m.lent_runs ∙ runs_are) ∙ runs_size 0 (events_of I) ∙ ap (λ (j : ℕ). j * 2) (sym events_told);
        runs = every_all (λ e. run_in rows (transfer_run_at x.built x.n e)) 0 (event_count x.t x.n - 0)
            (λ e u v.
            let w : e < length (events_of I) = omega (arith, events_told) in
            let z : transfer_run_at x.built x.n e ≡ run_at (runs_from 0 (events_of I)) e = run_seen x k m e ∙ ap (λ (l : List ℕ). run_at l e) runs_are in
            let a = ap (λ (r : StopRun). r.first) z ∙ run-first 0 (events_of I) e w in
            let b = ap (λ (r : StopRun). r.length) z ∙ run_count 0 (events_of I) e w in
            le-leb ((transfer_run_at x.built x.n e).first + (transfer_run_at x.built x.n e).length) rows
            (omega (arith, a, b, run_inside (events_of I) e w, facts.counted, rows_told)));
        times = every_all (λ i. ltb (column_at x.transfers 2 4 i) (time_limit + 1)) 0 (rows - 0)
            (λ i u v.
            let d : Transfer = record { target = 0; offset = 0; time = 0; pattern = 0 } in
            let w : i < length (all_transfers I) = omega (arith, facts.counted, rows_told) in
            let z : 2 + i * 4 ≡ i * 4 + 2 = omega arith in
            let a : get_or x.transfers (2 + i * 4) 0 ≡ m.on.settings.transfer_time =
            ap₂ (λ (l : List ℕ) (j : ℕ). get_or l j 0) area_is z ∙ ap (λ (r : Transfer). r.time) (area_words I m.areas.area d i w) ∙ all_at (Takes I) (all_transfers I) i d (all_take_time I) w in
            lt-ltb (column_at x.transfers 2 4 i) (time_limit + 1) (omega (arith, a, facts.facts.time)));
      }

-- NO TRANSFERS: a caller who makes none (a steady day needs none) lends zeros for the runs, and no transfer
pub no_transfers_pass : (x : Lent) (k : Chain x) → x.n.transfers ≡ 0 → length k.rest ≡ event_count x.t x.n * 2 → ((i : ℕ) → get_or k.rest i 0 ≡ 0) → TransfersPass x k.rest
unfolding transfer_runs_ok run_in transfer_ranges column_below
no_transfers_pass x k e s h =
    record {
      few = omega arith;
      size = s;
      runs = every_all (λ e. run_in (transfer_rows x.n (length x.transfers)) (transfer_run_at x.built x.n e)) 0 (event_count x.t x.n - 0)
          (λ e u v.
          let z : transfer_runs_at x.n + e * 2 + 1 ≡ transfer_runs_at x.n + (e * 2 + 1) = omega arith in
          let a = (cut x k).rest (e * 2) ∙ h (e * 2) in
          let b = ap (λ (j : ℕ). get_or x.built j 0) z ∙ (cut x k).rest (e * 2 + 1) ∙ h (e * 2 + 1) in
          le-leb ((transfer_run_at x.built x.n e).first + (transfer_run_at x.built x.n e).length) (transfer_rows x.n (length x.transfers)) (omega (arith, a, b)));
      times = every_all (λ i. ltb (column_at x.transfers 2 4 i) (time_limit + 1)) 0 (transfer_rows x.n (length x.transfers) - 0) (λ i u v. absurd (omega arith));
    }
