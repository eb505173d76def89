-- From the outcome of the transfers call: what the query's tables say of transfers, of the query's own timetable.
use Prim.Native.Nat.{ℕ, zero, suc, ◌+◌, ◌*◌, ◌<◌, ◌≤◌}
use mathlib.Core.Path.{◌≡◌, refl, sym, ap, ap₂, subst, ◌∙◌}
use mathlib.Core.Logic.{◌⊎◌, ⊎_elim}
use mathlib.Core.Bool.{Bool}
use mathlib.Core.List.{List, []}
use native.Mathlib.Omega.{arith}
use lib.ListN.{get_or}
use lib.Dec.{eqb}
use Rattle.sorts.specs.Orders.{All, keep}
use Rattle.sorts.proofs.Orders.{sort_cong}
use Rattle.tables.specs.Tables.{first_of}
use Rattle.tables.specs.Timetable.{Timetable, timetable, time_at}
use Rattle.tables.specs.Sane.{Sane}
use Rattle.departures.specs.declared.DepartureRow.{DepartureRow}
use Rattle.departures.specs.declared.StopRun.{StopRun}
use Rattle.departures.specs.Departures.{by_departure, listed_at, row_departure, run_at}
use Rattle.departures.specs.Listed.{RowKnown}
use Rattle.departures_call.proofs.Laws.{answered_sorted}
use Rattle.event_transfers.specs.Transfers.{Input, departures_of_line, built_transfers, events_before, transfers_at}
use Rattle.transfers_call.specs.Call.{TransferAreas, input_of, transfers_outcome}
use Rattle.transfers_call.proofs.Laws.{Answered, answered, answered_transfers}
use Rattle.model.specs.Promise.{transfer_input, TransfersBuilt}
use Rattle.query_input.specs.Lent.{Lent, tables_of, transfer_run_at, transfer_runs_at}
use Rattle.promise.specs.Chain.{Chain, TransferChain, callers_list, lent_on}
use Rattle.promise.proofs.Building.{T2, Y, sort_out, sort_facts, cut, callers_known}
use Rattle.promise.proofs.Alike.{all_imp, count_same, time_same, departure_same, known_same}
use Rattle.promise.proofs.Changes.{Alike, line_sorted, built_alike, line_alike, all_alike}

module _ (x : Lent) (k : Chain x) (m : TransferChain x k) where
  -- the timetable that the transfers call was lent
  abbrev T3 : Timetable
  T3 = timetable m.on.t m.on.c

  facts : Answered (lent_on x k m.on m.rows) m.areas x.n.transfers
  facts = answered (lent_on x k m.on m.rows) m.areas x.n.transfers m.transfers_answered

  sound : Sane m.on.t m.on.c
  sound = facts.facts.sane

  -- as many events stand before a trip
  pub events_same : (i : ℕ) → i ≤ m.on.c.trips → events_before (Y x k) i ≡ events_before T3 i
  unfolding events_before
  events_same zero h = refl
  events_same (suc i) h = ap₂ (λ (a b : ℕ). a + b) (events_same i (omega arith)) (count_same m.on.t m.on.c x.t x.n.timetable sound.runs m.on.same i (omega arith))

  -- what the transfers call reads, of these rows; and what the query's tables and the caller's list say
  abbrev reads : List ℕ → Input
  reads rows = input_of (lent_on x k m.on rows)

  abbrev says : Input
  says = transfer_input (tables_of x) (callers_list x k) x.n.settings.transfer_time

  -- a row of the caller's list departs alike in all three timetables
  module _ (y : DepartureRow) (q : RowKnown k.sort_on.t k.sort_on.c y) where
    sorted_departs : row_departure (Y x k) y ≡ row_departure (T2 x k) y
    sorted_departs = departure_same k.sort_on.t k.sort_on.c x.t x.n.timetable (sort_facts x k).sane.runs k.sort_on.same y q

    read_departs : row_departure (Y x k) y ≡ row_departure T3 y
    read_departs =
        departure_same m.on.t m.on.c x.t x.n.timetable sound.runs m.on.same y
        (known_same m.on.t m.on.c x.t x.n.timetable sound.runs m.on.same y (omega (arith, q.trip, k.sort_on.same.trips))
        (omega (arith, q.offset, count_same k.sort_on.t k.sort_on.c x.t x.n.timetable (sort_facts x k).sane.runs k.sort_on.same y.trip q.trip)))

  -- what the caller's list says and what is read there is alike
  says_alike : (s : ℕ) → s < k.sort_on.c.stops → All (Alike says (reads k.sort_areas.rows)) (callers_list x k s)
  says_alike s h =
      all_imp (callers_list x k s) (λ y q. ((cut x k).first y.trip (omega (arith, q.trip, k.sort_on.same.trips)), read_departs y q)) (callers_known x k s h)

  -- sorted by one timetable, or by the other
  sorted_read : (s : ℕ) → s < k.sort_on.c.stops → by_departure (T2 x k) (callers_list x k s) ≡ by_departure T3 (callers_list x k s)
  sorted_read s h =
      sort_cong (row_departure (T2 x k)) (row_departure T3) (callers_list x k s)
      (all_imp (callers_list x k s) (λ y q. sym (sorted_departs y q) ∙ read_departs y q) (callers_known x k s h))

  -- the rows as sorted or as they came: a line's departures are the same
  rows_alike : (rows : List ℕ) → (rows ≡ (sort_out x k).rows) ⊎ (rows ≡ k.sort_areas.rows) → (s line : ℕ) → s < k.sort_on.c.stops
      → departures_of_line (reads k.sort_areas.rows) s line ≡ departures_of_line (reads rows) s line
  unfolding departures_of_line
  rows_alike rows e s line h =
      ⊎_elim
      (λ (a : rows ≡ (sort_out x k).rows).
      sym (ap (λ (r : List ℕ). by_departure T3 (keep (of_line r) (listed_at k.stop_runs r s))) a
      ∙ ap (λ (l : List DepartureRow). by_departure T3 (keep (of_line []) l))
      (answered_sorted k.sort_on.settings k.sort_on.t k.sort_on.c x.n.departures k.stop_runs k.sort_areas k.sorting_answered s ∙ sorted_read s h)
      ∙ line_sorted (row_departure T3) (of_line []) (callers_list x k s)))
      (λ (b : rows ≡ k.sort_areas.rows). ap (λ (r : List ℕ). by_departure T3 (keep (of_line r) (listed_at k.stop_runs r s))) (sym b))
      e
    where
      of_line : List ℕ → DepartureRow → Bool
      of_line r q = eqb ((reads r).line_of q.trip) line

  abbrev out : TransferAreas
  out = (transfers_outcome (lent_on x k m.on m.rows) m.areas).areas

  pub run_seen : (e : ℕ) → transfer_run_at x.built x.n e ≡ run_at out.transfer_runs e
  run_seen e =
      let z : transfer_runs_at x.n + e * 2 + 1 ≡ transfer_runs_at x.n + (e * 2 + 1) = omega arith in
      let a : get_or x.built (transfer_runs_at x.n + e * 2) 0 ≡ get_or out.transfer_runs (e * 2) 0 = (cut x k).rest (e * 2) ∙ ap (λ (l : List ℕ). get_or l (e * 2) 0) m.lent_runs in
      let b : get_or x.built (transfer_runs_at x.n + e * 2 + 1) 0 ≡ get_or out.transfer_runs (e * 2 + 1) 0 =
      ap (λ (j : ℕ). get_or x.built j 0) z ∙ (cut x k).rest (e * 2 + 1) ∙ ap (λ (l : List ℕ). get_or l (e * 2 + 1) 0) m.lent_runs in
      ap₂ pair a b
    where
      pair : ℕ → ℕ → StopRun
      pair a b = record { first = a; length = b }

  -- the transfers that the query sees are those that were built
  seen : (i o : ℕ) → i < m.on.c.trips → o < (T3.trip i).count → (tables_of x).transfers i o ≡ built_transfers (reads m.rows) i o
  seen i o h u =
      ap (λ (a : List ℕ). transfers_at a (transfer_run_at x.built x.n (events_before (Y x k) i + o))) m.lent_transfers
      ∙ ap (transfers_at out.area) (run_seen (events_before (Y x k) i + o))
      ∙ ap (λ (e : ℕ). transfers_at out.area (run_at out.transfer_runs (e + o))) (events_same i (omega arith))
      ∙ answered_transfers (lent_on x k m.on m.rows) m.areas x.n.transfers m.transfers_answered i o h u

  -- TRANSFERS AS BUILT, of the query's own timetable and from the caller's list
  pub chain_transfers : TransfersBuilt (tables_of x) (callers_list x k) x.n.settings.transfer_time
  chain_transfers =
      record {
        transfers_built = λ i o h u.
            let v : i < m.on.c.trips = omega (arith, m.on.same.trips) in
            let w : o < (T3.trip i).count = omega (arith, count_same m.on.t m.on.c x.t x.n.timetable sound.runs m.on.same i v) in
            let s = (time_at T3 i o).stop in
            let q : s < m.on.c.stops = sound.numbers.stop (first_of m.on.t m.on.c i + o) (omega (arith, sound.runs.run i v)) in
            let z : s < k.sort_on.c.stops = omega (arith, q, m.on.same.stops, k.sort_on.same.stops) in
            seen i o v w
            ∙ sym (built_alike says (reads m.rows) i o (time_same m.on.t m.on.c x.t x.n.timetable sound.runs m.on.same i o v w) refl (sym m.same_time)
            (λ line. line_alike says (reads k.sort_areas.rows) s refl (says_alike s z) line ∙ rows_alike m.rows m.rows_are s line z)
            (λ line. subst (λ (l : List DepartureRow). All (λ r. row_departure (Y x k) r ≡ row_departure T3 r) l) (rows_alike m.rows m.rows_are s line z)
            (all_alike says (reads k.sort_areas.rows) s refl (says_alike s z) line)));
      }
