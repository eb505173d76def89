-- The events' numbers are those of the transfers as they are defined.
use Prim.Native.Nat.{ℕ, ◌+◌, ◌<◌, ◌≤◌}
use mathlib.Core.Path.{◌≡◌, refl, sym, ◌∙◌, ap}
use mathlib.Core.Bool.{Bool, true, false, not, cond}
use mathlib.Core.List.{List, [], flatten, map}
use native.Mathlib.Omega.{arith}
use lib.ListN.{take}
use lib.Dec.{leb, eqb}
use borrow.Author.Tests.{eqb-true, le-leb, leb-false, leb-true, lt-leb, ne_eqb}
use Rattle.loops.specs.Count.{tab}
use Rattle.loops.proofs.Count.{map_tab_from, tab_ext}
use Rattle.sorts.specs.Sort.{hi, sort_by}
use Rattle.sorts.specs.Orders.{All, keep, nil}
use Rattle.sorts.proofs.Orders.{sort-all, sort_cong, sort_map}
use Rattle.sorts.proofs.Places.{sort_keep}
use Rattle.tables.specs.Timetable.{Timetable, time_at}
use Rattle.tables.specs.Tables.{arrival_of, count_of, first_of, stop_of}
use Rattle.departures.specs.declared.DepartureRow.{DepartureRow}
use Rattle.departures.specs.Departures.{listed_at, row_departure, by_departure}
use Rattle.departures.specs.Packed.{un_trip}
use Rattle.departures.proofs.All.{all_tab}
use Rattle.event_transfers.specs.Transfers.{Input, all_transfers, built_transfers, departures_of_line, events_of, first_not_before, transfer_of, transfer_to, transfers_of}
use Rattle.event_transfers.specs.Packed.{Prepared, alight_keys, all_keys, dep_x, event_keys, line_x, prepared, targets, to_group}
use Rattle.transfers_call.specs.Call.{TransfersAdmitted, TransferLent, input_of}
use Rattle.event_transfers.proofs.Lists.{all_flatten, all_imp, all_kept, all_take, flatten_map, flatten_up_to, keep_map, keep_none_of, map_take}
use Rattle.event_transfers.proofs.Grouping.{line_hi}
use Rattle.transfers_call.proofs.Packing.{pack_departure, pack-line, pack_trip}
use Rattle.transfers_call.proofs.Runs.{RowFits, pack_of, rows_fit, run_is, work_of}
use Rattle.event_transfers.proofs.Events.{event_time}

-- within a line, the order by line and departure is that by departure
same_order : (l a b : ℕ) → eqb (line_x a) l ≡ true → eqb (line_x b) l ≡ true → leb (hi a) (hi b) ≡ leb (dep_x a) (dep_x b)
same_order l a b p q = go (leb (dep_x a) (dep_x b)) refl
  where
    go : (t : Bool) → leb (dep_x a) (dep_x b) ≡ t → leb (hi a) (hi b) ≡ t
    go true h = le-leb (hi a) (hi b) (omega (arith, leb-true (dep_x a) (dep_x b) h, line_hi a, line_hi b, eqb-true (line_x a) l p, eqb-true (line_x b) l q))
    go false h = lt-leb (hi a) (hi b) (omega (arith, leb-false (dep_x a) (dep_x b) h, line_hi a, line_hi b, eqb-true (line_x a) l p, eqb-true (line_x b) l q))

-- the transfer to a line, of the rows listed at a stop
abbrev pub line_rows : Input → List DepartureRow → ℕ → List DepartureRow
line_rows y rows l = by_departure y.timetable (keep (λ r. eqb (y.line_of r.trip) l) rows)

abbrev pub to_line_of : Input → List DepartureRow → ℕ → ℕ → ℕ → List DepartureRow
to_line_of y rows ti w l = keep (λ r. not (eqb r.trip ti)) (take 1 (keep (λ r. leb w (row_departure y.timetable r)) (line_rows y rows l)))

nothing : (T : Timetable) (ti w : ℕ) → keep (λ r. not (eqb r.trip ti)) (take 1 (keep (λ r. leb w (row_departure T r)) (by_departure T []))) ≡ []
unfolding keep sort_by
nothing T ti w = refl

-- the events' transfers as rows
abbrev pub row_events : Input → List (List DepartureRow)
row_events y = flatten (tab (λ ti. tab (transfers_of y ti) (y.timetable.trip ti).count) y.timetable.trips)

pub events_are : (y : Input) → events_of y ≡ map (map (transfer_of y.time)) (row_events y)
unfolding events_of
events_are y =
    ap flatten
    (tab_ext (λ ti. tab (built_transfers y ti) (y.timetable.trip ti).count) (λ ti. map (map (transfer_of y.time)) (tab (transfers_of y ti) (y.timetable.trip ti).count)) y.timetable.trips
    (λ ti h. sym (map_tab_from (map (transfer_of y.time)) (transfers_of y ti) 0 (y.timetable.trip ti).count))
    ∙ sym (map_tab_from (map (map (transfer_of y.time))) (λ ti. tab (transfers_of y ti) (y.timetable.trip ti).count) 0 y.timetable.trips))
    ∙ flatten_map (map (transfer_of y.time)) (tab (λ ti. tab (transfers_of y ti) (y.timetable.trip ti).count) y.timetable.trips)

pub all_are : (y : Input) → all_transfers y ≡ map (transfer_of y.time) (flatten (row_events y))
all_are y = ap flatten (events_are y) ∙ flatten_map (transfer_of y.time) (row_events y)

module _ (x : TransferLent) (rows : List DepartureRow) (f : All (RowFits x) rows) where
  kept : (l : ℕ) → All (RowFits x) (keep (λ r. eqb ((input_of x).line_of r.trip) l) rows)
  kept l = all_kept (RowFits x) (λ r. eqb ((input_of x).line_of r.trip) l) rows f

  sorted_fit : (l : ℕ) → All (RowFits x) (line_rows (input_of x) rows l)
  sorted_fit l = sort-all (row_departure (input_of x).timetable) (keep (λ r. eqb ((input_of x).line_of r.trip) l) rows) (kept l)

  -- a line's numbers, kept of the sorted ones, are its rows sorted by departure
  line_keys : (l : ℕ) → keep (λ y. eqb (line_x y) l) (sort_by hi (map (pack_of x) rows)) ≡ map (pack_of x) (line_rows (input_of x) rows l)
  line_keys l =
      sort_keep (λ y. eqb (line_x y) l) hi dep_x (same_order l) (map (pack_of x) rows)
      ∙ ap (sort_by dep_x)
      (keep_map (pack_of x) (λ y. eqb (line_x y) l) (λ r. eqb ((input_of x).line_of r.trip) l) rows
      (all_imp (RowFits x) (λ r. eqb (line_x (pack_of x r)) l ≡ eqb ((input_of x).line_of r.trip) l) (λ r k. ap (λ (m : ℕ). eqb m l) (pack-line x.t x.c x.lines r k.fits)) rows f))
      ∙ sym (sort_map (pack_of x) dep_x (keep (λ r. eqb ((input_of x).line_of r.trip) l) rows))
      ∙ ap (map (pack_of x))
      (sort_cong (λ r. dep_x (pack_of x r)) (row_departure (input_of x).timetable) (keep (λ r. eqb ((input_of x).line_of r.trip) l) rows)
      (all_imp (RowFits x) (λ r. dep_x (pack_of x r) ≡ row_departure (input_of x).timetable r) (λ r k. pack_departure x.t x.c x.lines r k.fits) (keep (λ r. eqb ((input_of x).line_of r.trip) l) rows) (kept l)))

  line_target : (ti w l : ℕ) → to_group (keep (λ y. eqb (line_x y) l) (sort_by hi (map (pack_of x) rows))) ti w ≡ map (pack_of x) (to_line_of (input_of x) rows ti w l)
  unfolding to_group
  line_target ti w l =
      ap (λ (v : List ℕ). keep (λ y. not (eqb (un_trip y) ti)) (take 1 (keep (λ y. leb w (dep_x y)) v))) (line_keys l)
      ∙ ap (λ (v : List ℕ). keep (λ y. not (eqb (un_trip y) ti)) (take 1 v))
      (keep_map (pack_of x) (λ y. leb w (dep_x y)) (λ r. leb w (row_departure (input_of x).timetable r)) (line_rows (input_of x) rows l)
      (all_imp (RowFits x) (λ r. leb w (dep_x (pack_of x r)) ≡ leb w (row_departure (input_of x).timetable r)) (λ r k. ap (leb w) (pack_departure x.t x.c x.lines r k.fits)) (line_rows (input_of x) rows l) (sorted_fit l)))
      ∙ ap (keep (λ y. not (eqb (un_trip y) ti))) (sym (map_take (pack_of x) 1 late))
      ∙ keep_map (pack_of x) (λ y. not (eqb (un_trip y) ti)) (λ r. not (eqb r.trip ti)) (take 1 late)
      (all_imp (RowFits x) (λ r. not (eqb (un_trip (pack_of x r)) ti) ≡ not (eqb r.trip ti)) (λ r k. ap (λ (m : ℕ). not (eqb m ti)) (pack_trip x.t x.c x.lines r k.fits)) (take 1 late)
      (all_take (RowFits x) 1 late (all_kept (RowFits x) (λ r. leb w (row_departure (input_of x).timetable r)) (line_rows (input_of x) rows l) (sorted_fit l))))
    where
      late : List DepartureRow
      late = keep (λ r. leb w (row_departure (input_of x).timetable r)) (line_rows (input_of x) rows l)

  -- every line's
  targets_are : (ti w : ℕ) → x.line_count ≤ 4096 → targets (sort_by hi (map (pack_of x) rows)) ti w ≡ map (pack_of x) (flatten (tab (to_line_of (input_of x) rows ti w) x.line_count))
  unfolding targets
  targets_are ti w h =
      ap flatten
      (tab_ext (λ l. to_group (keep (λ y. eqb (line_x y) l) (sort_by hi (map (pack_of x) rows))) ti w) (λ l. map (pack_of x) (to_line_of (input_of x) rows ti w l)) 4096 (λ l u. line_target ti w l)
      ∙ sym (map_tab_from (map (pack_of x)) (to_line_of (input_of x) rows ti w) 0 4096))
      ∙ flatten_map (pack_of x) (tab (to_line_of (input_of x) rows ti w) 4096)
      ∙ ap (map (pack_of x)) (flatten_up_to (to_line_of (input_of x) rows ti w) x.line_count 4096 h (λ l u. to_none l u))
    where
      no_row : (l : ℕ) → x.line_count ≤ l → keep (λ r. eqb ((input_of x).line_of r.trip) l) rows ≡ []
      no_row l u = keep_none_of (λ r. eqb ((input_of x).line_of r.trip) l) rows (all_imp (RowFits x) (λ r. eqb ((input_of x).line_of r.trip) l ≡ false) (λ r k. ne_eqb ((input_of x).line_of r.trip) l (λ e. omega (arith, k.line, e))) rows f)

      to_none : (l : ℕ) → x.line_count ≤ l → to_line_of (input_of x) rows ti w l ≡ []
      to_none l u =
          ap (λ (m : List DepartureRow). keep (λ r. not (eqb r.trip ti)) (take 1 (keep (λ r. leb w (row_departure (input_of x).timetable r)) (sort_by (row_departure (input_of x).timetable) m)))) (no_row l u)
          ∙ nothing (input_of x).timetable ti w

-- an event's, a trip's, all of them
abbrev pub prepared_of : TransferLent → Prepared
prepared_of x = prepared x.t x.c x.runs (work_of x) x.settings.transfer_time

cond_map : {A B : Type 0} (f : A → B) (b : Bool) (l : List A) → cond b [] (map f l) ≡ map f (cond b [] l)
cond_map f true l = refl
cond_map f false l = refl

module _ (x : TransferLent) (n : ℕ) (a : TransfersAdmitted x n) where
  pub event_stop : (ti off : ℕ) → ti < x.c.trips → off < count_of x.t x.c ti → stop_of x.t x.c ti off < x.c.stops
  event_stop ti off h k = a.sane.numbers.stop (first_of x.t x.c ti + off) (event_time x.t x.c ti off (first_of x.t x.c ti) a.sane h k refl)

  event-keys : (ti off : ℕ) → ti < x.c.trips → off < count_of x.t x.c ti → event_keys (prepared_of x) ti off ≡ map (pack_of x) (transfers_of (input_of x) ti off)
  unfolding alight_keys transfers_of transfer_to first_not_before departures_of_line
  event-keys ti off h k =
      ap (cond (eqb (time_at (input_of x).timetable ti off).drop_off 1) [])
      (ap (λ (v : List ℕ). targets v ti (arrival_of x.t x.c ti off + x.settings.transfer_time)) (run_is x n a (stop_of x.t x.c ti off) (event_stop ti off h k))
      ∙ targets_are x (listed_at x.runs x.rows (stop_of x.t x.c ti off)) (rows_fit x n a (stop_of x.t x.c ti off) (event_stop ti off h k)) ti (arrival_of x.t x.c ti off + x.settings.transfer_time) a.lines.few)
      ∙ cond_map (pack_of x) (eqb (time_at (input_of x).timetable ti off).drop_off 1)
      (flatten (tab (to_line_of (input_of x) (listed_at x.runs x.rows (stop_of x.t x.c ti off)) ti (arrival_of x.t x.c ti off + x.settings.transfer_time)) x.line_count))

  -- THE EVENTS
  pub all-keys : all_keys (prepared_of x) ≡ map (map (pack_of x)) (row_events (input_of x))
  all-keys =
      ap flatten
      (tab_ext (λ ti. tab (event_keys (prepared_of x) ti) (count_of x.t x.c ti)) (λ ti. map (map (pack_of x)) (tab (transfers_of (input_of x) ti) (count_of x.t x.c ti))) x.c.trips
      (λ ti h. tab_ext (event_keys (prepared_of x) ti) (λ off. map (pack_of x) (transfers_of (input_of x) ti off)) (count_of x.t x.c ti) (λ off k. event-keys ti off h k)
      ∙ sym (map_tab_from (map (pack_of x)) (transfers_of (input_of x) ti) 0 (count_of x.t x.c ti)))
      ∙ sym (map_tab_from (map (map (pack_of x))) (λ ti. tab (transfers_of (input_of x) ti) (count_of x.t x.c ti)) 0 x.c.trips))
      ∙ flatten_map (map (pack_of x)) (tab (λ ti. tab (transfers_of (input_of x) ti) (count_of x.t x.c ti)) x.c.trips)

-- what holds of each row listed at an event's stop holds of each of its transfers
pub transfers_all : (y : Input) (P : DepartureRow → Type 0) (ti off : ℕ) → All P (y.listed (time_at y.timetable ti off).stop) → All P (transfers_of y ti off)
unfolding transfers_of transfer_to first_not_before departures_of_line
transfers_all y P ti off h = go (eqb (time_at y.timetable ti off).drop_off 1)
  where
    rows : List DepartureRow
    rows = y.listed (time_at y.timetable ti off).stop

    w : ℕ
    w = (time_at y.timetable ti off).arrival + y.time

    line : (l : ℕ) → All P (to_line_of y rows ti w l)
    line l =
        all_kept P (λ r. not (eqb r.trip ti)) (take 1 (keep (λ r. leb w (row_departure y.timetable r)) (line_rows y rows l)))
        (all_take P 1 (keep (λ r. leb w (row_departure y.timetable r)) (line_rows y rows l))
        (all_kept P (λ r. leb w (row_departure y.timetable r)) (line_rows y rows l)
        (sort-all (row_departure y.timetable) (keep (λ r. eqb (y.line_of r.trip) l) rows) (all_kept P (λ r. eqb (y.line_of r.trip) l) rows h))))

    go : (b : Bool) → All P (cond b [] (flatten (tab (to_line_of y rows ti w) y.lines)))
    go true = nil
    go false = all_flatten P (tab (to_line_of y rows ti w) y.lines) (all_tab (All P) (to_line_of y rows ti w) 0 y.lines (λ l u v. line l))

-- what holds of each event's holds of all
pub events_all : (y : Input) (P : DepartureRow → Type 0) → ((ti off : ℕ) → ti < y.timetable.trips → off < (y.timetable.trip ti).count → All P (transfers_of y ti off)) → All P (flatten (row_events y))
events_all y P h =
    all_flatten P (row_events y)
    (all_flatten (All P) (tab (λ ti. tab (transfers_of y ti) (y.timetable.trip ti).count) y.timetable.trips)
    (all_tab (All (All P)) (λ ti. tab (transfers_of y ti) (y.timetable.trip ti).count) 0 y.timetable.trips
    (λ ti u v. all_tab (All P) (transfers_of y ti) 0 (y.timetable.trip ti).count (λ off p q. h ti off (omega arith) (omega arith)))))

pub transfers_fit : (x : TransferLent) (n : ℕ) → TransfersAdmitted x n → All (RowFits x) (flatten (row_events (input_of x)))
transfers_fit x n a = events_all (input_of x) (RowFits x) (λ ti off h k. transfers_all (input_of x) (RowFits x) ti off (rows_fit x n a (stop_of x.t x.c ti off) (event_stop x n a ti off h k)))
