-- What each question gives when it is answered yes.
use Prim.Native.Nat.{ℕ, zero, suc, ◌*◌, ◌≤◌}
use mathlib.Core.Path.{◌≡◌, refl, sym, ◌∙◌, ap, ap₂}
use mathlib.Core.Bool.{Bool, true, false, ◌&&◌}
use mathlib.Core.List.{List}
use lib.ListN.{length, get_or}
use lib.Dec.{ltb, leb, eqb}
use borrow.Author.Tests.{eqb-true, leb-true, ltb-true}
use Rattle.loops.proofs.Iter.{every_in_at}
use Rattle.door.specs.Door.{ask}
use Rattle.door.specs.Settings.{settings_ok}
use Rattle.door.proofs.Laws.{ask_later, ask_yes}
use Rattle.door.proofs.House.{settings_yes}
use Rattle.tables.specs.declared.Counts.{Counts}
use Rattle.tables.specs.Timetable.{timetable}
use Rattle.tables.specs.Door.{counts_ok, slices_ok, runs_ok, numbers_ok, ranges_ok, order_ok}
use Rattle.tables.specs.Sane.{CountsOk, SlicesOk, RunsOk}
use Rattle.tables.proofs.Yes.{two, counts_yes, slices_yes, runs_yes, sane}
use Rattle.departures.specs.Listed.{RunsListed, listed_ok, stop_runs_ok}
use Rattle.departures.proofs.Yes.{rows_listed, runs_listed}
use Rattle.event_transfers.specs.Transfers.{events_before}
use Rattle.transfers_call.specs.Call.{TransfersAdmitted, TransferAreas, TransferLent, LinesBelow, input_of, lines_ok, transfers_outcome, transfers_question1, transfers_question2, transfers_question3, transfers_question4, transfers_question5, transfers_question6, transfers_settle, transfers_settled, transfer_sizes_ok, transfers_verdict}

-- 2
pub record Sizes (t : List ℕ) (c : Counts) (d lines runs rows transfer_runs : ℕ) : Type 0 where
  pub lines_is : lines ≡ c.trips
  pub runs_is : runs ≡ c.stops * 2
  pub rows_is : rows ≡ d * 2
  pub events_is : transfer_runs ≡ events_before (timetable t c) c.trips * 2

pub sizes_yes : (t : List ℕ) (c : Counts) (d lines runs rows transfer_runs : ℕ) → transfer_sizes_ok t c d lines runs rows transfer_runs ≡ true → Sizes t c d lines runs rows transfer_runs
unfolding transfer_sizes_ok
sizes_yes t c d lines runs rows transfer_runs h =
    let a = two (eqb lines c.trips && eqb runs (c.stops * 2)) (eqb rows (d * 2) && eqb transfer_runs (events_before (timetable t c) c.trips * 2)) h in
    let b = two (eqb lines c.trips) (eqb runs (c.stops * 2)) a.one in
    let e = two (eqb rows (d * 2)) (eqb transfer_runs (events_before (timetable t c) c.trips * 2)) a.two in
    record {
      lines_is = eqb-true lines c.trips b.one;
      runs_is = eqb-true runs (c.stops * 2) b.two;
      rows_is = eqb-true rows (d * 2) e.one;
      events_is = eqb-true transfer_runs (events_before (timetable t c) c.trips * 2) e.two;
    }

-- what the questions need of the yeses before them
pub ruleset yes = (counts_yes, slices_yes, runs_yes, runs_listed, sizes_yes)

-- 4, of the lines
pub lines_below : (lines : List ℕ) (trips line_count : ℕ) → line_count ≤ 4096 → length lines ≡ trips → lines_ok lines trips line_count ≡ true → LinesBelow lines trips line_count
unfolding lines_ok
lines_below lines trips n k e h = record { size = e; few = k; line = λ i u. ltb-true (get_or lines i 0) n (every_in_at (λ j. ltb (get_or lines j 0) n) trips i h u) }

-- question by question, what a yes gives
pub record First (x : TransferLent) : Type 0 where
  pub counts : CountsOk x.c
  pub lines : x.line_count ≤ 4096
  pub few : x.d ≤ 65536

pub first : (x : TransferLent) → transfers_question1 x ≡ true → First x
unfolding transfers_question1
first x h =
    let a = two (counts_ok x.c) (leb x.line_count 4096 && leb x.d 65536) h in
    let b = two (leb x.line_count 4096) (leb x.d 65536) a.two in
    record { counts = counts_yes x.c a.one; lines = leb-true x.line_count 4096 b.one; few = leb-true x.d 65536 b.two }

pub record Second (x : TransferLent) (n : ℕ) : Type 0 where
  pub slices : SlicesOk x.t x.c
  pub sizes : Sizes x.t x.c x.d (length x.lines) (length x.runs) (length x.rows) n

pub second : (x : TransferLent) (n : ℕ) → transfers_question2 x n ≡ true → Second x n
unfolding transfers_question2
second x n h =
    let a = two (slices_ok x.t x.c) (transfer_sizes_ok x.t x.c x.d (length x.lines) (length x.runs) (length x.rows) n) h in
    record { slices = slices_yes x.t x.c a.one; sizes = sizes_yes x.t x.c x.d (length x.lines) (length x.runs) (length x.rows) n a.two }

pub record Third (x : TransferLent) : Type 0 where
  pub trips : RunsOk x.t x.c
  pub stops : RunsListed x.c x.runs x.d

pub third : (x : TransferLent) (n : ℕ) → transfers_question1 x ≡ true → transfers_question2 x n ≡ true → transfers_question3 x ≡ true → Third x
unfolding transfers_question3
third x n p q h =
    let a = two (runs_ok x.t x.c) (stop_runs_ok x.runs x.c x.d) h in
    let f = first x p in
    record { trips = runs_yes x.t x.c a.one; stops = runs_listed x.c x.runs x.d f.counts f.few (second x n q).sizes.runs_is a.two }

-- all of them
pub admitted : (x : TransferLent) (n : ℕ) → transfers_verdict x n ≡ 0 → TransfersAdmitted x n
unfolding transfers_verdict transfers_question1 transfers_question2 transfers_question3 transfers_question4 transfers_question5
admitted x n h =
    let q5 = transfers_question5 x in
    let q4 = transfers_question4 x in
    let q3 = transfers_question3 x in
    let q2 = transfers_question2 x n in
    let q1 = transfers_question1 x in
    let l6 = ask 6 (transfers_question6 x) 0 in
    let l5 = ask 5 q5 l6 in
    let l4 = ask 4 q4 l5 in
    let l3 = ask 3 q3 l4 in
    let l2 = ask 2 q2 l3 in
    let l14 = ask 14 (settings_ok x.settings) l2 in
    let h14 = ask_later 0 q1 l14 h in
    let h2 = ask_later 13 (settings_ok x.settings) l2 h14 in
    let h3 = ask_later 1 q2 l3 h2 in
    let h4 = ask_later 2 q3 l4 h3 in
    let h5 = ask_later 3 q4 l5 h4 in
    let y1 = ask_yes 0 q1 l14 h in
    let y2 = ask_yes 1 q2 l3 h2 in
    let y3 = ask_yes 2 q3 l4 h3 in
    let y4 = ask_yes 3 q4 l5 h4 in
    let y5 = ask_yes 4 q5 l6 h5 in
    let f = first x y1 in
    let s = second x n y2 in
    let t = third x n y1 y2 y3 in
    let a1 = two (counts_ok x.c) (leb x.line_count 4096 && leb x.d 65536) y1 in
    let a2 = two (slices_ok x.t x.c) (transfer_sizes_ok x.t x.c x.d (length x.lines) (length x.runs) (length x.rows) n) y2 in
    let a3 = two (runs_ok x.t x.c) (stop_runs_ok x.runs x.c x.d) y3 in
    let a4 = two (numbers_ok x.t x.c) (lines_ok x.lines x.c.trips x.line_count && listed_ok x.t x.c x.runs x.rows x.d) y4 in
    let b4 = two (lines_ok x.lines x.c.trips x.line_count) (listed_ok x.t x.c x.runs x.rows x.d) a4.two in
    record {
      sane = sane x.t x.c a1.one a2.one a3.one a4.one y5;
      listed = rows_listed x.t x.c x.runs x.rows x.d t.stops s.slices t.trips s.sizes.rows_is b4.two;
      lines = lines_below x.lines x.c.trips x.line_count f.lines s.sizes.lines_is b4.one;
      time = (settings_yes x.settings (ask_yes 13 (settings_ok x.settings) l2 h14)).transfer_time;
      events = s.sizes.events_is;
    }

-- the outcome of an admitted call
pub answered : (x : TransferLent) (s : TransferAreas) (v : ℕ) → v ≡ transfers_verdict x (length s.transfer_runs) → v ≡ 0 → transfers_settled (input_of x) s ≡ transfers_outcome x s
answered x s v e z = ap (λ (v : ℕ). transfers_settle v (input_of x) s) (sym z ∙ e)
