-- Frequency boarding (document 01, item 3; GTFS frequencies.txt), and the waiting for it (document 02, T-02). Definitions only.
-- A trip with windows runs again and again. A window has a start, an end and a headway: its runs leave the trip's first stop at
-- the start, one headway later and so on, before the end. The trip's stop times are a template: a run leaves each stop as long
-- after its own start as the template does after its base, the template's first departure.
-- GTFS asks for positive headways and windows that do not overlap; here both may fail. exact_times is not read.
-- The definitions try the runs one by one, where the code divides.
use Rattle.std.specs.Prelude.{ℕ, ◌+◌, ◌*◌, ◌-◌, ◌/◌, ◌%◌, ◌<◌, ◌≤◌, Bool, cond, ◌&&◌, not, List, eqb, ltb, leb, length, get_or, ℤ, pos, nat_abs, ◌-ℤ◌, Option, None, Some}
use Rattle.std.proofs.Math.IntN.{sub_ℕ}
use Rattle.std.specs.Int.Signed.{le_z}
use Rattle.loops.specs.Iter.{Hit, hit, miss, first_in, range}
use Rattle.signed.specs.Signed.{bits_of}
use Rattle.frequency.specs.declared.Headways.{Headways}
use Rattle.frequency.specs.declared.BoardedRun.{BoardedRun}

-- start_time, end_time and headway_secs of a row of frequencies.txt, in service seconds
pub record Window : Type 0 where
  pub start : ℕ
  pub end : ℕ
  pub headway : ℕ

abbrev pub window_from : ℕ → ℕ → ℕ → Window
window_from s e h = record { start = s; end = e; headway = h }

-- A trip's part of the windows' table, three words a row: how many windows, and window i
abbrev pub window_count : List ℕ → ℕ
window_count ws = length ws / 3

abbrev pub window_in : List ℕ → ℕ → Window
window_in ws i = window_from (get_or ws (3 * i) 0) (get_or ws (3 * i + 1) 0) (get_or ws (3 * i + 2) 0)

-- when run k leaves the trip's first stop
abbrev pub run_start : Window → ℕ → ℕ
run_start w k = w.start + k * w.headway

-- run k is one of the window's runs. A headway of 0, or an end that is not after the start, gives none.
-- The fields of frequencies.txt, in our words: `trip_id` names the trip whose stop times are the template. `start_time` is when the first run of the
-- window leaves the trip's first stop. `headway_secs` is the time from one run's departure there to the next one's. `end_time` is when this
-- headway ends: a run leaves before it, none at it or after it. `exact_times` says whether the runs leave just then (1) or only about so often
-- (0 or empty); it is not read here, every row counts as 1 (docs/DIFFERENCES.md 8). Times may be past 24:00:00, counted on from the service day.
abbrev pub is_run : Window → ℕ → Bool
is_run w k = not (eqb w.headway 0) && ltb (run_start w k) w.end

-- A run that starts at t leaves the boarding stop at t + (dep - base), where the template leaves it at dep. That is not before the
-- wanted time `after` exactly if after + base ≤ t + dep; so put it is exact in ℕ, also where dep is less than base.
abbrev pub leaves_not_before : (base dep after start : ℕ) → Bool
leaves_not_before base dep after t = leb (after + base) (t + dep)

-- run k can be boarded
abbrev pub is_boardable : (w : Window) (base dep after run : ℕ) → Bool
is_boardable w base dep after k = is_run w k && leaves_not_before base dep after (run_start w k)

-- The first run of a window that can be boarded. Headways are at least a second, so there are at most end - start runs.
unfoldable pub first_run : Window → ℕ → ℕ → ℕ → Hit
first_run w base dep after = first_in (is_boardable w base dep after) 0 (w.end - w.start)

-- WAITING (document 02, T-02). The offset: how long after its base the template leaves the boarding stop; below zero where dep is less than base.
abbrev pub board_offset : (base dep : ℕ) → ℤ
board_offset base dep = pos dep -ℤ pos base

-- need = wanted time - offset - start: above zero where run 0 leaves before the wanted time, by so much
abbrev pub need : (w : Window) (base dep after : ℕ) → ℤ
need w base dep after = (pos after -ℤ board_offset base dep) -ℤ pos w.start

-- is a number above zero?
abbrev pub is_above : ℤ → Bool
is_above z = not (le_z z (pos 0))

-- run k of window i. The number n of whole headways from the window's start to it is k. Quotient and exact remainder are those of need by the
-- headway if need is above zero, otherwise 0 and 0.
abbrev pub headways_of : (w : Window) (window base dep after run : ℕ) → Headways
headways_of w i base dep after k =
    let z = need w base dep after in
    record {
      window = i;
      run = k;
      quotient = cond (is_above z) (nat_abs z / w.headway) 0;
      remainder = cond (is_above z) (nat_abs z % w.headway) 0;
    }

-- The wait: if need is above zero, it is zero for remainder zero, else headway - remainder; otherwise departure - wanted time.
abbrev pub wait_of : (w : Window) (base dep after departure : ℕ) → ℕ
wait_of w base dep after d =
    let z = need w base dep after in
    let r = nat_abs z % w.headway in
    cond (is_above z) (cond (eqb r 0) 0 (w.headway - r)) (d - after)

-- what is told of a boarding
abbrev pub boarding_of : (departure shift : ℕ) (headways : Headways) (wait : ℕ) → BoardedRun
boarding_of d s h w = record { departure = d; time_shift_s = s; headways = h; wait = w }

-- Boarding run k of window i: its departure, and its time shift, which is its start - base as the bits of an i32.
abbrev pub board_run : (w : Window) (window base dep after run : ℕ) → BoardedRun
board_run w i base dep after k =
    let t = run_start w k in
    let d = t + dep - base in
    boarding_of d (bits_of (sub_ℕ t base)) (headways_of w i base dep after k) (wait_of w base dep after d)

-- Boarding a trip without windows, which leaves the stop at dep: its shift is dep - planned, its scheduled departure there; it has no window and no
-- headways, and the wait is departure - wanted time.
abbrev pub no_headways : Headways
no_headways = record { window = 0; run = 0; quotient = 0; remainder = 0 }

abbrev pub board_ordinary : (planned dep after : ℕ) → BoardedRun
board_ordinary planned dep after = boarding_of dep (bits_of (sub_ℕ dep planned)) no_headways (dep - after)

-- the boarding of the run that was found in window i, if one was
abbrev pub board_hit : (w : Window) (window base dep after : ℕ) → Hit → Option BoardedRun
board_hit w i base dep after (hit k) = Some (board_run w i base dep after k)
board_hit w i base dep after miss = None

-- the earliest boarding of window i
abbrev pub window_board : (w : Window) (number base dep after : ℕ) → Option BoardedRun
window_board w i base dep after = board_hit w i base dep after (first_run w base dep after)

-- the one that departs earlier; equal ones keep the first
abbrev pub earlier_of : Option BoardedRun → Option BoardedRun → Option BoardedRun
earlier_of None b = b
earlier_of (Some a) None = Some a
earlier_of (Some a) (Some b) = cond (leb a.departure b.departure) (Some a) (Some b)

-- window i is looked at, after the best of those before it
abbrev pub board_next : (window : ℕ → Window) (base dep after i : ℕ) (best : Option BoardedRun) → Option BoardedRun
board_next window base dep after i best = earlier_of best (window_board (window i) i base dep after)

-- earliest_freq_board: over n windows, the earliest
unfoldable pub earliest_freq_board : (n : ℕ) (window : ℕ → Window) (base dep after : ℕ) → Option BoardedRun
earliest_freq_board n window base dep after = range (board_next window base dep after) 0 n None

-- What the inner call asks: at most 65,536 windows of times, and a template base that is a time. The other two are wider than at
-- the door, as inside a query: the departure may be a delayed one, and the wanted time may follow long walks.
pub record Nominal (n : ℕ) (window : ℕ → Window) (base dep after : ℕ) : Type 0 where
  pub few : n ≤ 65536
  pub starts : (i : ℕ) → i < n → (window i).start ≤ 1048575
  pub ends : (i : ℕ) → i < n → (window i).end ≤ 1048575
  pub headways : (i : ℕ) → i < n → (window i).headway ≤ 1048575
  pub template : base ≤ 1048575
  pub departs : dep < 4194304
  pub ready : after < 134217728
