-- How the code hands on the run that a window's search found: by its start, its window and its number. Definitions only.
-- Inner: nobody has to believe this.
use Rattle.std.specs.Prelude.{ℕ, ◌-◌, ◌<◌, ◌≤◌, ◌≡◌, Bool, true, cond, eqb, ltb, Option, None, Some}
use Rattle.frequency.specs.declared.BoardedRun.{BoardedRun}
use Rattle.loops.specs.Iter.{Hit, hit, miss}
use Rattle.frequency.specs.declared.Headways.{Headways}
use Rattle.frequency.specs.declared.Run.{Run}
use Rattle.frequency.specs.Gtfs.{Window, run_start, first_run, board_run}

-- no run: later than every run
abbrev pub no_run : Run
no_run = record { start = 4294967295; window = 0; run = 0 }

abbrev pub run_of : (w : Window) (window : ℕ) → Hit → Run
run_of w i (hit k) = record { start = run_start w k; window = i; run = k }
run_of w i miss = no_run

-- the first run of window i that can be boarded
abbrev pub window_run : (w : Window) (window base dep after : ℕ) → Run
window_run w i base dep after = run_of w i (first_run w base dep after)

-- the earlier of two runs; of equal ones the first
abbrev pub earlier_run : Run → Run → Run
earlier_run kept next = cond (ltb next.start kept.start) next kept

-- quotient and remainder out of n and the wait, where need is above zero
abbrev pub headways_by : (window run headway : ℕ) (above : Bool) (wait : ℕ) → Headways
headways_by i k h above wait =
    record {
      window = i;
      run = k;
      quotient = cond above (cond (eqb wait 0) k (k - 1)) 0;
      remainder = cond above (cond (eqb wait 0) 0 (h - wait)) 0;
    }

-- what they need: where there is a wait, a run before this one, and no more than a headway
pub record Remains (run headway : ℕ) (above : Bool) (wait : ℕ) : Type 0 where
  pub some : above ≡ true → 0 < wait → 0 < run
  pub within : above ≡ true → 0 < wait → wait ≤ headway

-- the boarding of a run
abbrev pub board_of : (window : ℕ → Window) → Run → (base dep after : ℕ) → Option BoardedRun
board_of window r base dep after =
    cond (ltb r.start 4294967295) (Some (board_run (window r.window) r.window base dep after r.run)) None

-- r is no run, or the first one of its window that can be boarded
pub record Drawn (n : ℕ) (window : ℕ → Window) (base dep after : ℕ) (r : Run) : Type 0 where
  pub among : r.start < 4294967295 → r.window < n
  pub found : r.start < 4294967295 → first_run (window r.window) base dep after ≡ hit r.run
  pub starts : r.start < 4294967295 → r.start ≡ run_start (window r.window) r.run
