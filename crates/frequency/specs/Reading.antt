-- What the earliest boarding is, in plain terms: no search and no order of looking stands here. `proofs/Reading` shows that
-- `earliest_freq_board` is it. Definitions only.
use Rattle.std.specs.Prelude.{ℕ, ◌+◌, ◌<◌, ◌≤◌, ◌≡◌, true, Option, None, Some}
use Rattle.std.proofs.Math.IntN.{sub_ℕ}
use Rattle.signed.specs.Signed.{bits_of}
use Rattle.frequency.specs.declared.BoardedRun.{BoardedRun}
use Rattle.frequency.specs.Gtfs.{Window, run_start, is_run}

-- run k of window i, one of the first n windows, leaves the boarding stop at the wanted time or later
pub record Boards (n : ℕ) (window : ℕ → Window) (base dep after i k : ℕ) : Type 0 where
  pub among : i < n
  pub runs : is_run (window i) k ≡ true
  pub wanted : after + base ≤ run_start (window i) k + dep

-- b is the earliest boarding of the first n windows
pub record Earliest (n : ℕ) (window : ℕ → Window) (base dep after : ℕ) (b : BoardedRun) : Type 0 where
  -- it is a run that leaves at the wanted time or later
  pub boards : Boards n window base dep after b.headways.window b.headways.run
  -- its departure and its shift are that run's
  pub departs : b.departure + base ≡ run_start (window b.headways.window) b.headways.run + dep
  pub shifted : b.time_shift_s ≡ bits_of (sub_ℕ (run_start (window b.headways.window) b.headways.run) base)
  -- no such run departs earlier
  pub least : (i k : ℕ) → Boards n window base dep after i k → b.departure + base ≤ run_start (window i) k + dep
  -- and none of a window before its own departs as early
  pub first : (i k : ℕ) → Boards n window base dep after i k → i < b.headways.window → b.departure + base < run_start (window i) k + dep

-- the answer is the earliest boarding, or there is none to board
pub data Answers (n : ℕ) (window : ℕ → Window) (base dep after : ℕ) : Option BoardedRun → Type 0 where
  none : ((i k : ℕ) → Boards n window base dep after i k → ⊥) → Answers n window base dep after None
  earliest : {b : BoardedRun} → Earliest n window base dep after b → Answers n window base dep after (Some b)
