-- What the numbers of a frequency boarding mean (document 02, T-02), for a reader. `proofs/Waits` shows it of every boarding that is found.
-- Definitions only.
use Rattle.std.specs.Prelude.{ℕ, ◌+◌, ◌*◌, ◌-◌, ◌<◌, ◌≡◌, true, false, cond, eqb, pos, ◌+ℤ◌}
use Rattle.frequency.specs.declared.BoardedRun.{BoardedRun}
use Rattle.frequency.specs.Gtfs.{Window, board_offset, need, is_above}

-- need is above zero
pub record NeedAbove (w : Window) (base dep after : ℕ) (b : BoardedRun) : Type 0 where
  -- need = quotient * headway + remainder
  pub divides : need w base dep after ≡ pos (b.headways.quotient * w.headway + b.headways.remainder)
  -- n is the quotient, plus 1 if the remainder is above 0
  pub rounds_up : b.headways.run ≡ b.headways.quotient + cond (eqb b.headways.remainder 0) 0 1
  -- the wait is zero for remainder zero, else headway - remainder
  pub remains : b.wait ≡ cond (eqb b.headways.remainder 0) 0 (w.headway - b.headways.remainder)

-- it is not: run 0 is boarded
pub record NeedNotAbove (b : BoardedRun) : Type 0 where
  pub first_run : b.headways.run ≡ 0
  pub no_quotient : b.headways.quotient ≡ 0
  pub no_remainder : b.headways.remainder ≡ 0

-- b boards a run of window w
pub record Waits (w : Window) (base dep after : ℕ) (b : BoardedRun) : Type 0 where
  -- departure = start + n * headway + offset
  pub departs_at : pos b.departure ≡ pos (w.start + b.headways.run * w.headway) +ℤ board_offset base dep
  -- wait = departure - wanted time in both cases, so the two formulas of T-02 are one number
  pub waits : b.wait + after ≡ b.departure
  pub left_over : b.headways.remainder < w.headway
  pub above : is_above (need w base dep after) ≡ true → NeedAbove w base dep after b
  pub not-above : is_above (need w base dep after) ≡ false → NeedNotAbove b
