-- What the call of frequency boarding tells (document 01, item 3; document 02, T-02), on any windows and numbers. Definitions only.
use Rattle.std.specs.Prelude.{ℕ, ◌≤◌, ◌≡◌, List}
use Rattle.door.specs.declared.Settings.{Settings}
use Rattle.frequency.specs.declared.BoardedRun.{BoardedRun}
use Rattle.frequency.specs.Gtfs.{window_in, boarding_of}
use Rattle.frequency.specs.Reading.{Boards, Earliest}
use Rattle.frequency.specs.Waits.{Waits}
use Rattle.frequency_call.specs.declared.FreqAnswer.{FreqAnswer}
use Rattle.frequency_call.specs.FrequencyCall.{no_board, freq_outcome}

-- the boarding that an answer tells
abbrev pub told_boarding : FreqAnswer → BoardedRun
told_boarding a =
    boarding_of a.departure a.time_shift_s
    (record { window = a.window; run = a.run; quotient = a.quotient; remainder = a.remainder })
    a.wait

-- a is the answer to `count` windows and these numbers
pub record FreqTold (count : ℕ) (ws : List ℕ) (base dep after : ℕ) (a : FreqAnswer) : Type 0 where
  pub found_or_none : a.found ≤ 1
  -- a refusal, and that there is none: zeros beside the code
  pub zeros : a.found ≡ 0 → a ≡ no_board a.code
  -- none only where no run of any window can be boarded
  pub none : a.code ≡ 0 → a.found ≡ 0 → (i k : ℕ) → Boards count (window_in ws) base dep after i k → ⊥
  -- else the earliest boarding, in the first of the windows that give its departure, with its waiting
  pub found : a.found ≡ 1 → (a.code ≡ 0) × Earliest count (window_in ws) base dep after (told_boarding a)
  pub waiting : a.found ≡ 1 → Waits (window_in ws a.window) base dep after (told_boarding a)

-- THE LAWS of the call, of every input
pub record FreqLaws : Type 0 where
  pub tells : (S : Settings) (count : ℕ) (ws : List ℕ) (base dep after : ℕ)
      → FreqTold count ws base dep after (freq_outcome S count ws base dep after)
