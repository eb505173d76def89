-- The call of frequency boarding: its questions (1, 14, 2 and 5) and what it answers. The boarding itself: `frequency` specs/Gtfs.
-- Definitions only.
use Rattle.std.specs.Prelude.{ℕ, zero, suc, ◌*◌, Bool, ◌&&◌, Option, None, Some, Result, Ok, Err, List, eqb, leb, length}
use Rattle.loops.specs.Iter.{every_in}
use Rattle.door.specs.Door.{ask, time_limit, number_of}
use Rattle.door.specs.Settings.{settings_ok}
use Rattle.door.specs.declared.Settings.{Settings}
use Rattle.door.specs.declared.Refusal.{Refusal}
use Rattle.frequency.specs.declared.BoardedRun.{BoardedRun}
use Rattle.frequency_call.specs.declared.FreqAnswer.{FreqAnswer}
use Rattle.frequency.specs.Gtfs.{Window, window_count, window_in, earliest_freq_board}

-- a time, a duration or a headway in its range
abbrev pub is_time : ℕ → Bool
is_time t = leb t time_limit

-- all three
abbrev pub are_times : ℕ → ℕ → ℕ → Bool
are_times a b c = is_time a && (is_time b && is_time c)

-- a window's start, end and headway
abbrev pub window_in_range : Window → Bool
window_in_range w = are_times w.start w.end w.headway

abbrev pub windows_in_range : List ℕ → Bool
windows_in_range ws = every_in (λ i. window_in_range (window_in ws i)) 0 (window_count ws)

-- question 5: is every time in its range?
abbrev pub freq_in_range : List ℕ → ℕ → ℕ → ℕ → Bool
freq_in_range ws base dep after = are_times base dep after && windows_in_range ws

-- the most windows
abbrev pub window_limit : ℕ
window_limit = 65536

-- 1: is the count of windows within the limit? 14: is every setting in its range? 2: are there three words for each window? 5: is every time
-- in its range?
abbrev pub freq_code : (S : Settings) (count : ℕ) (ws : List ℕ) (base dep after : ℕ) → ℕ
freq_code S count ws base dep after =
    ask 1 (leb count window_limit) (ask 14 (settings_ok S) (ask 2 (eqb (length ws) (3 * count)) (ask 5 (freq_in_range ws base dep after) 0)))

-- no boarding is handed out: n is the number of the question that refused, or 0 where no run can be boarded
abbrev pub no_board : ℕ → FreqAnswer
no_board n =
    record {
      code = n;
      found = 0;
      departure = 0;
      time_shift_s = 0;
      window = 0;
      run = 0;
      quotient = 0;
      remainder = 0;
      wait = 0;
    }

-- a boarding as the entry hands it out; that there is none is a success too
abbrev pub board_answer : Option BoardedRun → FreqAnswer
board_answer None = no_board 0
board_answer (Some b) =
    record {
      code = 0;
      found = 1;
      departure = b.departure;
      time_shift_s = b.time_shift_s;
      window = b.headways.window;
      run = b.headways.run;
      quotient = b.headways.quotient;
      remainder = b.headways.remainder;
      wait = b.wait;
    }

-- an outcome of the call, as a caller in C reads it
abbrev pub freq_of : Result (Option BoardedRun) Refusal → FreqAnswer
freq_of (Ok b) = board_answer b
freq_of (Err q) = no_board (number_of q)

-- what the entry answers whose questions gave this number, and whose boarding is b where all are yes
abbrev pub freq_answer : ℕ → Option BoardedRun → FreqAnswer
freq_answer zero b = board_answer b
freq_answer (suc n) b = no_board (suc n)

abbrev pub freq_outcome : (S : Settings) (count : ℕ) (ws : List ℕ) (base dep after : ℕ) → FreqAnswer
freq_outcome S count ws base dep after =
    freq_answer (freq_code S count ws base dep after) (earliest_freq_board (window_count ws) (window_in ws) base dep after)
