-- Worked examples of the entry's outcome, as one computed check, and of boardings past the entry's ranges, as inside a query. The first three are
-- document 01's.
use Prim.Native.Nat.{ℕ}
use mathlib.Core.Path.{◌≡◌, refl}
use mathlib.Core.Bool.{Bool, true, false, ◌&&◌}
use mathlib.Core.List.{List, [], ◌∷◌}
use lib.Dec.{eqb}
use Rattle.loops.specs.Iter.{iter, every, first}
use Rattle.door.specs.Settings.{default_settings, settings_ok}
use Rattle.door.proofs.House.{no_trip_tried}
use Rattle.frequency_call.specs.declared.FreqAnswer.{FreqAnswer}
use Rattle.std.specs.Prelude.{Option, None, Some}
use Rattle.frequency.specs.declared.BoardedRun.{BoardedRun}
use Rattle.frequency.specs.Gtfs.{window_in, first_run, board_ordinary, earliest_freq_board}
use Rattle.frequency_call.specs.FrequencyCall.{freq_outcome}

-- what is asked
pub record Asked : Type 0 where
  pub count : ℕ
  pub windows : List ℕ
  pub base : ℕ
  pub dep : ℕ
  pub after : ℕ

-- the entry's nine numbers
numbers_of : FreqAnswer → List ℕ
numbers_of a = a.code ∷ a.found ∷ a.departure ∷ a.time_shift_s ∷ a.window ∷ a.run ∷ a.quotient ∷ a.remainder ∷ a.wait ∷ []

pub same : List ℕ → List ℕ → Bool
same [] [] = true
same [] (n ∷ ns) = false
same (m ∷ ms) [] = false
same (m ∷ ms) (n ∷ ns) = eqb m n && same ms ns

pub right : Asked × List ℕ → Bool
right c =
    let q = c.0 in
    same (numbers_of (freq_outcome default_settings q.count q.windows q.base q.dep q.after)) c.1

pub all : List (Asked × List ℕ) → Bool
all [] = true
all (c ∷ cs) = right c && all cs

given : ℕ → List ℕ → ℕ → ℕ → ℕ → Asked
given n ws b d a = record { count = n; windows = ws; base = b; dep = d; after = a }

-- run k of window i is boarded, with quotient q and remainder r of need, and the wait w
board : ℕ → ℕ → ℕ → ℕ → ℕ → ℕ → ℕ → List ℕ
board d s i k q r w = 0 ∷ 1 ∷ d ∷ s ∷ i ∷ k ∷ q ∷ r ∷ w ∷ []

-- no run, or a refusal
nothing : ℕ → List ℕ
nothing c = c ∷ 0 ∷ 0 ∷ 0 ∷ 0 ∷ 0 ∷ 0 ∷ 0 ∷ 0 ∷ []

pub cases : List (Asked × List ℕ)
cases =
    (given 1 (600 ∷ 1200 ∷ 300 ∷ []) 600 660 660, board 660 0 0 0 0 0 0)
    ∷ (given 1 (600 ∷ 1200 ∷ 300 ∷ []) 600 660 661, board 960 300 0 1 0 1 299)
    ∷ (given 1 (600 ∷ 1200 ∷ 300 ∷ []) 600 660 961, nothing 0)
    -- document 02: need is not above zero, so the wait is departure - wanted time; need is one whole headway
    ∷ (given 1 (600 ∷ 1200 ∷ 300 ∷ []) 600 660 400, board 660 0 0 0 0 0 260)
    ∷ (given 1 (600 ∷ 1200 ∷ 300 ∷ []) 600 660 960, board 960 300 0 1 1 0 0)
    ∷ (given 1 (600 ∷ 1200 ∷ 300 ∷ []) 600 660 959, board 960 300 0 1 0 299 1)
    -- the end is excluded
    ∷ (given 1 (600 ∷ 900 ∷ 300 ∷ []) 600 660 661, nothing 0)
    ∷ (given 1 (600 ∷ 901 ∷ 300 ∷ []) 600 660 661, board 960 300 0 1 0 1 299)
    -- headway 0; an end that is not after the start; no window
    ∷ (given 1 (600 ∷ 1200 ∷ 0 ∷ []) 600 660 0, nothing 0)
    ∷ (given 1 (600 ∷ 600 ∷ 300 ∷ []) 600 660 0, nothing 0)
    ∷ (given 1 (600 ∷ 500 ∷ 300 ∷ []) 600 660 0, nothing 0)
    ∷ (given 0 [] 600 660 0, nothing 0)
    -- the template leaves the boarding stop before its base: the offset is -60
    ∷ (given 1 (600 ∷ 1200 ∷ 300 ∷ []) 600 540 540, board 540 0 0 0 0 0 0)
    ∷ (given 1 (600 ∷ 1200 ∷ 300 ∷ []) 600 540 541, board 840 300 0 1 0 1 299)
    ∷ (given 1 (600 ∷ 1300 ∷ 300 ∷ []) 600 540 841, board 1140 600 0 2 1 1 299)
    -- that departure lies before second 0 for run 0 of a window that starts early
    ∷ (given 1 (10 ∷ 1200 ∷ 300 ∷ []) 600 540 0, board 250 4294967006 0 1 0 50 250)
    -- a run before the template: the shift is -450
    ∷ (given 1 (100 ∷ 200 ∷ 50 ∷ []) 600 660 200, board 210 4294966846 0 1 0 40 10)
    -- two windows: equal departures keep the first; else the earlier
    ∷ (given 2 (600 ∷ 1200 ∷ 300 ∷ 900 ∷ 1200 ∷ 300 ∷ []) 600 660 661, board 960 300 0 1 0 1 299)
    ∷ (given 2 (900 ∷ 1200 ∷ 300 ∷ 600 ∷ 1200 ∷ 300 ∷ []) 600 660 661, board 960 300 0 0 0 0 299)
    ∷ (given 2 (900 ∷ 1200 ∷ 300 ∷ 700 ∷ 1200 ∷ 300 ∷ []) 600 660 661, board 760 100 1 0 0 0 99)
    -- the delay of a departure is not carried on: template 100, delayed 50
    ∷ (given 1 (200 ∷ 400 ∷ 100 ∷ []) 100 150 0, board 250 100 0 0 0 0 250)
    -- the questions, and the largest times
    ∷ (given 1 (0 ∷ 1048575 ∷ 1048575 ∷ []) 1048575 1048575 0, board 0 4293918721 0 0 0 0 0)
    ∷ (given 1 (0 ∷ 1048575 ∷ 1048574 ∷ []) 1048575 1048574 1, board 1048573 4294967295 0 1 0 2 1048572)
    ∷ (given 65537 (1048576 ∷ []) 1048576 0 0, nothing 1)
    ∷ (given 2 (1048576 ∷ 0 ∷ 0 ∷ []) 0 0 0, nothing 2)
    ∷ (given 1 (1048576 ∷ 0 ∷ 0 ∷ []) 0 0 0, nothing 5)
    ∷ (given 1 (1048575 ∷ 1048576 ∷ 0 ∷ []) 0 0 0, nothing 5)
    ∷ (given 1 (0 ∷ 0 ∷ 1048576 ∷ []) 0 0 0, nothing 5)
    ∷ (given 0 [] 1048576 0 0, nothing 5)
    ∷ (given 0 [] 0 1048576 0, nothing 5)
    ∷ (given 0 [] 0 0 1048576, nothing 5)
    ∷ []

-- every case is right
pub worked : all cases ≡ true
unfolding settings_ok all right cases numbers_of same given board nothing earliest_freq_board first_run iter every first
worked = refl

-- 14 is asked after 1 and before 2
pub settings-asked : eqb (freq_outcome no_trip_tried 1 [] 0 0 0).code 14 && eqb (freq_outcome no_trip_tried 65537 [] 0 0 0).code 1 ≡ true
unfolding settings_ok
settings-asked = refl

-- INSIDE A QUERY the departure may be a delayed one and the wanted time late: a window 0 to 1,048,575 by 1,048,574, the template's base 0, the boarding
-- stop left at 4,194,303. Wanted at 4,194,304 and at 5,242,877, the last second of a run. In a window of three runs the wanted time 134,217,727 is too late.
pub board_numbers : Option BoardedRun → List ℕ
board_numbers None = []
board_numbers (Some b) =
    b.departure ∷ b.time_shift_s ∷ b.headways.window ∷ b.headways.run ∷ b.headways.quotient ∷ b.headways.remainder ∷ b.wait ∷ []

pub wide_board : List ℕ → ℕ → ℕ → ℕ → Option BoardedRun
wide_board ws = earliest_freq_board 1 (window_in ws)

pub wide : same (board_numbers (wide_board (0 ∷ 1048575 ∷ 1048574 ∷ []) 0 4194303 4194304)) (5242877 ∷ 1048574 ∷ 0 ∷ 1 ∷ 0 ∷ 1 ∷ 1048573 ∷ [])
    && same (board_numbers (wide_board (0 ∷ 1048575 ∷ 1048574 ∷ []) 0 4194303 5242877)) (5242877 ∷ 1048574 ∷ 0 ∷ 1 ∷ 1 ∷ 0 ∷ 0 ∷ [])
    && same (board_numbers (wide_board (1048572 ∷ 1048575 ∷ 1 ∷ []) 0 4194303 134217727)) []
    -- a trip without windows, planned at 100, delayed by 20, wanted at 90
    && same (board_numbers (Some (board_ordinary 100 120 90))) (120 ∷ 20 ∷ 0 ∷ 0 ∷ 0 ∷ 0 ∷ 30 ∷ [])
    ≡ true
unfolding board_numbers wide_board same earliest_freq_board first_run iter first
wide = refl
