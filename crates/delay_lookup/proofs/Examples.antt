-- Worked examples of the delay tables as one computed check.
use Prim.Native.Nat.{ℕ}
use mathlib.Core.Path.{◌≡◌, refl}
use mathlib.Core.Bool.{Bool, true, ◌&&◌}
use mathlib.Core.List.{List, [], ◌∷◌}
use lib.Dec.{eqb}
use Rattle.loops.specs.Iter.{iter, first, every}
use Rattle.loops.specs.Count.{one}
use Rattle.delay_rows.specs.Delays.{delay_row, stop_delay, margin}
use Rattle.delay_rows.specs.Flat.{delay_tables}
use Rattle.stop_delay.specs.Times.{skipped_at, effective_departure, effective_arrival}

-- the tables, a stop time of trip 3 at sequence 7 that arrives at 200 and departs at 230, and what must come out
pub record Case : Type 0 where
  pub rows : List ℕ
  pub stops : List ℕ
  pub shift : ℕ
  pub cap : ℕ
  pub arrives : ℕ
  pub departs : ℕ
  pub skipped : ℕ
  pub margin : ℕ

right : Case → Bool
right c =
    let D = delay_tables c.rows c.stops in
    let d = stop_delay D (delay_row D 3) 7 in
    eqb (effective_arrival 200 c.shift d) c.arrives && eqb (effective_departure 230 d) c.departs
    && eqb (one (skipped_at d.flags)) c.skipped && eqb (margin D c.cap) c.margin

pub all : List Case → Bool
all [] = true
all (c ∷ cs) = right c && all cs

-- the bits of -20, -40 and -300 are 4294967276, 4294967256 and 4294966996; 4294967295 as a trip is an unknown trip
pub cases : List Case
cases =
    -- shift 50, trip delay 10, only a departure delay of 40 at the stop
    record { rows = 3 ∷ 10 ∷ []; stops = 0 ∷ 7 ∷ 1 ∷ 40 ∷ 0 ∷ []; shift = 50; cap = 21600; arrives = 210; departs = 270; skipped = 0; margin = 40 }
    -- an own arrival delay: no shift; the departure goes by the trip's delay
    ∷ record { rows = 3 ∷ 10 ∷ []; stops = 0 ∷ 7 ∷ 2 ∷ 99 ∷ 4294967276 ∷ []; shift = 50; cap = 21600; arrives = 180; departs = 240; skipped = 0; margin = 20 }
    -- neither given: the shift counts, the delays in the stop row do not
    ∷ record { rows = 3 ∷ 10 ∷ []; stops = 0 ∷ 7 ∷ 4 ∷ 99 ∷ 99 ∷ []; shift = 50; cap = 21600; arrives = 250; departs = 240; skipped = 1; margin = 10 }
    -- a stop row of another sequence, and one of another delay row
    ∷ record { rows = 2 ∷ 5 ∷ 3 ∷ 10 ∷ []; stops = 0 ∷ 7 ∷ 7 ∷ 99 ∷ 99 ∷ 1 ∷ 6 ∷ 7 ∷ 88 ∷ 88 ∷ []; shift = 50; cap = 21600; arrives = 250; departs = 240; skipped = 0; margin = 99 }
    -- no delay row of the trip
    ∷ record { rows = 2 ∷ 5 ∷ []; stops = 0 ∷ 7 ∷ 3 ∷ 9 ∷ 9 ∷ []; shift = 4294967256; cap = 21600; arrives = 160; departs = 230; skipped = 0; margin = 9 }
    -- earlier than 0 is 0; an unknown trip counts for the margin
    ∷ record { rows = 3 ∷ 4294966996 ∷ 4294967295 ∷ 4000 ∷ []; stops = []; shift = 4294966996; cap = 21600; arrives = 0; departs = 0; skipped = 0; margin = 4000 }
    -- at most the cap
    ∷ record { rows = 3 ∷ 25000 ∷ 4294967295 ∷ 4294967276 ∷ 4294967295 ∷ 7 ∷ []; stops = []; shift = 0; cap = 21600; arrives = 200; departs = 25230; skipped = 0; margin = 21600 }
    -- no rows
    ∷ record { rows = []; stops = []; shift = 0; cap = 21600; arrives = 200; departs = 230; skipped = 0; margin = 0 }
    ∷ []

-- every case is right
pub worked : all cases ≡ true
unfolding all right cases iter first every
worked = refl
