-- How many stop events come before a trip, one trip after the other. Assumes nothing.
use Prim.Native.Nat.{ℕ, ◌+◌, ◌≤◌}
use mathlib.Core.Path.{◌≡◌}
use native.Mathlib.Omega.{arith}
use native.Mathlib.Numerals.{add-one}
use Rattle.tables.specs.Timetable.{Timetable}
use Rattle.event_transfers.specs.Transfers.{events_before}

-- how many stop events
pub events_step : (T : Timetable) (i : ℕ) → events_before T (i + 1) ≡ events_before T i + (T.trip i).count
unfolding events_before
events_step T i = rw add-one

pub all_of_them : (n i m : ℕ) → n ≡ m → i ≤ n → n ≤ i → i ≡ m
all_of_them n i m e u v = omega arith
