-- Question 5 of an effective time, and what the calls answer. Definitions only.
use Rattle.std.specs.Prelude.{ℕ, ◌≤◌, Bool, leb}
use Rattle.door.specs.Door.{time_limit}
use Rattle.stop_delay.specs.declared.StopDelay.{StopDelay}
use Rattle.stop_delay.specs.Times.{size_of}

-- is the size of a signed delay within the limit?
abbrev pub size_ok : ℕ → Bool
size_ok bits = leb (size_of bits) time_limit

-- the delays of a stop time are in their range
pub record Bounded (d : StopDelay) : Type 0 where
  pub trip : size_of d.trip_delay ≤ time_limit
  pub flags : d.flags ≤ 7
  pub departure : size_of d.departure_delay ≤ time_limit
  pub arrival : size_of d.arrival_delay ≤ time_limit
