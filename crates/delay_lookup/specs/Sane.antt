-- What a yes to every question says of the delay tables. Definitions only.
-- Inner: nobody has to believe this.
use Rattle.std.specs.Prelude.{ℕ, ◌<◌, ◌≤◌, ◌≡◌, ◌⊎◌}
use Rattle.door.specs.Door.{time_limit}
use Rattle.stop_delay.specs.Times.{size_of}
use Rattle.delay_rows.specs.declared.DelayRow.{DelayRow}
use Rattle.delay_rows.specs.declared.StopRow.{StopRow}
use Rattle.delay_rows.specs.Delays.{DelayTables, unknown_trip}

-- the delay rows: few, trips strictly rise save that the unknown trip may repeat, sizes within the limit
pub record DelayRows (n : ℕ) (delay : ℕ → DelayRow) : Type 0 where
  pub few : n ≤ 4096
  pub rise : (i j : ℕ) → i < j → j < n → ((delay i).trip < (delay j).trip) ⊎ (((delay i).trip ≡ unknown_trip) × ((delay j).trip ≡ unknown_trip))
  pub size : (i : ℕ) → i < n → size_of (delay i).delay ≤ time_limit

-- the stop rows: few, strictly rising by row, then sequence, flags and sizes in their ranges
pub record StopRows (n : ℕ) (stop : ℕ → StopRow) : Type 0 where
  pub few : n ≤ 4096
  pub rise : (i j : ℕ) → i < j → j < n → ((stop i).row < (stop j).row) ⊎ (((stop i).row ≡ (stop j).row) × ((stop i).sequence < (stop j).sequence))
  pub flags : (j : ℕ) → j < n → (stop j).flags ≤ 7
  pub departure : (j : ℕ) → j < n → size_of (stop j).departure_delay ≤ time_limit
  pub arrival : (j : ℕ) → j < n → size_of (stop j).arrival_delay ≤ time_limit

-- both tables, of a timetable with this many trips
pub record Delays (trips : ℕ) (D : DelayTables) : Type 0 where
  pub few : trips ≤ 4096
  pub delay_rows : DelayRows D.delays D.delay
  pub stop_rows : StopRows D.stop_rows D.stop_row
  pub trip : (i : ℕ) → i < D.delays → ((D.delay i).trip < trips) ⊎ ((D.delay i).trip ≡ unknown_trip)
  pub row : (j : ℕ) → j < D.stop_rows → (D.stop_row j).row < D.delays
