-- What a yes to each question gives. Definitions only.
use Rattle.std.specs.Prelude.{ℕ, ◌+◌, ◌≤◌, ◌<◌, ◌≡◌, List, length}
use Rattle.tables.specs.declared.Counts.{Counts}
use Rattle.tables.specs.Tables.{timetable_size, time_of, trip_of, window_of, edge_of, first_of, count_of}

pub record CountsOk (c : Counts) : Type 0 where
  pub stops : c.stops ≤ 4096
  pub trips : c.trips ≤ 4096
  pub times : c.times ≤ 65536
  pub windows : c.windows ≤ 65536
  pub edges : c.edges ≤ 65536

pub record SlicesOk (t : List ℕ) (c : Counts) : Type 0 where
  pub size : length t ≡ timetable_size c

pub record RunsOk (t : List ℕ) (c : Counts) : Type 0 where
  pub some : (i : ℕ) → i < c.trips → 0 < count_of t c i
  pub run : (i : ℕ) → i < c.trips → first_of t c i + count_of t c i ≤ c.times
  pub windows : (i : ℕ) → i < c.trips → trip_of t c i 4 + trip_of t c i 5 ≤ c.windows

pub record NumbersOk (t : List ℕ) (c : Counts) : Type 0 where
  pub stop : (i : ℕ) → i < c.times → time_of t i 0 < c.stops
  pub from : (i : ℕ) → i < c.edges → edge_of t c i 0 < c.stops
  pub to : (i : ℕ) → i < c.edges → edge_of t c i 1 < c.stops

pub record RangesOk (t : List ℕ) (c : Counts) : Type 0 where
  pub arrival : (i : ℕ) → i < c.times → time_of t i 1 ≤ 1048575
  pub departure : (i : ℕ) → i < c.times → time_of t i 2 ≤ 1048575
  pub pickup : (i : ℕ) → i < c.times → time_of t i 4 ≤ 3
  pub drop_off : (i : ℕ) → i < c.times → time_of t i 5 ≤ 3
  pub mode : (i : ℕ) → i < c.trips → trip_of t c i 2 ≤ 6
  pub wheelchair : (i : ℕ) → i < c.trips → trip_of t c i 3 ≤ 2
  pub active : (i : ℕ) → i < c.trips → trip_of t c i 6 ≤ 1
  pub excluded : (i : ℕ) → i < c.trips → trip_of t c i 7 ≤ 1
  pub start : (i : ℕ) → i < c.windows → window_of t c i 0 ≤ 1048575
  pub end : (i : ℕ) → i < c.windows → window_of t c i 1 ≤ 1048575
  pub headway : (i : ℕ) → i < c.windows → window_of t c i 2 ≤ 1048575
  pub duration : (i : ℕ) → i < c.edges → edge_of t c i 2 ≤ 1048575
  pub pathway : (i : ℕ) → i < c.edges → edge_of t c i 3 ≤ 7

pub record OrderOk (t : List ℕ) (c : Counts) : Type 0 where
  pub rise : (i : ℕ) → i + 1 < c.edges → edge_of t c i 0 ≤ edge_of t c (i + 1) 0

-- a timetable as the building calls need it: questions 1 to 5 are yes
pub record Sane (t : List ℕ) (c : Counts) : Type 0 where
  pub counts : CountsOk c
  pub slices : SlicesOk t c
  pub runs : RunsOk t c
  pub numbers : NumbersOk t c
  pub ranges : RangesOk t c
