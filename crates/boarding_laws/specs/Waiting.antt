-- What a boarding inside a query tells (document 02, T-02), of trips with windows and without, and what target resolving hands on. Definitions only.
-- For a law: no contract rests on this.
use Rattle.std.specs.Prelude.{ℕ, ◌+◌, ◌≡◌, true, false, Some}
use Rattle.loops.specs.Iter.{Hit}
use Rattle.frequency.specs.declared.BoardedRun.{BoardedRun}
use Rattle.frequency.specs.Gtfs.{no_headways}
use Rattle.frequency.specs.Reading.{Earliest}
use Rattle.frequency.specs.Waits.{Waits}
use Rattle.event_transfers.specs.Transfers.{Transfer}
use Rattle.model.specs.Tables.{Tables, Query, departure, no_windows}
use Rattle.model.specs.Search.{delay_of, departure_now, trip_window, board_at, resolve}

pub record QueryBoards (T : Tables) (Q : Query) : Type 0 where
  -- every boarding: wait = departure - wanted time
  pub waits : (adj : Hit) (t o after : ℕ) (b : BoardedRun) → board_at T Q adj t o after ≡ Some b → b.wait + after ≡ b.departure
  -- of a trip without windows: window 0, n 0, quotient 0, remainder 0, and its effective departure
  pub ordinary : (adj : Hit) (t o after : ℕ) (b : BoardedRun) → no_windows T t ≡ true → board_at T Q adj t o after ≡ Some b
      → (b.headways ≡ no_headways) × (b.departure ≡ departure_now T Q adj t o)
  -- of a frequency trip: the earliest run of its windows, with its waiting
  pub frequent : (adj : Hit) (t o after : ℕ) (b : BoardedRun) → no_windows T t ≡ false → board_at T Q adj t o after ≡ Some b
      → Earliest (T.timetable.trip t).windows (trip_window T t) (departure T t 0) (departure_now T Q adj t o) after b
      × Waits (trip_window T t b.headways.window) (departure T t 0) (departure_now T Q adj t o) after b
  -- target resolving hands on the boarding as it received it
  pub resolves : (e : Transfer) (after best t : ℕ) (b : BoardedRun) → resolve T Q e after best ≡ Some (t, b)
      → board_at T Q (delay_of Q t) t e.offset after ≡ Some b
