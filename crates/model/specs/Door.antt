-- The questions at the door (document 01), as far as they speak of tables and query and not of lent memory: an answered query has a
-- yes to each. Definitions only.
-- Inner: nobody has to believe this.
use Rattle.std.specs.Prelude.{ℕ, ◌+◌, ◌≤◌, ◌<◌, ◌≡◌, ◌⊎◌}
use mathlib.Core.List.{List, [], ◌∷◌, Memᴰ}
use Rattle.door.specs.Door.{time_limit}
use Rattle.stop_delay.specs.Times.{size_of}
use Rattle.departures.specs.declared.DepartureRow.{DepartureRow}
use Rattle.event_transfers.specs.Transfers.{Transfer}
use Rattle.model.specs.Tables.{never, Tables, Origin, Query, stops, trips, stop_count, stop_at, arrival, departure}

-- departures in order: none is earlier than one before it
pub data InOrder (T : Tables) : List DepartureRow → Type 0 where
  none : InOrder T []
  more : {d : DepartureRow} {ds : List DepartureRow}
      → ((e : DepartureRow) → Memᴰ e ds → departure T d.trip d.offset ≤ departure T e.trip e.offset)
      → InOrder T ds → InOrder T (d ∷ ds)

-- egress stops strictly rising
pub data EgressRising : List (ℕ × ℕ) → Type 0 where
  none : EgressRising []
  more : {s d : ℕ} {es : List (ℕ × ℕ)} → ((u e : ℕ) → Memᴰ (u, e) es → s < u) → EgressRising es → EgressRising ((s, d) ∷ es)

pub record Door (T : Tables) (Q : Query) : Type 0 where
  -- 1. are all counts within the limits?
  pub few_stops : stops T ≤ 4096
  pub few_trips : trips T ≤ 4096
  pub few-lines : T.lines ≤ 4096
  pub few-entries : (l : ℕ) → l < T.lines → (T.line l).count ≤ 4096
  -- 3. has every trip a stop time, and do the runs lie in their tables?
  pub counted : (t : ℕ) → t < trips T → 0 < stop_count T t
  pub few_times : (t : ℕ) → t < trips T → stop_count T t ≤ 65536
  pub few_windows : (t : ℕ) → t < trips T → (T.timetable.trip t).windows ≤ 65536
  -- 4. is every number below its count, and each departure's stop time at its stop?
  pub stop_in : (t o : ℕ) → t < trips T → o < stop_count T t → stop_at T t o < stops T
  pub line_in : (t : ℕ) → t < trips T → T.line_of t < T.lines
  pub entry_in : (l p : ℕ) → l < T.lines → p < (T.line l).count → (T.line l).trip p < trips T
  pub listed_trip : (s : ℕ) (d : DepartureRow) → s < stops T → Memᴰ d (T.departures s) → d.trip < trips T
  pub listed_offset : (s : ℕ) (d : DepartureRow) → s < stops T → Memᴰ d (T.departures s) → d.offset < stop_count T d.trip
  pub listed_stop : (s : ℕ) (d : DepartureRow) → s < stops T → Memᴰ d (T.departures s) → stop_at T d.trip d.offset ≡ s
  pub edge_from : (e : ℕ) → e < T.timetable.edges → (T.timetable.edge e).from < stops T
  pub edge_to : (e : ℕ) → e < T.timetable.edges → (T.timetable.edge e).to < stops T
  pub origin_in : (a : Origin) → Memᴰ a Q.origins → a.stop < stops T
  pub egress_in : (s d : ℕ) → Memᴰ (s, d) Q.egress → s < stops T
  pub delay_in : (i : ℕ) → i < Q.delays.delays → ((Q.delays.delay i).trip < trips T) ⊎ ((Q.delays.delay i).trip ≡ never)
  pub stop_row_in : (j : ℕ) → j < Q.delays.stop_rows → (Q.delays.stop_row j).row < Q.delays.delays
  -- 5. is every time in its range?
  pub arrival_small : (t o : ℕ) → t < trips T → o < stop_count T t → arrival T t o ≤ time_limit
  pub departure_small : (t o : ℕ) → t < trips T → o < stop_count T t → departure T t o ≤ time_limit
  pub window_start : (t i : ℕ) → t < trips T → i < (T.timetable.trip t).windows
      → (T.timetable.window ((T.timetable.trip t).window + i)).start ≤ time_limit
  pub window_end : (t i : ℕ) → t < trips T → i < (T.timetable.trip t).windows
      → (T.timetable.window ((T.timetable.trip t).window + i)).end ≤ time_limit
  pub window_headway : (t i : ℕ) → t < trips T → i < (T.timetable.trip t).windows
      → (T.timetable.window ((T.timetable.trip t).window + i)).headway ≤ time_limit
  pub edge_small : (e : ℕ) → e < T.timetable.edges → (T.timetable.edge e).duration ≤ time_limit
  pub transfer_small : (t o : ℕ) → t < trips T → o < stop_count T t → (e : Transfer) → Memᴰ e (T.transfers t o) → e.time ≤ time_limit
  pub origin_small : (a : Origin) → Memᴰ a Q.origins → a.duration ≤ time_limit
  pub egress_small : (s d : ℕ) → Memᴰ (s, d) Q.egress → d ≤ time_limit
  pub start_small : Q.start ≤ time_limit
  pub change_small : Q.change ≤ time_limit
  pub delay_small : (i : ℕ) → i < Q.delays.delays → size_of (Q.delays.delay i).delay ≤ time_limit
  pub departure_delay_small : (j : ℕ) → j < Q.delays.stop_rows → size_of (Q.delays.stop_row j).departure_delay ≤ time_limit
  pub arrival_delay_small : (j : ℕ) → j < Q.delays.stop_rows → size_of (Q.delays.stop_row j).arrival_delay ≤ time_limit
  -- 6. are departures and egress stops in order?
  pub departures_sorted : (s : ℕ) → s < stops T → InOrder T (T.departures s)
  pub egress_rising : EgressRising Q.egress
