-- THE CHAIN from the building calls to the query, in the order in which a board calls them: what the lines call and the departure sorting call left
-- is what the query was lent; and, where transfers are built, what the transfers call left. The fields are outcomes of the exported calls on slices
-- at entry, and equations of slices; no table is assumed to be "as built". What is not said: that the calls share slices (each may have its
-- own), or what stands in the sections that a building call does not read, save that its door admitted them. Definitions only.
use Rattle.std.specs.Prelude.{ℕ, ◌+◌, ◌*◌, ◌<◌, ◌≤◌, ◌≡◌, ◌⊎◌, List, ◌++◌, true, take, length}
use Rattle.door.specs.Settings.{settings_ok}
use Rattle.door.specs.declared.Settings.{Settings}
use Rattle.tables.specs.declared.Counts.{Counts}
use Rattle.tables.specs.Tables.{time_of, trip_of}
use Rattle.tables.specs.Door.{counts_ok, slices_ok, runs_ok, numbers_ok, ranges_ok, order_ok}
use Rattle.departures.specs.declared.DepartureRow.{DepartureRow}
use Rattle.departures.specs.Departures.{listed_at}
use Rattle.delay_rows.specs.Door.{delay_numbers, delay_ranges, delay_order}
use Rattle.door.specs.Door.{success}
use Rattle.lines_call.specs.Call.{LineAreas, lines_outcome}
use Rattle.departures_call.specs.Call.{SortAreas, sort_outcome}
use Rattle.transfers_call.specs.Call.{TransferLent, transfer_lent, TransferAreas, transfers_outcome}
use Rattle.query_types.specs.declared.Lengths.{Lengths}
use Rattle.query_input.specs.Lent.{Lent, event_count, query_size, transfer_rows, delays_of}
use Rattle.query_door.specs.Door.{written_ok, transfer_runs_ok, query_numbers, transfer_ranges, query_ranges, walk_ranges, egress_order}

-- TWO SLICES SAY THE SAME RIDES: the same counts of stops, trips and stop times, every stop time, and of each trip all words but "active" and
-- "excluded" (fields 6 and 7), which may change from query to query. Windows, walk edges and cells are free.
pub record SameRides (t : List ℕ) (c : Counts) (t' : List ℕ) (c' : Counts) : Type 0 where
  pub stops : c'.stops ≡ c.stops
  pub trips : c'.trips ≡ c.trips
  pub times : c'.times ≡ c.times
  pub time : (i k : ℕ) → i < c.times → k < 6 → time_of t' i k ≡ time_of t i k
  pub trip : (i k : ℕ) → i < c.trips → k < 6 → trip_of t' c' i k ≡ trip_of t c i k

-- what a building call was lent: settings, and a timetable slice with its counts that says the rides of the query's
pub record RidesLent (x : Lent) : Type 0 where
  pub settings : Settings
  pub t : List ℕ
  pub c : Counts
  pub same : SameRides t c x.t x.n.timetable

-- the slice of what was built: n lines' runs are taken of those lent to the lines call, which had room for as many as trips
abbrev pub chained : ℕ → LineAreas → List ℕ → SortAreas → List ℕ → List ℕ
chained n a runs b rest = a.lines ++ (take (n * 2) a.runs ++ (a.entries ++ (runs ++ (b.rows ++ (b.marks ++ rest)))))

-- THE CHAIN of a query that is lent x
pub record Chain (x : Lent) : Type 0 where
  -- the lines call answered with so many lines as the query is told
  pub lines_on : RidesLent x
  pub line_areas : LineAreas
  pub lines_answered : (lines_outcome lines_on.settings lines_on.t lines_on.c line_areas).answer ≡ success x.n.lines
  pub entries_told : x.n.entries ≡ x.n.timetable.trips
  -- the departure sorting call answered 0
  pub sort_on : RidesLent x
  pub stop_runs : List ℕ
  pub sort_areas : SortAreas
  pub sorting_answered : (sort_outcome sort_on.settings sort_on.t sort_on.c x.n.departures stop_runs sort_areas).answer ≡ 0
  -- what they left, one after the other, is what the query is lent; then come the transfer runs
  pub rest : List ℕ
  pub lent_built : x.built ≡ chained x.n.lines (lines_outcome lines_on.settings lines_on.t lines_on.c line_areas).areas stop_runs
      (sort_outcome sort_on.settings sort_on.t sort_on.c x.n.departures stop_runs sort_areas).areas rest

-- the caller's list of departures for each stop: what was lent to the departure sorting call
abbrev pub callers_list : (x : Lent) → Chain x → ℕ → List DepartureRow
callers_list x k = listed_at k.stop_runs k.sort_areas.rows

-- what the transfers call is lent: settings, a timetable, the lines as the lines call left them, the departures in these rows
abbrev pub lent_on : (x : Lent) → Chain x → RidesLent x → List ℕ → TransferLent
lent_on x k r rows =
    transfer_lent r.settings r.t r.c x.n.lines
    (lines_outcome k.lines_on.settings k.lines_on.t k.lines_on.c k.line_areas).areas.lines x.n.departures k.stop_runs rows

-- .. AND THE TRANSFERS CALL: it got the query's transfer time, and was lent the rows as sorted, or as they came; its area and its runs are what
-- the query is lent
pub record TransferChain (x : Lent) (k : Chain x) : Type 0 where
  pub on : RidesLent x
  pub same_time : on.settings.transfer_time ≡ x.n.settings.transfer_time
  pub rows : List ℕ
  pub rows_are : (rows ≡ (sort_outcome k.sort_on.settings k.sort_on.t k.sort_on.c x.n.departures k.stop_runs k.sort_areas).areas.rows)
      ⊎ (rows ≡ k.sort_areas.rows)
  pub areas : TransferAreas
  pub transfers_answered : (transfers_outcome (lent_on x k on rows) areas).answer ≡ success x.n.transfers
  pub lent_runs : k.rest ≡ (transfers_outcome (lent_on x k on rows) areas).areas.transfer_runs
  pub lent_transfers : x.transfers ≡ (transfers_outcome (lent_on x k on rows) areas).areas.area

-- WHAT THE QUERY'S DOOR ASKS of all but what was built, question by question
pub record DoorElse (x : Lent) (l : Lengths) : Type 0 where
  -- 1
  pub counts : counts_ok x.n.timetable ≡ true
  pub cells : x.n.cells ≤ 512
  pub patterns : x.n.patterns ≤ 4096
  pub delays : x.n.delays ≤ 4096
  pub stop-rows : x.n.stop_rows ≤ 4096
  pub origins : x.n.origins ≤ 64
  pub egress : x.n.egress ≤ 64
  -- 14
  pub settings : settings_ok x.n.settings ≡ true
  -- 2
  pub slices : slices_ok x.t x.n.timetable ≡ true
  pub pattern_bytes : length x.patterns ≡ x.n.patterns * 64
  pub distances : length x.distances ≡ x.n.timetable.edges + x.n.origins
  pub query-size : length x.q ≡ query_size x.n
  pub written : written_ok x.n l ≡ true
  -- 3
  pub runs : runs_ok x.t x.n.timetable ≡ true
  -- 4
  pub numbers : numbers_ok x.t x.n.timetable ≡ true
  pub query-numbers : query_numbers x.q x.n ≡ true
  pub delay-numbers : delay_numbers x.n.timetable.trips (delays_of x.q x.n) ≡ true
  -- 5
  pub ranges : ranges_ok x.t x.n.timetable ≡ true
  pub query-ranges : query_ranges x.q ≡ true
  pub walks : walk_ranges x.q x.n ≡ true
  pub delay-ranges : delay_ranges (delays_of x.q x.n) ≡ true
  -- 6
  pub order : order_ok x.t x.n.timetable ≡ true
  pub egress-order : egress_order x.q x.n ≡ true
  pub delay-order : delay_order (delays_of x.q x.n) ≡ true

-- what it asks of the transfers: after the transfers call it is so; a caller who makes no transfers sees to it (a run of length 0 for each event is
-- enough)
pub record TransfersPass (x : Lent) (rest : List ℕ) : Type 0 where
  pub few : x.n.transfers ≤ 65536
  pub size : length rest ≡ event_count x.t x.n * 2
  pub runs : transfer_runs_ok x.built x.n (event_count x.t x.n) (transfer_rows x.n (length x.transfers)) ≡ true
  pub times : transfer_ranges x.transfers (transfer_rows x.n (length x.transfers)) ≡ true
