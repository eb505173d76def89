-- Timetable K (document 01), a second day with walks, and tables as the building definitions make them. Definitions only.
-- For a law: no contract rests on this.
use Rattle.std.specs.Prelude.{ℕ, Bool, true, false, List, [], ◌∷◌, length, get_or}
use Rattle.cell_bitset.specs.declared.CellBitSet.{CellBitSet}
use Rattle.cell_bitset.specs.CellSet.{empty_set, with_cell}
use Rattle.label.specs.Label.{no_distance}
use Rattle.tables.specs.declared.StopTimeRow.{StopTimeRow}
use Rattle.tables.specs.declared.TripRow.{TripRow}
use Rattle.tables.specs.declared.WindowRow.{WindowRow}
use Rattle.tables.specs.declared.EdgeRow.{EdgeRow}
use Rattle.departures.specs.declared.DepartureRow.{DepartureRow}
use Rattle.tables.specs.Timetable.{Timetable}
use Rattle.line_numbers.specs.Lines.{line_of, lines_of, line_trips}
use Rattle.departures.specs.Departures.{by_departure, mark_of}
use Rattle.event_transfers.specs.Transfers.{built_transfers}
use Rattle.delay_rows.specs.Delays.{DelayTables}
use Rattle.door.specs.Settings.{default_settings}
use Rattle.door.specs.declared.Settings.{Settings}
use Rattle.model.specs.Tables.{Tables, Origin, Query}

-- THE BUILT TABLES of a timetable: what the building calls make of the departures that a caller lists at each stop, after this
-- transfer time; with these patterns over one cell, and no walk distances
abbrev pub built : Timetable → (ℕ → List DepartureRow) → ℕ → List CellBitSet → Tables
built X listed time patterns =
    record {
      timetable = X;
      distance = λ e. no_distance;
      lines = lines_of X;
      line_of = line_of X;
      line = λ l. record { count = length (line_trips X l); trip = λ p. get_or (line_trips X l) p 0 };
      departures = λ s. by_departure X (listed s);
      mark = λ s. mark_of X (listed s);
      transfers = built_transfers (record { timetable = X; lines = lines_of X; line_of = line_of X; listed = listed; time = time });
      cells = 1;
      patterns = length patterns;
      pattern = λ p. get_or patterns p (empty_set 0);
    }

-- a stop time with ordinary pickup and drop-off: stop, sequence, arrival, departure
abbrev pub calls : (stop sequence arrival departure : ℕ) → StopTimeRow
calls s n a d = record { stop = s; arrival = a; departure = d; sequence = n; pickup = 0; drop_off = 0 }

-- a trip of mode 0, not excluded: first stop time, count, is it active, how many windows from the first on
abbrev pub runs : (first count active windows : ℕ) → TripRow
runs i n active windows = record { first = i; count = n; mode = 0; wheelchair = 0; window = 0; windows = windows; active = active; excluded = 0 }

-- a departure: trip, offset
abbrev pub leaves : ℕ → ℕ → DepartureRow
leaves t o = record { trip = t; offset = o }

abbrev pub window : ℕ → ℕ → ℕ → WindowRow
window s e h = record { start = s; end = e; headway = h }

-- a walk edge of pattern 0: from, to, duration, pathway mode
abbrev pub foot_edge : (from to duration mode : ℕ) → EdgeRow
foot_edge a b d m = record { from = a; to = b; duration = d; pathway = m; pattern = 0 }

abbrev pub origin : ℕ → ℕ → Origin
origin s d = record { stop = s; duration = d; distance = no_distance }

abbrev pub no_delays : DelayTables
no_delays =
    record {
      delays = 0;
      delay = λ i. record { trip = 0; delay = 0 };
      stop_rows = 0;
      stop_row = λ j. record { row = 0; sequence = 0; flags = 0; departure_delay = 0; arrival_delay = 0 };
    }

-- TIMETABLE K, with three choices: T1 ends at this second, T2 begins at this one, T0 has this many windows (600 to 1200, headway 300)
abbrev pub timetable_k : ℕ → ℕ → ℕ → Timetable
timetable_k end1 begin2 windows0 =
    record {
      stops = 3;
      trips = 3;
      edges = 0;
      trip = λ t. get_or (runs 0 3 1 windows0 ∷ runs 3 3 1 0 ∷ runs 6 2 1 0 ∷ []) t (runs 0 0 0 0);
      time = λ i. get_or
          (calls 0 0 100 100 ∷ calls 1 1 200 210 ∷ calls 2 2 400 400
          ∷ calls 0 0 160 160 ∷ calls 1 1 260 270 ∷ calls 2 2 end1 end1
          ∷ calls 1 0 begin2 begin2 ∷ calls 2 1 380 380 ∷ []) i (calls 0 0 0 0);
      window = λ i. window 600 1200 300;
      edge = λ e. foot_edge 0 0 0 0;
      cell = λ s. 0;
    }

-- last stops list no departure
abbrev pub listed_k : ℕ → List DepartureRow
listed_k s = get_or ((leaves 0 0 ∷ leaves 1 0 ∷ []) ∷ (leaves 0 1 ∷ leaves 1 1 ∷ leaves 2 0 ∷ []) ∷ []) s []

-- K as the building calls make it
abbrev pub tables_k : Tables
tables_k = built (timetable_k 460 320 0) listed_k default_settings.transfer_time []

-- with one pattern, which holds every stop's cell
abbrev pub every_cell : CellBitSet
every_cell = with_cell (empty_set 1) 0

abbrev pub pattern_k : Tables
pattern_k = built (timetable_k 460 320 0) listed_k default_settings.transfer_time (every_cell ∷ [])

-- with T0 as a frequency trip
abbrev pub frequent_k : Tables
frequent_k = built (timetable_k 460 320 1) listed_k default_settings.transfer_time []

-- a query: start, origins, egress, wheelchair, change time, delays, and the switch that puts arc flags off
abbrev pub asks : ℕ → List Origin → List (ℕ × ℕ) → Bool → ℕ → DelayTables → Bool → Query
asks start origins egress wheelchair change delays off =
    record {
      start = start;
      origins = origins;
      egress = egress;
      modes = 0;
      wheelchair = wheelchair;
      change = change;
      wanted_rounds = 0;
      transfers = 0;
      delays = delays;
      flags_off = off;
      settings = default_settings;
    }

-- the same query under other settings
abbrev pub under : Settings → Query → Query
under S Q =
    record {
      start = Q.start;
      origins = Q.origins;
      egress = Q.egress;
      modes = Q.modes;
      wheelchair = Q.wheelchair;
      change = Q.change;
      wanted_rounds = Q.wanted_rounds;
      transfers = Q.transfers;
      delays = Q.delays;
      flags_off = Q.flags_off;
      settings = S;
    }

-- settings by their four numbers: transfer time, trips tried in a line, candidate slack, delay margin cap
abbrev pub house : ℕ → ℕ → ℕ → ℕ → Settings
house time scan slack cap = record { transfer_time = time; line_scan = scan; candidate_slack = slack; margin_cap = cap }

-- K's query: origin 0 (10), egress 2 (5); start and change
abbrev pub query_k : ℕ → ℕ → Query
query_k start change = asks start (origin 0 10 ∷ []) ((2, 5) ∷ []) false change no_delays false

-- T0 60 seconds late, but 20 early on arrival at sequence 1 and skipping sequence 2; T2 10 early. (4294967276 and 4294967286 are the
-- bits of -20 and -10.)
abbrev pub delays_k : DelayTables
delays_k =
    record {
      delays = 2;
      delay = λ i. get_or (record { trip = 0; delay = 60 } ∷ record { trip = 2; delay = 4294967286 } ∷ []) i (record { trip = 0; delay = 0 });
      stop_rows = 2;
      stop_row = λ j. get_or
          (record { row = 0; sequence = 1; flags = 2; departure_delay = 0; arrival_delay = 4294967276 }
          ∷ record { row = 0; sequence = 2; flags = 4; departure_delay = 0; arrival_delay = 0 } ∷ []) j
          (record { row = 0; sequence = 0; flags = 0; departure_delay = 0; arrival_delay = 0 });
    }

abbrev pub delayed_k : Query
delayed_k = asks 90 (origin 0 10 ∷ []) ((2, 5) ∷ []) false 120 delays_k false

-- K WITHOUT A TRANSFER TABLE, its first line unevenly listed: T0 is not listed at stop 1, and T1 is
abbrev pub uneven_k : ℕ → List DepartureRow
uneven_k s = get_or ((leaves 0 0 ∷ leaves 1 0 ∷ []) ∷ (leaves 1 1 ∷ leaves 2 0 ∷ []) ∷ []) s []

abbrev pub bare : Timetable → (ℕ → List DepartureRow) → Tables
bare X listed =
    let T : Tables = built X listed 0 [] in
    record {
      timetable = T.timetable;
      distance = T.distance;
      lines = T.lines;
      line_of = T.line_of;
      line = T.line;
      departures = T.departures;
      mark = T.mark;
      transfers = λ t o. [];
      cells = T.cells;
      patterns = T.patterns;
      pattern = T.pattern;
    }

abbrev pub bare_k : Tables
bare_k = bare (timetable_k 460 320 0) uneven_k

-- A DAY WITH DELAYS: delay rows (trip, delay) and stop rows (row, sequence, flags, departure delay, arrival delay)
abbrev pub delays_from : List (ℕ × ℕ) → List (ℕ × ℕ × ℕ × ℕ × ℕ) → DelayTables
delays_from rows stops =
    record {
      delays = length rows;
      delay = λ i. let r = get_or rows i (0, 0) in record { trip = r.0; delay = r.1 };
      stop_rows = length stops;
      stop_row = λ j. let r = get_or stops j (0, 0, 0, 0, 0) in
          record { row = r.0; sequence = r.1; flags = r.2; departure_delay = r.3; arrival_delay = r.4 };
    }

-- T0 is 40 seconds late and skips stop 1, T1 10 early, T2 50 late; a trip that is not in the table is 30,000 late, past the cap,
-- and its departure at sequence 1 is given
abbrev pub whole_delays : DelayTables
whole_delays = delays_from ((0, 40) ∷ (1, 4294967286) ∷ (2, 50) ∷ (4294967295, 30000) ∷ []) ((0, 1, 4, 0, 0) ∷ (3, 1, 1, 30, 0) ∷ [])

-- and with times given at single stops: T0 is 40 late, but leaves stop 0 60 late, skips stop 1, and is 80 late at stop 2; T1 is 10 early, at stop
-- 1 arrives 20 early and leaves 5 early, and is on time at stop 2; T2 is 50 late, but leaves stop 1 45 late, and is 65 late at stop 2
abbrev pub given_delays : DelayTables
given_delays =
    delays_from ((0, 40) ∷ (1, 4294967286) ∷ (2, 50) ∷ (4294967295, 30000) ∷ [])
    ((0, 0, 1, 60, 0) ∷ (0, 1, 4, 0, 0) ∷ (0, 2, 2, 0, 80)
    ∷ (1, 1, 3, 4294967291, 4294967276) ∷ (1, 2, 2, 0, 0)
    ∷ (2, 0, 1, 45, 0) ∷ (2, 1, 2, 0, 65) ∷ (3, 1, 1, 30, 0) ∷ [])

-- K's query on a day with these delays: start, change, delays
abbrev pub on_day : ℕ → ℕ → DelayTables → Query
on_day start change delays = asks start (origin 0 10 ∷ []) ((2, 5) ∷ []) false change delays false

-- ONE TRIP that calls at stops 0, 1 and 2, at these seconds, listed at stops 0 and 1; no transfers
abbrev pub timetable_one : ℕ → ℕ → ℕ → Timetable
timetable_one a b c =
    record {
      stops = 3;
      trips = 1;
      edges = 0;
      trip = λ t. runs 0 3 1 0;
      time = λ i. get_or (calls 0 0 a a ∷ calls 1 1 b b ∷ calls 2 2 c c ∷ []) i (calls 0 0 0 0);
      window = λ i. window 0 0 0;
      edge = λ e. foot_edge 0 0 0 0;
      cell = λ s. 0;
    }

abbrev pub listed_one : ℕ → List DepartureRow
listed_one s = get_or ((leaves 0 0 ∷ []) ∷ (leaves 0 1 ∷ []) ∷ []) s []

abbrev pub one_trip : ℕ → ℕ → ℕ → Tables
one_trip a b c = bare (timetable_one a b c) listed_one

-- and one that calls at stops 0 to 3, all at 100 seconds, listed at stops 0 and 2
abbrev pub four_stops : Tables
four_stops =
    bare (record {
      stops = 4;
      trips = 1;
      edges = 0;
      trip = λ t. runs 0 4 1 0;
      time = λ i. calls i i 100 100;
      window = λ i. window 0 0 0;
      edge = λ e. foot_edge 0 0 0 0;
      cell = λ s. 0;
    })
    (λ s. get_or ((leaves 0 0 ∷ []) ∷ [] ∷ (leaves 0 2 ∷ []) ∷ []) s [])

-- asked to stop 2, by walks to stop 0 and to stop 2 itself: start, both walks, delays
abbrev pub to_stop2 : ℕ → ℕ → ℕ → DelayTables → Query
to_stop2 start walk whole delays = asks start (origin 0 walk ∷ origin 2 whole ∷ []) ((2, 0) ∷ []) false 120 delays false

-- A DAY WITH WALKS. T0 and T1 go from stop 0 to stop 1, T1 the later; T2, not active, from 0 to 3; T3 and T4 from 2 to 3, T4 the
-- earlier. Stops 1 and 2 are 60 seconds apart; from both, stairs of 2 seconds lead to stop 4.
abbrev pub timetable_w : Timetable
timetable_w =
    record {
      stops = 5;
      trips = 5;
      edges = 4;
      trip = λ t. get_or (runs 0 2 1 0 ∷ runs 2 2 1 0 ∷ runs 4 2 0 0 ∷ runs 6 2 1 0 ∷ runs 8 2 1 0 ∷ []) t (runs 0 0 0 0);
      time = λ i. get_or
          (calls 0 0 100 100 ∷ calls 1 1 200 200
          ∷ calls 0 0 150 150 ∷ calls 1 1 250 250
          ∷ calls 0 0 110 110 ∷ calls 3 1 150 150
          ∷ calls 2 0 380 380 ∷ calls 3 1 390 390
          ∷ calls 2 0 300 300 ∷ calls 3 1 310 310 ∷ []) i (calls 0 0 0 0);
      window = λ i. window 0 0 0;
      edge = λ e. get_or (foot_edge 1 2 60 1 ∷ foot_edge 1 4 2 2 ∷ foot_edge 2 1 60 1 ∷ foot_edge 2 4 2 2 ∷ []) e (foot_edge 0 0 0 0);
      cell = λ s. 0;
    }

abbrev pub listed_w : ℕ → List DepartureRow
listed_w s = get_or ((leaves 0 0 ∷ leaves 1 0 ∷ leaves 2 0 ∷ []) ∷ [] ∷ (leaves 3 0 ∷ leaves 4 0 ∷ []) ∷ []) s []

abbrev pub tables_w : Tables
tables_w = built timetable_w listed_w default_settings.transfer_time []

-- a wheelchair query: the stairs take 200 seconds. Long walks lead to stops 1, 2 and 4 too. Egress 3 (5) and 4 (5), change 120.
abbrev pub query_w : Query
query_w = asks 90 (origin 0 10 ∷ origin 1 700 ∷ origin 2 760 ∷ origin 4 900 ∷ []) ((3, 5) ∷ (4, 5) ∷ []) true 120 no_delays false
