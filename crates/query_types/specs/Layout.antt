-- The workspace of a query, section after section, and how long it is. Definitions only.
-- Nothing else says where a section begins: the code reads these starts by functions of the same names, and the call `work_size` answers the size.
use Rattle.std.specs.Prelude.{ℕ, ◌+◌, ◌*◌, ◌≤◌}
use Rattle.tables.specs.declared.Counts.{Counts}
use Rattle.query_types.specs.declared.Lay.{Lay}
use Rattle.query_types.specs.declared.QueryCounts.{QueryCounts}

-- THE SECTIONS, in their order. From 0 on: each stop's earliest arrival. Then each stop's stamp
abbrev pub stamps_at : Lay → ℕ
stamps_at lay = lay.stops

-- each trip's segment reach
abbrev pub reach_at : Lay → ℕ
reach_at lay = lay.stops * 2

-- the two lists of reached stops, one behind the other, each with room for all stops and 64 origins
abbrev pub lists_at : (stops trips : ℕ) → ℕ
lists_at stops trips = stops * 2 + trips

abbrev pub list_room : (stops : ℕ) → ℕ
list_room stops = stops + 64

-- the egress table, a number for each stop; all from here on is kept by arrivals
abbrev pub rest_at : Lay → ℕ
rest_at lay = lay.stops * 4 + lay.trips + 128

-- each trip's position in its line
abbrev pub positions_at : Lay → ℕ
positions_at lay = lay.stops * 5 + lay.trips + 128

-- each line's FIFO flag
abbrev pub fifo_at : Lay → ℕ
fifo_at lay = lay.stops * 5 + lay.trips * 2 + 128

-- the events before each trip
abbrev pub events_at : Lay → ℕ
events_at lay = lay.stops * 5 + lay.trips * 2 + lay.lines + 128

-- of each trip boarded: its stamp, the offset where it was boarded, the departure there
abbrev pub trip_stamps_at : Lay → ℕ
trip_stamps_at lay = lay.stops * 5 + lay.trips * 3 + lay.lines + 128

abbrev pub boarded_offsets_at : Lay → ℕ
boarded_offsets_at lay = lay.stops * 5 + lay.trips * 4 + lay.lines + 128

abbrev pub boarded_departures_at : Lay → ℕ
boarded_departures_at lay = lay.stops * 5 + lay.trips * 5 + lay.lines + 128

-- for line pruning: each line's stamp, the first trip of its chain, each trip's next one, each trip's least offset
abbrev pub line_stamps_at : Lay → ℕ
line_stamps_at lay = lay.stops * 5 + lay.trips * 6 + lay.lines + 128

abbrev pub heads_at : Lay → ℕ
heads_at lay = lay.stops * 5 + lay.trips * 6 + lay.lines * 2 + 128

abbrev pub links_at : Lay → ℕ
links_at lay = lay.stops * 5 + lay.trips * 6 + lay.lines * 3 + 128

abbrev pub least_at : Lay → ℕ
least_at lay = lay.stops * 5 + lay.trips * 7 + lay.lines * 3 + 128

-- its end: five numbers a stop, eight a trip, three a line, and two lists' 64 origins
abbrev pub work_size : Lay → ℕ
work_size lay = lay.stops * 5 + lay.trips * 8 + lay.lines * 3 + 128

-- the layout for a timetable of these counts and so many lines: the first list is filled by a round's rides, the other by its walks
abbrev pub lay_for : Counts → ℕ → Lay
lay_for c lines =
    record {
      stops = c.stops;
      trips = c.trips;
      lines = lines;
      list = lists_at c.stops c.trips;
      other = lists_at c.stops c.trips + list_room c.stops;
    }

abbrev pub lay_of : QueryCounts → Lay
lay_of n = lay_for n.timetable n.lines

abbrev pub work_size_of : QueryCounts → ℕ
work_size_of n = work_size (lay_of n)

-- as few stops, trips and lines as the door admits
pub record Few (lay : Lay) : Type 0 where
  pub stops : lay.stops ≤ 4096
  pub trips : lay.trips ≤ 4096
  pub lines : lay.lines ≤ 4096
