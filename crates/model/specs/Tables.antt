-- The tables and the query (document 01, "Tables and domain"), free of any layout in memory: counts, and rows by their numbers.
-- A row's value at a number not below its count means nothing; the door (Door) asks nothing of it. Definitions only.
use Rattle.std.specs.Prelude.{ℕ, zero, suc, ◌/◌, ◌%◌, ◌^◌, Bool, true, false, not, ◌&&◌, ◌||◌, List, [], ◌∷◌, ltb, eqb, Float}
use Rattle.loops.specs.Count.{upto}
use Rattle.sorts.specs.Orders.{keep}
use Rattle.door.specs.declared.Settings.{Settings}
use Rattle.cell_bitset.specs.declared.CellBitSet.{CellBitSet}
use Rattle.walk_time.specs.Walk.{effective_duration, round_count}
use Rattle.departures.specs.declared.DepartureRow.{DepartureRow}
use Rattle.tables.specs.Timetable.{Timetable, time_at}
use Rattle.line_layout.specs.Layout.{LineTrips, fifo_line, position_in}
use Rattle.event_transfers.specs.Transfers.{Transfer}
use Rattle.delay_rows.specs.Delays.{DelayTables}

-- u32::MAX: no arrival, no stop, no line
abbrev pub never : ℕ
never = 4294967295

pub record Tables : Type 0 where
  -- stops, trips, stop times, windows, walk edges, cells; a walk edge's distance
  pub timetable : Timetable
  pub distance : ℕ → Float
  -- how many lines; each trip's line; each line's trips
  pub lines : ℕ
  pub line_of : ℕ → ℕ
  pub line : ℕ → LineTrips
  -- of a stop: the departures listed there, its frequency mark
  pub departures : ℕ → List DepartureRow
  pub mark : ℕ → ℕ
  -- of a trip's stop time (trip, offset): the transfers there
  pub transfers : ℕ → ℕ → List Transfer
  -- arc flags: how many cells, how many patterns, each pattern's cell set
  pub cells : ℕ
  pub patterns : ℕ
  pub pattern : ℕ → CellBitSet

-- an origin: a stop and the access walk to it
pub record Origin : Type 0 where
  pub stop : ℕ
  pub duration : ℕ
  pub distance : Float

pub record Query : Type 0 where
  pub start : ℕ
  pub origins : List Origin
  -- egress stops, each with the duration of its walk
  pub egress : List (ℕ × ℕ)
  -- wanted modes, seven bits, 0 means all
  pub modes : ℕ
  pub wheelchair : Bool
  pub change : ℕ
  pub wanted_rounds : ℕ
  pub transfers : ℕ
  pub delays : DelayTables
  -- the switch that puts arc flags off (`flash_disabled`)
  pub flags_off : Bool
  -- the four numbers that the call received: the transfer time of built transfers, how many trips of a line are tried for a transfer, by how
  -- much a candidate may be later than the best total, the cap of the delay margin
  pub settings : Settings

-- how many rounds a query has (the request, "Round")
abbrev pub rounds_of : Query → ℕ
rounds_of Q = round_count Q.wanted_rounds Q.transfers

-- the change time before a boarding in round r: none in the first
unfoldable pub change_before : Query → ℕ → ℕ
change_before Q zero = 0
change_before Q (suc r) = Q.change

-- an egress stop, and the duration of its walk
unfoldable pub is_egress : List (ℕ × ℕ) → ℕ → Bool
is_egress [] s = false
is_egress (e ∷ es) s = elim (eqb e.0 s) [ true ↦ true | false ↦ is_egress es s ]

unfoldable pub egress_walk : List (ℕ × ℕ) → ℕ → ℕ
egress_walk [] s = 0
egress_walk (e ∷ es) s = elim (eqb e.0 s) [ true ↦ e.1 | false ↦ egress_walk es s ]

module _ (T : Tables) where
  abbrev pub stops : ℕ
  stops = T.timetable.stops

  abbrev pub trips : ℕ
  trips = T.timetable.trips

  -- how many stop times a trip has
  abbrev pub stop_count : ℕ → ℕ
  stop_count t = (T.timetable.trip t).count

  -- of a trip's stop time: its stop, arrival, departure, sequence
  abbrev pub stop_at : ℕ → ℕ → ℕ
  stop_at t o = (time_at T.timetable t o).stop

  abbrev pub arrival : ℕ → ℕ → ℕ
  arrival t o = (time_at T.timetable t o).arrival

  abbrev pub departure : ℕ → ℕ → ℕ
  departure t o = (time_at T.timetable t o).departure

  abbrev pub sequence : ℕ → ℕ → ℕ
  sequence t o = (time_at T.timetable t o).sequence

  -- The fields of GTFS stop_times.txt, in our words: `pickup_type` says how a rider gets on at a stop time, `drop_off_type` how one gets off: 0 or
  -- empty as scheduled, 1 not at all, 2 by telephoning the agency first, 3 by arranging it with the driver. Only 1 bars; 2 and 3 count as
  -- ordinary (docs/DIFFERENCES.md 7).
  abbrev pub no_pickup : ℕ → ℕ → Bool
  no_pickup t o = eqb (time_at T.timetable t o).pickup 1

  abbrev pub no_drop_off : ℕ → ℕ → Bool
  no_drop_off t o = eqb (time_at T.timetable t o).drop_off 1

  -- a trip without frequency windows
  abbrev pub no_windows : ℕ → Bool
  no_windows t = eqb (T.timetable.trip t).windows 0

  -- the walk edges that leave a stop, by their numbers, in the table's order
  unfoldable pub edges_from : ℕ → List ℕ
  edges_from x = keep (λ k. eqb (T.timetable.edge k).from x) (upto T.timetable.edges)

  -- where a walk edge leads
  abbrev pub edge_to : ℕ → ℕ
  edge_to e = (T.timetable.edge e).to

  -- a walk edge's duration in a query
  abbrev pub walk_time : Query → ℕ → ℕ
  walk_time Q e = effective_duration (T.timetable.edge e).duration (T.timetable.edge e).pathway Q.wheelchair

  -- each trip's position in its line, and each line's FIFO flag (`line_layout`); a line past the table has none
  abbrev pub position : ℕ → ℕ
  position t = position_in T.line T.lines t

  unfoldable pub fifo : ℕ → Bool
  fifo l = ltb l T.lines && fifo_line T.timetable (T.line l)

-- is a mode wanted?
unfoldable pub mode_wanted : ℕ → ℕ → Bool
mode_wanted modes m = eqb modes 0 || eqb (modes / 2 ^ m % 2) 1

-- a trip that is active, not excluded and, for a wheelchair query, not wheelchair 2 (GTFS trips.txt wheelchair_accessible: no
-- riders in wheelchairs)
unfoldable pub usable : Tables → Query → ℕ → Bool
usable T Q t =
    (eqb (T.timetable.trip t).active 1 && eqb (T.timetable.trip t).excluded 0)
    && not (Q.wheelchair && eqb (T.timetable.trip t).wheelchair 2)

-- a permitted trip (01, "Permitted"): also of a wanted mode
unfoldable pub permitted : Tables → Query → ℕ → Bool
permitted T Q t = usable T Q t && mode_wanted Q.modes (T.timetable.trip t).mode
