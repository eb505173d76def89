-- The transfers of every stop event (document 01, item 8): first free of memory, then as the area holds them. Definitions only.
use Rattle.std.specs.Prelude.{ℕ, zero, suc, ◌+◌, ◌*◌, not, cond, length, get_or, take, leb, eqb}
use mathlib.Core.List.{List, [], ◌∷◌, flatten, map}
use Rattle.loops.specs.Count.{tab}
use Rattle.sorts.specs.Orders.{keep}
use Rattle.departures.specs.declared.DepartureRow.{DepartureRow}
use Rattle.departures.specs.declared.StopRun.{StopRun}
use Rattle.tables.specs.Timetable.{Timetable, time_at}
use Rattle.departures.specs.Departures.{row_departure, by_departure}

-- what the transfers are made from: the timetable, how many lines there are, each trip's line, each stop's listed departures,
-- and the transfer time in seconds
pub record Input : Type 0 where
  pub timetable : Timetable
  pub lines : ℕ
  pub line_of : ℕ → ℕ
  pub listed : ℕ → List DepartureRow
  pub time : ℕ

-- a transfer: to a trip at an offset, the transfer time, its arc-flag pattern
pub record Transfer : Type 0 where
  pub target : ℕ
  pub offset : ℕ
  pub time : ℕ
  pub pattern : ℕ

-- THE SORTED DEPARTURES OF A LINE at stop s: those listed there whose trip has the line, stably sorted by departure
unfoldable pub departures_of_line : Input → ℕ → ℕ → List DepartureRow
departures_of_line x s line = by_departure x.timetable (keep (λ r. eqb (x.line_of r.trip) line) (x.listed s))

-- its first one not before second w: a list of one, or of none
unfoldable pub first_not_before : Input → ℕ → ℕ → ℕ → List DepartureRow
first_not_before x s line w = take 1 (keep (λ r. leb w (row_departure x.timetable r)) (departures_of_line x s line))

-- THE TRANSFER of an event to a line: the first sorted departure at its stop not before arrival + transfer time;
-- none if that first one is the same trip (no later one is tried)
unfoldable pub transfer_to : Input → ℕ → ℕ → ℕ → List DepartureRow
transfer_to x trip off line =
    keep (λ r. not (eqb r.trip trip))
    (first_not_before x (time_at x.timetable trip off).stop line ((time_at x.timetable trip off).arrival + x.time))

-- THE TRANSFERS OF AN EVENT, a trip's stop time: none if drop-off is 1, else those to every line, lines rising
unfoldable pub transfers_of : Input → ℕ → ℕ → List DepartureRow
transfers_of x trip off = cond (eqb (time_at x.timetable trip off).drop_off 1) [] (flatten (tab (transfer_to x trip off) x.lines))

-- a transfer to a departure: after the transfer time, flag pattern 0
abbrev pub transfer_of : ℕ → DepartureRow → Transfer
transfer_of time r = record { target = r.trip; offset = r.offset; time = time; pattern = 0 }

-- THE TRANSFERS as they are built
abbrev pub built_transfers : Input → ℕ → ℕ → List Transfer
built_transfers x trip off = map (transfer_of x.time) (transfers_of x trip off)

-- EVERY EVENT'S, trip by trip, offset by offset; and all of them in one list
unfoldable pub events_of : Input → List (List Transfer)
events_of x = flatten (tab (λ trip. tab (built_transfers x trip) (x.timetable.trip trip).count) x.timetable.trips)

abbrev pub all_transfers : Input → List Transfer
all_transfers x = flatten (events_of x)

-- how many stop events the trips before i have
unfoldable pub events_before : Timetable → ℕ → ℕ
events_before T zero = 0
events_before T (suc i) = events_before T i + (T.trip i).count

-- IN MEMORY. The words of a list of transfers, four for each: target trip, offset, time, flag pattern
unfoldable pub transfer_words : List Transfer → List ℕ
transfer_words [] = []
transfer_words (r ∷ l) = r.target ∷ r.offset ∷ r.time ∷ r.pattern ∷ transfer_words l

-- the runs of the events, two words for each: how many transfers stand before its own, how many it has
unfoldable pub runs_from : {A : Type 0} → ℕ → List (List A) → List ℕ
runs_from n [] = []
runs_from n (l ∷ ls) = n ∷ length l ∷ runs_from (n + length l) ls

-- transfer k of an area, and the transfers of a run
abbrev pub transfer_at : List ℕ → ℕ → Transfer
transfer_at area k =
    record {
      target = get_or area (k * 4) 0;
      offset = get_or area (k * 4 + 1) 0;
      time = get_or area (k * 4 + 2) 0;
      pattern = get_or area (k * 4 + 3) 0;
    }

abbrev pub transfers_at : List ℕ → StopRun → List Transfer
transfers_at area r = tab (λ k. transfer_at area (r.first + k)) r.length
