-- FIFO flags of lines, and each trip's position in its line (document 01, item 7). Definitions only.
use Rattle.std.specs.Prelude.{ℕ, zero, suc, ◌+◌, ◌*◌, ◌-◌, Bool, ◌&&◌, cond, List, get_or, leb, eqb}
use Rattle.loops.specs.Iter.{Hit, hit, miss, found_or, every_in}
use Rattle.loops.specs.Count.{one, tab}
use Rattle.tables.specs.declared.Counts.{Counts}
use Rattle.tables.specs.declared.StopTimeRow.{StopTimeRow}
use Rattle.tables.specs.Timetable.{Timetable, time_at}
use Rattle.line_layout.specs.declared.LineRun.{LineRun}

-- the trips of a line, by their places
pub record LineTrips : Type 0 where
  pub count : ℕ
  pub trip : ℕ → ℕ

-- FROM ONE TRIP TO THE NEXT, at one offset: no arrival or departure falls, and pickup and drop-off are equal, as codes.
-- Stops are not compared.
unfoldable pub in_order : StopTimeRow → StopTimeRow → Bool
in_order p q =
    (leb p.arrival q.arrival && leb p.departure q.departure) && (eqb p.pickup q.pickup && eqb p.drop_off q.drop_off)

-- NEIGHBOURS of a line, a before b: no windows, equal stop counts, in order at every offset
unfoldable pub neighbours : Timetable → ℕ → ℕ → Bool
neighbours T a b =
    (eqb (T.trip a).windows 0 && eqb (T.trip b).windows 0)
    && (eqb (T.trip a).count (T.trip b).count && every_in (λ k. in_order (time_at T a k) (time_at T b k)) 0 (T.trip a).count)

-- FIFO, of a line. One trip: exactly when it has no windows. Else all neighbours; of a line without trips there are none: yes.
unfoldable pub fifo_line : Timetable → LineTrips → Bool
fifo_line T l =
    cond (eqb l.count 1) (eqb (T.trip (l.trip 0)).windows 0) (every_in (λ p. neighbours T (l.trip (p - 1)) (l.trip p)) 1 l.count)

-- the last of the numbers below n that passes
unfoldable pub last_in : (ℕ → Bool) → ℕ → Hit
last_in f zero = miss
last_in f (suc n) = cond (f n) (hit n) (last_in f n)

-- the last place of trip a in a line
abbrev pub last_place : LineTrips → ℕ → Hit
last_place l a = last_in (λ p. eqb (l.trip p) a) l.count

-- the position of a trip that no line lists
abbrev pub unlisted : ℕ
unlisted = 4294967295

-- A TRIP'S POSITION among the first lines: its last place in the last of them that lists it
unfoldable pub position_in : (ℕ → LineTrips) → ℕ → ℕ → ℕ
position_in line zero a = unlisted
position_in line (suc l) a = found_or (last_place (line l) a) (position_in line l a)

-- THE LINES IN MEMORY. A run: first entry, how many. The run of line l, two numbers a line:
abbrev pub run : ℕ → ℕ → LineRun
run first count = record { first = first; count = count }

abbrev pub line_run_at : List ℕ → ℕ → LineRun
line_run_at runs l = run (get_or runs (l * 2) 0) (get_or runs (l * 2 + 1) 0)

-- the trips that stand in a run of the entries, and those of line l
abbrev pub trips_in : List ℕ → LineRun → LineTrips
trips_in entries r = record { count = r.count; trip = λ p. get_or entries (r.first + p) 0 }

abbrev pub line_trips_in : List ℕ → List ℕ → ℕ → LineTrips
line_trips_in runs entries l = trips_in entries (line_run_at runs l)

-- line l's FIFO flag: 1 or 0
abbrev pub fifo_of : Timetable → List ℕ → List ℕ → ℕ → ℕ
fifo_of T runs entries l = one (fifo_line T (line_trips_in runs entries l))

-- the positions of all trips, and the flags of all lines
abbrev pub positions_of : Counts → ℕ → List ℕ → List ℕ → List ℕ
positions_of c lines runs entries = tab (position_in (line_trips_in runs entries) lines) c.trips

abbrev pub fifos_of : Timetable → ℕ → List ℕ → List ℕ → List ℕ
fifos_of T lines runs entries = tab (fifo_of T runs entries) lines

-- What the positions become by a line: a trip that it lists has its last place there, another keeps its number. Inner contracts
-- cite this; it is no part of the promise.
unfoldable pub placed : LineTrips → List ℕ → ℕ → ℕ
placed l s a = found_or (last_place l a) (get_or s a 0)
