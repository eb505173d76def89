-- A row in one number, and back.
use Rattle.loops.specs.Iter.{first}
use Prim.Native.Nat.{ℕ, ◌+◌, ◌*◌, ◌<◌, ◌≤◌}
use mathlib.Core.Path.{◌≡◌, ◌∙◌, ap}
use mathlib.Core.List.{List}
use native.Mathlib.Omega.{arith}
use lib.ListN.{get_or}
use Rattle.tables.specs.declared.Counts.{Counts}
use Rattle.tables.specs.Tables.{first_of, time_of}
use Rattle.tables.specs.Timetable.{timetable}
use Rattle.tables.specs.Sane.{Sane}
use Rattle.departures.specs.declared.DepartureRow.{DepartureRow}
use Rattle.departures.specs.Departures.{row_departure}
use Rattle.departures.specs.Listed.{RowKnown}
use Rattle.departures.specs.Packed.{un_trip, un_offset}
use Rattle.departures.proofs.Parts.{row_time, row_offset}
use Rattle.event_transfers.specs.Packed.{pack_line, line_x, dep_x}

-- the number of a known row
pub record Fits (t : List ℕ) (c : Counts) (r : DepartureRow) : Type 0 where
  pub trip : r.trip < 4096
  pub offset : r.offset < 65536
  pub departure : row_departure (timetable t c) r ≤ 1048575

pub row_fits : (t : List ℕ) (c : Counts) (r : DepartureRow) → Sane t c → RowKnown t c r → Fits t c r
row_fits t c r s k =
    record {
      trip = omega (arith, k.trip, s.counts.trips);
      offset = row_offset t c r s.counts s.runs k;
      departure = s.ranges.departure _ (row_time t c r s.runs k);
    }

-- its departure as the code reads it
pub departure_is : (t : List ℕ) (c : Counts) (r : DepartureRow) (first x : ℕ) → first ≡ first_of t c r.trip → x ≡ time_of t (first + r.offset) 2 → x ≡ row_departure (timetable t c) r
departure_is t c r first x e f = f ∙ ap (λ (n : ℕ). time_of t (n + r.offset) 2) e

-- what the code adds up
pub pack_is : (t : List ℕ) (c : Counts) (lines : List ℕ) (r : DepartureRow) (line dep : ℕ) → line ≡ get_or lines r.trip 0 → dep ≡ row_departure (timetable t c) r → Fits t c r
    → (line * 1048576 + dep) * 4294967296 + r.trip * 65536 + r.offset ≡ pack_line t c lines r
unfolding pack_line
pack_is t c lines r line dep e f h = omega (arith, h.trip, h.offset)

-- what comes back of it
module _ (t : List ℕ) (c : Counts) (lines : List ℕ) (r : DepartureRow) (h : Fits t c r) where
  pub pack-line : line_x (pack_line t c lines r) ≡ get_or lines r.trip 0
  unfolding line_x pack_line
  pack-line = omega (arith, h.departure)

  pub pack_departure : dep_x (pack_line t c lines r) ≡ row_departure (timetable t c) r
  unfolding dep_x pack_line
  pack_departure = omega (arith, h.departure)

  pub pack_trip : un_trip (pack_line t c lines r) ≡ r.trip
  unfolding un_trip pack_line
  pack_trip = omega (arith, h.trip, h.offset)

  pub pack_offset : un_offset (pack_line t c lines r) ≡ r.offset
  unfolding un_offset pack_line
  pack_offset = omega (arith, h.trip, h.offset)
