-- Tables and query as the net of the optimality proof, and the full search's state as the plain search's.
use Prim.Native.Nat.{ℕ}
use mathlib.Core.Bool.{true, false, not, ◌||◌}
use mathlib.Core.List.{map}
use lib.Dec.{ltb}
use lib.IntN.{sub_ℕ}
use Rattle.signed.specs.Signed.{bits_of}
use Rattle.departures.specs.declared.DepartureRow.{DepartureRow}
use Rattle.model.specs.Tables.{never, Tables, Origin, Query, is_egress, egress_walk, stops, trips, stop_count, stop_at, departure, no_pickup, no_drop_off, edges_from, edge_to, walk_time, position, permitted}
use Rattle.model.specs.Search.{reached_by, Arrivals, Boardings, State, departures_at, line_at, delay_of, skipped, margin_of, prunable}
use Rattle.model.specs.Promise.{effective}
use Rattle.model.proofs.Net.{Net}
use Rattle.model.proofs.PlainSearch

abbrev pub pair_of : DepartureRow → ℕ × ℕ
pair_of d = (d.trip, d.offset)

abbrev pub walk_of : Tables → Query → ℕ → ℕ × ℕ
walk_of T Q e = (edge_to T e, walk_time T Q e)

abbrev pub origin_of : Origin → ℕ × ℕ
origin_of a = (a.stop, a.duration)

-- a trip past the table has no stop time
unfoldable pub count_at : Tables → ℕ → ℕ
count_at T t = elim (ltb t (trips T)) [ true ↦ stop_count T t | false ↦ 0 ]

abbrev pub net : Tables → Query → Net
net T Q =
    record {
      n_s = stops T;
      MAX = never;
      len = count_at T;
      stop_at = stop_at T;
      arr = (effective T Q).arrives;
      dep = (effective T Q).departs;
      sch = departure T;
      margin = margin_of T Q;
      alight = λ t o. not (no_drop_off T t o || skipped T Q (delay_of Q t) t o);
      pick = λ t o. not (no_pickup T t o || skipped T Q (delay_of Q t) t o);
      ok_trip = permitted T Q;
      line = line_at T;
      pos = position T;
      prunes = λ t. prunable T Q (delay_of Q t) t;
      deps = λ x. map pair_of (departures_at T x);
      edges = λ x. map (walk_of T Q) (edges_from T x);
      orig = map origin_of Q.origins;
      is_eg = is_egress Q.egress;
      eg = egress_walk Q.egress;
      egs = Q.egress;
      chg = Q.change;
      start = Q.start;
      slack = Q.settings.candidate_slack;
    }

-- the shift of a boarding of trip t at offset o
abbrev pub shift_at : Tables → Query → ℕ → ℕ → ℕ
shift_at T Q t o = bits_of (sub_ℕ ((effective T Q).departs t o) (departure T t o))

abbrev pub core_of : Arrivals → PlainSearch.Core
core_of c = record { lab = map reached_by c.labels; E = c.earliest; B = c.best; SS = c.stop_stamp; Q = c.reached }

abbrev pub book_of : Boardings → PlainSearch.Book
book_of k = record { TS = k.trip_stamp; TO = k.board_offset; TD = k.board_departure; LB = k.line_boards; log = k.scans }

abbrev pub state_of : State → PlainSearch.St
state_of s = record { c = core_of s.arrivals; k = book_of s.boardings }
