-- How long the sections are, and what stands in them.
use Prim.Native.Nat.{ℕ, ◌*◌, ◌≤◌, ◌+◌, ◌/◌, ◌<◌}
use mathlib.Core.Path.{◌≡◌, ap, ap₂, ◌∙◌}
use native.Mathlib.Omega.{arith}
use Rattle.query_types.specs.declared.QueryCounts.{QueryCounts}
use Rattle.query_input.specs.Lent.{transfer_rows, section, marks_at, transfer_runs_at, query_size, entries_at, line_runs_at, stop_runs_at, rows_at, delays_at, stop_rows_at, egress_at, line_runs, line_entries, stop_runs, departure_rows, delay_rows, stop_rows, egress_part, egress_stop}
use Rattle.query_input.specs.Sane.{Limits, ReadSized}
use mathlib.Core.List.{List}
use lib.ListN.{length, get_or}
use lib.Seq.{length-slice}
use Rattle.loops.specs.Count.{tab}
use Rattle.loops.proofs.Count.{tab_ext}
use Rattle.departures.proofs.Parts.{get_d_slice}
use Rattle.arc_flags.specs.Flags.{egress_rows, egress_row_at}

-- so many rows fit the area
pub rows_room : (n : QueryCounts) (area rows : ℕ) → rows ≡ transfer_rows n area → rows * 4 ≤ area
rows_room n area rows e = omega arith

pub rows_few : (n : QueryCounts) (area rows : ℕ) → Limits n → rows ≡ transfer_rows n area → rows ≤ 65536
rows_few n area rows l e = omega (arith, l.transfers)

pub part_size : (l : List ℕ) (first count : ℕ) → first + count ≤ length l → length (section l first count) ≡ count
part_size l first count h = length-slice first (first + count) l h ∙ omega arith

-- number i of a part is number first + i of the list
pub part_at : (l : List ℕ) (first count i : ℕ) → i < count → get_or (section l first count) i 0 ≡ get_or l (first + i) 0
part_at l first count i h = get_d_slice first (first + count) l i 0 (omega arith)

module _ (built : List ℕ) (n : QueryCounts) (h : marks_at n ≤ length built) where
  pub line_runs_size : length (line_runs built n) ≡ n.lines * 2
  line_runs_size = part_size built (line_runs_at n) (n.lines * 2) (omega arith)

  pub entries_size : length (line_entries built n) ≡ n.entries
  entries_size = part_size built (entries_at n) n.entries (omega arith)

  pub stop_runs_size : length (stop_runs built n) ≡ n.timetable.stops * 2
  stop_runs_size = part_size built (stop_runs_at n) (n.timetable.stops * 2) (omega arith)

  pub rows_size : length (departure_rows built n) ≡ n.departures * 2
  rows_size = part_size built (rows_at n) (n.departures * 2) (omega arith)

module _ (q : List ℕ) (n : QueryCounts) (h : query_size n ≤ length q) where
  pub delay_rows_size : length (delay_rows q n) ≡ n.delays * 2
  delay_rows_size = part_size q (delays_at n) (n.delays * 2) (omega arith)

  pub stop_rows_size : length (stop_rows q n) ≡ n.stop_rows * 5
  stop_rows_size = part_size q (stop_rows_at n) (n.stop_rows * 5) (omega arith)

  pub egress_size : length (egress_part q n) ≡ n.egress * 2
  egress_size = part_size q (egress_at n) (n.egress * 2) (omega arith)

  -- the egress rows are the egress stops
  pub egress_are : egress_rows (egress_part q n) ≡ tab (egress_stop q n) n.egress
  egress_are =
      let e : length (egress_part q n) / 2 ≡ n.egress = omega (arith, egress_size) in
      ap (tab (egress_row_at (egress_part q n))) e ∙ tab_ext (egress_row_at (egress_part q n)) (egress_stop q n) n.egress (λ k u. ap₂ (λ (a b : ℕ). (a, b)) (first k u) (next k u))
    where
      first : (k : ℕ) → k < n.egress → get_or (egress_part q n) (k * 2) 0 ≡ get_or q (egress_at n + k * 2) 0
      first k u = part_at q (egress_at n) (n.egress * 2) (k * 2) (omega arith)

      next : (k : ℕ) → k < n.egress → get_or (egress_part q n) (k * 2 + 1) 0 ≡ get_or q (egress_at n + 1 + k * 2) 0
      next k u = let e : egress_at n + (k * 2 + 1) ≡ egress_at n + 1 + k * 2 = omega arith in part_at q (egress_at n) (n.egress * 2) (k * 2 + 1) (omega arith) ∙ ap (λ (i : ℕ). get_or q i 0) e

-- a slice as long as its counts say has all its sections
module _ {t : List ℕ} {n : QueryCounts} {b q : ℕ} (h : ReadSized t n b q) where
  pub marks_room : marks_at n ≤ b
  marks_room = omega (arith, h.built_is)

  pub runs_room : transfer_runs_at n ≤ b
  runs_room = omega (arith, h.built_is)

  pub query_room : query_size n ≤ q
  query_room = omega (arith, h.query_is)
