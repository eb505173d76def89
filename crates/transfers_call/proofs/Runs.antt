-- Each stop's run of the numbers, packed and sorted, is the sort of the packed rows listed there.
use Prim.Native.Nat.{ℕ, ◌<◌}
use mathlib.Core.Path.{◌≡◌, sym, ◌∙◌, ap}
use mathlib.Core.List.{List, map}
use native.Mathlib.Omega.{arith}
use lib.ListN.{length}
use lib.Seq.{slice}
use Rattle.loops.specs.Count.{tab}
use Rattle.loops.proofs.Count.{length_tab_from, map_tab_from}
use Rattle.sorts.specs.Sort.{hi, sort_by}
use Rattle.sorts.specs.Orders.{All}
use Rattle.sorts.proofs.Orders.{sort-all, sort_rising}
use Rattle.sorts.proofs.Places.{all_at}
use Rattle.departures.specs.declared.DepartureRow.{DepartureRow}
use Rattle.departures.specs.Departures.{departures_of, listed_at, row_at, rows_of, run_end, run_first, run_length, sort_stops}
use Rattle.departures.proofs.Apart.{Apart, sorted_length, sorted_run}
use Rattle.departures.proofs.Flat.{listed_slice}
use Rattle.departures.proofs.Laws.{stops_apart}
use Rattle.departures.proofs.Parts.{stop_known}
use Rattle.departures.proofs.All.{all_tab}
use Rattle.event_transfers.specs.Packed.{Keys, LineEnds, SortedRuns, line_x, pack_line, packed_line_at}
use Rattle.transfers_call.specs.Call.{TransfersAdmitted, TransferLent, input_of}
use Rattle.event_transfers.proofs.Lists.{all_imp, all_map, map_slice, rising_at}
use Rattle.transfers_call.proofs.Packing.{Fits, pack-line, row_fits}

abbrev pub pack_of : TransferLent → DepartureRow → ℕ
pack_of x = pack_line x.t x.c x.lines

abbrev pub numbers_of : TransferLent → List ℕ
numbers_of x = tab (packed_line_at x.t x.c x.lines x.rows) x.d

abbrev pub work_of : TransferLent → List ℕ
work_of x = sort_stops hi x.runs x.c.stops (numbers_of x)

-- what is known of a listed row
pub record RowFits (x : TransferLent) (r : DepartureRow) : Type 0 where
  pub fits : Fits x.t x.c r
  pub line : (input_of x).line_of r.trip < x.line_count

module _ (x : TransferLent) (n : ℕ) (a : TransfersAdmitted x n) where
  size : length (numbers_of x) ≡ x.d
  size = length_tab_from (packed_line_at x.t x.c x.lines x.rows) 0 x.d

  apart : Apart x.runs x.c.stops (length (numbers_of x))
  apart = record { inside = λ s h. omega (arith, size, a.listed.stops.run s h); apart = stops_apart x.t x.c x.runs x.rows x.d a.listed }

  pub run_is : (s : ℕ) → s < x.c.stops → slice (run_first x.runs s) (run_end x.runs s) (work_of x) ≡ sort_by hi (map (pack_of x) (listed_at x.runs x.rows s))
  run_is s h =
      sorted_run 0 hi x.runs x.c.stops (numbers_of x) apart s h
      ∙ ap (sort_by hi)
      (ap (slice (run_first x.runs s) (run_end x.runs s)) (sym (map_tab_from (pack_of x) (row_at x.rows) 0 x.d))
      ∙ sym (map_slice (pack_of x) (run_first x.runs s) (run_end x.runs s) (rows_of x.rows x.d))
      ∙ ap (map (pack_of x)) (sym (listed_slice x.c x.runs x.rows x.d s a.listed.stops h)))

  pub rows_fit : (s : ℕ) → s < x.c.stops → All (RowFits x) (listed_at x.runs x.rows s)
  rows_fit s h =
      let k = stop_known x.t x.c x.runs x.rows x.d s a.listed.known a.listed.stops h in
      all_tab (RowFits x) (row_at (departures_of x.runs x.rows s)) 0 (run_length x.runs s)
      (λ i u v. let r = k.known i (omega arith) in record { fits = row_fits x.t x.c (row_at (departures_of x.runs x.rows s) i) a.sane r; line = a.lines.line (row_at (departures_of x.runs x.rows s) i).trip r.trip })

  lines_fit : (s : ℕ) → s < x.c.stops → All (λ y. line_x y < 4096) (sort_by hi (map (pack_of x) (listed_at x.runs x.rows s)))
  lines_fit s h =
      sort-all hi (map (pack_of x) (listed_at x.runs x.rows s))
      (all_map (pack_of x) (λ y. line_x y < 4096) (listed_at x.runs x.rows s)
      (all_imp (RowFits x) (λ r. line_x (pack_of x r) < 4096)
      (λ r k. omega (arith, k.line, a.lines.few, pack-line x.t x.c x.lines r k.fits)) (listed_at x.runs x.rows s) (rows_fit s h)))

  pub run_sorted : (s : ℕ) → s < x.c.stops → Keys (slice (run_first x.runs s) (run_end x.runs s) (work_of x))
  run_sorted s h =
      rw (run_is s h)
      (record {
        rising = record { rising = λ i j u l. rising_at hi 0 (sort_by hi (map (pack_of x) (listed_at x.runs x.rows s))) i j (sort_rising hi (map (pack_of x) (listed_at x.runs x.rows s))) u l };
        fits = λ i u. all_at (λ y. line_x y < 4096) (sort_by hi (map (pack_of x) (listed_at x.runs x.rows s))) i 0 (lines_fit s h) u;
      })

  pub sorted_runs : (ends : List ℕ) → LineEnds (work_of x) ends → SortedRuns x.c x.runs (work_of x) ends x.d
  sorted_runs ends l = record { size = sorted_length 0 hi x.runs x.c.stops (numbers_of x) apart ∙ size; lines = l; keys = run_sorted }
