-- What a yes to each question of the call gives.
use Prim.Native.Nat.{ℕ, zero, suc, ◌*◌, ◌≤◌}
use mathlib.Core.Path.{◌≡◌, refl, ◌∙◌, sym, ap, ap₂}
use mathlib.Core.Bool.{true, ◌&&◌}
use mathlib.Core.List.{List}
use lib.ListN.{length}
use lib.Dec.{eqb, leb}
use borrow.Author.Tests.{eqb-true, leb-true}
use Rattle.loops.proofs.Iter.{and_left}
use Rattle.door.specs.Door.{ask}
use Rattle.door.specs.Settings.{settings_ok}
use Rattle.door.specs.declared.Settings.{Settings}
use Rattle.door.proofs.Laws.{ask_yes, ask_later}
use Rattle.tables.specs.declared.Counts.{Counts}
use Rattle.tables.specs.Door.{counts_ok, slices_ok, runs_ok, numbers_ok, ranges_ok, order_ok}
use Rattle.tables.specs.Sane.{CountsOk, SlicesOk}
use Rattle.tables.proofs.Yes.{two, counts_yes, slices_yes, sane}
use Rattle.line_layout.specs.Listed.{line_runs_ok, entries_ok}
use Rattle.line_layout.proofs.Yes.{lines_listed}
use Rattle.layout_call.specs.Call.{LayoutAreas, layout_areas_ok, layout_sizes_ok, layout_verdict, layout_made, layout_outcome_of, layout_settle, LayoutAdmitted}

-- 1
pub record Limits (c : Counts) (lines n : ℕ) : Type 0 where
  pub counts : CountsOk c
  pub few_lines : lines ≤ 4096
  pub few_entries : n ≤ 4096

pub limits_yes : (c : Counts) (lines n : ℕ) → counts_ok c && (leb lines 4096 && leb n 4096) ≡ true → Limits c lines n
limits_yes c lines n h =
    let x = two (counts_ok c) (leb lines 4096 && leb n 4096) h in
    let y = two (leb lines 4096) (leb n 4096) x.two in
    record { counts = counts_yes c x.one; few_lines = leb-true _ _ y.one; few_entries = leb-true _ _ y.two }

-- 2
pub record Sizes (c : Counts) (lines n runs entries positions fifo : ℕ) : Type 0 where
  pub runs_is : runs ≡ lines * 2
  pub entries_is : entries ≡ n
  pub positions_is : positions ≡ c.trips
  pub fifo_is : fifo ≡ lines

pub sizes_yes : (c : Counts) (lines n runs entries positions fifo : ℕ) → layout_sizes_ok c lines n runs entries positions fifo ≡ true → Sizes c lines n runs entries positions fifo
unfolding layout_sizes_ok
sizes_yes c lines n runs entries positions fifo h =
    let y = two (eqb runs (lines * 2) && eqb entries n) (eqb positions c.trips && eqb fifo lines) h in
    let a = two (eqb runs (lines * 2)) (eqb entries n) y.one in
    let b = two (eqb positions c.trips) (eqb fifo lines) y.two in
    record {
      runs_is = eqb-true _ _ a.one;
      entries_is = eqb-true _ _ a.two;
      positions_is = eqb-true _ _ b.one;
      fifo_is = eqb-true _ _ b.two;
    }

-- all together
pub admitted : (S : Settings) (t : List ℕ) (c : Counts) (lines n : ℕ) (runs entries : List ℕ) (s : LayoutAreas) → layout_verdict S t c lines n runs entries (layout_areas_ok c lines n runs entries s) ≡ 0
    → LayoutAdmitted t c lines runs entries s
unfolding layout_verdict
admitted S t c lines n runs entries s h =
    let sizes = layout_areas_ok c lines n runs entries s in
    let r6 = ask 6 (order_ok t c) 0 in
    let r5 = ask 5 (ranges_ok t c) r6 in
    let r4 = ask 4 (numbers_ok t c && entries_ok c entries n) r5 in
    let r3 = ask 3 (runs_ok t c && line_runs_ok runs lines n) r4 in
    let r2 = ask 2 (slices_ok t c && sizes) r3 in
    let r14 = ask 14 (settings_ok S) r2 in
    let h14 = ask_later 0 (counts_ok c && (leb lines 4096 && leb n 4096)) r14 h in
    let h2 = ask_later 13 (settings_ok S) r2 h14 in
    let h3 = ask_later 1 (slices_ok t c && sizes) r3 h2 in
    let h4 = ask_later 2 (runs_ok t c && line_runs_ok runs lines n) r4 h3 in
    let h5 = ask_later 3 (numbers_ok t c && entries_ok c entries n) r5 h4 in
    let e1 = ask_yes 0 (counts_ok c && (leb lines 4096 && leb n 4096)) r14 h in
    let e2 = ask_yes 1 (slices_ok t c && sizes) r3 h2 in
    let q3 = two (runs_ok t c) (line_runs_ok runs lines n) (ask_yes 2 (runs_ok t c && line_runs_ok runs lines n) r4 h3) in
    let q4 = two (numbers_ok t c) (entries_ok c entries n) (ask_yes 3 (numbers_ok t c && entries_ok c entries n) r5 h4) in
    let e5 = ask_yes 4 (ranges_ok t c) r6 h5 in
    let l = limits_yes c lines n e1 in
    let q2 = two (slices_ok t c) sizes e2 in
    let z = sizes_yes c lines n (length runs) (length entries) (length s.positions) (length s.fifo) q2.two in
    record {
      sane = sane t c (and_left (counts_ok c) (leb lines 4096 && leb n 4096) e1) q2.one q3.one q4.one e5;
      listed = lines_listed c lines n runs entries l.few_lines l.few_entries z.runs_is z.entries_is q3.two q4.two;
      positions = z.positions_is;
      fifo = z.fifo_is;
    }
