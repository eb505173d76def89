-- From the outcomes of the lines call and the departure sorting call: the query's lines, departures and marks are as built, of its own timetable.
use Prim.Native.Nat.{ℕ, zero, suc, ◌+◌, ◌*◌, ◌<◌, ◌≤◌}
use mathlib.Core.Path.{◌≡◌, refl, sym, ap, ap₂, subst, ◌∙◌}
use mathlib.Core.List.{List, flat_map}
use native.Mathlib.Omega.{arith}
use lib.ListN.{length, get_or, take, drop, length-append, length-take}
use lib.Seq.{get_or-take}
use Rattle.loops.specs.Count.{tab, upto}
use Rattle.loops.proofs.Count.{get_d_tab, length_tab_from}
use Rattle.door.specs.declared.Settings.{Settings}
use Rattle.tables.specs.declared.Counts.{Counts}
use Rattle.tables.specs.Timetable.{Timetable, timetable}
use Rattle.sorts.specs.Orders.{All}
use Rattle.departures.specs.Departures.{mark_of, listed_at}
use Rattle.departures.specs.Listed.{RowKnown}
use Rattle.line_numbers.specs.Lines.{entries_of, line_of, line_run, lines_of, runs_of}
use Rattle.line_numbers.proofs.Parts.{flat_length}
use Rattle.line_numbers.proofs.Laws.{entries_length}
use Rattle.lines_call.proofs.Outcome.{admitted}
use Rattle.door.specs.declared.Answer.{Answer}
use Rattle.door.specs.Door.{success}
use Rattle.lines_call.specs.Call.{LineAreas, LinesAdmitted, line_lengths, lines_verdict, lines_settle, lines_made, lines_outcome}
use Rattle.line_layout.specs.Layout.{line_trips_in}
use Rattle.built_lines.specs.Built.{AsBuilt}
use Rattle.built_lines.proofs.Laws.{built_lists}
use Rattle.departures_call.specs.Call.{SortAreas, SortAdmitted, sort_made, sort_outcome}
use Rattle.departures_call.proofs.Laws.{answered_admitted, answered_made, answered_sorted, answered_marked, length_kept}
use Rattle.query_input.specs.Lent.{Lent, tables_of, line_entries}
use Rattle.model.specs.Promise.{LinesBuilt}
use Rattle.promise.specs.Chain.{Chain, callers_list}
use Rattle.promise.proofs.Sections.{Sizes, Sections, sections}
use Rattle.promise.proofs.Alike.{sorted_same, mark_same, lines_same, line_same, lists_same, stop_known}

-- THE LINES CALL, answered: the questions' facts hold, the lines are counted, and the slices are as defined
pub record LinesAnswered (S : Settings) (t : List ℕ) (c : Counts) (s : LineAreas) (n : ℕ) : Type 0 where
  pub facts : LinesAdmitted t c s
  pub counted : n ≡ lines_of (timetable t c)
  pub areas : (lines_outcome S t c s).areas ≡ lines_made t c s

lines_by : (S : Settings) (t : List ℕ) (c : Counts) (s : LineAreas) (n v : ℕ) → lines_verdict S t c (line_lengths s) ≡ v → (lines_settle v t c s).answer ≡ success n → LinesAnswered S t c s n
lines_by S t c s n zero e h =
    let y : lines_of (timetable t c) ≡ n = ap (λ (a : Answer). a.value) h in
    record { facts = admitted S t c s 0 (sym e) refl; counted = sym y; areas = ap (λ (v : ℕ). (lines_settle v t c s).areas) e }
lines_by S t c s n (suc v) e h = let y : ◌≡◌ {A = ℕ} (suc v) 0 = ap (λ (a : Answer). a.code) h in absurd (omega arith)

pub lines_answered : (S : Settings) (t : List ℕ) (c : Counts) (s : LineAreas) (n : ℕ) → (lines_outcome S t c s).answer ≡ success n → LinesAnswered S t c s n
lines_answered S t c s n h = lines_by S t c s n (lines_verdict S t c (line_lengths s)) refl h

-- the runs of the lines, cut to as many as there are
runs_room : (T : Timetable) (old : List ℕ) → lines_of T * 2 ≤ length (runs_of T old)
unfolding runs_of
runs_room T old =
    omega (arith, length-append (flat_map (line_run T) (upto (lines_of T))) (drop (lines_of T * 2) old), flat_length (line_run T) (λ k. k * 2) (λ k. omega arith) (lines_of T) 0)

cut_size : (T : Timetable) (old : List ℕ) (n : ℕ) → n ≡ lines_of T → length (take (n * 2) (runs_of T old)) ≡ n * 2
cut_size T old n e = length-take (n * 2) (runs_of T old) ∙ omega (arith, runs_room T old)

cut_lists : (T : Timetable) (old : List ℕ) (n : ℕ) → n ≡ lines_of T → AsBuilt T (line_trips_in (take (n * 2) (runs_of T old)) (entries_of T))
cut_lists T old n e =
    let b = built_lists T old in
    record {
      count = λ l h. get_or-take (n * 2) (runs_of T old) (l * 2 + 1) 0 (omega arith) ∙ b.count l h;
      trip = λ l p h u.
          let y = get_or-take (n * 2) (runs_of T old) (l * 2 + 1) 0 (omega arith) in
          ap (λ (k : ℕ). get_or (entries_of T) (k + p) 0) (get_or-take (n * 2) (runs_of T old) (l * 2) 0 (omega arith)) ∙ b.trip l p h (omega arith);
    }

module _ (x : Lent) (k : Chain x) where
  -- the timetables that the lines call and the departure sorting call were lent, and the query's
  abbrev pub T1 : Timetable
  T1 = timetable k.lines_on.t k.lines_on.c

  abbrev pub T2 : Timetable
  T2 = timetable k.sort_on.t k.sort_on.c

  abbrev pub Y : Timetable
  Y = timetable x.t x.n.timetable

  -- what the two calls left
  abbrev pub line_out : LineAreas
  line_out = (lines_outcome k.lines_on.settings k.lines_on.t k.lines_on.c k.line_areas).areas

  abbrev pub sort_out : SortAreas
  sort_out = (sort_outcome k.sort_on.settings k.sort_on.t k.sort_on.c x.n.departures k.stop_runs k.sort_areas).areas

  pub lines_facts : LinesAnswered k.lines_on.settings k.lines_on.t k.lines_on.c k.line_areas x.n.lines
  lines_facts = lines_answered k.lines_on.settings k.lines_on.t k.lines_on.c k.line_areas x.n.lines k.lines_answered

  pub sort_facts : SortAdmitted k.sort_on.t k.sort_on.c x.n.departures k.stop_runs k.sort_areas
  sort_facts = answered_admitted k.sort_on.settings k.sort_on.t k.sort_on.c x.n.departures k.stop_runs k.sort_areas k.sorting_answered

  pub sort-made : sort_out ≡ sort_made k.sort_on.t k.sort_on.c x.n.departures k.stop_runs k.sort_areas.rows
  sort-made = answered_made k.sort_on.settings k.sort_on.t k.sort_on.c x.n.departures k.stop_runs k.sort_areas k.sorting_answered

  -- the slices of the lines call at exit
  pub out_lines : line_out.lines ≡ tab (line_of T1) k.lines_on.c.trips
  unfolding lines_made
  out_lines = ap (λ (s : LineAreas). s.lines) lines_facts.areas

  pub out_runs : line_out.runs ≡ runs_of T1 k.line_areas.runs
  unfolding lines_made
  out_runs = ap (λ (s : LineAreas). s.runs) lines_facts.areas

  pub out_entries : line_out.entries ≡ entries_of T1
  unfolding lines_made
  out_entries = ap (λ (s : LineAreas). s.entries) lines_facts.areas

  sizes : Sizes line_out.lines (take (x.n.lines * 2) line_out.runs) line_out.entries k.stop_runs sort_out.rows sort_out.marks
      x.n.timetable.trips (x.n.lines * 2) x.n.entries (x.n.timetable.stops * 2) (x.n.departures * 2) x.n.timetable.stops
  sizes =
      record {
        a_size = ap length out_lines ∙ omega (arith, length_tab_from (line_of T1) 0 k.lines_on.c.trips, k.lines_on.same.trips);
        b_size = ap (λ (l : List ℕ). length (take (x.n.lines * 2) l)) out_runs ∙ cut_size T1 k.line_areas.runs x.n.lines lines_facts.counted;
        d_size = ap length out_entries ∙ omega (arith, entries_length T1, k.entries_told, k.lines_on.same.trips);
        e_size = omega (arith, sort_facts.listed.stops.size, k.sort_on.same.stops);
        f_size =
            ap (λ (s : SortAreas). length s.rows) sort-made
            ∙ omega (arith, length_kept k.sort_on.t k.sort_on.c k.stop_runs k.sort_areas.rows x.n.departures sort_facts.listed, sort_facts.listed.known.size);
        g_size =
            ap (λ (s : SortAreas). length s.marks) sort-made
            ∙ omega (arith, length_tab_from (λ s. mark_of T2 (listed_at k.stop_runs k.sort_areas.rows s)) 0 k.sort_on.c.stops, k.sort_on.same.stops);
      }

  -- THE SECTIONS of what the query is lent are the slices at exit
  pub cut : Sections x.built line_out.lines (take (x.n.lines * 2) line_out.runs) line_out.entries k.stop_runs sort_out.rows sort_out.marks k.rest
      x.n.timetable.trips (x.n.lines * 2) x.n.entries (x.n.timetable.stops * 2) (x.n.departures * 2) x.n.timetable.stops
  cut = sections k.rest sizes k.lent_built

  -- the departures that the query sees are those at exit of the sorting
  pub departures_seen : (s : ℕ) → (tables_of x).departures s ≡ listed_at k.stop_runs sort_out.rows s
  departures_seen s = ap₂ (λ (a b : List ℕ). listed_at a b s) cut.fourth cut.fifth

  -- the rows of the caller's list are known
  pub callers_known : (u : ℕ) → u < k.sort_on.c.stops → All (RowKnown k.sort_on.t k.sort_on.c) (callers_list x k u)
  callers_known u h = stop_known k.sort_on.t k.sort_on.c k.stop_runs k.sort_areas.rows x.n.departures sort_facts.listed u h

  -- THE TABLES ARE AS BUILT, of the query's own timetable
  pub chain_tables : LinesBuilt (tables_of x) (callers_list x k)
  chain_tables =
      record {
        departures_built = λ s h.
            let v : s < k.sort_on.c.stops = omega (arith, k.sort_on.same.stops) in
            departures_seen s ∙ answered_sorted k.sort_on.settings k.sort_on.t k.sort_on.c x.n.departures k.stop_runs k.sort_areas k.sorting_answered s
            ∙ sym (sorted_same k.sort_on.t k.sort_on.c x.t x.n.timetable sort_facts.sane.runs k.sort_on.same (callers_list x k s) (callers_known s v));
        marks_built = λ s h.
            let v : s < k.sort_on.c.stops = omega (arith, k.sort_on.same.stops) in
            cut.sixth s h ∙ answered_marked k.sort_on.settings k.sort_on.t k.sort_on.c x.n.departures k.stop_runs k.sort_areas k.sorting_answered s
            ∙ sym (mark_same k.sort_on.t k.sort_on.c x.t x.n.timetable sort_facts.sane.runs k.sort_on.same (callers_list x k s) (callers_known s v));
        lines_built = lines_facts.counted ∙ sym (lines_same k.lines_on.t k.lines_on.c x.t x.n.timetable lines_facts.facts.sound.runs k.lines_on.same);
        line_built = λ i h.
            let v : i < k.lines_on.c.trips = omega (arith, k.lines_on.same.trips) in
            line_told i v ∙ sym (line_same k.lines_on.t k.lines_on.c x.t x.n.timetable lines_facts.facts.sound.runs k.lines_on.same i v);
        lists_built = lists_same k.lines_on.t k.lines_on.c x.t x.n.timetable lines_facts.facts.sound.runs k.lines_on.same (tables_of x).line
            (subst (λ (r : List ℕ). AsBuilt T1 (line_trips_in r (line_entries x.built x.n))) (sym (cut.second ∙ ap (take (x.n.lines * 2)) out_runs))
            (subst (λ (e : List ℕ). AsBuilt T1 (line_trips_in (take (x.n.lines * 2) (runs_of T1 k.line_areas.runs)) e)) (sym (cut.third ∙ out_entries))
            (cut_lists T1 k.line_areas.runs x.n.lines lines_facts.counted)));
      }
    where
      line_told : (i : ℕ) → i < k.lines_on.c.trips → get_or x.built i 0 ≡ line_of T1 i
      line_told i h = cut.first i (omega (arith, k.lines_on.same.trips)) ∙ ap (λ (l : List ℕ). get_or l i 0) out_lines ∙ get_d_tab (line_of T1) k.lines_on.c.trips i 0 h
