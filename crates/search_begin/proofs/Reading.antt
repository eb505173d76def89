-- What an admitted query's slices give to those who read them. Assumes nothing.
use Prim.Native.Nat.{ℕ, ◌+◌, ◌*◌, ◌≤◌, ◌<◌}
use mathlib.Core.Path.{◌≡◌, refl, sym, ap, ap₂, ◌∙◌, subst}
use mathlib.Core.List.{List}
use native.Mathlib.Omega.{arith}
use lib.ListN.{length, get_or}
use lib.Dec.{eqb}
use lib.Ieee.{Float}
use Rattle.loops.specs.Count.{tab}
use Rattle.loops.proofs.Count.{tab_ext}
use Rattle.tables.specs.Sane.{Sane}
use Rattle.search_begin.specs.Fill.{egress_of, egress_row_from}
use Rattle.query_types.specs.declared.Lined.{Lined}
use Rattle.target_resolving.specs.Resolving.{lined_of}
use Rattle.arc_flags.specs.Flags.{egress_rows}
use Rattle.arc_flags.specs.Skipping.{target_words, EgressIn}
use Rattle.tables.specs.Timetable.{timetable}
use Rattle.tables.specs.declared.Counts.{Counts}
use Rattle.delay_rows.specs.Delays.{margin}
use Rattle.delay_rows.specs.Flat.{delay_tables}
use Rattle.model.specs.Tables.{Tables, Query}
use Rattle.query_types.specs.declared.Net.{Net}
use Rattle.query_types.specs.Layout.{events_at, lay_of}
use Rattle.query_types.specs.declared.QueryCounts.{QueryCounts}
use Rattle.query_types.specs.declared.Lengths.{Lengths}
use Rattle.query_input.specs.Lent.{egress_at, query_size, delay_rows, stop_rows, transfer_runs_at, egress_part, egress_stop, Lent, lent, tables_of, query_of}
use Rattle.query_input.specs.Sane.{Admitted}
use Rattle.query_input.proofs.Parts.{part_at, egress_size, egress_are, marks_room, query_room}
use Rattle.search_begin.specs.Begin.{net_of, Lends, Askable}
use Rattle.search_begin.specs.Laying.{Layable, Origins}

-- what is lent is what the slices say, beside a transfer area and patterns
pub lends_is : {x : Lent} {n : QueryCounts} {t built q : List ℕ} {distances : List Float} → Lends x n t built distances q
    → x ≡ lent n t built x.transfers x.patterns distances q
lends_is {x} e = λ i. lent (e.counts i) (e.timetable_is i) (e.built-is i) x.transfers x.patterns (e.distances-are i) (e.query-is i)

pub admitted_as : {x : Lent} {l : Lengths} {n : QueryCounts} {t built q : List ℕ} {distances : List Float} → Admitted x l → Lends x n t built distances q
    → Admitted (lent n t built x.transfers x.patterns distances q) l
admitted_as {l = l} A e = subst (λ (y : Lent). Admitted y l) (lends_is e) A

pub askable_as : {n : QueryCounts} {t built q : List ℕ} {distances : List Float} (a : Askable n t built distances q)
    → Admitted (lent n t built a.x.transfers a.x.patterns distances q) a.l
askable_as a = admitted_as a.admitted a.lends

-- the egress rows of scratch are the query's
pub egress-rows : (q : List ℕ) (n : QueryCounts) → egress_of q (egress_at n) n.egress ≡ tab (egress_stop q n) n.egress
unfolding egress_of
egress-rows q n =
    tab_ext (egress_row_from q (egress_at n)) (egress_stop q n) n.egress
    (λ k u.
    let a : egress_at n + 2 * k ≡ egress_at n + k * 2 = omega arith in
    let b : egress_at n + 2 * k + 1 ≡ egress_at n + 1 + k * 2 = omega arith in
    ap₂ (λ (i j : ℕ). (get_or q i 0, get_or q j 0)) a b)

module _ (x : Lent) (l : Lengths) (A : Admitted x l) where
  pub sane_of : Sane x.t x.n.timetable
  sane_of = record { counts = A.limits.counts; slices = A.sized.slices; runs = A.placed.trips; numbers = A.numbered.numbers; ranges = A.ranged.ranges }

  pub egress_in : EgressIn x.n.timetable (egress_part x.q x.n)
  egress_in =
      let s = egress_size x.q x.n (query_room A.sized) in
      record {
        few = omega (arith, s, A.limits.egress);
        stop = λ i h.
            let u : i < x.n.egress = omega (arith, h, s) in
            rw (part_at x.q (egress_at x.n) (x.n.egress * 2) (i * 2) (omega (arith, u))) (A.numbered.egress i u);
      }

  pub layable : Layable x.n x.t x.built x.q
  layable =
      record {
        lines = record { limits = A.limits; marks = marks_room A.sized; lines = A.lines };
        sane = sane_of;
        query = query_room A.sized;
        egress = record {
          room = let s = query_room A.sized in omega (arith, s);
          stop = λ k h. let a : egress_at x.n + 2 * k ≡ egress_at x.n + k * 2 = omega arith in rw a (A.numbered.egress k h);
          walk = λ k h. let a : egress_at x.n + 2 * k + 1 ≡ egress_at x.n + 1 + k * 2 = omega arith in rw a (A.ranged.egress k h);
        };
      }

  pub origins_of : Origins x.n x.n.timetable.stops x.q (length x.distances)
  origins_of =
      record {
        few = A.limits.origins;
        edges = A.limits.counts.edges;
        room = let s = query_room A.sized in omega (arith, s);
        metres = let s = A.lengthy.distances_is in omega (arith, s);
        start = A.ranged.start;
        stop = A.numbered.origin;
        walk = A.ranged.origin;
      }

pub egress_read : {c : Counts} {r rows : List ℕ} → EgressIn c rows → r ≡ rows → EgressIn c r
egress_read p e = rw e p

-- WHERE THE TABLES STAND, read part by part
pub net_is : (n : QueryCounts) (t built q : List ℕ) (distances : List Float) (x : Lent) → Lends x n t built distances q → query_size n ≤ length q
    → (rows stops egress : List ℕ) → rows ≡ delay_rows q n → stops ≡ stop_rows q n → egress ≡ egress_part q n
    → (lined : Lined) (size runs events : ℕ) (target : List ℕ) → lined ≡ lined_of n.timetable n.lines → size ≡ margin (delay_tables rows stops) n.settings.margin_cap
    → ((T : Tables) (Q : Query) → T.timetable ≡ timetable t n.timetable → T.cells ≡ n.cells → Q.egress ≡ egress_rows egress → target ≡ target_words T Q)
    → runs ≡ transfer_runs_at n → events ≡ events_at (lay_of n)
    → ◌≡◌ {A = Net}
    (record { lined = lined; terms = record { modes = get_or q 4 0; wheelchair = eqb (get_or q 5 0) 1; margin = size; line_scan = n.settings.line_scan }; patterns = n.patterns; target = target; runs = runs; events = events })
    (net_of x)
net_is n t built q distances x e room rows stops egress er es ee lined size runs events target el em et eu ev =
    let y : Lent = lent n t built x.transfers x.patterns distances q in
    let m : size ≡ margin (delay_tables (delay_rows q n) (stop_rows q n)) n.settings.margin_cap = em ∙ ap₂ (λ (a b : List ℕ). margin (delay_tables a b) n.settings.margin_cap) er es in
    let g : target ≡ target_words (tables_of y) (query_of y) = et (tables_of y) (query_of y) refl refl (sym (ap egress_rows ee ∙ egress_are q n room)) in
    (λ i. record {
      lined = el i;
      terms = record { modes = get_or q 4 0; wheelchair = eqb (get_or q 5 0) 1; margin = m i; line_scan = n.settings.line_scan };
      patterns = n.patterns;
      target = g i;
      runs = eu i;
      events = ev i;
    }) ∙ ap net_of (sym (lends_is e))
