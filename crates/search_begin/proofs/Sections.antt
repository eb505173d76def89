-- A section filled: by a part of the slice that is lent to a call, number by number, the running sum of the stop-time counts. Assumes nothing.
use Prim.Native.Nat.{ℕ, ◌+◌, ◌*◌, ◌-◌, ◌≤◌, ◌<◌}
use mathlib.Core.Path.{◌≡◌, refl, sym, ap, ap₂, ◌∙◌}
use mathlib.Core.List.{List}
use native.Mathlib.Omega.{arith}
use lib.ListN.{length, get_or, set, take, drop, replicate, length-set, length-drop}
use lib.Seq.{length-take-le, get_or-take, get_or-set_same, get_or-set_other}
use borrow.Rule.Slice.PartMut.{put_mid}
use Rattle.loops.specs.Count.{tab}
use Rattle.loops.proofs.Count.{length_tab_from, get_d_tab}
use Rattle.sorts.specs.Sort.{within}
use Rattle.sorts.proofs.Within.{put_within, within_length, within_take, within_drop, within_slice}
use Rattle.tables.specs.declared.Counts.{Counts}
use Rattle.tables.specs.Timetable.{Timetable, timetable}
use Rattle.tables.specs.Tables.{count_of}
use Rattle.tables.specs.Sane.{Sane}
use Rattle.departures.proofs.Parts.{get_d_slice}
use Rattle.line_layout.specs.Layout.{line_trips_in, position_in, fifo_of, positions_of, fifos_of}
use Rattle.line_layout.specs.Listed.{LinesListed}
use Rattle.event_transfers.specs.Transfers.{events_before}
use Rattle.event_transfers.proofs.Counting.{events_step}
use Rattle.search_state.proofs.Part.{drop_at, tab_one}
use Rattle.words.specs.Filled.{Filled}
use Rattle.words.proofs.Filling.{same_or}
use Rattle.search_begin.specs.Laying.{Put}

pub put_none : (a : ℕ) (f : ℕ → ℕ) (w : List ℕ) → Put a 0 f w w
put_none a f w = record { size = refl; inside = λ i h. absurd (omega arith); below = λ i h. refl; above = λ i h. refl }

pub put_more : (a i : ℕ) (f : ℕ → ℕ) (w w' : List ℕ) (v : ℕ) → Put a i f w w' → v ≡ f i → a + i < length w' → Put a (i + 1) f w (set w' (a + i) v)
put_more a i f w w' v p e h =
    record {
      size = length-set w' (a + i) v ∙ p.size;
      inside = λ k u. same_or k i
          (λ q. rw q (get_or-set_same w' (a + i) v 0 h ∙ e))
          (λ n. get_or-set_other w' (a + i) (a + k) v 0 (λ q. n (omega (arith, q))) ∙ p.inside k (omega (arith, u, n)));
      below = λ k u. get_or-set_other w' (a + i) k v 0 (λ q. omega (arith, q, u)) ∙ p.below k u;
      above = λ k u. get_or-set_other w' (a + i) k v 0 (λ q. omega (arith, q, u)) ∙ p.above k (omega (arith, u));
    }

-- the part from a up to e, lent to a call that writes f 0, f 1, .. into it
pub put_part : (a e n : ℕ) (f : ℕ → ℕ) (w z : List ℕ) → a + n ≡ e → e ≤ length w → z ≡ tab f n → Put a n f w (put_mid a (e - a) w z)
put_part a e n f w z s h g =
    let le : a ≤ e = omega (arith, s) in
    let is : put_mid a (e - a) w z ≡ within a e z w = put_within a e w z le in
    let long : length z ≡ e - a = let r : n ≡ e - a = omega (arith, s) in ap length g ∙ length_tab_from f 0 n ∙ r in
    rw is
    record {
      size = within_length a e z w le h long;
      inside = λ i u. sym (get_d_slice a e (within a e z w) i 0 (omega (arith, u, s))) ∙ ap (λ (l : List ℕ). get_or l i 0) (within_slice a e z w le h long ∙ g) ∙ get_d_tab f n i 0 u;
      below = λ i u. sym (get_or-take a (within a e z w) i 0 u) ∙ ap (λ (l : List ℕ). get_or l i 0) (within_take a e z w le h long a (omega arith)) ∙ get_or-take a w i 0 u;
      above = λ i u.
          let r : e + (i - e) ≡ i = omega (arith, u, s) in
          rw r at (drop_at w (within a e z w) e (i - e) (within_drop a e z w le h long e (omega arith)));
    }

-- how long that part is
pub part_long : (a e n : ℕ) (w : List ℕ) → a + n ≡ e → e ≤ length w → length (take (e - a) (drop a w)) ≡ n
part_long a e n w s h = let r : e - a ≡ n = omega (arith, s) in length-take-le (e - a) (drop a w) (simp length-drop (omega (arith, s, h))) ∙ r

-- the part from a up to e, filled with one number
pub fill_part : (a e v : ℕ) (w z : List ℕ) → a ≤ e → e ≤ length w → z ≡ replicate (length (take (e - a) (drop a w))) v → Filled a e v w (put_mid a (e - a) w z)
fill_part a e v w z s h g =
    let r : a + (e - a) ≡ e = omega (arith, s) in
    let p = put_part a e (e - a) (λ i. v) w z r h (g ∙ ap (λ (n : ℕ). replicate n v) (part_long a e (e - a) w r h) ∙ sym (tab_one v 0 (e - a))) in
    record {
      size = p.size;
      inside = λ i u l. let q : a + (i - a) ≡ i = omega (arith, u) in rw q at (p.inside (i - a) (omega (arith, u, l)));
      below = p.below;
      above = λ i u. p.above i (omega (arith, r, u));
    }

-- the same with the ends by other names
pub filled_at : {a b v : ℕ} {w z : List ℕ} (n : ℕ) → a ≡ b → Filled a (a + n) v w z → Filled b (b + n) v w z
filled_at n e f = rw (sym e) f

-- the lines by their sections
pub lines_read : {c : Counts} {n : ℕ} {r s runs entries : List ℕ} → LinesListed c n runs entries → r ≡ runs → s ≡ entries → LinesListed c n r s
lines_read p e f = rw (e, f) p

pub positions_read : (c : Counts) (lines m : ℕ) (z r s runs entries : List ℕ) → z ≡ positions_of c lines r s → r ≡ runs → s ≡ entries → m ≡ c.trips
    → z ≡ tab (position_in (line_trips_in runs entries) lines) m
positions_read c lines m z r s runs entries p e f g = p ∙ ap₂ (λ (x y : List ℕ). positions_of c lines x y) e f ∙ ap (tab (position_in (line_trips_in runs entries) lines)) (sym g)

pub fifos_read : (T : Timetable) (lines m : ℕ) (z r s runs entries : List ℕ) → z ≡ fifos_of T lines r s → r ≡ runs → s ≡ entries → m ≡ lines
    → z ≡ tab (fifo_of T runs entries) m
fifos_read T lines m z r s runs entries p e f g = p ∙ ap₂ (λ (x y : List ℕ). fifos_of T lines x y) e f ∙ ap (tab (fifo_of T runs entries)) (sym g)

-- THE EVENTS BEFORE EACH TRIP, i of them written
pub record Running (t : List ℕ) (c : Counts) (a trips : ℕ) (w w' : List ℕ) (before i : ℕ) : Type 0 where
  pub few : i ≤ trips
  pub trips_are : trips ≡ c.trips
  pub sane : Sane t c
  pub room : a + trips ≤ length w
  pub sum : before ≡ events_before (timetable t c) i
  pub small : before ≤ i * 65536
  pub put : Put a i (events_before (timetable t c)) w w'

pub running_none : (t : List ℕ) (c : Counts) (a trips : ℕ) (w : List ℕ) → trips ≡ c.trips → Sane t c → a + trips ≤ length w → Running t c a trips w w 0 0
unfolding events_before
running_none t c a trips w e s r =
    record { few = omega arith; trips_are = e; sane = s; room = r; sum = refl; small = omega arith; put = put_none a (events_before (timetable t c)) w }

module _ {t : List ℕ} {c : Counts} {a trips : ℕ} {w w' : List ℕ} {before i : ℕ} (r : Running t c a trips w w' before i) (h : i < trips) where
  pub running_count : count_of t c i ≤ 65536
  running_count = omega (arith, r.sane.runs.run i (omega (arith, h, r.trips_are)), r.sane.counts.times)

  pub running_again : (m : ℕ) → m ≡ count_of t c i → Running t c a trips w (set w' (a + i) before) (before + m) (i + 1)
  running_again m e =
      record {
        few = omega arith;
        trips_are = r.trips_are;
        sane = r.sane;
        room = r.room;
        sum = omega (arith, r.sum, e, events_step (timetable t c) i);
        small = omega (arith, r.small, e, running_count);
        put = put_more a i (events_before (timetable t c)) w w' before r.put r.sum (omega (arith, r.put.size, r.room, h));
      }
