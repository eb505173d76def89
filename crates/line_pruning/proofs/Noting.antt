-- A boarding noted in memory is the model's. Assumes nothing.
use Prim.Native.Nat.{ℕ, ◌+◌, ◌*◌, ◌≤◌, ◌<◌}
use mathlib.Core.Path.{◌≡◌, refl, sym, ap, ap₂, ◌∙◌}
use mathlib.Core.Logic.{◌⊎◌, inl, inr}
use mathlib.Core.Bool.{Bool, true, false, cond, not, ◌&&◌, ◌||◌}
use mathlib.Core.List.{List, ◌∷◌}
use native.Mathlib.Omega.{arith}
use lib.ListN.{length, get_or, set, take, drop, length-set}
use lib.Seq.{get_or-set_same, get_or-set_other, take-set-le, drop-set-lt}
use lib.Dec.{ltb, leb, eqb}
use borrow.Author.Tests.{eqb-true, eqb-false, ltb-true}
use Rattle.loops.specs.Count.{one}
use Rattle.loops.specs.Iter.{Hit}
use Rattle.loops.proofs.Iter.{and_left, and_right}
use Rattle.tables.specs.declared.Counts.{Counts}
use Rattle.line_layout.specs.Layout.{fifo_line}
use Rattle.query_types.specs.declared.Lay.{Lay}
use Rattle.search_state.specs.Part.{part, tally}
use Rattle.search_state.specs.Places.{WorkSized}
use Rattle.search_state.proofs.Part.{part_at, part_in, part_below, part_above, part_length}
use Rattle.target_resolving.specs.Resolving.{lined_of}
use Rattle.target_resolving.proofs.Lines.{line_known}
use Rattle.model.specs.Tables.{Tables, Query, position, fifo}
use Rattle.model.specs.Search.{Boardings, line_at, delay_of, undelayed, prunable, dominated, board}
use Rattle.query_types.specs.Layout.{positions_at, trip_stamps_at, boarded_offsets_at, boarded_departures_at, line_stamps_at, least_at}
use Rattle.line_pruning.specs.Chain.{chain, is_in, some_before, linked, lowered, listed, stamped_as}
use Rattle.line_pruning.specs.Books.{Agrees, Chains, Books, Noted}
use Rattle.line_pruning.proofs.Chains.{same_or, part_ext, tally_grow, some_kept, chain_high}
use Rattle.line_pruning.proofs.Stages.{Stage, Tests, none_stage, none_tests, lower_stage, lower_tests, link_stage, link_tests}

and_assoc : (a b c : Bool) → ((a && b) && c) ≡ (a && (b && c))
and_assoc true b c = refl
and_assoc false b c = refl

-- a trip that may prune has a line
prunable_line : (T : Tables) (Q : Query) (adj : Hit) (t : ℕ) → prunable T Q adj t ≡ true → line_at T t < T.lines
unfolding fifo
prunable_line T Q adj t e =
    ltb-true (line_at T t) T.lines (and_left (ltb (line_at T t) T.lines) (fifo_line T.timetable (T.line (line_at T t))) (and_right (undelayed adj) (fifo T (line_at T t)) e))

pub line-is : (T : Tables) (lay : Lay) (c : Counts) (built w : List ℕ) (t l : ℕ) → Agrees T lay c built w → t < lay.trips → l ≡ get_or built t 0 → l ≡ line_at T t
line-is T lay c built w t l ag h e =
    line_known T c (lined_of c lay.lines) built w (ag.trips ∙ sym ag.counted) ag.lines t l (omega (arith, ag.counted, h)) e

pub position_is : (T : Tables) (lay : Lay) (c : Counts) (built w : List ℕ) (t : ℕ) → Agrees T lay c built w → t < lay.trips → position T t ≡ get_or w (positions_at lay + t) 0
position_is T lay c built w t ag h =
    let e : c.stops * 5 + c.trips + 128 + t ≡ positions_at lay + t = omega (arith, ag.stops, ag.counted) in
    ag.lines.position t (omega (arith, ag.counted, h)) ∙ ap (λ (x : ℕ). get_or w x 0) e

module _ (lay : Lay) (stamp : ℕ) (w w1 : List ℕ) (ok : WorkSized lay (length w)) (ch : Chains lay stamp w) (l t o dep : ℕ) (ht : t < lay.trips)
    (st : Stage lay stamp l t w w1) where
  abbrev x1 : List ℕ
  x1 = set w1 (trip_stamps_at lay + t) stamp

  abbrev x2 : List ℕ
  x2 = set x1 (boarded_offsets_at lay + t) o

  abbrev x3 : List ℕ
  x3 = set x2 (boarded_departures_at lay + t) dep

  away : (i : ℕ) → (i ≡ trip_stamps_at lay + t → ⊥) → (i ≡ boarded_offsets_at lay + t → ⊥) → (i ≡ boarded_departures_at lay + t → ⊥) → get_or x3 i 0 ≡ get_or w1 i 0
  away i a b c =
      get_or-set_other x2 (boarded_departures_at lay + t) i dep 0 c ∙ get_or-set_other x1 (boarded_offsets_at lay + t) i o 0 b ∙ get_or-set_other w1 (trip_stamps_at lay + t) i stamp 0 a

  high : (i : ℕ) → line_stamps_at lay ≤ i → get_or x3 i 0 ≡ get_or w1 i 0
  high i h = away i (λ e. omega (arith, e, h, ht)) (λ e. omega (arith, e, h, ht)) (λ e. omega (arith, e, h, ht))

  chain3 : (m : ℕ) → chain lay stamp x3 m ≡ chain lay stamp w1 m
  chain3 m = chain_high lay w1 x3 stamp m high

  stamp_at : get_or x3 (trip_stamps_at lay + t) 0 ≡ stamp
  stamp_at =
      get_or-set_other x2 (boarded_departures_at lay + t) (trip_stamps_at lay + t) dep 0 (λ e. omega (arith, e, ht))
      ∙ get_or-set_other x1 (boarded_offsets_at lay + t) (trip_stamps_at lay + t) o 0 (λ e. omega (arith, e, ht))
      ∙ get_or-set_same w1 (trip_stamps_at lay + t) stamp 0 (omega (arith, st.size, ok.words, ht))

  stamp_other : (x : ℕ) → x < lay.trips → (x ≡ t → ⊥) → get_or x3 (trip_stamps_at lay + x) 0 ≡ get_or w (trip_stamps_at lay + x) 0
  stamp_other x h n =
      away (trip_stamps_at lay + x) (λ e. n (let q : x ≡ t = omega (arith, e) in q)) (λ e. omega (arith, e, h)) (λ e. omega (arith, e, h))
      ∙ st.below (trip_stamps_at lay + x) (omega (arith, h))

  section : (a : ℕ) → a + lay.trips ≤ line_stamps_at lay → part w1 a lay.trips ≡ part w a lay.trips
  section a h = part_ext w w1 a lay.trips st.size (omega (arith, ok.words, h)) (λ i u. st.below (a + i) (omega (arith, h, u)))

  stamps3 : part x3 (trip_stamps_at lay) lay.trips ≡ set (part w (trip_stamps_at lay) lay.trips) t stamp
  stamps3 =
      part_above x2 (trip_stamps_at lay) lay.trips (boarded_departures_at lay + t) dep (omega arith) ∙ part_above x1 (trip_stamps_at lay) lay.trips (boarded_offsets_at lay + t) o (omega arith)
      ∙ part_in w1 (trip_stamps_at lay) lay.trips t stamp ht ∙ ap (λ (s : List ℕ). set s t stamp) (section (trip_stamps_at lay) (omega arith))

  offsets3 : part x3 (boarded_offsets_at lay) lay.trips ≡ set (part w (boarded_offsets_at lay) lay.trips) t o
  offsets3 =
      part_above x2 (boarded_offsets_at lay) lay.trips (boarded_departures_at lay + t) dep (omega arith) ∙ part_in x1 (boarded_offsets_at lay) lay.trips t o ht
      ∙ ap (λ (s : List ℕ). set s t o) (part_below w1 (boarded_offsets_at lay) lay.trips (trip_stamps_at lay + t) stamp (omega (arith, ht)) ∙ section (boarded_offsets_at lay) (omega arith))

  departures3 : part x3 (boarded_departures_at lay) lay.trips ≡ set (part w (boarded_departures_at lay) lay.trips) t dep
  departures3 =
      part_in x2 (boarded_departures_at lay) lay.trips t dep ht
      ∙ ap (λ (s : List ℕ). set s t dep) (part_below x1 (boarded_departures_at lay) lay.trips (boarded_offsets_at lay + t) o (omega (arith, ht))
      ∙ part_below w1 (boarded_departures_at lay) lay.trips (trip_stamps_at lay + t) stamp (omega (arith, ht)) ∙ section (boarded_departures_at lay) (omega arith))

  tally3 : tally stamp (part x3 (trip_stamps_at lay) lay.trips) ≡ tally stamp (part w (trip_stamps_at lay) lay.trips) + one (not (eqb (get_or w (trip_stamps_at lay + t) 0) stamp))
  tally3 =
      let e : length (part w (trip_stamps_at lay) lay.trips) ≡ lay.trips = part_length w (trip_stamps_at lay) lay.trips (omega (arith, ok.words)) in
      ap (tally stamp) stamps3 ∙ tally_grow stamp (part w (trip_stamps_at lay) lay.trips) t (omega (arith, e, ht))
      ∙ ap (λ (y : ℕ). tally stamp (part w (trip_stamps_at lay) lay.trips) + one (not (eqb y stamp))) (part_at w (trip_stamps_at lay) lay.trips t ht)

  -- a trip of a chain is t, or was in it
  from : (m x : ℕ) {A : Type 0} → m < lay.lines → is_in x (chain lay stamp w1 m) ≡ true → (x ≡ t → m ≡ l → A) → (is_in x (chain lay stamp w m) ≡ true → A) → A
  from m x {A} h z f g = go (st.members m x h z)
    where
      go : ((x ≡ t) × (m ≡ l)) ⊎ (is_in x (chain lay stamp w m) ≡ true) → A
      go (inl q) = f q.0 q.1
      go (inr q) = g q

  inside1 : (m x : ℕ) → m < lay.lines → is_in x (chain lay stamp w1 m) ≡ true → x < lay.trips
  inside1 m x h z = from m x h z (λ e d. omega (arith, e, ht)) (λ q. ch.inside m x h q)

  in1 : (m x : ℕ) → is_in x (chain lay stamp x3 m) ≡ true → is_in x (chain lay stamp w1 m) ≡ true
  in1 m x z = ap (is_in x) (sym (chain3 m)) ∙ z

  stamped_now : (x : ℕ) → x < lay.trips → get_or w (trip_stamps_at lay + x) 0 ≡ stamp → get_or x3 (trip_stamps_at lay + x) 0 ≡ stamp
  stamped_now x h e = same_or x t (λ q. ap (λ (y : ℕ). get_or x3 (trip_stamps_at lay + y) 0) q ∙ stamp_at) (λ n. stamp_other x h n ∙ e)

  pub chains_after : Chains lay stamp (stamped_as lay stamp t o dep w1)
  chains_after =
      record {
        inside = λ m x h z. inside1 m x h (in1 m x z);
        stamped = λ m x h z. from m x h (in1 m x z) (λ e d. ap (λ (y : ℕ). get_or x3 (trip_stamps_at lay + y) 0) e ∙ stamp_at) (λ q. stamped_now x (ch.inside m x h q) (ch.stamped m x h q));
        short = λ m h. let e : length (chain lay stamp x3 m) ≡ length (chain lay stamp w1 m) = ap length (chain3 m) in omega (arith, e, st.longer m h, ch.short m h, tally3);
        line_stamps = λ m h. rw (high (line_stamps_at lay + m) (omega arith)) (st.line_stamps m h);
        trip_stamps = λ x h. same_or x t (λ q. let e : get_or x3 (trip_stamps_at lay + x) 0 ≡ stamp = ap (λ (y : ℕ). get_or x3 (trip_stamps_at lay + y) 0) q ∙ stamp_at in omega (arith, e))
            (λ n. rw (stamp_other x h n) (ch.trip_stamps x h));
      }

  -- the test is as it was before the stamps
  test3 : (m p c : ℕ) → m < lay.lines → some_before lay x3 p c (chain lay stamp x3 m) ≡ some_before lay w1 p c (chain lay stamp w1 m)
  test3 m p c h =
      ap (some_before lay x3 p c) (chain3 m)
      ∙ some_kept lay w1 x3 p c (chain lay stamp w1 m)
      (λ x z. let u = inside1 m x h z in away (positions_at lay + x) (λ e. omega (arith, e, u)) (λ e. omega (arith, e, u)) (λ e. omega (arith, e, u)))
      (λ x z. high (least_at lay + x) (omega arith))

  pub books_after : (T : Tables) (Q : Query) (c : Counts) (built : List ℕ) (adj : Hit) (prunes : Bool) (round : ℕ) (b : Boardings) → Agrees T lay c built w → adj ≡ delay_of Q t
      → prunes ≡ prunable T Q adj t → l ≡ line_at T t → Tests lay stamp prunes l t o w w1 → Books lay stamp T Q w b
      → Books lay stamp T Q (stamped_as lay stamp t o dep w1) (board T Q round stamp adj t o dep b)
  unfolding board dominated
  books_after T Q c built adj prunes round b ag ea ep el ts bk =
      record {
        trip_stamp = ap (λ (s : List ℕ). set s t stamp) bk.trip_stamp ∙ sym stamps3;
        board_offset = ap (λ (s : List ℕ). set s t o) bk.board_offset ∙ sym offsets3;
        board_departure = ap (λ (s : List ℕ). set s t dep) bk.board_departure ∙ sym departures3;
        own = λ m x h z. from m x h (in1 m x z) (λ e d. ap (line_at T) e ∙ sym el ∙ sym d) (λ q. bk.own m x h q);
        held = λ u hu su pu. same_or u t
            (λ e. ap (λ (y : ℕ). is_in y (chain lay stamp x3 (line_at T y))) e ∙ ap (is_in t) (chain3 (line_at T t)) ∙ ap (λ (y : ℕ). is_in t (chain lay stamp w1 y)) (sym el)
            ∙ ts.has (ep ∙ ap (λ (a : Hit). prunable T Q a t) ea ∙ ap (λ (y : ℕ). prunable T Q (delay_of Q y) y) (sym e) ∙ pu))
            (λ n. ap (is_in u) (chain3 (line_at T u)) ∙ ts.more (line_at T u) u (below u pu) (bk.held u hu (sym (stamp_other u hu n) ∙ su) pu));
        test = λ u k hu.
            ap (λ (x : Bool). dominated T Q u k (cond x ((t, o) ∷ b.line_boards) b.line_boards)) (sym ep) ∙ model u k hu prunes
            ∙ sym (test3 (line_at T u) (position T u) k hu ∙ ts.tests (line_at T u) (position T u) k hu);
      }
    where
      below : (u : ℕ) → prunable T Q (delay_of Q u) u ≡ true → line_at T u < lay.lines
      below u pu = let z = prunable_line T Q (delay_of Q u) u pu in omega (arith, z, ag.lines.lines)

      model : (u k : ℕ) → line_at T u < lay.lines → (x : Bool) → dominated T Q u k (cond x ((t, o) ∷ b.line_boards) b.line_boards)
          ≡ ((x && (eqb l (line_at T u) && (ltb (get_or w (positions_at lay + t) 0) (position T u) && leb o k))) || some_before lay w (position T u) k (chain lay stamp w (line_at T u)))
      model u k hu true =
          ap₂ ◌||◌ (and_assoc (eqb (line_at T t) (line_at T u)) (ltb (position T t) (position T u)) (leb o k)
          ∙ ap₂ (λ (x y : ℕ). eqb x (line_at T u) && (ltb y (position T u) && leb o k)) (sym el) (position_is T lay c built w t ag ht)) (bk.test u k hu)
      model u k hu false = bk.test u k hu

  pub size3 : length (stamped_as lay stamp t o dep w1) ≡ length w
  size3 = length-set x2 (boarded_departures_at lay + t) dep ∙ length-set x1 (boarded_offsets_at lay + t) o ∙ length-set w1 (trip_stamps_at lay + t) stamp ∙ st.size

  pub low3 : take (trip_stamps_at lay) (stamped_as lay stamp t o dep w1) ≡ take (trip_stamps_at lay) w
  low3 =
      take-set-le (trip_stamps_at lay) x2 (boarded_departures_at lay + t) dep (omega arith) ∙ take-set-le (trip_stamps_at lay) x1 (boarded_offsets_at lay + t) o (omega arith)
      ∙ take-set-le (trip_stamps_at lay) w1 (trip_stamps_at lay + t) stamp (omega arith) ∙ st.low

  pub high3 : drop (least_at lay + lay.trips) (stamped_as lay stamp t o dep w1) ≡ drop (least_at lay + lay.trips) w
  high3 =
      drop-set-lt (least_at lay + lay.trips) x2 (boarded_departures_at lay + t) dep (omega (arith, ht)) ∙ drop-set-lt (least_at lay + lay.trips) x1 (boarded_offsets_at lay + t) o (omega (arith, ht))
      ∙ drop-set-lt (least_at lay + lay.trips) w1 (trip_stamps_at lay + t) stamp (omega (arith, ht)) ∙ st.high

module _ (lay : Lay) (stamp : ℕ) (w : List ℕ) (ok : WorkSized lay (length w)) (ch : Chains lay stamp w) (l t o : ℕ) (ht : t < lay.trips) where
  abbrev seen : Bool
  seen = eqb (get_or w (trip_stamps_at lay + t) 0) stamp

  stage : (pr s : Bool) → (pr ≡ true → l < lay.lines) → seen ≡ s → Stage lay stamp l t w (cond pr (cond s (lowered lay t o w) (linked lay stamp l t o w)) w)
  stage true true h e = lower_stage lay stamp w ok ch l t o ht
  stage true false h e = link_stage lay stamp w ok ch l t o ht (h refl) (eqb-false (get_or w (trip_stamps_at lay + t) 0) stamp e)
  stage false s h e = none_stage lay stamp w ch l t o

  tests : (T : Tables) (Q : Query) (b : Boardings) → Books lay stamp T Q w b → l ≡ line_at T t → (pr s : Bool) → (pr ≡ true → l < lay.lines) → seen ≡ s
      → pr ≡ prunable T Q (delay_of Q t) t → Tests lay stamp pr l t o w (cond pr (cond s (lowered lay t o w) (linked lay stamp l t o w)) w)
  tests T Q b bk el true true h e ep =
      lower_tests lay stamp w ok ch l t o ht
      (ap (λ (y : ℕ). is_in t (chain lay stamp w y)) el ∙ bk.held t ht (eqb-true (get_or w (trip_stamps_at lay + t) 0) stamp e) (sym ep))
      (λ m hm z. sym (bk.own m t hm z) ∙ sym el) (h refl)
  tests T Q b bk el true false h e ep = link_tests lay stamp w ok ch l t o ht (h refl) (eqb-false (get_or w (trip_stamps_at lay + t) 0) stamp e)
  tests T Q b bk el false s h e ep = none_tests lay stamp w ch l t o

  -- A BOARDING NOTED
  pub noted : (built : List ℕ) (adj : Hit) (dep : ℕ) (pr : Bool) → (pr ≡ true → l < lay.lines) → l ≡ get_or built t 0
      → ((T : Tables) (Q : Query) (c : Counts) → Agrees T lay c built w → pr ≡ prunable T Q adj t)
      → Noted lay stamp built adj t o dep w (stamped_as lay stamp t o dep (listed lay stamp pr l t o w))
  noted built adj dep pr h el ep =
      let s = stage pr seen h refl in
      let w1 : List ℕ = listed lay stamp pr l t o w in
      record {
        chains = chains_after lay stamp w w1 ok ch l t o dep ht s;
        books = λ T Q c ag ea round b bk.
            let ll : l ≡ line_at T t = line-is T lay c built w t l ag ht el in
            books_after lay stamp w w1 ok ch l t o dep ht s T Q c built adj pr round b ag ea (ep T Q c ag) ll
            (tests T Q b bk ll pr seen h refl (ep T Q c ag ∙ ap (λ (a : Hit). prunable T Q a t) ea)) bk;
        size = size3 lay stamp w w1 ok ch l t o dep ht s;
        below = low3 lay stamp w w1 ok ch l t o dep ht s;
        above = high3 lay stamp w w1 ok ch l t o dep ht s;
      }

  pub noted_as : (built : List ℕ) (adj : Hit) (dep : ℕ) (pr : Bool) → (pr ≡ true → l < lay.lines) → l ≡ get_or built t 0
      → ((T : Tables) (Q : Query) (c : Counts) → Agrees T lay c built w → pr ≡ prunable T Q adj t)
      → (w1 w2 : List ℕ) → w1 ≡ listed lay stamp pr l t o w → w2 ≡ stamped_as lay stamp t o dep w1 → Noted lay stamp built adj t o dep w w2
  noted_as built adj dep pr h el ep w1 w2 e1 e2 = rw (e2 ∙ ap (stamped_as lay stamp t o dep) e1) (noted built adj dep pr h el ep)

-- the length is kept
pub sized_as : (lay : Lay) (w w1 : List ℕ) → WorkSized lay (length w) → {stamp : ℕ} → Chains lay stamp w → {t : ℕ} → t < lay.trips
    → (pr : Bool) (l o : ℕ) → w1 ≡ listed lay stamp pr l t o w → (pr ≡ true → l < lay.lines) → WorkSized lay (length w1)
sized_as lay w w1 ok {stamp} ch {t} ht pr l o e h =
    rw (ap length e ∙ (stage lay stamp w ok ch l t o ht pr (eqb (get_or w (trip_stamps_at lay + t) 0) stamp) h refl).size) ok
