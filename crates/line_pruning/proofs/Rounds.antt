-- A new round; a new query; what other calls leave alone. Assumes nothing.
use Prim.Native.Nat.{ℕ, zero, suc, ◌+◌, ◌-◌, ◌≤◌, ◌<◌}
use mathlib.Core.Path.{◌≡◌, refl, sym, ap, ◌∙◌}
use mathlib.Core.Bool.{Bool, true, cond}
use mathlib.Core.List.{List, []}
use native.Mathlib.Omega.{arith}
use lib.ListN.{length, get_or, take, drop, replicate}
use lib.Seq.{drop-drop}
use borrow.Author.Tests.{ne_eqb}
use Rattle.query_types.specs.declared.Lay.{Lay}
use Rattle.search_state.specs.Part.{part}
use Rattle.search_state.specs.Places.{Same}
use Rattle.query_types.specs.Layout.{rest_at, work_size, positions_at, trip_stamps_at, boarded_offsets_at, boarded_departures_at, line_stamps_at, heads_at, least_at}
use Rattle.search_state.proofs.Part.{drop_at, part_same}
use Rattle.model.specs.Tables.{Tables, Query, position, trips}
use Rattle.model.specs.Search.{State, Boardings, line_at, dominated, round_start, new_boardings}
use Rattle.line_pruning.specs.Chain.{chain_first, chain_from, chain, is_in, some_before}
use Rattle.line_pruning.specs.Books.{Chains, Books}
use Rattle.line_pruning.proofs.Chains.{chain_high, some_kept}
use Rattle.line_pruning.proofs.Reading.{never}

-- no line bears the stamp: every chain is empty
module _ (lay : Lay) (stamp : ℕ) (w : List ℕ) where
  no_first : (l : ℕ) → get_or w (line_stamps_at lay + l) 0 < stamp → chain_first lay stamp w l ≡ 0
  unfolding chain_first
  no_first l h = ap (λ (b : Bool). cond b (get_or w (heads_at lay + l) 0) 0) (ne_eqb (get_or w (line_stamps_at lay + l) 0) stamp (λ e. omega (arith, e, h)))

  nothing : (k : ℕ) → chain_from lay w k 0 ≡ []
  unfolding chain_from
  nothing zero = refl
  nothing (suc k) = refl

  no_chain : (l : ℕ) → get_or w (line_stamps_at lay + l) 0 < stamp → chain lay stamp w l ≡ []
  no_chain l h = ap (chain_from lay w lay.trips) (no_first l h) ∙ nothing lay.trips

  not_in : (l x : ℕ) → get_or w (line_stamps_at lay + l) 0 < stamp → is_in x (chain lay stamp w l) ≡ true → ⊥
  unfolding is_in
  not_in l x h z = never (ap (is_in x) (sym (no_chain l h)) ∙ z)

  no_test : (T : Tables) (Q : Query) (t o l : ℕ) → get_or w (line_stamps_at lay + l) 0 < stamp → dominated T Q t o [] ≡ some_before lay w (position T t) o (chain lay stamp w l)
  unfolding dominated some_before
  no_test T Q t o l h = sym (ap (some_before lay w (position T t) o) (no_chain l h))

  -- with all stamps lower
  chains_none : ((l : ℕ) → l < lay.lines → get_or w (line_stamps_at lay + l) 0 < stamp) → ((t : ℕ) → t < lay.trips → get_or w (trip_stamps_at lay + t) 0 < stamp) → Chains lay stamp w
  chains_none f g =
      record {
        inside = λ l x h z. absurd (not_in l x (f l h) z);
        stamped = λ l x h z. absurd (not_in l x (f l h) z);
        short = λ l h. let e : length (chain lay stamp w l) ≡ 0 = ap length (no_chain l (f l h)) in omega (arith, e);
        line_stamps = λ l h. let u = f l h in omega (arith, u);
        trip_stamps = λ t h. let u = g t h in omega (arith, u);
      }

-- A NEW ROUND: the next stamp, no line boarded, no change in memory
pub chains_next : (lay : Lay) (stamp : ℕ) (w : List ℕ) → Chains lay stamp w → Chains lay (suc stamp) w
chains_next lay stamp w ch =
    chains_none lay (suc stamp) w (λ l h. let u = ch.line_stamps l h in omega (arith, u)) (λ t h. let u = ch.trip_stamps t h in omega (arith, u))

pub books_next : (lay : Lay) (stamp : ℕ) (T : Tables) (Q : Query) (w : List ℕ) (s : State) → Chains lay stamp w → Books lay stamp T Q w s.boardings
    → Books lay (suc stamp) T Q w (round_start T Q s).boardings
books_next lay stamp T Q w s ch bk =
    let f : (l : ℕ) → l < lay.lines → get_or w (line_stamps_at lay + l) 0 < suc stamp = λ l h. let u = ch.line_stamps l h in omega (arith, u) in
    record {
      trip_stamp = bk.trip_stamp;
      board_offset = bk.board_offset;
      board_departure = bk.board_departure;
      own = λ l x h z. absurd (not_in lay (suc stamp) w l x (f l h) z);
      held = λ t h e p. absurd (let u = ch.trip_stamps t h in omega (arith, u, e));
      test = λ t o h. no_test lay (suc stamp) w T Q t o (line_at T t) (f (line_at T t) h);
    }

-- A NEW QUERY: its numbers from the trip stamps on are zero, so no trip is boarded
pub chains_zero : (lay : Lay) (w : List ℕ) → ((i : ℕ) → trip_stamps_at lay ≤ i → get_or w i 0 ≡ 0) → Chains lay 1 w
chains_zero lay w z =
    chains_none lay 1 w (λ l h. let u = z (line_stamps_at lay + l) (omega arith) in omega (arith, u)) (λ t h. let u = z (trip_stamps_at lay + t) (omega arith) in omega (arith, u))

pub books_zero : (lay : Lay) (T : Tables) (Q : Query) (w : List ℕ) → length w ≡ work_size lay → trips T ≡ lay.trips → ((i : ℕ) → trip_stamps_at lay ≤ i → get_or w i 0 ≡ 0)
    → Books lay 1 T Q w (new_boardings T Q)
books_zero lay T Q w ok e z =
    let f : (l : ℕ) → get_or w (line_stamps_at lay + l) 0 < 1 = λ l. let u = z (line_stamps_at lay + l) (omega arith) in omega (arith, u) in
    record {
      trip_stamp = zeros (trip_stamps_at lay) (omega arith) (omega (arith, ok));
      board_offset = zeros (boarded_offsets_at lay) (omega arith) (omega (arith, ok));
      board_departure = zeros (boarded_departures_at lay) (omega arith) (omega (arith, ok));
      own = λ l x h q. absurd (not_in lay 1 w l x (f l) q);
      held = λ t h d p. absurd (let u = z (trip_stamps_at lay + t) (omega arith) in omega (arith, u, d));
      test = λ t o h. no_test lay 1 w T Q t o (line_at T t) (f (line_at T t));
    }
  where
    zeros : (s : ℕ) → trip_stamps_at lay ≤ s → s + lay.trips ≤ length w → replicate (trips T) 0 ≡ part w s lay.trips
    zeros s h r = ap (λ (n : ℕ). replicate n 0) e ∙ sym (part_same w s lay.trips 0 r (λ i u. z (s + i) (omega (arith, h))))

-- where all from `rest_at` on is as it came
module _ (lay : Lay) (stamp : ℕ) (w w' : List ℕ) (rest : drop (rest_at lay) w' ≡ drop (rest_at lay) w) where
  at : (i : ℕ) → rest_at lay ≤ i → get_or w' i 0 ≡ get_or w i 0
  at i h =
      let e : rest_at lay + (i - rest_at lay) ≡ i = omega (arith, h) in
      ap (λ (x : ℕ). get_or w' x 0) (sym e) ∙ drop_at w w' (rest_at lay) (i - rest_at lay) rest ∙ ap (λ (x : ℕ). get_or w x 0) e

  section : (a : ℕ) → rest_at lay ≤ a → part w' a lay.trips ≡ part w a lay.trips
  unfolding part
  section a h =
      let e : rest_at lay + (a - rest_at lay) ≡ a = omega (arith, h) in
      let f : drop a w' ≡ drop a w =
      ap (λ (x : ℕ). drop x w') (sym e) ∙ sym (drop-drop (a - rest_at lay) (rest_at lay) w') ∙ ap (drop (a - rest_at lay)) rest
      ∙ drop-drop (a - rest_at lay) (rest_at lay) w ∙ ap (λ (x : ℕ). drop x w) e in
      ap (take lay.trips) f

  chain_same : (l : ℕ) → chain lay stamp w' l ≡ chain lay stamp w l
  chain_same l = chain_high lay w w' stamp l (λ i h. at i (omega (arith, h)))

  in_same : (l x : ℕ) → is_in x (chain lay stamp w' l) ≡ true → is_in x (chain lay stamp w l) ≡ true
  in_same l x z = ap (is_in x) (sym (chain_same l)) ∙ z

  pub chains_rest : Chains lay stamp w → Chains lay stamp w'
  chains_rest ch =
      record {
        inside = λ l x h z. ch.inside l x h (in_same l x z);
        stamped = λ l x h z. at (trip_stamps_at lay + x) (omega arith) ∙ ch.stamped l x h (in_same l x z);
        short = λ l h. rw (chain_same l, section (trip_stamps_at lay) (omega arith)) (ch.short l h);
        line_stamps = λ l h. rw (at (line_stamps_at lay + l) (omega arith)) (ch.line_stamps l h);
        trip_stamps = λ t h. rw (at (trip_stamps_at lay + t) (omega arith)) (ch.trip_stamps t h);
      }

  pub books_rest : (T : Tables) (Q : Query) (b : Boardings) → Books lay stamp T Q w b → Books lay stamp T Q w' b
  books_rest T Q b bk =
      record {
        trip_stamp = bk.trip_stamp ∙ sym (section (trip_stamps_at lay) (omega arith));
        board_offset = bk.board_offset ∙ sym (section (boarded_offsets_at lay) (omega arith));
        board_departure = bk.board_departure ∙ sym (section (boarded_departures_at lay) (omega arith));
        own = λ l x h z. bk.own l x h (in_same l x z);
        held = λ t h e p. ap (is_in t) (chain_same (line_at T t)) ∙ bk.held t h (sym (at (trip_stamps_at lay + t) (omega arith)) ∙ e) p;
        test = λ t o h. bk.test t o h
            ∙ sym (ap (some_before lay w' (position T t) o) (chain_same (line_at T t))
            ∙ some_kept lay w w' (position T t) o (chain lay stamp w (line_at T t)) (λ x z. at (positions_at lay + x) (omega arith)) (λ x z. at (least_at lay + x) (omega arith)));
      }

-- WHAT ARRIVALS LEAVE ALONE
module _ (lay : Lay) (stamp : ℕ) (w w' : List ℕ) (same : Same lay w w') where
  pub chains_kept : Chains lay stamp w → Chains lay stamp w'
  chains_kept ch = chains_rest lay stamp w w' same.rest ch

  pub books_kept : (T : Tables) (Q : Query) (b : Boardings) → Books lay stamp T Q w b → Books lay stamp T Q w' b
  books_kept T Q b bk = books_rest lay stamp w w' same.rest T Q b bk
