-- What the functions that only read answer. Assumes nothing.
use Prim.Native.Nat.{ℕ, zero, suc, ◌+◌, ◌*◌, ◌-◌, ◌≤◌, ◌<◌}
use mathlib.Core.Path.{◌≡◌, refl, sym, ap, ap₂, ◌∙◌}
use mathlib.Core.Bool.{Bool, true, false, cond, not, ◌&&◌, ◌||◌}
use mathlib.Core.List.{List, ◌∷◌}
use Rattle.std.specs.Prelude.{Option, None, Some, is_some}
use native.Mathlib.Omega.{arith}
use lib.ListN.{get_or, set}
use lib.Dec.{ltb, eqb}
use borrow.Author.Tests.{eq-eqb, ne_eqb, lt-ltb, le-ltb}
use Rattle.loops.specs.Count.{one}
use Rattle.loops.specs.Iter.{Hit}
use Rattle.tables.specs.declared.Counts.{Counts}
use Rattle.trip_boarding.specs.Reads.{hit_of}
use Rattle.line_layout.specs.Layout.{fifo_line}
use Rattle.query_types.specs.declared.Lay.{Lay}
use Rattle.search_state.specs.Part.{part}
use Rattle.search_state.proofs.Part.{part_at}
use Rattle.model.specs.Tables.{Tables, Query, fifo}
use Rattle.model.specs.Search.{Boardings, line_at, undelayed, prunable, dominated, pruned, passed_over}
use Rattle.query_types.specs.Layout.{positions_at, fifo_at, trip_stamps_at, boarded_offsets_at, boarded_departures_at, line_stamps_at, heads_at, links_at, least_at}
use Rattle.line_pruning.specs.Chain.{chain_first, chain_from, is_in, before, some_before, lowered, listed, linked, stamped_as}
use Rattle.line_pruning.specs.Books.{Agrees, Books, Inside}
use Rattle.line_pruning.proofs.Chains.{in_here, in_there}
use Rattle.line_pruning.proofs.Noting.{line-is, position_is}

-- a number of a section whose start was read
pub read_at : (w : List ℕ) (i a b : ℕ) → a ≡ b → get_or w (a + i) 0 ≡ get_or w (b + i) 0
read_at w i a b e = ap (λ (x : ℕ). get_or w (x + i) 0) e

-- where a chain begins
pub first_no : (lay : Lay) (stamp : ℕ) (w : List ℕ) (l a : ℕ) → a ≡ line_stamps_at lay → (get_or w (a + l) 0 ≡ stamp → ⊥) → 0 ≡ chain_first lay stamp w l
unfolding chain_first
first_no lay stamp w l a q n =
    sym (ap (λ (b : Bool). cond b (get_or w (heads_at lay + l) 0) 0) (ne_eqb (get_or w (line_stamps_at lay + l) 0) stamp (λ e. n (read_at w l a (line_stamps_at lay) q ∙ e))))

pub first-yes : (lay : Lay) (stamp : ℕ) (w : List ℕ) (l a h : ℕ) → a ≡ line_stamps_at lay → h ≡ heads_at lay → get_or w (a + l) 0 ≡ stamp → get_or w (h + l) 0 ≡ chain_first lay stamp w l
unfolding chain_first
first-yes lay stamp w l a h q r e =
    read_at w l h (heads_at lay) r
    ∙ sym (ap (λ (b : Bool). cond b (get_or w (heads_at lay + l) 0) 0) (eq-eqb (get_or w (line_stamps_at lay + l) 0) stamp (sym (read_at w l a (line_stamps_at lay) q) ∙ e)))

-- along a chain: at place k the rest of it begins with h
pub record Walking (lay : Lay) (w : List ℕ) (p o first k h : ℕ) : Type 0 where
  pub whole : some_before lay w p o (chain_from lay w lay.trips first) ≡ some_before lay w p o (chain_from lay w (lay.trips - k) h)
  pub inside : Inside lay (chain_from lay w (lay.trips - k) h)

module _ (lay : Lay) (w : List ℕ) (p o first : ℕ) where
  abbrev all : Bool
  all = some_before lay w p o (chain_from lay w lay.trips first)

  pub walking_start : Inside lay (chain_from lay w lay.trips first) → Walking lay w p o first 0 first
  walking_start i =
      let z : lay.trips ≡ lay.trips - 0 = omega arith in
      record { whole = ap (λ (n : ℕ). some_before lay w p o (chain_from lay w n first)) z; inside = rw (sym z) i }

  empty : (n : ℕ) → false ≡ some_before lay w p o (chain_from lay w n 0)
  unfolding chain_from some_before
  empty zero = refl
  empty (suc n) = refl

  module _ (k h : ℕ) (at : Walking lay w p o first k h) where
    pub walking_none : h ≡ 0 → false ≡ all
    walking_none e = sym (at.whole ∙ ap (λ (x : ℕ). some_before lay w p o (chain_from lay w (lay.trips - k) x)) e ∙ sym (empty (lay.trips - k)))

    pub walking_end : lay.trips ≤ k → false ≡ all
    unfolding chain_from some_before
    walking_end l =
        let z : lay.trips - k ≡ 0 = omega (arith, l) in
        sym (at.whole ∙ ap (λ (x : ℕ). some_before lay w p o (chain_from lay w x h)) z)

    module _ (l : k < lay.trips) (n : h ≡ 0 → ⊥) where
      abbrev next : List ℕ
      next = chain_from lay w (lay.trips - (k + 1)) (get_or w (links_at lay + (h - 1)) 0)

      turn : chain_from lay w (lay.trips - k) h ≡ (h - 1) ∷ next
      unfolding chain_from
      turn =
          let a : lay.trips - k ≡ suc (lay.trips - (k + 1)) = omega (arith, l) in
          let b : h ≡ suc (h - 1) = omega (arith, n) in
          ap₂ (λ (x y : ℕ). chain_from lay w x y) a b

      pub walking_below : h - 1 < lay.trips
      walking_below = at.inside.at (h - 1) (ap (is_in (h - 1)) turn ∙ in_here (h - 1) next)

      pub walking_yes : before lay w p o (h - 1) ≡ true → true ≡ all
      unfolding some_before
      walking_yes e = sym (at.whole ∙ ap (some_before lay w p o) turn ∙ ap (λ (b : Bool). b || some_before lay w p o next) e)

      pub walking_next : (g : ℕ) → before lay w p o (h - 1) ≡ false → g ≡ get_or w (links_at lay + (h - 1)) 0 → Walking lay w p o first (k + 1) g
      unfolding some_before
      walking_next g e q =
          record {
            whole = at.whole ∙ ap (some_before lay w p o) turn ∙ ap (λ (b : Bool). b || some_before lay w p o next) e
                ∙ ap (λ (x : ℕ). some_before lay w p o (chain_from lay w (lay.trips - (k + 1)) x)) (sym q);
            inside = record {
              at = λ x z. at.inside.at x (ap (is_in x) turn
                  ∙ in_there x (h - 1) next (ap (λ (y : ℕ). is_in x (chain_from lay w (lay.trips - (k + 1)) y)) (sym q) ∙ z));
            };
          }

pub never : false ≡ true → ⊥
never e = let z : one false ≡ one true = ap one e in omega (arith, z)

-- no delay row
pub undelayed_is : (adj : Option ℕ) (r : Bool) → is_some adj ≡ not r → r ≡ undelayed (hit_of adj)
undelayed_is None true e = refl
undelayed_is None false e = absurd (never e)
undelayed_is (Some i) false e = refl
undelayed_is (Some i) true e = absurd (never (sym e))

-- line pruning
module _ (T : Tables) (Q : Query) (lay : Lay) (c : Counts) (built w : List ℕ) (adj : Hit) (t l : ℕ) (ag : Agrees T lay c built w) (ht : t < lay.trips) (el : l ≡ get_or built t 0) where
  prunable_as : (b : Bool) → fifo T l ≡ b → (undelayed adj && b) ≡ prunable T Q adj t
  prunable_as b e = ap (λ (x : Bool). undelayed adj && x) (sym e ∙ ap (fifo T) (line-is T lay c built w t l ag ht el))

  and_no : (a : Bool) → false ≡ (a && false)
  and_no true = refl
  and_no false = refl

  pub prunable_past : lay.lines ≤ l → false ≡ prunable T Q adj t
  unfolding fifo
  prunable_past h = and_no (undelayed adj) ∙ prunable_as false past
    where
      past : fifo T l ≡ false
      past = ap (λ (x : Bool). x && fifo_line T.timetable (T.line l)) (le-ltb l T.lines (omega (arith, ag.lines.lines, h)))

  flag_is : (b : Bool) (x : ℕ) → one b ≡ x → b ≡ eqb x 1
  flag_is true x e = sym (eq-eqb x 1 (sym e))
  flag_is false x e = sym (ne_eqb x 1 (λ z. omega (arith, z, e)))

  pub prunable_known : l < lay.lines → (r a : Bool) (x : ℕ) → r ≡ (a && eqb x 1) → a ≡ undelayed adj → x ≡ get_or w (fifo_at lay + l) 0 → r ≡ prunable T Q adj t
  prunable_known h r a x er ea ex =
      let z : c.stops * 5 + c.trips * 2 + 128 + l ≡ fifo_at lay + l = omega (arith, ag.stops, ag.counted) in
      er ∙ ap₂ (λ (u : Bool) (v : ℕ). u && eqb v 1) ea ex
      ∙ prunable_as (eqb (get_or w (fifo_at lay + l) 0) 1) (flag_is (fifo T l) (get_or w (fifo_at lay + l) 0) (ag.lines.fifo l h ∙ ap (λ (i : ℕ). get_or w i 0) z))

pub dominated_is : (T : Tables) (Q : Query) (lay : Lay) (c : Counts) (built w : List ℕ) (stamp line t o p f : ℕ) (r : Bool) (b : Boardings) → Agrees T lay c built w → Books lay stamp T Q w b
    → line ≡ line_at T t → line < lay.lines → t < lay.trips → p ≡ get_or w (positions_at lay + t) 0 → f ≡ chain_first lay stamp w line
    → r ≡ some_before lay w p o (chain_from lay w lay.trips f) → r ≡ dominated T Q t o b.line_boards
dominated_is T Q lay c built w stamp line t o p f r b ag bk el hl ht ep ef er =
    er ∙ ap₂ (λ (x y : ℕ). some_before lay w x o (chain_from lay w lay.trips y)) (ep ∙ sym (position_is T lay c built w t ag ht)) (ef ∙ ap (chain_first lay stamp w) el)
    ∙ sym (bk.test t o (omega (arith, el, hl)))

pub pruned_no : (T : Tables) (Q : Query) (adj : Hit) (t o : ℕ) (b : Boardings) → prunable T Q adj t ≡ false → false ≡ pruned T Q adj t o b
unfolding pruned
pruned_no T Q adj t o b e = sym (ap (λ (x : Bool). x && dominated T Q t o b.line_boards) e)

pub pruned_yes : (T : Tables) (Q : Query) (adj : Hit) (t o : ℕ) (b : Boardings) (r : Bool) → prunable T Q adj t ≡ true → r ≡ dominated T Q t o b.line_boards → r ≡ pruned T Q adj t o b
unfolding pruned
pruned_yes T Q adj t o b r e d = d ∙ sym (ap (λ (x : Bool). x && dominated T Q t o b.line_boards) e)

-- a boarding passed over
module _ (T : Tables) (Q : Query) (lay : Lay) (stamp : ℕ) (w : List ℕ) (b : Boardings) (bk : Books lay stamp T Q w b) (t o dep : ℕ) (ht : t < lay.trips) where
  section-at : (s : List ℕ) (a : ℕ) → s ≡ part w a lay.trips → get_or s t 0 ≡ get_or w (a + t) 0
  section-at s a e = ap (λ (x : List ℕ). get_or x t 0) e ∙ part_at w a lay.trips t ht

  passed_as : (eqb (get_or w (trip_stamps_at lay + t) 0) stamp
      && not (ltb dep (get_or w (boarded_departures_at lay + t) 0) || (eqb dep (get_or w (boarded_departures_at lay + t) 0) && ltb o (get_or w (boarded_offsets_at lay + t) 0)))) ≡ passed_over T Q stamp t o dep b
  unfolding passed_over
  passed_as =
      sym (ap₂ (λ (x y : ℕ). eqb x stamp && not (ltb dep y || (eqb dep y && ltb o (get_or b.board_offset t 0))))
      (section-at b.trip_stamp (trip_stamps_at lay) bk.trip_stamp) (section-at b.board_departure (boarded_departures_at lay) bk.board_departure)
      ∙ ap (λ (x : ℕ). eqb (get_or w (trip_stamps_at lay + t) 0) stamp && not (ltb dep (get_or w (boarded_departures_at lay + t) 0) || (eqb dep (get_or w (boarded_departures_at lay + t) 0) && ltb o x)))
      (section-at b.board_offset (boarded_offsets_at lay) bk.board_offset))

  pub passed_no : (a : ℕ) → a ≡ trip_stamps_at lay → (get_or w (a + t) 0 ≡ stamp → ⊥) → false ≡ passed_over T Q stamp t o dep b
  passed_no a q n =
      sym (ap (λ (x : Bool). x && not (ltb dep (get_or w (boarded_departures_at lay + t) 0) || (eqb dep (get_or w (boarded_departures_at lay + t) 0) && ltb o (get_or w (boarded_offsets_at lay + t) 0))))
      (ne_eqb (get_or w (trip_stamps_at lay + t) 0) stamp (λ e. n (read_at w t a (trip_stamps_at lay) q ∙ e)))) ∙ passed_as

  pub passed_yes : (a i j : ℕ) → a ≡ trip_stamps_at lay → i ≡ boarded_offsets_at lay → j ≡ boarded_departures_at lay → (better : Bool) → get_or w (a + t) 0 ≡ stamp
      → better ≡ (ltb dep (get_or w (j + t) 0) || (eqb dep (get_or w (j + t) 0) && ltb o (get_or w (i + t) 0))) → not better ≡ passed_over T Q stamp t o dep b
  passed_yes a i j q x y better e eb =
      ap not (eb ∙ ap₂ (λ (d k : ℕ). ltb dep (get_or w (d + t) 0) || (eqb dep (get_or w (d + t) 0) && ltb o (get_or w (k + t) 0))) y x)
      ∙ sym (ap (λ (z : Bool). z && not (ltb dep (get_or w (boarded_departures_at lay + t) 0) || (eqb dep (get_or w (boarded_departures_at lay + t) 0) && ltb o (get_or w (boarded_offsets_at lay + t) 0))))
      (eq-eqb (get_or w (trip_stamps_at lay + t) 0) stamp (sym (read_at w t a (trip_stamps_at lay) q) ∙ e))) ∙ passed_as

-- the stores by cases
module _ (lay : Lay) (stamp l t o : ℕ) (w : List ℕ) where
  pub lowered_no : (a : ℕ) → a ≡ least_at lay → get_or w (a + t) 0 ≤ o → w ≡ lowered lay t o w
  lowered_no a q h =
      sym (ap (λ (b : Bool). cond b (set w (least_at lay + t) o) w) (le-ltb o (get_or w (least_at lay + t) 0) (omega (arith, h, read_at w t a (least_at lay) q))))

  pub lowered_yes : (a : ℕ) → a ≡ least_at lay → o < get_or w (a + t) 0 → set w (a + t) o ≡ lowered lay t o w
  lowered_yes a q h =
      ap (λ (x : ℕ). set w (x + t) o) q
      ∙ sym (ap (λ (b : Bool). cond b (set w (least_at lay + t) o) w) (lt-ltb o (get_or w (least_at lay + t) 0) (omega (arith, h, read_at w t a (least_at lay) q))))

  pub listed_no : (pr : Bool) → pr ≡ false → w ≡ listed lay stamp pr l t o w
  listed_no pr e = sym (ap (λ (b : Bool). listed lay stamp b l t o w) e)

  pub listed_seen : (pr : Bool) (x : List ℕ) (a : ℕ) → a ≡ trip_stamps_at lay → pr ≡ true → get_or w (a + t) 0 ≡ stamp → x ≡ lowered lay t o w → x ≡ listed lay stamp pr l t o w
  listed_seen pr x a q e f g =
      g ∙ sym (ap₂ (λ (y b : Bool). cond y (cond b (lowered lay t o w) (linked lay stamp l t o w)) w) e
      (eq-eqb (get_or w (trip_stamps_at lay + t) 0) stamp (sym (read_at w t a (trip_stamps_at lay) q) ∙ f)))

  pub listed_new : (pr : Bool) (x : List ℕ) (a : ℕ) → a ≡ trip_stamps_at lay → pr ≡ true → (get_or w (a + t) 0 ≡ stamp → ⊥) → x ≡ linked lay stamp l t o w → x ≡ listed lay stamp pr l t o w
  listed_new pr x a q e f g =
      g ∙ sym (ap₂ (λ (y b : Bool). cond y (cond b (lowered lay t o w) (linked lay stamp l t o w)) w) e
      (ne_eqb (get_or w (trip_stamps_at lay + t) 0) stamp (λ z. f (read_at w t a (trip_stamps_at lay) q ∙ z))))

-- the stores of a function, at the starts that it read
pub linked_as : (lay : Lay) (stamp l t o f a h n m : ℕ) (w : List ℕ) → a ≡ line_stamps_at lay → h ≡ heads_at lay → n ≡ links_at lay → m ≡ least_at lay → f ≡ chain_first lay stamp w l
    → set (set (set (set w (n + t) f) (m + t) o) (h + l) (t + 1)) (a + l) stamp ≡ linked lay stamp l t o w
linked_as lay stamp l t o f a h n m w ea eh en em ef =
    ap₂ (λ (x y : ℕ). set (set (set (set w (x + t) y) (m + t) o) (h + l) (t + 1)) (a + l) stamp) en ef
    ∙ ap₂ (λ (x y : ℕ). set (set (set (set w (links_at lay + t) (chain_first lay stamp w l)) (x + t) o) (y + l) (t + 1)) (a + l) stamp) em eh
    ∙ ap (λ (x : ℕ). set (set (set (set w (links_at lay + t) (chain_first lay stamp w l)) (least_at lay + t) o) (heads_at lay + l) (t + 1)) (x + l) stamp) ea

pub stamped-as : (lay : Lay) (stamp t o dep a i j : ℕ) (w : List ℕ) → a ≡ trip_stamps_at lay → i ≡ boarded_offsets_at lay → j ≡ boarded_departures_at lay
    → set (set (set w (a + t) stamp) (i + t) o) (j + t) dep ≡ stamped_as lay stamp t o dep w
stamped-as lay stamp t o dep a i j w ea ei ej =
    ap (λ (x : ℕ). set (set (set w (x + t) stamp) (i + t) o) (j + t) dep) ea
    ∙ ap₂ (λ (x y : ℕ). set (set (set w (trip_stamps_at lay + t) stamp) (x + t) o) (y + t) dep) ei ej
