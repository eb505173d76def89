-- A stop reached, among the working numbers: it is stamped already, or new. Assumes nothing.
use Prim.Native.Nat.{ℕ, suc, ◌+◌, ◌*◌, ◌≤◌, ◌<◌}
use mathlib.Core.Path.{◌≡◌, refl, sym, ap, ◌∙◌}
use mathlib.Core.Logic.{◌⊎◌, inl, inr}
use mathlib.Core.Bool.{true, false}
use mathlib.Core.List.{List, [], ◌∷◌, ◌++◌}
use native.Mathlib.Omega.{arith}
use lib.ListN.{length, get_or, set, length-set}
use lib.Seq.{drop-set-lt}
use lib.Dec.{eqb}
use borrow.Author.Tests.{eq-eqb, ne_eqb}
use Rattle.query_types.specs.declared.Lay.{Lay}
use Rattle.search_state.specs.Part.{part, tally}
use Rattle.search_state.specs.Places.{WorkSized, Same, Counted, stamps_of}
use Rattle.query_types.specs.Layout.{rest_at}
use Rattle.search_state.specs.Step.{Entered, Marked}
use Rattle.search_state.proofs.Part.{first-in, part_at, part_in, part_below, part_above, part_more, part_length, tally_le, tally_room, tally_set}

pub same_refl : (lay : Lay) (w : List ℕ) → Same lay w w
same_refl lay w = record { size = refl; list = refl; rest = refl }

pub same_then : {lay : Lay} {a b c : List ℕ} → Same lay a b → Same lay b c → Same lay a c
same_then p q = record { size = q.size ∙ p.size; list = q.list ∙ p.list; rest = q.rest ∙ p.rest }

-- a store in the first three sections, or in the list being filled, changes nothing else
pub same_low : (lay : Lay) (w : List ℕ) → WorkSized lay (length w) → (i v : ℕ) → i < lay.stops * 2 + lay.trips → Same lay w (set w i v)
same_low lay w ok i v h =
    record {
      size = length-set w i v;
      list = part_below w lay.other (lay.stops + 64) i v (omega (arith, ok.other_first, h));
      rest = drop-set-lt (rest_at lay) w i v (omega (arith, h));
    }

pub same-list : (lay : Lay) (w : List ℕ) → WorkSized lay (length w) → (i v : ℕ) → i < lay.stops + 64 → Same lay w (set w (lay.list + i) v)
same-list lay w ok i v h = record { size = length-set w (lay.list + i) v; list = go ok.apart; rest = drop-set-lt (rest_at lay) w (lay.list + i) v (omega (arith, h, ok.fits)) }
  where
    go : (lay.list + (lay.stops + 64) ≤ lay.other) ⊎ (lay.other + (lay.stops + 64) ≤ lay.list)
        → part (set w (lay.list + i) v) lay.other (lay.stops + 64) ≡ part w lay.other (lay.stops + 64)
    go (inl l) = part_below w lay.other (lay.stops + 64) (lay.list + i) v (omega (arith, h, l))
    go (inr r) = part_above w lay.other (lay.stops + 64) (lay.list + i) v (omega (arith, h, r))

module _ (lay : Lay) (w : List ℕ) (ok : WorkSized lay (length w)) where
  -- the three stores of a stop that enters the list
  module _ (stamp s v count : ℕ) (h : s < lay.stops) (room : count < lay.stops + 64) where
    w1 : List ℕ
    w1 = set w s v

    w2 : List ℕ
    w2 = set w1 (lay.stops + s) stamp

    w3 : List ℕ
    w3 = set w2 (lay.list + count) s

    below_list : (a n : ℕ) → a + n ≤ lay.stops * 2 + lay.trips → part w3 a n ≡ part w2 a n
    unfolding w3
    below_list a n l = part_above w2 a n (lay.list + count) s (omega (arith, ok.first, l))

    entered : Entered lay stamp s v w (set (set (set w s v) (lay.stops + s) stamp) (lay.list + count) s) count
    unfolding w1 w2 w3
    entered =
        let ok1 : WorkSized lay (length w1) = rw (length-set w s v) ok in
        let ok2 : WorkSized lay (length w2) = rw (length-set w1 (lay.stops + s) stamp) ok1 in
        record {
          earliest =
              below_list 0 lay.stops (omega arith) ∙ part_above w1 0 lay.stops (lay.stops + s) stamp (omega arith) ∙ first-in w lay.stops s v h;
          stamps =
              below_list lay.stops lay.stops (omega arith) ∙ part_in w1 lay.stops lay.stops s stamp h
              ∙ ap (λ (l : List ℕ). set l s stamp) (part_below w lay.stops lay.stops s v h);
          reached =
              part_more w2 lay.list count s (omega (arith, ok2.words, ok.fits, room))
              ∙ ap (λ (l : List ℕ). l ++ (s ∷ [])) (part_below w1 lay.list count (lay.stops + s) stamp (omega (arith, ok.first, h))
              ∙ part_below w lay.list count s v (omega (arith, ok.first, h)));
          seg_reach =
              below_list (lay.stops * 2) lay.trips (omega arith)
              ∙ part_below w1 (lay.stops * 2) lay.trips (lay.stops + s) stamp (omega (arith, h)) ∙ part_below w (lay.stops * 2) lay.trips s v (omega (arith, h));
          same =
              same_then (same_then (same_low lay w ok s v (omega (arith, h))) (same_low lay w1 ok1 (lay.stops + s) stamp (omega (arith, h))))
              (same-list lay w2 ok2 count s room);
        }

    -- the same where the stamps' start is a number that was computed
    pub entered_at : (r : ℕ) → r ≡ lay.stops → Entered lay stamp s v w (set (set (set w s v) (r + s) stamp) (lay.list + count) s) count
    entered_at r e = rw e entered

  pub stamps_length : length (stamps_of lay w) ≡ lay.stops
  stamps_length = part_length w lay.stops lay.stops (omega (arith, ok.words))

  pub counted_stops : (stamp count : ℕ) → Counted lay stamp w count → count ≤ lay.stops
  counted_stops stamp count k = omega (arith, k.fits, stamps_length, tally_le stamp (stamps_of lay w))

  module _ (stamp s v count : ℕ) (h : s < lay.stops) (k : Counted lay stamp w count) where
    -- the stop bears the stamp already
    pub mark_seen : get_or w (lay.stops + s) 0 ≡ stamp → Marked lay stamp s v w (set w s v) count count
    mark_seen e =
        let t : eqb (get_or (stamps_of lay w) s 0) stamp ≡ true = eq-eqb _ _ (part_at w lay.stops lay.stops s h ∙ e) in
        let u : stamps_of lay (set w s v) ≡ stamps_of lay w = part_below w lay.stops lay.stops s v h in
        record {
          earliest = first-in w lay.stops s v h;
          stamps = rw t u;
          reached = rw t (part_below w lay.list count s v (omega (arith, ok.first, h)));
          seg_reach = part_below w (lay.stops * 2) lay.trips s v (omega (arith, h));
          same = same_low lay w ok s v (omega (arith, h));
          counted = record { fits = rw u k.fits };
          grown = record { by = rw u (omega arith) };
        }

    -- it is new
    module _ (e : get_or w (lay.stops + s) 0 ≡ stamp → ⊥) where
      not_stamped : get_or (stamps_of lay w) s 0 ≡ stamp → ⊥
      not_stamped y = e (sym (part_at w lay.stops lay.stops s h) ∙ y)

      pub mark_room : count < lay.stops
      mark_room = omega (arith, stamps_length, k.fits, tally_room stamp (stamps_of lay w) s (omega (arith, stamps_length, h)) not_stamped)

      pub mark_new : (w' : List ℕ) → Entered lay stamp s v w w' count → Marked lay stamp s v w w' count (count + 1)
      mark_new w' p =
          let t : eqb (get_or (stamps_of lay w) s 0) stamp ≡ false = ne_eqb _ _ not_stamped in
          let n : tally stamp (stamps_of lay w') ≡ suc (tally stamp (stamps_of lay w)) =
          ap (tally stamp) p.stamps ∙ tally_set stamp (stamps_of lay w) s (omega (arith, stamps_length, h)) not_stamped in
          record {
            earliest = p.earliest;
            stamps = rw t p.stamps;
            reached = rw t p.reached;
            seg_reach = p.seg_reach;
            same = p.same;
            counted = record { fits = omega (arith, n, k.fits) };
            grown = record { by = omega (arith, n) };
          }
