-- What putting a trip into its line's chain does to the chains and to the test of line pruning. Assumes nothing.
use Prim.Native.Nat.{ℕ, suc, ◌+◌, ◌≤◌, ◌<◌}
use mathlib.Core.Path.{◌≡◌, refl, sym, ap, ap₂, ◌∙◌}
use mathlib.Core.Logic.{◌⊎◌, inl, inr}
use mathlib.Core.Bool.{Bool, true, false, cond, not, ◌&&◌, ◌||◌}
use mathlib.Core.List.{List, ◌∷◌}
use native.Mathlib.Omega.{arith}
use lib.ListN.{length, get_or, set, take, drop, length-set}
use lib.Seq.{get_or-set_same, get_or-set_other, take-set-le, drop-set-lt}
use lib.Dec.{ltb, leb, eqb}
use borrow.Author.Tests.{eq-eqb, ne_eqb}
use Rattle.loops.specs.Count.{one}
use Rattle.query_types.specs.declared.Lay.{Lay}
use Rattle.search_state.specs.Part.{part}
use Rattle.search_state.specs.Places.{WorkSized}
use Rattle.search_state.proofs.Part.{part_at, part_length, tally_room}
use Rattle.query_types.specs.Layout.{positions_at, trip_stamps_at, line_stamps_at, heads_at, links_at, least_at}
use Rattle.line_pruning.specs.Chain.{chain_first, chain_from, chain, is_in, some_before, linked, lowered}
use Rattle.line_pruning.specs.Books.{Chains}
use Rattle.line_pruning.proofs.Chains.{same_or, in_here, in_there, in_either, chain_kept, some_kept, some_lower, first_kept, chain_front}

-- the chains after it, in memory
pub record Stage (lay : Lay) (stamp l t : ℕ) (w w' : List ℕ) : Type 0 where
  pub size : length w' ≡ length w
  pub low : take (trip_stamps_at lay) w' ≡ take (trip_stamps_at lay) w
  pub high : drop (least_at lay + lay.trips) w' ≡ drop (least_at lay + lay.trips) w
  pub below : (i : ℕ) → i < line_stamps_at lay → get_or w' i 0 ≡ get_or w i 0
  pub members : (m x : ℕ) → m < lay.lines → is_in x (chain lay stamp w' m) ≡ true → ((x ≡ t) × (m ≡ l)) ⊎ (is_in x (chain lay stamp w m) ≡ true)
  pub longer : (m : ℕ) → m < lay.lines → length (chain lay stamp w' m) ≤ length (chain lay stamp w m) + one (not (eqb (get_or w (trip_stamps_at lay + t) 0) stamp))
  pub line_stamps : (m : ℕ) → m < lay.lines → get_or w' (line_stamps_at lay + m) 0 ≤ stamp

-- the test after it
pub record Tests (lay : Lay) (stamp : ℕ) (prunes : Bool) (l t o : ℕ) (w w' : List ℕ) : Type 0 where
  pub more : (m x : ℕ) → m < lay.lines → is_in x (chain lay stamp w m) ≡ true → is_in x (chain lay stamp w' m) ≡ true
  pub has : prunes ≡ true → is_in t (chain lay stamp w' l) ≡ true
  pub tests : (m p c : ℕ) → m < lay.lines → some_before lay w' p c (chain lay stamp w' m)
      ≡ ((prunes && (eqb l m && (ltb (get_or w (positions_at lay + t) 0) p && leb o c))) || some_before lay w p c (chain lay stamp w m))

module _ (lay : Lay) (stamp : ℕ) (w : List ℕ) (ch : Chains lay stamp w) (l t o : ℕ) where
  -- a trip that does not prune
  pub none_stage : Stage lay stamp l t w w
  none_stage =
      record { size = refl; low = refl; high = refl; below = λ i h. refl; members = λ m x h z. inr z; longer = λ m h. omega arith; line_stamps = ch.line_stamps }

  pub none_tests : Tests lay stamp false l t o w w
  none_tests = record { more = λ m x h z. z; has = λ e. absurd (bad e); tests = λ m p c h. refl }
    where
      bad : false ≡ true → ⊥
      bad e = let z : one false ≡ one true = ap one e in omega (arith, z)

module _ (lay : Lay) (stamp : ℕ) (w : List ℕ) (ok : WorkSized lay (length w)) (ch : Chains lay stamp w) (l t o : ℕ) (ht : t < lay.trips) where
  abbrev low_w : List ℕ
  low_w = lowered lay t o w

  -- the offset lowered
  by_low : {A : Type 0} (f : List ℕ → A) → f (set w (least_at lay + t) o) ≡ f w → f low_w ≡ f w
  by_low f e = go (ltb o (get_or w (least_at lay + t) 0))
    where
      go : (b : Bool) → f (cond b (set w (least_at lay + t) o) w) ≡ f w
      go true = e
      go false = refl

  low_other : (i : ℕ) → (i ≡ least_at lay + t → ⊥) → get_or low_w i 0 ≡ get_or w i 0
  low_other i n = by_low (λ (x : List ℕ). get_or x i 0) (get_or-set_other w (least_at lay + t) i o 0 n)

  low_at : get_or low_w (least_at lay + t) 0 ≡ cond (ltb o (get_or w (least_at lay + t) 0)) o (get_or w (least_at lay + t) 0)
  low_at = go (ltb o (get_or w (least_at lay + t) 0))
    where
      go : (b : Bool) → get_or (cond b (set w (least_at lay + t) o) w) (least_at lay + t) 0 ≡ cond b o (get_or w (least_at lay + t) 0)
      go true = get_or-set_same w (least_at lay + t) o 0 (omega (arith, ok.words, ht))
      go false = refl

  low_chain : (m : ℕ) → m < lay.lines → chain lay stamp low_w m ≡ chain lay stamp w m
  low_chain m h =
      ap (chain_from lay low_w lay.trips) (first_kept lay w low_w stamp m (low_other (line_stamps_at lay + m) (λ e. omega (arith, e, h))) (low_other (heads_at lay + m) (λ e. omega (arith, e, h))))
      ∙ chain_kept lay w low_w lay.trips (chain_first lay stamp w m) (λ x z. let u = ch.inside m x h z in low_other (links_at lay + x) (λ e. omega (arith, e, u)))

  pub lower_stage : Stage lay stamp l t w low_w
  lower_stage =
      record {
        size = by_low length (length-set w (least_at lay + t) o);
        low = by_low (take (trip_stamps_at lay)) (take-set-le (trip_stamps_at lay) w (least_at lay + t) o (omega arith));
        high = by_low (drop (least_at lay + lay.trips)) (drop-set-lt (least_at lay + lay.trips) w (least_at lay + t) o (omega (arith, ht)));
        below = λ i h. low_other i (λ e. omega (arith, e, h));
        members = λ m x h z. inr (ap (is_in x) (sym (low_chain m h)) ∙ z);
        longer = λ m h. let e : length (chain lay stamp low_w m) ≡ length (chain lay stamp w m) = ap length (low_chain m h) in omega (arith, e);
        line_stamps = λ m h. rw (low_other (line_stamps_at lay + m) (λ e. omega (arith, e, h))) (ch.line_stamps m h);
      }

  -- the trip is in its line's chain, and in no other
  pub lower_tests : is_in t (chain lay stamp w l) ≡ true → ((m : ℕ) → m < lay.lines → is_in t (chain lay stamp w m) ≡ true → m ≡ l) → l < lay.lines → Tests lay stamp true l t o w low_w
  lower_tests has own hl =
      record {
        more = λ m x h z. ap (is_in x) (low_chain m h) ∙ z;
        has = λ e. ap (is_in t) (low_chain l hl) ∙ has;
        tests = λ m p c h.
            ap (some_before lay low_w p c) (low_chain m h)
            ∙ some_lower lay w low_w t o p c (chain lay stamp w m) (λ x z. let u = ch.inside m x h z in low_other (positions_at lay + x) (λ e. omega (arith, e, u)))
            (λ x z n. low_other (least_at lay + x) (λ e. n (let q : x ≡ t = omega (arith, e) in q))) low_at
            ∙ ap (λ (b : Bool). (b && (ltb (get_or w (positions_at lay + t) 0) p && leb o c)) || some_before lay w p c (chain lay stamp w m)) (is m h);
      }
    where
      is : (m : ℕ) → m < lay.lines → is_in t (chain lay stamp w m) ≡ eqb l m
      is m h = same_or l m (λ e. ap (λ (y : ℕ). is_in t (chain lay stamp w y)) (sym e) ∙ has ∙ sym (eq-eqb l m e)) (λ n. go (is_in t (chain lay stamp w m)) refl n)
        where
          go : (b : Bool) → is_in t (chain lay stamp w m) ≡ b → (l ≡ m → ⊥) → b ≡ eqb l m
          go true e n = absurd (n (sym (own m h e)))
          go false e n = sym (ne_eqb l m n)

  -- the trip at the front
  module _ (hl : l < lay.lines) (new : get_or w (trip_stamps_at lay + t) 0 ≡ stamp → ⊥) where
    abbrev w1 : List ℕ
    w1 = set w (links_at lay + t) (chain_first lay stamp w l)

    abbrev w2 : List ℕ
    w2 = set w1 (least_at lay + t) o

    abbrev w3 : List ℕ
    w3 = set w2 (heads_at lay + l) (t + 1)

    abbrev w4 : List ℕ
    w4 = set w3 (line_stamps_at lay + l) stamp

    size1 : length w1 ≡ length w
    size1 = length-set w (links_at lay + t) (chain_first lay stamp w l)

    size2 : length w2 ≡ length w
    size2 = length-set w1 (least_at lay + t) o ∙ size1

    size3 : length w3 ≡ length w
    size3 = length-set w2 (heads_at lay + l) (t + 1) ∙ size2

    other : (i : ℕ) → (i ≡ links_at lay + t → ⊥) → (i ≡ least_at lay + t → ⊥) → (i ≡ heads_at lay + l → ⊥) → (i ≡ line_stamps_at lay + l → ⊥) → get_or w4 i 0 ≡ get_or w i 0
    other i a b c d =
        get_or-set_other w3 (line_stamps_at lay + l) i stamp 0 d ∙ get_or-set_other w2 (heads_at lay + l) i (t + 1) 0 c
        ∙ get_or-set_other w1 (least_at lay + t) i o 0 b ∙ get_or-set_other w (links_at lay + t) i (chain_first lay stamp w l) 0 a

    at_link : get_or w4 (links_at lay + t) 0 ≡ chain_first lay stamp w l
    at_link =
        get_or-set_other w3 (line_stamps_at lay + l) (links_at lay + t) stamp 0 (λ e. omega (arith, e, hl))
        ∙ get_or-set_other w2 (heads_at lay + l) (links_at lay + t) (t + 1) 0 (λ e. omega (arith, e, hl))
        ∙ get_or-set_other w1 (least_at lay + t) (links_at lay + t) o 0 (λ e. omega (arith, e, ht))
        ∙ get_or-set_same w (links_at lay + t) (chain_first lay stamp w l) 0 (omega (arith, ok.words, ht))

    at_least : get_or w4 (least_at lay + t) 0 ≡ o
    at_least =
        get_or-set_other w3 (line_stamps_at lay + l) (least_at lay + t) stamp 0 (λ e. omega (arith, e, hl))
        ∙ get_or-set_other w2 (heads_at lay + l) (least_at lay + t) (t + 1) 0 (λ e. omega (arith, e, hl))
        ∙ get_or-set_same w1 (least_at lay + t) o 0 (omega (arith, size1, ok.words, ht))

    at_head : get_or w4 (heads_at lay + l) 0 ≡ t + 1
    at_head =
        get_or-set_other w3 (line_stamps_at lay + l) (heads_at lay + l) stamp 0 (λ e. omega (arith, e, hl))
        ∙ get_or-set_same w2 (heads_at lay + l) (t + 1) 0 (omega (arith, size2, ok.words, hl))

    at_stamp : get_or w4 (line_stamps_at lay + l) 0 ≡ stamp
    at_stamp = get_or-set_same w3 (line_stamps_at lay + l) stamp 0 (omega (arith, size3, ok.words, hl))

    -- the trip is in no chain yet
    not_in : (m : ℕ) → m < lay.lines → is_in t (chain lay stamp w m) ≡ true → ⊥
    not_in m h z = new (ch.stamped m t h z)

    links_kept : (m x : ℕ) → m < lay.lines → is_in x (chain lay stamp w m) ≡ true → get_or w4 (links_at lay + x) 0 ≡ get_or w (links_at lay + x) 0
    links_kept m x h z =
        let u = ch.inside m x h z in
        other (links_at lay + x) (λ e. not_in m h (ap (λ (y : ℕ). is_in y (chain lay stamp w m)) (let q : t ≡ x = omega (arith, e) in q) ∙ z)) (λ e. omega (arith, e, u))
        (λ e. omega (arith, e, hl)) (λ e. omega (arith, e, hl))

    first_now : chain_first lay stamp w4 l ≡ t + 1
    unfolding chain_first
    first_now = ap₂ (λ (a b : ℕ). cond (eqb a stamp) b 0) at_stamp at_head ∙ ap (λ (b : Bool). cond b (t + 1) 0) (eq-eqb stamp stamp refl)

    room : length (chain lay stamp w l) < lay.trips
    room =
        let s = part w (trip_stamps_at lay) lay.trips in
        let e : length s ≡ lay.trips = part_length w (trip_stamps_at lay) lay.trips (omega (arith, ok.words)) in
        let r = tally_room stamp s t (omega (arith, e, ht)) (λ z. new (sym (part_at w (trip_stamps_at lay) lay.trips t ht) ∙ z)) in
        omega (arith, ch.short l hl, r, e)

    own_chain : chain lay stamp w4 l ≡ t ∷ chain lay stamp w l
    own_chain =
        ap (chain_from lay w4 lay.trips) first_now
        ∙ chain_front lay w w4 lay.trips t (chain_first lay stamp w l) room at_link (λ x z. links_kept l x hl z)

    other_chain : (m : ℕ) → m < lay.lines → (m ≡ l → ⊥) → chain lay stamp w4 m ≡ chain lay stamp w m
    other_chain m h n =
        ap (chain_from lay w4 lay.trips) (first_kept lay w w4 stamp m
        (other (line_stamps_at lay + m) (λ e. omega (arith, e, h)) (λ e. omega (arith, e, h)) (λ e. omega (arith, e, h)) (λ e. n (let q : m ≡ l = omega (arith, e) in q)))
        (other (heads_at lay + m) (λ e. omega (arith, e, h)) (λ e. omega (arith, e, h)) (λ e. n (let q : m ≡ l = omega (arith, e) in q)) (λ e. omega (arith, e, hl))))
        ∙ chain_kept lay w w4 lay.trips (chain_first lay stamp w m) (λ x z. links_kept m x h z)

    low_at4 : (i : ℕ) → i < line_stamps_at lay → get_or w4 i 0 ≡ get_or w i 0
    low_at4 i h = other i (λ e. omega (arith, e, h)) (λ e. omega (arith, e, h)) (λ e. omega (arith, e, h)) (λ e. omega (arith, e, h))

    pub link_stage : Stage lay stamp l t w (linked lay stamp l t o w)
    link_stage =
        record {
          size = length-set w3 (line_stamps_at lay + l) stamp ∙ size3;
          low =
              take-set-le (trip_stamps_at lay) w3 (line_stamps_at lay + l) stamp (omega arith) ∙ take-set-le (trip_stamps_at lay) w2 (heads_at lay + l) (t + 1) (omega arith)
              ∙ take-set-le (trip_stamps_at lay) w1 (least_at lay + t) o (omega arith) ∙ take-set-le (trip_stamps_at lay) w (links_at lay + t) (chain_first lay stamp w l) (omega arith);
          high =
              drop-set-lt (least_at lay + lay.trips) w3 (line_stamps_at lay + l) stamp (omega (arith, hl)) ∙ drop-set-lt (least_at lay + lay.trips) w2 (heads_at lay + l) (t + 1) (omega (arith, hl))
              ∙ drop-set-lt (least_at lay + lay.trips) w1 (least_at lay + t) o (omega (arith, ht))
              ∙ drop-set-lt (least_at lay + lay.trips) w (links_at lay + t) (chain_first lay stamp w l) (omega (arith, ht));
          below = low_at4;
          members = λ m x h z. same_or m l
              (λ e. in_either x t (chain lay stamp w l) (ap (is_in x) (sym own_chain) ∙ ap (λ (y : ℕ). is_in x (chain lay stamp w4 y)) (sym e) ∙ z)
              (λ q. inl (sym q, e)) (λ q. inr (ap (λ (y : ℕ). is_in x (chain lay stamp w y)) e ∙ q)))
              (λ n. inr (ap (is_in x) (sym (other_chain m h n)) ∙ z));
          longer = λ m h.
              let f : eqb (get_or w (trip_stamps_at lay + t) 0) stamp ≡ false = ne_eqb (get_or w (trip_stamps_at lay + t) 0) stamp new in
              let g : one (not (eqb (get_or w (trip_stamps_at lay + t) 0) stamp)) ≡ 1 = ap (λ (b : Bool). one (not b)) f in
              same_or m l (λ e. let y : length (chain lay stamp w4 m) ≡ suc (length (chain lay stamp w m)) =
              ap (λ (y : ℕ). length (chain lay stamp w4 y)) e ∙ ap length own_chain ∙ ap (λ (y : ℕ). suc (length (chain lay stamp w y))) (sym e) in omega (arith, y, g))
              (λ n. let y : length (chain lay stamp w4 m) ≡ length (chain lay stamp w m) = ap length (other_chain m h n) in omega (arith, y));
          line_stamps = λ m h. same_or m l
              (λ e. let y : get_or w4 (line_stamps_at lay + m) 0 ≡ stamp = ap (λ (y : ℕ). get_or w4 (line_stamps_at lay + y) 0) e ∙ at_stamp in omega (arith, y))
              (λ n. rw (other (line_stamps_at lay + m) (λ e. omega (arith, e, h)) (λ e. omega (arith, e, h)) (λ e. omega (arith, e, h)) (λ e. n (let q : m ≡ l = omega (arith, e) in q)))
              (ch.line_stamps m h));
        }

    kept_test : (m p c : ℕ) → m < lay.lines → some_before lay w4 p c (chain lay stamp w m) ≡ some_before lay w p c (chain lay stamp w m)
    kept_test m p c h =
        some_kept lay w w4 p c (chain lay stamp w m) (λ x z. let u = ch.inside m x h z in low_at4 (positions_at lay + x) (omega (arith, u)))
        (λ x z. other (least_at lay + x) (λ e. omega (arith, e, ht)) (λ e. not_in m h (ap (λ (y : ℕ). is_in y (chain lay stamp w m)) (let q : t ≡ x = omega (arith, e) in q) ∙ z))
        (λ e. omega (arith, e, hl)) (λ e. omega (arith, e, hl)))

    front_test : (p c : ℕ) (xs : List ℕ) → some_before lay w4 p c (t ∷ xs) ≡ ((ltb (get_or w (positions_at lay + t) 0) p && leb o c) || some_before lay w4 p c xs)
    unfolding some_before
    front_test p c xs =
        ap₂ (λ (a b : ℕ). (ltb a p && leb b c) || some_before lay w4 p c xs) (low_at4 (positions_at lay + t) (omega (arith, ht))) at_least

    pub link_tests : Tests lay stamp true l t o w (linked lay stamp l t o w)
    link_tests =
        record {
          more = λ m x h z. same_or m l
              (λ e. ap (λ (y : ℕ). is_in x (chain lay stamp w4 y)) e ∙ ap (is_in x) own_chain
              ∙ in_there x t (chain lay stamp w l) (ap (λ (y : ℕ). is_in x (chain lay stamp w y)) (sym e) ∙ z))
              (λ n. ap (is_in x) (other_chain m h n) ∙ z);
          has = λ e. ap (is_in t) own_chain ∙ in_here t (chain lay stamp w l);
          tests = λ m p c h. same_or l m
              (λ e. ap (λ (y : ℕ). some_before lay w4 p c (chain lay stamp w4 y)) (sym e) ∙ ap (some_before lay w4 p c) own_chain ∙ front_test p c (chain lay stamp w l)
              ∙ ap (λ (b : Bool). (ltb (get_or w (positions_at lay + t) 0) p && leb o c) || b) (kept_test l p c hl ∙ ap (λ (y : ℕ). some_before lay w p c (chain lay stamp w y)) e)
              ∙ ap (λ (b : Bool). (b && (ltb (get_or w (positions_at lay + t) 0) p && leb o c)) || some_before lay w p c (chain lay stamp w m)) (sym (eq-eqb l m e)))
              (λ n. ap (some_before lay w4 p c) (other_chain m h (λ e. n (sym e))) ∙ kept_test m p c h
              ∙ ap (λ (b : Bool). (b && (ltb (get_or w (positions_at lay + t) 0) p && leb o c)) || some_before lay w p c (chain lay stamp w m)) (sym (ne_eqb l m n)));
        }
