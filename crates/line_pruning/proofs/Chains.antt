-- Laws of chains: kept, longer by one trip at the front, an offset lowered. Assumes nothing.
use Prim.Native.Nat.{ℕ, zero, suc, ◌+◌, ◌≤◌, ◌<◌}
use mathlib.Core.Path.{◌≡◌, refl, sym, ap, ap₂, ◌∙◌}
use mathlib.Core.Bool.{Bool, true, false, cond, not, ◌&&◌, ◌||◌}
use mathlib.Core.List.{List, [], ◌∷◌}
use native.Mathlib.Omega.{arith}
use native.Mathlib.Numerals.{add-one}
use lib.ListN.{length, get_or, set}
use lib.Seq.{set-get_or, ext_get_or}
use lib.Dec.{ltb, leb, eqb}
use borrow.Author.Tests.{eqb-true, eqb-false, eq-eqb, ltb-true, ltb-false, leb-true, leb-false, le-leb, lt-leb}
use Rattle.loops.specs.Count.{one}
use Rattle.query_types.specs.declared.Lay.{Lay}
use Rattle.search_state.specs.Part.{part, tally}
use Rattle.search_state.proofs.Part.{part_at, part_length, tally_set}
use Rattle.query_types.specs.Layout.{positions_at, line_stamps_at, heads_at, links_at, least_at}
use Rattle.line_pruning.specs.Chain.{chain_first, chain_from, chain, is_in, before, some_before}

-- by whether two numbers are equal
pub same_or : (i j : ℕ) {A : Type 0} → (i ≡ j → A) → ((i ≡ j → ⊥) → A) → A
same_or i j {A} x y = go (eqb i j) refl
  where
    go : (t : Bool) → eqb i j ≡ t → A
    go true e = x (eqb-true i j e)
    go false e = y (eqb-false i j e)

or_left : (a b : Bool) → a ≡ true → (a || b) ≡ true
or_left a b e = ap (λ (x : Bool). x || b) e

or_right : (a b : Bool) → b ≡ true → (a || b) ≡ true
or_right true b e = refl
or_right false b e = e

pub in_here : (x : ℕ) (xs : List ℕ) → is_in x (x ∷ xs) ≡ true
unfolding is_in
in_here x xs = or_left (eqb x x) (is_in x xs) (eq-eqb x x refl)

pub in_there : (x y : ℕ) (xs : List ℕ) → is_in x xs ≡ true → is_in x (y ∷ xs) ≡ true
unfolding is_in
in_there x y xs h = or_right (eqb y x) (is_in x xs) h

pub in_either : (x y : ℕ) (xs : List ℕ) {A : Type 0} → is_in x (y ∷ xs) ≡ true → (y ≡ x → A) → (is_in x xs ≡ true → A) → A
unfolding is_in
in_either x y xs {A} h f g = go (eqb y x) refl h
  where
    go : (t : Bool) → eqb y x ≡ t → (t || is_in x xs) ≡ true → A
    go true e k = f (eqb-true y x e)
    go false e k = g k

pub part_ext : (w w' : List ℕ) (a n : ℕ) → length w' ≡ length w → a + n ≤ length w → ((i : ℕ) → i < n → get_or w' (a + i) 0 ≡ get_or w (a + i) 0) → part w' a n ≡ part w a n
part_ext w w' a n e r h =
    let x : length (part w' a n) ≡ n = part_length w' a n (omega (arith, e, r)) in
    ext_get_or 0 (part w' a n) (part w a n) (x ∙ sym (part_length w a n r))
    (λ i u. let v : i < n = omega (arith, u, x) in part_at w' a n i v ∙ h i v ∙ sym (part_at w a n i v))

-- a number set to x: one more is x, unless it was
pub tally_grow : (x : ℕ) (l : List ℕ) (s : ℕ) → s < length l → tally x (set l s x) ≡ tally x l + one (not (eqb (get_or l s 0) x))
tally_grow x l s h = go (eqb (get_or l s 0) x) refl
  where
    go : (t : Bool) → eqb (get_or l s 0) x ≡ t → tally x (set l s x) ≡ tally x l + one (not t)
    go true e = let z : set l s x ≡ l = ap (set l s) (sym (eqb-true (get_or l s 0) x e)) ∙ set-get_or l s 0 in let y : tally x (set l s x) ≡ tally x l = ap (tally x) z in omega (arith, y)
    go false e = let y = tally_set x l s h (eqb-false (get_or l s 0) x e) in omega (arith, y)

-- the lower of two offsets
pub lower_leb : (o a c : ℕ) → leb (cond (ltb o a) o a) c ≡ (leb o c || leb a c)
lower_leb o a c = go (ltb o a) (leb o c) refl refl
  where
    go : (t u : Bool) → ltb o a ≡ t → leb o c ≡ u → leb (cond t o a) c ≡ (u || leb a c)
    go true true e f = f
    go true false e f = f ∙ sym (lt-leb a c (let x = ltb-true o a e in let y = leb-false o c f in omega (arith, x, y)))
    go false true e f = le-leb a c (let x = ltb-false o a e in let y = leb-true o c f in omega (arith, x, y))
    go false false e f = refl

taut_here : (a b c m s : Bool) → ((a && (b || c)) || ((m && (a && b)) || s)) ≡ ((a && b) || ((a && c) || s))
taut_here false b c true s = refl
taut_here false b c false s = refl
taut_here true true c m s = refl
taut_here true false c true s = refl
taut_here true false c false s = refl

taut_there : (b r s : Bool) → (b || (r || s)) ≡ (r || (b || s))
taut_there true true s = refl
taut_there true false s = refl
taut_there false r s = refl

module _ (lay : Lay) (w w' : List ℕ) where
  -- a chain whose links are as they were
  pub chain_kept : (k h : ℕ) → ((x : ℕ) → is_in x (chain_from lay w k h) ≡ true → get_or w' (links_at lay + x) 0 ≡ get_or w (links_at lay + x) 0)
      → chain_from lay w' k h ≡ chain_from lay w k h
  unfolding chain_from
  chain_kept zero h f = refl
  chain_kept (suc k) zero f = refl
  chain_kept (suc k) (suc x) f =
      let n : ℕ = get_or w (links_at lay + x) 0 in
      ap (λ (r : List ℕ). x ∷ r) (ap (chain_from lay w' k) (f x (in_here x (chain_from lay w k n))) ∙ chain_kept k n (λ y m. f y (in_there y x (chain_from lay w k n) m)))

  -- a test over trips whose positions and offsets are as they were
  pub some_kept : (p o : ℕ) (xs : List ℕ) → ((x : ℕ) → is_in x xs ≡ true → get_or w' (positions_at lay + x) 0 ≡ get_or w (positions_at lay + x) 0)
      → ((x : ℕ) → is_in x xs ≡ true → get_or w' (least_at lay + x) 0 ≡ get_or w (least_at lay + x) 0) → some_before lay w' p o xs ≡ some_before lay w p o xs
  unfolding some_before
  some_kept p o [] f g = refl
  some_kept p o (x ∷ xs) f g =
      ap₂ ◌||◌ (ap₂ (λ (a b : ℕ). ltb a p && leb b o) (f x (in_here x xs)) (g x (in_here x xs)))
      (some_kept p o xs (λ y m. f y (in_there y x xs m)) (λ y m. g y (in_there y x xs m)))

  -- the same where the offset of trip t is lowered to o
  pub some_lower : (t o p c : ℕ) (xs : List ℕ) → ((x : ℕ) → is_in x xs ≡ true → get_or w' (positions_at lay + x) 0 ≡ get_or w (positions_at lay + x) 0)
      → ((x : ℕ) → is_in x xs ≡ true → (x ≡ t → ⊥) → get_or w' (least_at lay + x) 0 ≡ get_or w (least_at lay + x) 0)
      → get_or w' (least_at lay + t) 0 ≡ cond (ltb o (get_or w (least_at lay + t) 0)) o (get_or w (least_at lay + t) 0)
      → some_before lay w' p c xs ≡ ((is_in t xs && (ltb (get_or w (positions_at lay + t) 0) p && leb o c)) || some_before lay w p c xs)
  unfolding some_before is_in
  some_lower t o p c [] f g e = refl
  some_lower t o p c (x ∷ xs) f g e =
      ap (λ (r : Bool). before lay w' p c x || r) (some_lower t o p c xs (λ y m. f y (in_there y x xs m)) (λ y m. g y (in_there y x xs m)) e)
      ∙ go (eqb x t) refl
    where
      go : (b : Bool) → eqb x t ≡ b → (before lay w' p c x || ((is_in t xs && (ltb (get_or w (positions_at lay + t) 0) p && leb o c)) || some_before lay w p c xs))
          ≡ (((b || is_in t xs) && (ltb (get_or w (positions_at lay + t) 0) p && leb o c)) || (before lay w p c x || some_before lay w p c xs))
      go true d =
          let z : x ≡ t = eqb-true x t d in
          let u : before lay w' p c x ≡ (ltb (get_or w (positions_at lay + t) 0) p && (leb o c || leb (get_or w (least_at lay + t) 0) c)) =
          ap₂ (λ (a : ℕ) (b : Bool). ltb a p && b) (f x (in_here x xs) ∙ ap (λ (y : ℕ). get_or w (positions_at lay + y) 0) z)
          (ap (λ (y : ℕ). leb (get_or w' (least_at lay + y) 0) c) z ∙ ap (λ (y : ℕ). leb y c) e ∙ lower_leb o (get_or w (least_at lay + t) 0) c) in
          ap (λ (a : Bool). a || ((is_in t xs && (ltb (get_or w (positions_at lay + t) 0) p && leb o c)) || some_before lay w p c xs)) u
          ∙ taut_here (ltb (get_or w (positions_at lay + t) 0) p) (leb o c) (leb (get_or w (least_at lay + t) 0) c) (is_in t xs) (some_before lay w p c xs)
          ∙ ap (λ (y : ℕ). (ltb (get_or w (positions_at lay + t) 0) p && leb o c) || (before lay w p c y || some_before lay w p c xs)) (sym z)
      go false d =
          let n : x ≡ t → ⊥ = eqb-false x t d in
          let u : before lay w' p c x ≡ before lay w p c x = ap₂ (λ (a b : ℕ). ltb a p && leb b c) (f x (in_here x xs)) (g x (in_here x xs) n) in
          ap (λ (a : Bool). a || ((is_in t xs && (ltb (get_or w (positions_at lay + t) 0) p && leb o c)) || some_before lay w p c xs)) u
          ∙ taut_there (before lay w p c x) (is_in t xs && (ltb (get_or w (positions_at lay + t) 0) p && leb o c)) (some_before lay w p c xs)

  -- where a chain begins
  pub first_kept : (stamp l : ℕ) → get_or w' (line_stamps_at lay + l) 0 ≡ get_or w (line_stamps_at lay + l) 0 → get_or w' (heads_at lay + l) 0 ≡ get_or w (heads_at lay + l) 0
      → chain_first lay stamp w' l ≡ chain_first lay stamp w l
  unfolding chain_first
  first_kept stamp l e f = ap₂ (λ (a b : ℕ). cond (eqb a stamp) b 0) e f

  -- all chains, where all from the line stamps on is as it was
  pub chain_high : (stamp l : ℕ) → ((i : ℕ) → line_stamps_at lay ≤ i → get_or w' i 0 ≡ get_or w i 0) → chain lay stamp w' l ≡ chain lay stamp w l
  chain_high stamp l f =
      ap (chain_from lay w' lay.trips) (first_kept stamp l (f (line_stamps_at lay + l) (omega arith)) (f (heads_at lay + l) (omega arith)))
      ∙ chain_kept lay.trips (chain_first lay stamp w l) (λ x m. f (links_at lay + x) (omega arith))

-- a chain shorter than the bound needs one trip less
pub chain_less : (lay : Lay) (w : List ℕ) (k h : ℕ) → length (chain_from lay w (suc k) h) ≤ k → chain_from lay w k h ≡ chain_from lay w (suc k) h
unfolding chain_from
chain_less lay w zero zero l = refl
chain_less lay w zero (suc x) l = absurd (omega arith)
chain_less lay w (suc k) zero l = refl
chain_less lay w (suc k) (suc x) l = ap (λ (r : List ℕ). x ∷ r) (chain_less lay w k (get_or w (links_at lay + x) 0) (omega arith))

chain_step : (lay : Lay) (w : List ℕ) (k t : ℕ) → chain_from lay w (suc k) (suc t) ≡ t ∷ chain_from lay w k (get_or w (links_at lay + t) 0)
unfolding chain_from
chain_step lay w k t = refl

-- trip t put before a chain in which it is not
pub chain_front : (lay : Lay) (w w' : List ℕ) (n t f : ℕ) → length (chain_from lay w n f) < n → get_or w' (links_at lay + t) 0 ≡ f
    → ((x : ℕ) → is_in x (chain_from lay w n f) ≡ true → get_or w' (links_at lay + x) 0 ≡ get_or w (links_at lay + x) 0)
    → chain_from lay w' n (t + 1) ≡ t ∷ chain_from lay w n f
chain_front lay w w' zero t f l e g = absurd (omega arith)
chain_front lay w w' (suc k) t f l e g =
    let z : chain_from lay w k f ≡ chain_from lay w (suc k) f = chain_less lay w k f (omega arith) in
    ap (chain_from lay w' (suc k)) (add-one t) ∙ chain_step lay w' k t
    ∙ ap (λ (r : List ℕ). t ∷ r) (ap (chain_from lay w' k) e ∙ chain_kept lay w w' k f (λ x m. g x (ap (is_in x) (sym z) ∙ m)) ∙ z)
