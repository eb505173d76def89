-- The first of a sorted list that is not below w: it is the least, and among equals the first of the list that was sorted.
use Prim.Native.Nat.{ℕ, zero, suc, ◌+◌, ◌<◌, ◌≤◌}
use mathlib.Core.Path.{◌≡◌, refl, sym, ◌∙◌, ap, ap₂}
use mathlib.Core.Bool.{Bool, true, false, cond}
use mathlib.Core.List.{List, [], ◌∷◌, ◌++◌, append-nil, flatten, Memᴰ}
use mathlib.Core.Logic.{⊎_elim}
use native.Mathlib.Nat.{eq-or-lt_of_le}
use native.Mathlib.Omega.{arith}
use Rattle.loops.proofs.Search.{clash}
use lib.ListN.{length, take}
use lib.Dec.{leb, eqb}
use borrow.Author.Tests.{eq-eqb, leb-false, leb-true, ne_eqb}
use Rattle.loops.specs.Count.{tab_from}
use Rattle.sorts.specs.Sort.{insert_by, sort_by}
use Rattle.sorts.specs.Orders.{All, Rising, cons, keep, nil}
use Rattle.sorts.proofs.Orders.{sort_rising, sort_stable}
use Rattle.sorts.proofs.Places.{rising_all, rising_tail}
use Rattle.event_transfers.proofs.Lists.{all_append, all_imp, keep_append, keep_every, keep_none_of}

module _ {A : Type 0} where
  -- every element is one of the list
  pub all_members : (l : List A) → All (λ x. Memᴰ x l) l
  all_members [] = nil
  all_members (x ∷ l) = cons (Memᴰ.head refl) (all_imp (λ y. Memᴰ y l) (λ y. Memᴰ y (x ∷ l)) (λ y m. Memᴰ.tail m) l (all_members l))

  -- what holds of each of a sort holds of each
  unsort_one : (P : A → Type 0) (key : A → ℕ) (x : A) (l : List A) → All P (insert_by key x l) → All P (x ∷ l)
  unfolding insert_by
  unsort_one P key x [] a = a
  unsort_one P key x (y ∷ l) a = go (leb (key x) (key y)) a (unsort_one P key x l)
    where
      swap : All P (x ∷ l) → P y → All P (x ∷ y ∷ l)
      swap (cons p r) q = cons p (cons q r)

      go : (t : Bool) → All P (cond t (x ∷ y ∷ l) (y ∷ insert_by key x l)) → (All P (insert_by key x l) → All P (x ∷ l)) → All P (x ∷ y ∷ l)
      go true b later = b
      go false (cons q b) later = swap (later b) q

  unsort : (P : A → Type 0) (key : A → ℕ) (l : List A) → All P (sort_by key l) → All P l
  unfolding sort_by
  unsort P key [] a = nil
  unsort P key (x ∷ l) a = again (unsort_one P key x (sort_by key l) a) (unsort P key l)
    where
      again : All P (x ∷ sort_by key l) → (All P (sort_by key l) → All P l) → All P (x ∷ l)
      again (cons p r) later = cons p (later r)

  -- and of each of those kept, of each that passes
  unkeep : (P : A → Type 0) (p : A → Bool) (l : List A) → All P (keep p l) → All (λ x. p x ≡ true → P x) l
  unfolding keep
  unkeep P p [] a = nil
  unkeep P p (x ∷ l) a = go (p x) refl a (unkeep P p l)
    where
      go : (t : Bool) → p x ≡ t → All P (cond t (x ∷ keep p l) (keep p l)) → (All P (keep p l) → All (λ y. p y ≡ true → P y) l) → All (λ y. p y ≡ true → P y) (x ∷ l)
      go true e (cons q b) later = cons (λ z. q) (later b)
      go false e b later = cons (λ z. absurd (clash (sym e ∙ z) refl)) (later b)

-- r is the first of the sorted list s that is not below w
pub record First {A : Type 0} (key : A → ℕ) (w : ℕ) (s : List A) (r : A) : Type 0 where
  pub ready : w ≤ key r
  pub least : All (λ q. w ≤ key q → key r ≤ key q) s
  pub order : take 1 (keep (λ q. eqb (key q) (key r)) s) ≡ r ∷ []

first_here : {A : Type 0} (key : A → ℕ) (w : ℕ) (y : A) (s : List A) → Rising key (y ∷ s) → w ≤ key y → First key w (y ∷ s) y
unfolding keep
first_here {A} key w y s r h =
    record {
      ready = h;
      least = cons (λ (u : w ≤ key y). let z : key y ≤ key y = omega arith in z) (all_imp (λ q. key y ≤ key q) (λ q. w ≤ key q → key y ≤ key q) (λ q u v. u) s (rising_all key y s r));
      order = ap (λ (t : Bool). take 1 (cond t (y ∷ keep (λ q. eqb (key q) (key y)) s) (keep (λ q. eqb (key q) (key y)) s))) (eq-eqb (key y) (key y) refl);
    }

first_later : {A : Type 0} (key : A → ℕ) (w : ℕ) (y : A) (s : List A) (r : A) → key y < w → First key w s r → First key w (y ∷ s) r
unfolding keep
first_later key w y s r h f =
    record {
      ready = f.ready;
      least = cons (λ (u : w ≤ key y). absurd (omega arith)) f.least;
      order =
          ap (λ (t : Bool). take 1 (cond t (y ∷ keep (λ q. eqb (key q) (key r)) s) (keep (λ q. eqb (key q) (key r)) s))) (ne_eqb (key y) (key r) (λ e. omega (arith, e, f.ready)))
          ∙ f.order;
    }

pub firsts : {A : Type 0} (key : A → ℕ) (w : ℕ) (s : List A) → Rising key s → All (First key w s) (take 1 (keep (λ q. leb w (key q)) s))
unfolding keep
firsts key w [] r = nil
firsts {A} key w (y ∷ s) r = go (leb w (key y)) refl (firsts key w s (rising_tail key y s r))
  where
    go : (t : Bool) → leb w (key y) ≡ t → All (First key w s) (take 1 (keep (λ q. leb w (key q)) s))
        → All (First key w (y ∷ s)) (take 1 (cond t (y ∷ keep (λ q. leb w (key q)) s) (keep (λ q. leb w (key q)) s)))
    go true e ih = cons (first_here key w y s r (leb-true w (key y) e)) nil
    go false e ih = all_imp (First key w s) (First key w (y ∷ s)) (λ q f. first_later key w y s q (leb-false w (key y) e) f) (take 1 (keep (λ q. leb w (key q)) s)) ih

-- the same, of the list that was sorted: those of l that pass p, by their keys
pub record Earliest {A : Type 0} (key : A → ℕ) (p : A → Bool) (w : ℕ) (l : List A) (r : A) : Type 0 where
  pub ready : w ≤ key r
  pub least : All (λ q. p q ≡ true → w ≤ key q → key r ≤ key q) l
  pub order : take 1 (keep (λ q. eqb (key q) (key r)) (keep p l)) ≡ r ∷ []

pub earliest : {A : Type 0} (key : A → ℕ) (p : A → Bool) (w : ℕ) (l : List A) → All (Earliest key p w l) (take 1 (keep (λ q. leb w (key q)) (sort_by key (keep p l))))
earliest {A} key p w l =
    all_imp (First key w (sort_by key (keep p l))) (Earliest key p w l)
    (λ r f. record {
      ready = f.ready;
      least = unkeep (λ q. w ≤ key q → key r ≤ key q) p l (unsort (λ q. w ≤ key q → key r ≤ key q) key (keep p l) f.least);
      order = ap (take 1) (sym (sort_stable key (key r) (keep p l))) ∙ f.order;
    })
    (take 1 (keep (λ q. leb w (key q)) (sort_by key (keep p l)))) (firsts key w (sort_by key (keep p l)) (sort_rising key (keep p l)))

-- keys strictly rise
pub data Climbs {A : Type 0} (key : A → ℕ) : List A → Type 0 where
  none : Climbs key []
  one : {x : A} → Climbs key (x ∷ [])
  next : {x y : A} {l : List A} → key x < key y → Climbs key (y ∷ l) → Climbs key (x ∷ y ∷ l)

-- lists of at most one, each of its number's key, one after the other
module _ {A : Type 0} (key : A → ℕ) (f : ℕ → List A) (few : (l : ℕ) → length (f l) ≤ 1) (own : (l : ℕ) → All (λ r. key r ≡ l) (f l)) where
  above : (i n : ℕ) → All (λ r. i ≤ key r) (flatten (tab_from f i n))
  unfolding flatten tab_from
  above i zero = nil
  above i (suc n) =
      all_append (λ r. i ≤ key r) (f i) (flatten (tab_from f (suc i) n))
      (all_imp (λ r. key r ≡ i) (λ r. i ≤ key r) (λ r e. omega (arith, e)) (f i) (own i))
      (all_imp (λ r. suc i ≤ key r) (λ r. i ≤ key r) (λ r u. omega (arith, u)) (flatten (tab_from f (suc i) n)) (above (suc i) n))

  pub climbs : (i n : ℕ) → Climbs key (flatten (tab_from f i n))
  unfolding flatten tab_from
  climbs i zero = none
  climbs i (suc n) = step (f i) (few i) (own i) (flatten (tab_from f (suc i) n)) (above (suc i) n) (climbs (suc i) n)
    where
      step : (m : List A) → length m ≤ 1 → All (λ r. key r ≡ i) m → (rest : List A) → All (λ r. suc i ≤ key r) rest → Climbs key rest → Climbs key (m ++ rest)
      step [] h a rest b c = c
      step (x ∷ []) h (cons e a) [] b c = one
      step (x ∷ []) h (cons e a) (y ∷ rest) (cons u b) c = let q : key x < key y = omega arith in next q c
      step (x ∷ y ∷ m) h a rest b c = absurd (omega arith)

  -- those of one number are its list
  not_these : (l i : ℕ) → i < l → keep (λ r. eqb (key r) l) (f i) ≡ []
  not_these l i h =
      keep_none_of (λ r. eqb (key r) l) (f i) (all_imp (λ r. key r ≡ i) (λ r. eqb (key r) l ≡ false) (λ r e. ne_eqb (key r) l (λ z. omega (arith, e, z))) (f i) (own i))

  not_later : (l n : ℕ) → keep (λ r. eqb (key r) l) (flatten (tab_from f (suc l) n)) ≡ []
  not_later l n =
      keep_none_of (λ r. eqb (key r) l) (flatten (tab_from f (suc l) n))
      (all_imp (λ r. suc l ≤ key r) (λ r. eqb (key r) l ≡ false) (λ r u. ne_eqb (key r) l (λ z. omega (arith, u, z))) (flatten (tab_from f (suc l) n)) (above (suc l) n))

  these : (l : ℕ) → keep (λ r. eqb (key r) l) (f l) ≡ f l
  these l = keep_every (λ r. eqb (key r) l) (f l) (all_imp (λ r. key r ≡ l) (λ r. eqb (key r) l ≡ true) (λ r e. eq-eqb (key r) l e) (f l) (own l))

  pub picked : (l i n : ℕ) → i ≤ l → l < i + n → keep (λ r. eqb (key r) l) (flatten (tab_from f i n)) ≡ f l
  unfolding flatten tab_from
  picked l i zero h u = absurd (omega arith)
  picked l i (suc n) h u =
      keep_append (λ r. eqb (key r) l) (f i) (flatten (tab_from f (suc i) n))
      ∙ ⊎_elim (λ (q : i ≡ l). here q) (λ (q : i < l). ap₂ ◌++◌ (not_these l i q) (picked l (suc i) n q (omega arith))) (eq-or-lt_of_le h)
    where
      here : i ≡ l → keep (λ r. eqb (key r) l) (f i) ++ keep (λ r. eqb (key r) l) (flatten (tab_from f (suc i) n)) ≡ f l
      here q =
          ap (λ (k : ℕ). keep (λ r. eqb (key r) l) (f k) ++ keep (λ r. eqb (key r) l) (flatten (tab_from f (suc k) n))) q
          ∙ ap₂ ◌++◌ (these l) (not_later l n)
          ∙ append-nil (f l)
