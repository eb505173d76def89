-- Laws of lists: what is kept, the first that passes, lists joined.
use lib.Dec.{leb, ltb}
use borrow.Author.Tests.{le-leb, lt-leb, ltb-false, ltb-true}
use Rattle.loops.proofs.Search.{halved_down, halved_start, halved_up}
use Prim.Native.Nat.{ℕ, zero, suc, ◌+◌, ◌*◌, ◌-◌, ◌/◌, ◌<◌, ◌≤◌}
use mathlib.Core.Path.{◌≡◌, refl, sym, ◌∙◌, ap, ap₂}
use mathlib.Core.Bool.{Bool, true, false, not, cond}
use mathlib.Core.List.{List, [], ◌∷◌, ◌++◌, append_assoc, map, flatten}
use mathlib.Core.Logic.{⊎_elim}
use native.Mathlib.Nat.{eq-or-lt_of_le}
use native.Mathlib.Omega.{arith}
use lib.ListN.{length, get_or, take, drop, length-append, length-take, replicate, length-replicate}
use lib.Seq.{slice, take_at}
use Rattle.loops.specs.Count.{one, tab, tab_from}
use Rattle.loops.proofs.Count.{tab_from_ext}
use Rattle.loops.specs.Order.{Halved, Stays}
use Rattle.sorts.specs.Sort.{within}
use Rattle.sorts.specs.Orders.{All, Rising, cons, keep, nil}
use Rattle.sorts.proofs.Places.{all_at, rising_all, rising_tail}
use Rattle.sorts.proofs.Within.{within_drop}

-- what is kept
pub keep_append : {A : Type 0} (p : A → Bool) (a b : List A) → keep p (a ++ b) ≡ keep p a ++ keep p b
unfolding keep
keep_append p [] b = refl
keep_append {A} p (x ∷ a) b = go (p x) (keep_append p a b)
  where
    go : (t : Bool) → keep p (a ++ b) ≡ keep p a ++ keep p b → cond t (x ∷ keep p (a ++ b)) (keep p (a ++ b)) ≡ cond t (x ∷ keep p a) (keep p a) ++ keep p b
    go true e = ap (λ (l : List A). x ∷ l) e
    go false e = e

pub keep_yes : {A : Type 0} (p : A → Bool) (d : A) (l : List A) → ((i : ℕ) → i < length l → p (get_or l i d) ≡ true) → keep p l ≡ l
unfolding keep
keep_yes p d [] h = refl
keep_yes {A} p d (x ∷ l) h = ap (λ (t : Bool). cond t (x ∷ keep p l) (keep p l)) (h 0 (omega arith)) ∙ ap (λ (m : List A). x ∷ m) (keep_yes p d l (λ i u. h (suc i) (omega arith)))

pub keep_no : {A : Type 0} (p : A → Bool) (d : A) (l : List A) → ((i : ℕ) → i < length l → p (get_or l i d) ≡ false) → keep p l ≡ []
unfolding keep
keep_no p d [] h = refl
keep_no p d (x ∷ l) h = ap (λ (t : Bool). cond t (x ∷ keep p l) (keep p l)) (h 0 (omega arith)) ∙ keep_no p d l (λ i u. h (suc i) (omega arith))

pub keep_none : {A : Type 0} (p : A → Bool) → keep p [] ≡ []
unfolding keep
keep_none p = refl

-- the first that passes
pub first_kept : {A : Type 0} (p : A → Bool) (d : A) (l : List A) (k : ℕ) → k < length l → ((i : ℕ) → i < k → p (get_or l i d) ≡ false) → p (get_or l k d) ≡ true
    → take 1 (keep p l) ≡ get_or l k d ∷ []
unfolding keep
first_kept p d [] k u h e = absurd (omega arith)
first_kept p d (x ∷ l) zero u h e = ap (λ (t : Bool). take 1 (cond t (x ∷ keep p l) (keep p l))) e
first_kept p d (x ∷ l) (suc k) u h e =
    ap (λ (t : Bool). take 1 (cond t (x ∷ keep p l) (keep p l))) (h 0 (omega arith)) ∙ first_kept p d l k (omega arith) (λ i v. h (suc i) (omega arith)) e

-- lists joined
pub flatten_append : {A : Type 0} (a b : List (List A)) → flatten (a ++ b) ≡ flatten a ++ flatten b
unfolding flatten
flatten_append [] b = refl
flatten_append {A} (l ∷ a) b = ap (λ (m : List A). l ++ m) (flatten_append a b) ∙ sym (append_assoc l (flatten a) (flatten b))

pub flatten_none : {A : Type 0} (f : ℕ → List A) (i n : ℕ) → ((l : ℕ) → i ≤ l → f l ≡ []) → flatten (tab_from f i n) ≡ []
unfolding flatten tab_from
flatten_none f i zero h = refl
flatten_none f i (suc n) h = ap₂ ◌++◌ (h i (omega arith)) (flatten_none f (suc i) n (λ l u. h l (omega arith)))

-- past the last that is not empty
flatten_from : {A : Type 0} (f : ℕ → List A) (i n k : ℕ) → ((l : ℕ) → i + n ≤ l → f l ≡ []) → flatten (tab_from f i (n + k)) ≡ flatten (tab_from f i n)
unfolding flatten tab_from
flatten_from f i zero k h = let e : 0 + k ≡ k = omega arith in rw e (flatten_none f i k (λ l u. h l (omega arith)))
flatten_from {A} f i (suc n) k h = let e : suc n + k ≡ suc (n + k) = omega arith in rw e (ap (λ (m : List A). f i ++ m) (flatten_from f (suc i) n k (λ l u. h l (omega arith))))

pub flatten_up_to : {A : Type 0} (f : ℕ → List A) (n m : ℕ) → n ≤ m → ((l : ℕ) → n ≤ l → f l ≡ []) → flatten (tab f m) ≡ flatten (tab f n)
flatten_up_to f n m u h = let e : n + (m - n) ≡ m = omega arith in rw e at (flatten_from f 0 n (m - n) (λ l v. h l (omega arith)))

-- where one more stands at place k of the numbers, and nothing before it, it comes first
pub flatten_one : {A : Type 0} (f g : ℕ → List A) (k i n : ℕ) → i ≤ k → k < i + n → ((l : ℕ) → l < k → f l ≡ []) → ((l : ℕ) → l ≤ k → g l ≡ []) → ((l : ℕ) → k < l → f l ≡ g l)
    → flatten (tab_from f i n) ≡ f k ++ flatten (tab_from g i n)
unfolding flatten tab_from
flatten_one f g k i zero h u a b e = absurd (omega arith)
flatten_one {A} f g k i (suc n) h u a b e = ⊎_elim (λ (q : i ≡ k). same q) (λ (q : i < k). later q (flatten_one f g k (suc i) n q (omega arith) a b e)) (eq-or-lt_of_le h)
  where
    same : i ≡ k → f i ++ flatten (tab_from f (suc i) n) ≡ f k ++ (g i ++ flatten (tab_from g (suc i) n))
    same q =
        ap₂ ◌++◌ (ap f q)
        (ap flatten (tab_from_ext f g (suc i) n (λ l x y. e l (omega arith))) ∙ ap (λ (m : List A). m ++ flatten (tab_from g (suc i) n)) (sym (b i (omega arith))))

    later : i < k → flatten (tab_from f (suc i) n) ≡ f k ++ flatten (tab_from g (suc i) n) → f i ++ flatten (tab_from f (suc i) n) ≡ f k ++ (g i ++ flatten (tab_from g (suc i) n))
    later q r =
        ap (λ (m : List A). m ++ flatten (tab_from f (suc i) n)) (a i q) ∙ r
        ∙ ap (λ (m : List A). f k ++ (m ++ flatten (tab_from g (suc i) n))) (sym (b i (omega arith)))

-- two neighbouring places of a list replaced
pub within_is : {A : Type 0} (lo e : ℕ) (z l : List A) → within lo e z l ≡ take lo l ++ (z ++ drop e l)
unfolding within
within_is lo e z l = refl

within_front : {A : Type 0} (lo m : ℕ) (y l : List A) → lo ≤ m → m ≤ length l → length y ≡ m - lo → take m (within lo m y l) ≡ take lo l ++ y
unfolding within
within_front lo m y l h k w =
    ap (take m) (sym (append_assoc (take lo l) y (drop m l)))
    ∙ take_at (take lo l ++ y) (drop m l) m (simp (length-append, length-take) (omega arith))

pub within_join : {A : Type 0} (lo m e : ℕ) (y z l : List A) → lo ≤ m → m ≤ e → e ≤ length l → length y ≡ m - lo → within m e z (within lo m y l) ≡ within lo e (y ++ z) l
within_join {A} lo m e y z l h k u w =
    within_is m e z (within lo m y l)
    ∙ ap₂ (λ (a b : List A). a ++ (z ++ b)) (within_front lo m y l h (omega arith) w) (within_drop lo m y l h (omega arith) w e k)
    ∙ append_assoc (take lo l) y (z ++ drop e l)
    ∙ ap (λ (a : List A). take lo l ++ a) (sym (append_assoc y z (drop e l)))
    ∙ sym (within_is lo e (y ++ z) l)

-- one halving, and what is left of one number
module _ (f : ℕ → Bool) (n lo size : ℕ) (s : Stays f n) (h : Halved f n lo (lo + size)) where
  half_up : 1 < size → f (lo + size / 2) ≡ false → Halved f n (lo + size / 2) (lo + size / 2 + (size - size / 2))
  half_up u e =
      let q = halved_up f n lo (lo + size) (lo + size / 2) s h e (omega arith) in
      record { order = omega arith; inside = omega (arith, h.inside); below = λ k l. q.below k (omega arith); above = λ k a b. h.above k (omega arith) b }

  half_down : 1 < size → f (lo + size / 2) ≡ true → Halved f n lo (lo + (size - size / 2))
  half_down u e =
      let q = halved_down f n lo (lo + size) (lo + size / 2) s h e (omega arith) (omega arith) in
      record { order = omega arith; inside = omega (arith, h.inside); below = h.below; above = λ k a b. q.above k (omega arith) b }

  pub halved_either : 1 < size → (b : Bool) → f (lo + size / 2) ≡ not b → (r : ℕ) → r ≡ lo + size / 2 * one b → Halved f n r (r + (size - size / 2))
  halved_either u true e r q = let z : r ≡ lo + size / 2 = omega arith in rw z (half_up u e)
  halved_either u false e r q = let z : r ≡ lo = omega arith in rw z (half_down u e)

  pub last_up : size ≡ 1 → f lo ≡ false → Halved f n (lo + 1) (lo + 1)
  last_up u e =
      let q = halved_up f n lo (lo + size) lo s h e (omega arith) in
      record { order = omega arith; inside = omega (arith, h.inside); below = q.below; above = λ k a b. q.above k (omega arith) b }

  pub last_down : size ≡ 1 → f lo ≡ true → Halved f n lo lo
  last_down u e = halved_down f n lo (lo + size) lo s h e (omega arith) (omega arith)

-- a test and the opposite one
pub leb_not : (a b : ℕ) → leb b a ≡ not (ltb a b)
leb_not a b = go (ltb a b) refl
  where
    go : (t : Bool) → ltb a b ≡ t → leb b a ≡ not t
    go true e = lt-leb b a (ltb-true a b e)
    go false e = le-leb b a (ltb-false a b e)

-- none passes where the last does not
pub halved_none : (f : ℕ → Bool) (n : ℕ) → Stays f n → 0 < n → f (n - 1) ≡ false → Halved f n n n
halved_none f n s u e =
    let q = halved_up f n 0 n (n - 1) s (halved_start f n) e (omega arith) in
    record { order = omega arith; inside = omega arith; below = λ k l. q.below k (omega arith); above = λ k a b. absurd (omega arith) }

-- lists of values
module _ {A B : Type 0} (f : A → B) where
  map_append : (a b : List A) → map f (a ++ b) ≡ map f a ++ map f b
  map_append [] b = refl
  map_append (x ∷ a) b = ap (λ (l : List B). f x ∷ l) (map_append a b)

  pub map_take : (n : ℕ) (l : List A) → map f (take n l) ≡ take n (map f l)
  map_take zero l = refl
  map_take (suc n) [] = refl
  map_take (suc n) (x ∷ l) = ap (λ (m : List B). f x ∷ m) (map_take n l)

  map_drop : (n : ℕ) (l : List A) → map f (drop n l) ≡ drop n (map f l)
  map_drop zero l = refl
  map_drop (suc n) [] = refl
  map_drop (suc n) (x ∷ l) = map_drop n l

  pub map_slice : (a e : ℕ) (l : List A) → map f (slice a e l) ≡ slice a e (map f l)
  map_slice a e l = map_drop a (take e l) ∙ ap (drop a) (map_take e l)

  pub length-map : (l : List A) → length (map f l) ≡ length l
  length-map [] = refl
  length-map (x ∷ l) = ap suc (length-map l)

  pub flatten_map : (l : List (List A)) → flatten (map (map f) l) ≡ map f (flatten l)
  unfolding flatten
  flatten_map [] = refl
  flatten_map (x ∷ l) = ap (λ (m : List B). map f x ++ m) (flatten_map l) ∙ sym (map_append x (flatten l))

  pub keep_map : (p : B → Bool) (q : A → Bool) (l : List A) → All (λ x. p (f x) ≡ q x) l → keep p (map f l) ≡ map f (keep q l)
  unfolding keep
  keep_map p q [] nil = refl
  keep_map p q (x ∷ l) (cons e a) = ap (λ (t : Bool). cond t (f x ∷ keep p (map f l)) (keep p (map f l))) e ∙ go (q x) (keep_map p q l a)
    where
      go : (t : Bool) → keep p (map f l) ≡ map f (keep q l) → cond t (f x ∷ keep p (map f l)) (keep p (map f l)) ≡ map f (cond t (x ∷ keep q l) (keep q l))
      go true i = ap (λ (m : List B). f x ∷ m) i
      go false i = i

  pub all_map : (P : B → Type 0) (l : List A) → All (λ x. P (f x)) l → All P (map f l)
  all_map P [] nil = nil
  all_map P (x ∷ l) (cons p a) = cons p (all_map P l a)

-- what holds of each
module _ {A : Type 0} where
  pub all_imp : (P Q : A → Type 0) → ((x : A) → P x → Q x) → (l : List A) → All P l → All Q l
  all_imp P Q h [] nil = nil
  all_imp P Q h (x ∷ l) (cons p a) = cons (h x p) (all_imp P Q h l a)

  pub all_keep : (P : A → Type 0) (p : A → Bool) (l : List A) → All P l → All (λ x. P x × (p x ≡ true)) (keep p l)
  unfolding keep
  all_keep P p [] nil = nil
  all_keep P p (x ∷ l) (cons q a) = go (p x) refl (all_keep P p l a)
    where
      go : (t : Bool) → p x ≡ t → All (λ y. P y × (p y ≡ true)) (keep p l) → All (λ y. P y × (p y ≡ true)) (cond t (x ∷ keep p l) (keep p l))
      go true e i = cons (q, e) i
      go false e i = i

  pub all_kept : (P : A → Type 0) (p : A → Bool) (l : List A) → All P l → All P (keep p l)
  all_kept P p l a = all_imp (λ x. P x × (p x ≡ true)) P (λ x h. h.0) (keep p l) (all_keep P p l a)

  pub all_both : (P Q : A → Type 0) (l : List A) → All P l → All Q l → All (λ x. P x × Q x) l
  all_both P Q [] nil nil = nil
  all_both P Q (x ∷ l) (cons p a) (cons q b) = cons (p, q) (all_both P Q l a b)

  pub length_keep : (p : A → Bool) (l : List A) → length (keep p l) ≤ length l
  unfolding keep
  length_keep p [] = omega arith
  length_keep p (x ∷ l) = go (p x) (length_keep p l)
    where
      go : (t : Bool) → length (keep p l) ≤ length l → length (cond t (x ∷ keep p l) (keep p l)) ≤ suc (length l)
      go true h = omega arith
      go false h = omega arith

  pub all_take : (P : A → Type 0) (n : ℕ) (l : List A) → All P l → All P (take n l)
  all_take P zero l a = nil
  all_take P (suc n) [] nil = nil
  all_take P (suc n) (x ∷ l) (cons p a) = cons p (all_take P n l a)

  pub all_append : (P : A → Type 0) (a b : List A) → All P a → All P b → All P (a ++ b)
  all_append P [] b nil q = q
  all_append P (x ∷ a) b (cons p r) q = cons p (all_append P a b r q)

  pub all_flatten : (P : A → Type 0) (l : List (List A)) → All (All P) l → All P (flatten l)
  unfolding flatten
  all_flatten P [] nil = nil
  all_flatten P (x ∷ l) (cons p a) = all_append P x (flatten l) p (all_flatten P l a)

-- where all pass, and where none does
pub keep_every : {A : Type 0} (p : A → Bool) (l : List A) → All (λ x. p x ≡ true) l → keep p l ≡ l
unfolding keep
keep_every p [] nil = refl
keep_every {A} p (x ∷ l) (cons e a) = ap (λ (t : Bool). cond t (x ∷ keep p l) (keep p l)) e ∙ ap (λ (m : List A). x ∷ m) (keep_every p l a)

pub keep_none_of : {A : Type 0} (p : A → Bool) (l : List A) → All (λ x. p x ≡ false) l → keep p l ≡ []
unfolding keep
keep_none_of p [] nil = refl
keep_none_of p (x ∷ l) (cons e a) = ap (λ (t : Bool). cond t (x ∷ keep p l) (keep p l)) e ∙ keep_none_of p l a

-- a sorted list, place by place
pub rising_at : {A : Type 0} (key : A → ℕ) (d : A) (l : List A) (i j : ℕ) → Rising key l → i ≤ j → j < length l → key (get_or l i d) ≤ key (get_or l j d)
rising_at key d [] i j r h u = absurd (omega arith)
rising_at key d (x ∷ l) zero zero r h u = omega arith
rising_at key d (x ∷ l) zero (suc j) r h u = all_at (λ z. key x ≤ key z) l j d (rising_all key x l r) (omega arith)
rising_at key d (x ∷ l) (suc i) zero r h u = absurd (omega arith)
rising_at key d (x ∷ l) (suc i) (suc j) r h u = rising_at key d l i j (rising_tail key x l r) (omega arith) (omega arith)

-- how long a repeat is
pub repeat_room : (n d z : ℕ) → d ≤ n → d ≤ length (replicate n z)
repeat_room n d z h = omega (arith, length-replicate n z)
