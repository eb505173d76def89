-- Laws of `range`, one for each need of a counted loop: as it begins, one turn, its end.
use Prim.Native.Nat.{ℕ, zero, suc, ◌+◌, ◌-◌, ◌<◌, ◌≤◌}
use mathlib.Core.Path.{◌≡◌, refl, ap, ◌∙◌, sym, ap₂}
use native.Mathlib.Nat.{eq-or-lt_of_le, add-zero, add-suc, suc-add}
use native.Mathlib.Omega.{arith}
use native.Mathlib.Numerals.{add-one}
use mathlib.Core.Bool.{Bool, true, false, ◌&&◌, ◌||◌}
use mathlib.Core.Logic.{⊎_elim}
use Rattle.loops.specs.Iter.{iter, range, every, every_in, some, first, hit, miss}

pub range_turn : {S : Type 0} (f : ℕ → S → S) (i b : ℕ) (s : S) → i < b → range f i b s ≡ range f (i + 1) b (f i s)
unfolding iter
range_turn f i b s h =
    let e : b - i ≡ suc (b - (i + 1)) = omega arith in
    rw (e, add-one)

pub range_done : {S : Type 0} (f : ℕ → S → S) (i b : ℕ) (s : S) → b ≤ i → range f i b s ≡ s
unfolding iter
range_done f i b s h =
    let e : b - i ≡ 0 = omega arith in
    rw e

-- The invariant `whole ≡ range f i b s` after a turn whose body gave s' ≡ f i s. The order comes last: it is an `omega`'s, which wants its goal known.
pub range_again : {S : Type 0} (f : ℕ → S → S) (i b : ℕ) {whole s s' : S} → whole ≡ range f i b s → s' ≡ f i s → i < b → whole ≡ range f (i + 1) b s'
range_again f i b {whole} {s} inv e h = inv ∙ range_turn f i b s h ∙ ap (range f (i + 1) b) (sym e)

-- the loop is left
pub range_left : {S : Type 0} (f : ℕ → S → S) (i b : ℕ) {whole s : S} → whole ≡ range f i b s → b ≤ i → s ≡ whole
range_left f i b {whole} {s} inv h = sym (inv ∙ range_done f i b s h)

-- what holds as a loop begins and is kept by each turn holds at its end: for theorems about a model
pub iter_keeps : {S : Type 0} (P : ℕ → S → Type 0) (f : ℕ → S → S) (i n : ℕ) (s : S) → P i s
    → ((k : ℕ) (x : S) → i ≤ k → k < i + n → P k x → P (suc k) (f k x)) → P (i + n) (iter f i n s)
unfolding iter
iter_keeps P f i zero s p q = rw add-zero p
iter_keeps P f i (suc n) s p q =
    rw (add-suc, ← suc-add) (iter_keeps P f (suc i) n (f i s) (q i s (omega arith) (omega arith) p) (λ k x l u h. q k x (omega arith) (omega arith) h))

-- a loop in another form: where h takes each turn of f to one of g, it takes the end of the one loop to that of the other
pub iter_as : {S T : Type 0} (h : S → T) (f : ℕ → S → S) (g : ℕ → T → T) (i n : ℕ) (s : S)
    → ((k : ℕ) (x : S) → i ≤ k → k < i + n → h (f k x) ≡ g k (h x)) → h (iter f i n s) ≡ iter g i n (h s)
unfolding iter
iter_as h f g i zero s e = refl
iter_as h f g i (suc n) s e =
    iter_as h f g (suc i) n (f i s) (λ k x l u. e k x (omega arith) (omega arith)) ∙ ap (iter g (suc i) n) (e i s (omega arith) (omega arith))

pub every_turn : (f : ℕ → Bool) (i b : ℕ) → i < b → every f i (b - i) ≡ f i && every f (i + 1) (b - (i + 1))
unfolding every
every_turn f i b h =
    let e : b - i ≡ suc (b - (i + 1)) = omega arith in
    rw (e, add-one)

pub every_done : (f : ℕ → Bool) (i b : ℕ) → b ≤ i → every f i (b - i) ≡ true
unfolding every
every_done f i b h =
    let e : b - i ≡ 0 = omega arith in
    rw e

-- one step of a search, by what its test says
pub first-yes : (f : ℕ → Bool) (i n : ℕ) → f i ≡ true → first f i (suc n) ≡ hit i
unfolding first
first-yes f i n e = ap (λ (x : Bool). elim x [ true ↦ hit i | false ↦ first f (suc i) n ]) e

pub first_next : (f : ℕ → Bool) (i n : ℕ) → f i ≡ false → first f i (suc n) ≡ first f (suc i) n
unfolding first
first_next f i n e = ap (λ (x : Bool). elim x [ true ↦ hit i | false ↦ first f (suc i) n ]) e

-- the two halves of an `&&`
pub and_left : (a b : Bool) → a && b ≡ true → a ≡ true
and_left true b h = refl
and_left false b h = h

pub and_right : (a b : Bool) → a && b ≡ true → b ≡ true
and_right true b h = h
and_right false b h = let z : ◌≡◌ {A = ℕ} 0 1 = cc in absurd (omega arith)

-- what a check of every number says of one of them
pub every_at : (f : ℕ → Bool) (i n k : ℕ) → every f i n ≡ true → i ≤ k → k < i + n → f k ≡ true
unfolding every
every_at f i zero k h l u = absurd (omega arith)
every_at f i (suc n) k h l u =
    ⊎_elim (λ (e : i ≡ k). ap f (sym e) ∙ and_left (f i) (every f (suc i) n) h)
    (λ (e : i < k). every_at f (suc i) n k (and_right (f i) (every f (suc i) n) h) e (omega arith))
    (eq-or-lt_of_le l)

-- A loop that checks every number, with the invariant `whole ≡ every_in f i b`: a turn that goes on, one that finds a no, the end.
pub every_again : (f : ℕ → Bool) (i b : ℕ) {whole : Bool} → whole ≡ every_in f i b → f i ≡ true → i < b → whole ≡ every_in f (i + 1) b
every_again f i b inv e h = inv ∙ every_turn f i b h ∙ simp e

pub every_no : (f : ℕ → Bool) (i b : ℕ) {whole : Bool} → whole ≡ every_in f i b → f i ≡ false → i < b → false ≡ whole
every_no f i b inv e h = sym (inv ∙ every_turn f i b h ∙ simp e)

pub every_left : (f : ℕ → Bool) (i b : ℕ) {whole : Bool} → whole ≡ every_in f i b → b ≤ i → true ≡ whole
every_left f i b inv h = sym (inv ∙ every_done f i b h)

-- A loop that looks at every number and keeps what it found, with the invariant `whole ≡ found && every_in f i b`: a turn, the end.
and_again : (a b c : Bool) → a && (b && c) ≡ (a && b) && c
and_again true b c = refl
and_again false b c = refl

pub every_keep : (f : ℕ → Bool) (i b : ℕ) (found : Bool) {whole more : Bool} → whole ≡ found && every_in f i b → more ≡ found && f i → i < b → whole ≡ more && every_in f (i + 1) b
every_keep f i b found {whole} {more} inv e h =
    inv ∙ ap (λ (x : Bool). found && x) (every_turn f i b h) ∙ and_again found (f i) (every_in f (i + 1) b) ∙ ap (λ (x : Bool). x && every_in f (i + 1) b) (sym e)

pub every_kept : (f : ℕ → Bool) (i b : ℕ) (found : Bool) {whole : Bool} → whole ≡ found && every_in f i b → b ≤ i → found ≡ whole
every_kept f i b found {whole} inv h = sym (inv ∙ ap (λ (x : Bool). found && x) (every_done f i b h) ∙ and-true found)
  where
    and-true : (a : Bool) → a && true ≡ a
    and-true true = refl
    and-true false = refl

-- two tests at once
pub every_both : (f g : ℕ → Bool) (i n : ℕ) → every (λ k. f k && g k) i n ≡ every f i n && every g i n
unfolding every
every_both f g i zero = refl
every_both f g i (suc n) = ap (λ (x : Bool). (f i && g i) && x) (every_both f g (suc i) n) ∙ go (f i) (g i) (every f (suc i) n) (every g (suc i) n)
  where
    go : (a b x y : Bool) → (a && b) && (x && y) ≡ (a && x) && (b && y)
    go true true x y = refl
    go true false true y = refl
    go true false false y = refl
    go false b x y = refl

pub every_in_at : (f : ℕ → Bool) (b k : ℕ) → every_in f 0 b ≡ true → k < b → f k ≡ true
every_in_at f b k h u = every_at f 0 (b - 0) k h (omega arith) (omega arith)

pub first_bound : (f : ℕ → Bool) (i n k : ℕ) → first f i n ≡ hit k → k < i + n
unfolding first
first_bound f i zero k h = let z : ◌≡◌ {A = ℕ} 0 1 = cc in absurd (omega arith)
first_bound f i (suc n) k h = go (f i) refl (first_bound f (suc i) n k)
  where
    go : (t : Bool) → f i ≡ t → (first f (suc i) n ≡ hit k → k < suc i + n) → k < i + suc n
    go true e later = let z : hit i ≡ hit k = sym (first-yes f i n e) ∙ h in let y : i ≡ k = cc in omega arith
    go false e later = let z : first f (suc i) n ≡ hit k = sym (first_next f i n e) ∙ h in omega (arith, later z)

-- a check of every number holds where it holds of each
pub every_all : (f : ℕ → Bool) (i n : ℕ) → ((k : ℕ) → i ≤ k → k < i + n → f k ≡ true) → every f i n ≡ true
unfolding every
every_all f i zero h = refl
every_all f i (suc n) h = ap₂ ◌&&◌ (h i (omega arith) (omega arith)) (every_all f (suc i) n (λ k l u. h k (omega arith) (omega arith)))

-- what a search that finds nothing, or k, says
pub first_none : (f : ℕ → Bool) (i n k : ℕ) → first f i n ≡ miss → i ≤ k → k < i + n → f k ≡ false
unfolding first
first_none f i zero k h l u = absurd (omega arith)
first_none f i (suc n) k h l u = go (f i) refl (first_none f (suc i) n k)
  where
    go : (t : Bool) → f i ≡ t → (first f (suc i) n ≡ miss → suc i ≤ k → k < suc i + n → f k ≡ false) → f k ≡ false
    go true e later = let z : hit i ≡ miss = sym (first-yes f i n e) ∙ h in let y : ◌≡◌ {A = ℕ} 0 1 = cc in absurd (omega arith)
    go false e later = let z : first f (suc i) n ≡ miss = sym (first_next f i n e) ∙ h in ⊎_elim (λ (q : i ≡ k). ap f (sym q) ∙ e) (λ (q : i < k). later z q (omega arith)) (eq-or-lt_of_le l)

pub first_found : (f : ℕ → Bool) (i n k : ℕ) → first f i n ≡ hit k → f k ≡ true
unfolding first
first_found f i zero k h = let y : ◌≡◌ {A = ℕ} 0 1 = cc in absurd (omega arith)
first_found f i (suc n) k h = go (f i) refl (first_found f (suc i) n k)
  where
    go : (t : Bool) → f i ≡ t → (first f (suc i) n ≡ hit k → f k ≡ true) → f k ≡ true
    go true e later = let z : hit i ≡ hit k = sym (first-yes f i n e) ∙ h in let y : i ≡ k = cc in ap f (sym y) ∙ e
    go false e later = later (sym (first_next f i n e) ∙ h)

pub first_before : (f : ℕ → Bool) (i n k j : ℕ) → first f i n ≡ hit k → i ≤ j → j < k → f j ≡ false
unfolding first
first_before f i zero k j h l u = let y : ◌≡◌ {A = ℕ} 0 1 = cc in absurd (omega arith)
first_before f i (suc n) k j h l u = go (f i) refl (first_before f (suc i) n k j)
  where
    go : (t : Bool) → f i ≡ t → (first f (suc i) n ≡ hit k → suc i ≤ j → j < k → f j ≡ false) → f j ≡ false
    go true e later = let z : hit i ≡ hit k = sym (first-yes f i n e) ∙ h in let y : i ≡ k = cc in absurd (omega arith)
    go false e later = ⊎_elim (λ (q : i ≡ j). ap f (sym q) ∙ e) (λ (q : i < j). later (sym (first_next f i n e) ∙ h) q u) (eq-or-lt_of_le l)

-- some number passes exactly where one is at hand; none passes where each fails
pub some_at : (f : ℕ → Bool) (i n k : ℕ) → f k ≡ true → i ≤ k → k < i + n → some f i n ≡ true
unfolding some
some_at f i zero k h l u = absurd (omega arith)
some_at f i (suc n) k h l u =
    ⊎_elim (λ (e : i ≡ k). ap (λ (b : Bool). b || some f (suc i) n) (ap f e ∙ h))
    (λ (e : i < k). ap (λ (b : Bool). f i || b) (some_at f (suc i) n k h e (omega arith)) ∙ or_yes (f i))
    (eq-or-lt_of_le l)
  where
    or_yes : (b : Bool) → b || true ≡ true
    or_yes true = refl
    or_yes false = refl

pub some_none : (f : ℕ → Bool) (i n : ℕ) → ((k : ℕ) → i ≤ k → k < i + n → f k ≡ false) → some f i n ≡ false
unfolding some
some_none f i zero h = refl
some_none f i (suc n) h = ap₂ ◌||◌ (h i (omega arith) (omega arith)) (some_none f (suc i) n (λ k l u. h k (omega arith) (omega arith)))

-- the number that passes
pub record Passes (f : ℕ → Bool) (i n : ℕ) : Type 0 where
  pub at : ℕ
  pub low : i ≤ at
  pub high : at < i + n
  pub passes : f at ≡ true

pub some_found : (f : ℕ → Bool) (i n : ℕ) → some f i n ≡ true → Passes f i n
unfolding some
some_found f i zero h = let z : ◌≡◌ {A = ℕ} 0 1 = cc in absurd (omega arith)
some_found f i (suc n) h = go (f i) refl (some_found f (suc i) n)
  where
    go : (t : Bool) → f i ≡ t → (some f (suc i) n ≡ true → Passes f (suc i) n) → Passes f i (suc n)
    go true e later = record { at = i; low = omega arith; high = omega arith; passes = e }
    go false e later =
        let p = later (ap (λ (b : Bool). b || some f (suc i) n) (sym e) ∙ h) in
        record { at = p.at; low = omega (arith, p.low); high = omega (arith, p.high); passes = p.passes }

-- a search by another test that says the same of each number
pub some_ext : (f g : ℕ → Bool) (i n : ℕ) → ((k : ℕ) → i ≤ k → k < i + n → f k ≡ g k) → some f i n ≡ some g i n
unfolding some
some_ext f g i zero h = refl
some_ext f g i (suc n) h = ap₂ ◌||◌ (h i (omega arith) (omega arith)) (some_ext f g (suc i) n (λ k l u. h k (omega arith) (omega arith)))
