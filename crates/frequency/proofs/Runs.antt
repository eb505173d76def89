-- The first run of a window that can be boarded, by division: one law for each way the answer comes about.
use Prim.Native.Nat.{ℕ, zero, suc, ◌+◌, ◌*◌, ◌-◌, ◌/◌, ◌%◌, ◌<◌, ◌≤◌, min}
use mathlib.Core.Path.{◌≡◌, refl, ap, ap₂, sym, ◌∙◌}
use mathlib.Core.Bool.{Bool, true, false, cond, ◌&&◌, not}
use mathlib.Core.Logic.{⊎_elim}
use native.Mathlib.Omega.{arith}
use native.Mathlib.Nat.{div-add-mod', mod-lt, mul-le-mul_left, mul-le-mul_right, zero-mul, suc-mul, mul-one, add-mul, one-mul}
use lib.Dec.{eqb, ltb}
use lib.IntN.{nat_abs}
use borrow.Author.Tests.{lt-ltb, le-ltb, le-leb, lt-leb, eq-eqb, ne_eqb, eqb-true, eqb-false, ltb-true, leb-true, not-true}
use Rattle.loops.specs.Iter.{Hit, hit, miss}
use Rattle.loops.proofs.Iter.{and_left, and_right, first_found}
use Rattle.loops.proofs.Search.{clash, first_is, first_isnt, split}
use Rattle.frequency.specs.declared.Headways.{Headways}
use Rattle.frequency.specs.declared.Run.{Run}
use Rattle.frequency.specs.Gtfs.{Window, run_start, is_run, leaves_not_before, is_boardable, first_run, need, headways_of, wait_of}
use Rattle.frequency.specs.Found.{no_run, run_of, window_run, headways_by, Remains}
use Rattle.frequency.proofs.Integers.{above_later, above_first, size_later}

-- a quotient rounded up: one more where something is left
abbrev pub rounded_up : (quotient remainder : ℕ) → ℕ
rounded_up q r = cond (eqb r 0) q (q + 1)

-- so the code rounds it up
rounded_is : (q r : ℕ) → q + min 1 r ≡ rounded_up q r
rounded_is q r = go (eqb r 0) refl
  where
    go : (t : Bool) → eqb r 0 ≡ t → q + min 1 r ≡ cond t q (q + 1)
    go true e = let z = eqb-true r 0 e in omega arith
    go false e = let z : r ≡ 0 → ⊥ = eqb-false r 0 e in omega arith

-- k headways of h are enough for n seconds, and one less is not: n / h, rounded up
pub record Covers (n h k : ℕ) : Type 0 where
  pub enough : n ≤ k * h
  pub least : k * h < n + h

pub covers_div : (n h : ℕ) → 0 < h → Covers n h (rounded_up (n / h) (n % h))
covers_div n h p = go (eqb (n % h) 0) refl
  where
    go : (t : Bool) → eqb (n % h) 0 ≡ t → Covers n h (cond t (n / h) (n / h + 1))
    go true e = let z = eqb-true (n % h) 0 e in record { enough = omega (arith, div-add-mod' n h); least = omega (arith, div-add-mod' n h) }
    go false e =
        let z : 0 < n % h = ⊎_elim (λ (q : 0 < n % h). q) (λ (q : n % h ≤ 0). absurd (eqb-false (n % h) 0 e (omega arith))) (split 0 (n % h)) in
        let m : (n / h + 1) * h ≡ n / h * h + h = add-mul (n / h) 1 h ∙ ap (λ (x : ℕ). n / h * h + x) (one-mul h) in
        record { enough = omega (arith, div-add-mod' n h, mod-lt n {m = h} p); least = omega (arith, div-add-mod' n h) }

pub covers_by : (n h k : ℕ) → 0 < h → k ≡ rounded_up (n / h) (n % h) → Covers n h k
covers_by n h k p e = rw e (covers_div n h p)

pub covers_ceil : (n h k : ℕ) → 0 < h → k ≡ n / h + min 1 (n % h) → Covers n h k
covers_ceil n h k p e = covers_by n h k p (e ∙ rounded_is (n / h) (n % h))

covers_less : (n h k j : ℕ) → Covers n h k → j < k → j * h < n
covers_less n h k j c l = omega (arith, mul-le-mul_right {m = suc j} {n = k} h l, suc-mul j h, c.least)

-- what the test says of a run
pub boardable : (w : Window) (base dep after k : ℕ) → 0 < w.headway → run_start w k < w.end → after + base ≤ run_start w k + dep → is_boardable w base dep after k ≡ true
boardable w base dep after k h r l =
    ap₂ ◌&&◌ (ap₂ ◌&&◌ (ap not (ne_eqb w.headway 0 (λ e. omega arith))) (lt-ltb (run_start w k) w.end r)) (le-leb (after + base) (run_start w k + dep) l)

pub record Boardable (w : Window) (base dep after k : ℕ) : Type 0 where
  pub spaced : 0 < w.headway
  pub runs : run_start w k < w.end
  pub wanted : after + base ≤ run_start w k + dep

pub boardable_says : (w : Window) (base dep after k : ℕ) → is_boardable w base dep after k ≡ true → Boardable w base dep after k
boardable_says w base dep after k e =
    let r = and_left (is_run w k) (leaves_not_before base dep after (run_start w k)) e in
    let z = eqb-false w.headway 0 (not-true (eqb w.headway 0) (and_left (not (eqb w.headway 0)) (ltb (run_start w k) w.end) r)) in
    record {
      spaced = ⊎_elim (λ (q : 0 < w.headway). q) (λ (q : w.headway ≤ 0). absurd (z (omega arith))) (split 0 w.headway);
      runs = ltb-true (run_start w k) w.end (and_right (not (eqb w.headway 0)) (ltb (run_start w k) w.end) r);
      wanted = leb-true (after + base) (run_start w k + dep) (and_right (is_run w k) (leaves_not_before base dep after (run_start w k)) e);
    }

-- a run is found among the first end - start, as headways are at least a second
pub run_number : (w : Window) (k : ℕ) → 0 < w.headway → run_start w k < w.end → k < w.end - w.start
run_number w k h r = omega (arith, mul-le-mul_left {m = 1} {n = w.headway} k h, mul-one k)

module _ (w : Window) (base dep after : ℕ) where
  run_hit : (k : ℕ) → 0 < w.headway → run_start w k < w.end → after + base ≤ run_start w k + dep → ((j : ℕ) → j < k → run_start w j + dep < after + base) → first_run w base dep after ≡ hit k
  unfolding first_run
  run_hit k h r l b = first_is (is_boardable w base dep after) (w.end - w.start) k (boardable w base dep after k h r l) (λ j u. early j (b j u)) (run_number w k h r)
    where
      early : (j : ℕ) → run_start w j + dep < after + base → is_boardable w base dep after j ≡ false
      early j u = ap (λ (t : Bool). is_run w j && t) (lt-leb (after + base) (run_start w j + dep) u) ∙ no (is_run w j)
        where
          no : (t : Bool) → t && false ≡ false
          no true = refl
          no false = refl

  -- nothing can be boarded
  pub run_miss : ((k : ℕ) → Boardable w base dep after k → ⊥) → first_run w base dep after ≡ miss
  unfolding first_run
  run_miss b = first_isnt (is_boardable w base dep after) (w.end - w.start) (λ j u. go j (is_boardable w base dep after j) refl)
    where
      go : (j : ℕ) (t : Bool) → is_boardable w base dep after j ≡ t → is_boardable w base dep after j ≡ false
      go j true e = absurd (b j (boardable_says w base dep after j e))
      go j false e = e

  -- run 0 is not too early
  pub run-first : 0 < w.headway → w.start < w.end → after + base ≤ w.start + dep → first_run w base dep after ≡ hit 0
  run-first h r l = run_hit 0 h (omega (arith, zero-mul w.headway)) (omega (arith, zero-mul w.headway)) (λ j u. absurd (omega arith))

  -- run 0 is too early by n seconds: the number of headways that cover them
  module _ (k : ℕ) (h : 0 < w.headway) (c : Covers (after + base - (w.start + dep)) w.headway k) where
    pub run_later : run_start w k < w.end → w.start + dep < after + base → first_run w base dep after ≡ hit k
    run_later r l = run_hit k h r (omega (arith, c.enough)) (λ j u. omega (arith, covers_less (after + base - (w.start + dep)) w.headway k j c u))

    pub run_past : w.end ≤ run_start w k → w.start + dep < after + base → first_run w base dep after ≡ miss
    run_past r l =
        run_miss
        (λ j b. ⊎_elim
        (λ (u : j < k). omega (arith, covers_less (after + base - (w.start + dep)) w.headway k j c u, b.wanted))
        (λ (u : k ≤ j). omega (arith, mul-le-mul_right {m = k} {n = j} w.headway u, b.runs))
        (split j k))

-- the run that a search found
pub found_says : (w : Window) (base dep after k : ℕ) → first_run w base dep after ≡ hit k → Boardable w base dep after k
unfolding first_run
found_says w base dep after k e = boardable_says w base dep after k (first_found (is_boardable w base dep after) 0 (w.end - w.start - 0) k e)

number_of : Hit → ℕ
number_of (hit k) = k
number_of miss = 0

is_hit : Hit → Bool
is_hit (hit k) = true
is_hit miss = false

-- its number, and the wait for it
module _ (w : Window) (base dep after k : ℕ) (e : first_run w base dep after ≡ hit k) where
  abbrev h : ℕ
  h = w.headway

  pub first_number : after + base ≤ w.start + dep → k ≡ 0
  unfolding number_of
  first_number l =
      let s = found_says w base dep after k e in
      ap number_of (sym e ∙ run-first w base dep after s.spaced (omega (arith, s.runs)) l)

  module _ (l : w.start + dep < after + base) where
    abbrev n : ℕ
    n = after + base - (w.start + dep)

    pub later_number : k ≡ rounded_up (n / h) (n % h)
    unfolding number_of is_hit
    later_number =
        let c = covers_div n h (found_says w base dep after k e).spaced in
        let s : 0 < h = (found_says w base dep after k e).spaced in
        ⊎_elim
        (λ (u : run_start w (rounded_up (n / h) (n % h)) < w.end). ap number_of (sym e ∙ run_later w base dep after (rounded_up (n / h) (n % h)) s c u l))
        (λ (u : w.end ≤ run_start w (rounded_up (n / h) (n % h))). absurd (clash (ap is_hit e) (ap is_hit (run_past w base dep after (rounded_up (n / h) (n % h)) s c u l))))
        (split (run_start w (rounded_up (n / h) (n % h))) w.end)

    left : cond (eqb (n % h) 0) 0 (h - n % h) ≡ run_start w k + dep - base - after
    left = go (eqb (n % h) 0) refl ∙ sym (ap (λ (j : ℕ). run_start w j + dep - base - after) later_number)
      where
        go : (t : Bool) → eqb (n % h) 0 ≡ t → cond t 0 (h - n % h) ≡ run_start w (cond t (n / h) (n / h + 1)) + dep - base - after
        go true q = let z = eqb-true (n % h) 0 q in omega (arith, div-add-mod' n h)
        go false q =
            let m : (n / h + 1) * h ≡ n / h * h + h = add-mul (n / h) 1 h ∙ ap (λ (x : ℕ). n / h * h + x) (one-mul h) in
            omega (arith, div-add-mod' n h, mod-lt n {m = h} (found_says w base dep after k e).spaced)

  -- in both cases it is from the wanted time to the departure
  pub wait_is : wait_of w base dep after (run_start w k + dep - base) ≡ run_start w k + dep - base - after
  wait_is =
      ⊎_elim
      (λ (l : w.start + dep < after + base). ap₂ wait (above_later w base dep after l) (size_later w base dep after l) ∙ left l)
      (λ (l : after + base ≤ w.start + dep). ap (λ (x : Bool). wait x (nat_abs (need w base dep after))) (above_first w base dep after l))
      (split (w.start + dep) (after + base))
    where
      wait : Bool → ℕ → ℕ
      wait x m = cond x (cond (eqb (m % h) 0) 0 (h - m % h)) (run_start w k + dep - base - after)

-- what the code hands on, by what the search finds
module _ (w : Window) (i base dep after : ℕ) where
  pub found_none : {r : Run} → r ≡ no_run → first_run w base dep after ≡ miss → r ≡ window_run w i base dep after
  found_none n e = n ∙ sym (ap (run_of w i) e)

  pub found_run : (k : ℕ) {t : ℕ} → t ≡ run_start w k → first_run w base dep after ≡ hit k → record { start = t; window = i; run = k } ≡ window_run w i base dep after
  found_run k q e = ap (λ (x : ℕ). record { start = x; window = i; run = k }) q ∙ sym (ap (run_of w i) e)

-- quotient and remainder follow from n and the wait
module _ (w : Window) (base dep after i k : ℕ) (e : first_run w base dep after ≡ hit k) where
  abbrev wait : ℕ
  wait = run_start w k + dep - base - after

  abbrev late : Bool
  late = ltb (w.start + dep) (after + base)

  module _ (l : w.start + dep < after + base) where
    abbrev m : ℕ
    m = after + base - (w.start + dep)

    by_quotient : cond (eqb wait 0) k (k - 1) ≡ m / w.headway
    by_quotient = go (eqb (m % w.headway) 0) refl (later_number w base dep after k e l) (left w base dep after k e l)
      where
        go : (t : Bool) → eqb (m % w.headway) 0 ≡ t → k ≡ cond t (m / w.headway) (m / w.headway + 1) → cond t 0 (w.headway - m % w.headway) ≡ wait
            → cond (eqb wait 0) k (k - 1) ≡ m / w.headway
        go true q c v = ap (λ (t : Bool). cond t k (k - 1)) (eq-eqb wait 0 (sym v)) ∙ c
        go false q c v =
            let p = mod-lt m {m = w.headway} (found_says w base dep after k e).spaced in
            ap (λ (t : Bool). cond t k (k - 1)) (ne_eqb wait 0 (λ z. omega (arith, z, v, p))) ∙ omega (arith, c)

    by_remainder : cond (eqb wait 0) 0 (w.headway - wait) ≡ m % w.headway
    by_remainder = go (eqb (m % w.headway) 0) refl (left w base dep after k e l)
      where
        go : (t : Bool) → eqb (m % w.headway) 0 ≡ t → cond t 0 (w.headway - m % w.headway) ≡ wait → cond (eqb wait 0) 0 (w.headway - wait) ≡ m % w.headway
        go true q v = ap (λ (t : Bool). cond t 0 (w.headway - wait)) (eq-eqb wait 0 (sym v)) ∙ sym (eqb-true (m % w.headway) 0 q)
        go false q v =
            let p = mod-lt m {m = w.headway} (found_says w base dep after k e).spaced in
            ap (λ (t : Bool). cond t 0 (w.headway - wait)) (ne_eqb wait 0 (λ z. omega (arith, z, v, p))) ∙ omega (arith, v, p)

  pub headways_are : headways_by i k w.headway late wait ≡ headways_of w i base dep after k
  headways_are =
      ⊎_elim
      (λ (l : w.start + dep < after + base).
      ap (λ (t : Bool). headways_by i k w.headway t wait) (lt-ltb (w.start + dep) (after + base) l)
      ∙ ap₂ (λ (x y : ℕ). record { window = i; run = k; quotient = x; remainder = y }) (by_quotient l) (by_remainder l)
      ∙ sym (ap₂ of (above_later w base dep after l) (size_later w base dep after l)))
      (λ (l : after + base ≤ w.start + dep).
      ap (λ (t : Bool). headways_by i k w.headway t wait) (le-ltb (w.start + dep) (after + base) l)
      ∙ sym (ap (λ (t : Bool). of t (nat_abs (need w base dep after))) (above_first w base dep after l)))
      (split (w.start + dep) (after + base))
    where
      of : Bool → ℕ → Headways
      of t x = record { window = i; run = k; quotient = cond t (x / w.headway) 0; remainder = cond t (x % w.headway) 0 }

  pub remains : Remains k w.headway late wait
  remains = record { some = λ t p. some-run (ltb-true (w.start + dep) (after + base) t); within = λ t p. no_more (ltb-true (w.start + dep) (after + base) t) }
    where
      some-run : w.start + dep < after + base → 0 < k
      some-run l = pos_run k (found_says w base dep after k e).wanted l
        where
          pos_run : (j : ℕ) → after + base ≤ run_start w j + dep → w.start + dep < after + base → 0 < j
          pos_run zero q l = absurd (omega (arith, q, zero-mul w.headway))
          pos_run (suc j) q l = omega arith

      no_more : w.start + dep < after + base → wait ≤ w.headway
      no_more l =
          let c = covers_by (after + base - (w.start + dep)) w.headway k (found_says w base dep after k e).spaced (later_number w base dep after k e l) in
          omega (arith, c.least)
