-- The Rust's computation gives the departure and the shift of `earliest_freq_board`, for all numbers in the bounds: neither its limit
-- of 32 tries nor its test of the departure's sign nor a saturating sum ever acts.
use Prim.Native.Nat.{ℕ, suc, ◌+◌, ◌-◌, ◌<◌, ◌≤◌}
use mathlib.Core.Path.{◌≡◌, refl, ap, ap₂, sym, ◌∙◌}
use mathlib.Core.Bool.{Bool, true, false, cond, ◌&&◌, ◌||◌}
use mathlib.Core.Logic.{⊎_elim}
use Rattle.std.specs.Prelude.{Option, None, Some}
use Rattle.frequency.specs.declared.BoardedRun.{BoardedRun}
use native.Mathlib.Omega.{arith}
use native.Mathlib.Nat.{mod-eq_of_lt, zero-mul, min-eq_left}
use lib.Dec.{eqb, ltb, leb}
use lib.IntN.{ℤ, pos, sub_ℕ, ◌-ℤ◌}
use lib.Signed.{le_z}
use borrow.Author.Tests.{lt-ltb, le-ltb, le-leb, lt-leb, eqb-true, eqb-false, leb-true, leb-false, ltb-true, ltb-false}
use Rattle.loops.specs.Iter.{Hit, hit, miss}
use Rattle.loops.proofs.Iter.{iter_as}
use Rattle.loops.proofs.Search.{split}
use Rattle.signed.specs.Signed.{of_bits, bits_of}
use Rattle.signed.proofs.Laws.{of_low, of_sub}
use Rattle.frequency.specs.Gtfs.{Window, run_start, first_run, board_hit, window_board, earlier_of, board_next, earliest_freq_board, Nominal}
use Rattle.frequency.specs.Rust.{as_u32, max_i64, saturating_add, saturating_mul, div_ceil, max_tries, t_min, first_try, tries, rust_window, keep_best, rust_board, pair_of}
use Rattle.frequency.proofs.Integers.{sub_pos, sub_neg, minus, plus_offset, less_offset}
use Rattle.frequency.proofs.Runs.{Covers, covers_div, run_miss, run-first, run_later, run_past}

small : (n : ℕ) → n < 4294967296 → as_u32 (pos n) ≡ n
small n h = mod-eq_of_lt h

-- the shift is the same
same_shift : (t base : ℕ) → t < 2147483648 → base < 2147483648 → of_bits t -ℤ of_bits base ≡ of_bits (bits_of (sub_ℕ t base))
same_shift t base h k = ap₂ ◌-ℤ◌ (of_low t h) (of_low base k) ∙ minus t base ∙ sym (of_sub t base h k)

module _ (w : Window) (base dep after : ℕ) (s : w.start ≤ 1048575) (d : w.end ≤ 1048575) (g : w.headway ≤ 1048575) (b : base ≤ 1048575) (p : dep < 4194304) (r : after < 134217728) where
  -- the first try, at a run that is not too early, finds it; past the end there is none
  try_hit : (n t : ℕ) → t < w.end → after + base ≤ t + dep → tries w base dep after (suc n) t ≡ Some (t + dep - base, of_bits (bits_of (sub_ℕ t base)))
  unfolding tries
  try_hit n t l u =
      ap₂ tried (lt-ltb t w.end l) (plus_offset t base dep ∙ sub_pos (t + dep) base (omega arith))
      ∙ ap₂ later (le-leb 0 (t + dep - base) (omega arith)) (small (t + dep - base) (omega arith))
      ∙ ap (λ (x : Bool). cond x (Some (t + dep - base, of_bits t -ℤ of_bits base)) rest) (le-leb after (t + dep - base) (omega arith))
      ∙ ap (λ (z : ℤ). Some (t + dep - base, z)) (same_shift t base (omega arith) (omega arith))
    where
      rest : Option (ℕ × ℤ)
      rest = tries w base dep after n (saturating_add t w.headway)

      later : Bool → ℕ → Option (ℕ × ℤ)
      later x q = cond (x && leb after q) (Some (q, of_bits t -ℤ of_bits base)) rest

      tried : Bool → ℤ → Option (ℕ × ℤ)
      tried x z = cond x (cond (le_z (pos 0) z && leb after (as_u32 z)) (Some (as_u32 z, of_bits t -ℤ of_bits base)) rest) None

  try_miss : (n t : ℕ) → w.end ≤ t → tries w base dep after (suc n) t ≡ None
  unfolding tries
  try_miss n t l = rw (le-ltb t w.end l)

  -- t_min is the window's start, or the first start that is not too early
  min_start : after + base ≤ w.start + dep → t_min w base dep after ≡ pos w.start
  min_start l =
      ⊎_elim
      (λ (q : after + base < dep). ap (λ (z : ℤ). max_i64 z (pos w.start)) (less_offset after base dep ∙ sub_neg (after + base) dep q))
      (λ (q : dep ≤ after + base). ap (λ (z : ℤ). max_i64 z (pos w.start)) (less_offset after base dep ∙ sub_pos (after + base) dep q) ∙ ap (λ (x : Bool). cond x (pos w.start) (pos (after + base - dep))) (le-leb (after + base - dep) w.start (omega arith)))
      (split (after + base) dep)

  min_later : w.start + dep < after + base → t_min w base dep after ≡ pos (after + base - dep)
  min_later l =
      ap (λ (z : ℤ). max_i64 z (pos w.start)) (less_offset after base dep ∙ sub_pos (after + base) dep (omega arith))
      ∙ ap (λ (x : Bool). cond x (pos w.start) (pos (after + base - dep))) (lt-leb (after + base - dep) w.start (omega arith))

  -- the first try is at a run's start
  module _ (h : 0 < w.headway) (l : w.start + dep < after + base) where
    -- the seconds by which run 0 is too early, and the headways that cover them
    abbrev late : ℕ
    late = after + base - (w.start + dep)

    abbrev number : ℕ
    number = div_ceil late w.headway

    covers : Covers late w.headway number
    covers = covers_div late w.headway h

    aligned : first_try w (pos (after + base - dep)) ≡ run_start w number
    aligned =
        let c = covers.least in
        let e : after + base - dep - w.start ≡ late = omega arith in
        ap₂ (λ (x : Bool) (m : ℕ). cond x w.start (saturating_add w.start (saturating_mul (div_ceil (m - w.start) w.headway) w.headway))) (lt-leb (after + base - dep) w.start (omega arith)) (small (after + base - dep) (omega arith))
        ∙ ap (λ (m : ℕ). saturating_add w.start (saturating_mul (div_ceil m w.headway) w.headway)) e
        ∙ ap (saturating_add w.start) (min-eq_left (omega arith))
        ∙ min-eq_left (omega arith)

  -- window i: what the definition gives, as a pair
  module _ (i : ℕ) where
    abbrev ours : Option (ℕ × ℤ)
    ours = pair_of (window_board w i base dep after)

    abbrev t : 0 < w.headway → w.start + dep < after + base → ℕ
    t h l = run_start w (number h l)

    pair_none : {x : Option (ℕ × ℤ)} → x ≡ None → first_run w base dep after ≡ miss → x ≡ ours
    pair_none e m = e ∙ sym (ap (λ (x : Hit). pair_of (board_hit w i base dep after x)) m)

    pair_hit : (k t : ℕ) {x : Option (ℕ × ℤ)} → x ≡ Some (t + dep - base, of_bits (bits_of (sub_ℕ t base))) → t ≡ run_start w k → first_run w base dep after ≡ hit k → x ≡ ours
    pair_hit k t e q m = e ∙ ap (λ (y : ℕ). Some (y + dep - base, of_bits (bits_of (sub_ℕ y base)))) q ∙ sym (ap (λ (x : Hit). pair_of (board_hit w i base dep after x)) m)

    abbrev After : ℤ → Option (ℕ × ℤ)
    After z = cond (le_z (pos w.end) z) None (tries w base dep after max_tries (first_try w z))

    -- from t_min on: where a window has runs
    from_start : 0 < w.headway → w.start < w.end → after + base ≤ w.start + dep → After (t_min w base dep after) ≡ ours
    from_start h u l =
        pair_hit 0 w.start
        (ap After (min_start l)
        ∙ ap₂ (λ (x y : Bool). cond x None (tries w base dep after max_tries (cond y w.start (saturating_add w.start (saturating_mul (div_ceil (as_u32 (pos w.start) - w.start) w.headway) w.headway))))) (lt-leb w.end w.start u) (le-leb w.start w.start (omega arith))
        ∙ try_hit 31 w.start u l)
        (omega (arith, zero-mul w.headway)) (run-first w base dep after h u l)

    from_later : (h : 0 < w.headway) → w.start < w.end → w.start + dep < after + base → After (t_min w base dep after) ≡ ours
    from_later h u l = ap After (min_later l) ∙ go (leb w.end (after + base - dep)) refl
      where
        try : (y : Bool) → ltb (t h l) w.end ≡ y → tries w base dep after max_tries (t h l) ≡ ours
        try true e =
            let r = ltb-true (t h l) w.end e in
            pair_hit (number h l) (t h l) (try_hit 31 (t h l) r (omega (arith, (covers h l).enough))) refl (run_later w base dep after (number h l) h (covers h l) r l)
        try false e =
            let r = ltb-false (t h l) w.end e in
            pair_none (try_miss 31 (t h l) r) (run_past w base dep after (number h l) h (covers h l) r l)

        go : (x : Bool) → leb w.end (after + base - dep) ≡ x → cond x None (tries w base dep after max_tries (first_try w (pos (after + base - dep)))) ≡ ours
        go true e = pair_none refl (run_miss w base dep after (λ k c. omega (arith, leb-true w.end (after + base - dep) e, c.runs, c.wanted)))
        go false e = ap (tries w base dep after max_tries) (aligned h l) ∙ try (ltb (t h l) w.end) refl

    pub window_same : rust_window w base dep after ≡ pair_of (window_board w i base dep after)
    window_same = go (eqb w.headway 0) refl (leb w.end w.start) refl
      where
        go : (x : Bool) → eqb w.headway 0 ≡ x → (y : Bool) → leb w.end w.start ≡ y → cond (x || y) None (After (t_min w base dep after)) ≡ ours
        go true e y f = pair_none refl (run_miss w base dep after (λ k c. omega (arith, eqb-true w.headway 0 e, c.spaced)))
        go false e true f = pair_none refl (run_miss w base dep after (λ k c. omega (arith, leb-true w.end w.start f, c.runs)))
        go false e false f =
            let h : 0 < w.headway = ⊎_elim (λ (q : 0 < w.headway). q) (λ (q : w.headway ≤ 0). absurd (eqb-false w.headway 0 e (omega arith))) (split 0 w.headway) in
            let u : w.start < w.end = leb-false w.end w.start f in
            ⊎_elim (λ (l : w.start + dep < after + base). from_later h u l) (λ (l : after + base ≤ w.start + dep). from_start h u l) (split (w.start + dep) (after + base))

-- the best of two, in either form
pair_earlier : (a b : Option BoardedRun) → pair_of (earlier_of a b) ≡ keep_best (pair_of a) (pair_of b)
pair_earlier None None = refl
pair_earlier None (Some b) = refl
pair_earlier (Some a) None = refl
pair_earlier (Some a) (Some b) = go (leb a.departure b.departure)
  where
    go : (x : Bool) → pair_of (cond x (Some a) (Some b)) ≡ cond x (pair_of (Some a)) (pair_of (Some b))
    go true = refl
    go false = refl

-- the Rust's departure and shift are those of the definition
pub rust_same : (n : ℕ) (window : ℕ → Window) (base dep after : ℕ) → Nominal n window base dep after
    → rust_board n window base dep after ≡ pair_of (earliest_freq_board n window base dep after)
unfolding rust_board earliest_freq_board
rust_same n window base dep after m =
    sym
    (iter_as pair_of (board_next window base dep after) (λ i best. keep_best best (rust_window (window i) base dep after)) 0 (n - 0) None
    (λ k x l u. pair_earlier x (window_board (window k) k base dep after) ∙ ap (keep_best (pair_of x)) (sym (same k (omega arith)))))
  where
    same : (k : ℕ) → k < n → rust_window (window k) base dep after ≡ pair_of (window_board (window k) k base dep after)
    same k u = window_same (window k) base dep after (m.starts k u) (m.ends k u) (m.headways k u) m.template m.departs m.ready k
