-- What the numbers of a boarding mean: of every boarding that `earliest_freq_board` gives.
use Prim.Native.Nat.{ℕ, ◌+◌, ◌*◌, ◌-◌, ◌/◌, ◌%◌, ◌<◌, ◌≤◌}
use mathlib.Core.Path.{◌≡◌, refl, ap, ap₂, sym, ◌∙◌, subst}
use mathlib.Core.Bool.{Bool, true, false, cond}
use mathlib.Core.Logic.{⊎_elim}
use native.Mathlib.Omega.{arith}
use native.Mathlib.Nat.{div-add-mod', mod-lt}
use lib.Dec.{eqb}
use lib.IntN.{ℤ, pos, nat_abs}
use Rattle.loops.specs.Iter.{Hit, hit, miss}
use Rattle.loops.proofs.Iter.{iter_keeps}
use Rattle.loops.proofs.Search.{clash, split}
use Rattle.frequency.specs.declared.BoardedRun.{BoardedRun}
use Rattle.std.specs.Prelude.{Option, None, Some}
use Rattle.frequency.specs.Gtfs.{Window, run_start, first_run, need, is_above, board_run, board_hit, board_next, earliest_freq_board}
use Rattle.frequency.specs.Waits.{NeedAbove, NeedNotAbove, Waits}
use Rattle.frequency.proofs.Integers.{sub_pos, plus_offset, above_later, above_first, size_later, need_size}
use Rattle.frequency.proofs.Best.{earlier_keeps}
use Rattle.frequency.proofs.Runs.{found_says, first_number, later_number, wait_is}

-- of the first run of a window that can be boarded
module _ (w : Window) (base dep after i k : ℕ) (e : first_run w base dep after ≡ hit k) where
  abbrev b : BoardedRun
  b = board_run w i base dep after k

  abbrev h : ℕ
  h = w.headway

  abbrev z : ℤ
  z = need w base dep after

  rounded : (t : Bool) (q : ℕ) → cond t q (q + 1) ≡ q + cond t 0 1
  rounded true q = omega arith
  rounded false q = refl

  is-above : is_above z ≡ true → NeedAbove w base dep after b
  is-above a =
      let l : w.start + dep < after + base =
      ⊎_elim (λ (l : w.start + dep < after + base). l) (λ (l : after + base ≤ w.start + dep). absurd (clash a (above_first w base dep after l)))
      (split (w.start + dep) (after + base)) in
      let m : ℕ = nat_abs z in
      let n : ℕ = after + base - (w.start + dep) in
      record {
        divides = need_size w base dep after l ∙ ap pos (sym (div-add-mod' m h)) ∙ ap (λ (t : Bool). pos (cond t (m / h) 0 * h + cond t (m % h) 0)) (sym a);
        rounds_up =
            later_number w base dep after k e l ∙ rounded (eqb (n % h) 0) (n / h)
            ∙ ap₂ (λ (t : Bool) (x : ℕ). cond t (x / h) 0 + cond (eqb (cond t (x % h) 0) 0) 0 1) (sym a) (sym (size_later w base dep after l));
        remains =
            ap (λ (t : Bool). cond t (cond (eqb (m % h) 0) 0 (h - m % h)) (run_start w k + dep - base - after)) a
            ∙ ap (λ (t : Bool). cond (eqb (cond t (m % h) 0) 0) 0 (h - cond t (m % h) 0)) (sym a);
      }

  is_not_above : is_above z ≡ false → NeedNotAbove b
  is_not_above a =
      record {
        first_run =
            ⊎_elim (λ (l : w.start + dep < after + base). absurd (clash (above_later w base dep after l) a))
            (λ (l : after + base ≤ w.start + dep). first_number w base dep after k e l)
            (split (w.start + dep) (after + base));
        no_quotient = ap (λ (t : Bool). cond t (nat_abs z / h) 0) a;
        no_remainder = ap (λ (t : Bool). cond t (nat_abs z % h) 0) a;
      }

  run_waits : Waits w base dep after b
  run_waits =
      let s = found_says w base dep after k e in
      record {
        departs_at = sym (plus_offset (run_start w k) base dep ∙ sub_pos (run_start w k + dep) base (omega (arith, s.wanted)));
        waits = ap (λ (x : ℕ). x + after) (wait_is w base dep after k e) ∙ omega (arith, s.wanted);
        left_over = below (is_above z) s.spaced;
        above = is-above;
        not-above = is_not_above;
      }
    where
      below : (t : Bool) → 0 < h → cond t (nat_abs z % h) 0 < h
      below true p = mod-lt (nat_abs z) {m = h} p
      below false p = p

module _ (window : ℕ → Window) (base dep after : ℕ) where
  -- a boarding that is found is one of a window's first run
  data Chosen : Option BoardedRun → Type 0 where
    nothing : Chosen None
    chosen : {b : BoardedRun} (i k : ℕ) → first_run (window i) base dep after ≡ hit k → b ≡ board_run (window i) i base dep after k → Chosen (Some b)

  window_chosen : (i : ℕ) (x : Hit) → first_run (window i) base dep after ≡ x → Chosen (board_hit (window i) i base dep after x)
  window_chosen i (hit k) e = chosen i k e refl
  window_chosen i miss e = nothing

  all_chosen : (n : ℕ) → Chosen (earliest_freq_board n window base dep after)
  unfolding earliest_freq_board
  all_chosen n =
      iter_keeps (λ k x. Chosen x) (board_next window base dep after) 0 (n - 0) None nothing
      (λ k x l u p. earlier_keeps Chosen x _ p (window_chosen k (first_run (window k) base dep after) refl))

  -- WHAT THE NUMBERS OF A BOARDING MEAN
  pub board_waits : (n : ℕ) (b : BoardedRun) → earliest_freq_board n window base dep after ≡ Some b → Waits (window b.headways.window) base dep after b
  board_waits n b e = of (subst Chosen e (all_chosen n))
    where
      of : Chosen (Some b) → Waits (window b.headways.window) base dep after b
      of (chosen i k f q) =
          subst (λ (x : BoardedRun). Waits (window x.headways.window) base dep after x) (sym q) (run_waits (window i) base dep after i k f)
