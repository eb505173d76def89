-- `earliest_freq_board` is the earliest boarding, in the first window of equals; None only where no run can be boarded.
-- What follows for the size of its numbers.
use Prim.Native.Nat.{ℕ, suc, ◌+◌, ◌-◌, ◌<◌, ◌≤◌}
use mathlib.Core.Path.{◌≡◌, refl, ap, ap₂, sym, ◌∙◌, subst}
use mathlib.Core.Bool.{Bool, true, false, cond, ◌&&◌, not}
use mathlib.Core.Logic.{◌⊎◌, inl, inr, ⊎_elim}
use native.Mathlib.Omega.{arith}
use native.Mathlib.Nat.{mul-le-mul_right, eq-or-lt_of_le}
use lib.Dec.{eqb, ltb, leb}
use lib.IntN.{ℤ, pos, negsuc, nat_abs, sub_ℕ}
use borrow.Author.Tests.{le-leb, leb-true, leb-false, ltb-true}
use Rattle.signed.specs.Signed.{of_bits}
use Rattle.signed.proofs.Laws.{of_sub}
use Rattle.loops.specs.Iter.{Hit, hit, miss}
use Rattle.loops.proofs.Iter.{and_left, and_right, first_found, first_none, first_before, iter_keeps}
use Rattle.loops.proofs.Search.{clash, split}
use Rattle.frequency.specs.declared.BoardedRun.{BoardedRun}
use Rattle.std.specs.Prelude.{Option, None, Some}
use Rattle.frequency.specs.Gtfs.{Window, run_start, is_run, leaves_not_before, is_boardable, first_run, board_run, board_hit, earlier_of, board_next, earliest_freq_board, Nominal}
use Rattle.frequency.specs.Reading.{Boards, Earliest, Answers, none, earliest}
use Rattle.frequency.proofs.Runs.{boardable_says, found_says, run_number}
use Rattle.frequency.proofs.Best.{earlier_none}

module _ (window : ℕ → Window) (base dep after : ℕ) where
  test : (n i k : ℕ) → Boards n window base dep after i k → is_boardable (window i) base dep after k ≡ true
  test n i k b = ap₂ ◌&&◌ b.runs (le-leb (after + base) (run_start (window i) k + dep) b.wanted)

  -- a window in which the search finds nothing has no run to board
  window_none : (n i k : ℕ) → first_run (window i) base dep after ≡ miss → Boards n window base dep after i k → ⊥
  unfolding first_run
  window_none n i k e b =
      let w = window i in
      let t = test n i k b in
      let s = boardable_says w base dep after k t in
      clash t (first_none (is_boardable w base dep after) 0 (w.end - w.start - 0) k e (omega arith) (omega (arith, run_number w k s.spaced s.runs)))

  -- the run that it finds is the earliest of the window
  window_least : (n i m k : ℕ) → first_run (window i) base dep after ≡ hit m → Boards n window base dep after i k → run_start (window i) m ≤ run_start (window i) k
  unfolding first_run
  window_least n i m k e b =
      let w = window i in
      ⊎_elim
      (λ (l : k < m). absurd (clash (test n i k b) (first_before (is_boardable w base dep after) 0 (w.end - w.start - 0) m k e (omega arith) l)))
      (λ (l : m ≤ k). omega (arith, mul-le-mul_right {m = m} {n = k} w.headway l))
      (split k m)

  -- a run of the first n + 1 windows is one of the first n, or of window n
  earlier_window : (n i k : ℕ) → Boards (suc n) window base dep after i k → i < n → Boards n window base dep after i k
  earlier_window n i k b l = record { among = l; runs = b.runs; wanted = b.wanted }

  later_window : (n i k : ℕ) → Boards n window base dep after i k → Boards (suc n) window base dep after i k
  later_window n i k b = record { among = omega (arith, b.among); runs = b.runs; wanted = b.wanted }

  last_window : (n i k : ℕ) → Boards (suc n) window base dep after i k → (i < n) ⊎ (i ≡ n)
  last_window n i k b = ⊎_elim (λ e. inr e) (λ l. inl l) (let q : i ≤ n = omega (arith, b.among) in eq-or-lt_of_le q)

  -- window n is looked at
  module _ (n : ℕ) where
    abbrev w : Window
    w = window n

    by_window : {P : ℕ → ℕ → Type 0} → ((i k : ℕ) → Boards n window base dep after i k → P i k) → ((k : ℕ) → Boards (suc n) window base dep after n k → P n k) → (i k : ℕ) → Boards (suc n) window base dep after i k → P i k
    by_window {P} f g i k b =
        ⊎_elim
        (λ l. f i k (earlier_window n i k b l))
        (λ (q : i ≡ n). subst (λ (j : ℕ). Boards (suc n) window base dep after j k → P j k) (sym q) (g k) b)
        (last_window n i k b)

    -- the earliest before it stays, where it has none that is earlier
    stay : (a : BoardedRun) → Earliest n window base dep after a → ((k : ℕ) → Boards (suc n) window base dep after n k → a.departure + base ≤ run_start w k + dep) → Answers (suc n) window base dep after (Some a)
    stay a s f =
        earliest
        (record {
          boards = later_window n a.headways.window a.headways.run s.boards;
          departs = s.departs;
          shifted = s.shifted;
          least = by_window s.least f;
          first = λ i k b l. s.first i k (earlier_window n i k b (omega (arith, s.boards.among))) l;
        })

    -- it has no run to board
    keep : (x : Option BoardedRun) → first_run w base dep after ≡ miss → Answers n window base dep after x → Answers (suc n) window base dep after x
    keep None e (none p) = none (by_window p (λ k b. window_none (suc n) n k e b))
    keep (Some a) e (earliest s) = stay a s (λ k b. absurd (window_none (suc n) n k e b))

    -- it has: run m is its first
    module _ (m : ℕ) (e : first_run w base dep after ≡ hit m) where
      abbrev t : ℕ
      t = run_start w m

      new : BoardedRun
      new = board_run w n base dep after m

      new_departs : t + dep - base + base ≡ t + dep
      new_departs = omega (arith, (found_says w base dep after m e).wanted)

      new_runs : is_run w m ≡ true
      unfolding first_run
      new_runs = and_left (is_run w m) (leaves_not_before base dep after t) (first_found (is_boardable w base dep after) 0 (w.end - w.start - 0) m e)

      -- run m is earlier than all before it
      replace : ((i k : ℕ) → Boards n window base dep after i k → t < run_start (window i) k) → Answers (suc n) window base dep after (Some new)
      unfolding new
      replace f =
          earliest {b = new}
          (record {
            boards = record { among = omega arith; runs = new_runs; wanted = (found_says w base dep after m e).wanted };
            departs = new_departs;
            shifted = refl;
            least = by_window (λ i k b. omega (arith, new_departs, f i k b)) (λ k b. omega (arith, new_departs, window_least (suc n) n m k e b));
            first = λ i k b l. omega (arith, new_departs, f i k (earlier_window n i k b l));
          })

      found : (x : Option BoardedRun) → Answers n window base dep after x → Answers (suc n) window base dep after (earlier_of x (board_hit w n base dep after (hit m)))
      unfolding new
      found None (none p) = replace (λ i k b. absurd (p i k b))
      found (Some a) (earliest s) = go (leb a.departure (t + dep - base)) refl
        where
          go : (b : Bool) → leb a.departure (t + dep - base) ≡ b → Answers (suc n) window base dep after (cond b (Some a) (Some new))
          go true q = stay a s (λ k b. omega (arith, leb-true a.departure (t + dep - base) q, new_departs, window_least (suc n) n m k e b))
          go false q = replace (λ i k b. omega (arith, leb-false a.departure (t + dep - base) q, s.least i k b, new_departs))

    step : (x : Option BoardedRun) → Answers n window base dep after x → Answers (suc n) window base dep after (board_next window base dep after n x)
    step x s = go (first_run w base dep after) refl
      where
        go : (h : Hit) → first_run w base dep after ≡ h → Answers (suc n) window base dep after (earlier_of x (board_hit w n base dep after h))
        go (hit m) e = found m e x s
        go miss e = subst (λ (y : Option BoardedRun). Answers (suc n) window base dep after y) (earlier_none x) (keep x e s)

  -- what earliest_freq_board finds is the earliest boarding
  pub answers : (n : ℕ) → Answers n window base dep after (earliest_freq_board n window base dep after)
  unfolding earliest_freq_board
  answers n =
      let none_before : Answers 0 window base dep after None = none (λ i k b. absurd (omega (arith, b.among))) in
      let z : 0 + (n - 0) ≡ n = omega arith in
      rw z at (iter_keeps (λ m x. Answers m window base dep after x) (board_next window base dep after) 0 (n - 0) None none_before (λ k x l u p. step k x p))

  -- it, taken apart
  pub board_is : (n : ℕ) (b : BoardedRun) → earliest_freq_board n window base dep after ≡ Some b → Earliest n window base dep after b
  board_is n b e = of (subst (λ (y : Option BoardedRun). Answers n window base dep after y) e (answers n))
    where
      of : Answers n window base dep after (Some b) → Earliest n window base dep after b
      of (earliest s) = s

  pub nothing_is : (n : ℕ) → earliest_freq_board n window base dep after ≡ None → (i k : ℕ) → Boards n window base dep after i k → ⊥
  nothing_is n e = of (subst (λ (y : Option BoardedRun). Answers n window base dep after y) e (answers n))
    where
      of : Answers n window base dep after None → (i k : ℕ) → Boards n window base dep after i k → ⊥
      of (none p) = p

-- the difference of two numbers up to l is no larger than l
size_sub : (l a b : ℕ) → a ≤ l → b ≤ l → nat_abs (sub_ℕ a b) ≤ l
size_sub l a b u v = go (ltb a b) refl
  where
    go : (t : Bool) → ltb a b ≡ t → nat_abs (cond t (negsuc (b - suc a)) (pos (a - b))) ≤ l
    go true e = omega (arith, ltb-true a b e)
    go false e = omega arith

-- What a query asks of the numbers.
module _ (n : ℕ) (window : ℕ → Window) (base dep after : ℕ) (nominal : Nominal n window base dep after) (b : BoardedRun) (e : earliest_freq_board n window base dep after ≡ Some b) where
  -- the run starts before the largest end
  pub start_bound : run_start (window b.headways.window) b.headways.run < 1048575
  start_bound =
      let w = window b.headways.window in
      let r : run_start w b.headways.run < w.end = ltb-true _ _ (and_right (not (eqb w.headway 0)) (ltb (run_start w b.headways.run) w.end) (board_is window base dep after n b e).boards.runs) in
      omega (arith, nominal.ends b.headways.window (board_is window base dep after n b e).boards.among)

  pub departure_after : after ≤ b.departure
  departure_after = omega (arith, (board_is window base dep after n b e).departs, (board_is window base dep after n b e).boards.wanted)

  pub departure_bound : b.departure < 1048575 + dep
  departure_bound = omega (arith, start_bound, (board_is window base dep after n b e).departs)

  -- the shift means run start less base, and is no larger than a time
  pub shift_means : of_bits b.time_shift_s ≡ sub_ℕ (run_start (window b.headways.window) b.headways.run) base
  shift_means = ap of_bits (board_is window base dep after n b e).shifted ∙ of_sub _ base (omega (arith, start_bound)) (omega (arith, nominal.template))

  pub shift_size : nat_abs (of_bits b.time_shift_s) ≤ 1048575
  shift_size = subst (λ (z : ℤ). nat_abs z ≤ 1048575) (sym shift_means) (size_sub 1048575 _ base (omega (arith, start_bound)) nominal.template)

  pub window_bound : b.headways.window < 65536
  window_bound = omega (arith, (board_is window base dep after n b e).boards.among, nominal.few)
