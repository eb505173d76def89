-- The earlier of two boardings by cases, and one turn of the loop over the windows: the earliest run gives the earliest boarding.
use Prim.Native.Nat.{ℕ, ◌+◌, ◌-◌, ◌<◌, ◌≤◌}
use mathlib.Core.Path.{◌≡◌, refl, ap, ap₂, sym, ◌∙◌}
use mathlib.Core.Bool.{Bool, true, false, cond}
use native.Mathlib.Omega.{arith}
use lib.Dec.{ltb, leb}
use lib.IntN.{sub_ℕ}
use borrow.Author.Tests.{le-leb, lt-leb, lt-ltb, le-ltb, ltb-true, ltb-false}
use Rattle.loops.specs.Iter.{Hit, hit, miss, range}
use Rattle.loops.proofs.Iter.{range_again}
use Rattle.signed.specs.Signed.{bits_of}
use Rattle.frequency.specs.declared.Headways.{Headways}
use Rattle.frequency.specs.declared.Run.{Run}
use Rattle.frequency.specs.declared.BoardedRun.{BoardedRun}
use Rattle.std.specs.Prelude.{Option, None, Some}
use Rattle.frequency.specs.Gtfs.{Window, run_start, first_run, boarding_of, board_run, board_hit, earlier_of, board_next, earliest_freq_board, Nominal}
use Rattle.frequency.specs.Found.{no_run, run_of, window_run, earlier_run, headways_by, Remains, board_of, Drawn}
use Rattle.frequency.proofs.Runs.{found_says, wait_is, headways_are, remains}

pub earlier_none : (x : Option BoardedRun) → x ≡ earlier_of x None
earlier_none None = refl
earlier_none (Some a) = refl

-- what both of two boardings have, the earlier one has
pub earlier_keeps : (P : Option BoardedRun → Type 0) (x y : Option BoardedRun) → P x → P y → P (earlier_of x y)
earlier_keeps P None y p q = q
earlier_keeps P (Some a) None p q = p
earlier_keeps P (Some a) (Some b) p q = go (leb a.departure b.departure)
  where
    go : (t : Bool) → P (cond t (Some a) (Some b))
    go true = p
    go false = q

pub earlier_old : (a b : BoardedRun) → a.departure ≤ b.departure → Some a ≡ earlier_of (Some a) (Some b)
earlier_old a b l = sym (ap (λ (t : Bool). cond t (Some a) (Some b)) (le-leb a.departure b.departure l))

pub earlier_next : (a b : BoardedRun) → b.departure < a.departure → Some b ≡ earlier_of (Some a) (Some b)
earlier_next a b l = sym (ap (λ (t : Bool). cond t (Some a) (Some b)) (lt-leb a.departure b.departure l))

module _ (window : ℕ → Window) (base dep after : ℕ) where
  abbrev boarding : Run → Option BoardedRun
  boarding r = Some (board_run (window r.window) r.window base dep after r.run)

  pub board_some : (r : Run) → r.start < 4294967295 → board_of window r base dep after ≡ boarding r
  board_some r l = ap (λ (b : Bool). cond b (boarding r) None) (lt-ltb r.start 4294967295 l)

  pub board_none : (r : Run) → 4294967295 ≤ r.start → board_of window r base dep after ≡ None
  board_none r l = ap (λ (b : Bool). cond b (boarding r) None) (le-ltb r.start 4294967295 l)

-- before the first window no run is found
pub none_yet : (n : ℕ) (window : ℕ → Window) (base dep after : ℕ) (r : Run) → r ≡ no_run
    → (earliest_freq_board n window base dep after ≡ range (board_next window base dep after) 0 n (board_of window r base dep after)) × Drawn n window base dep after r
unfolding earliest_freq_board
none_yet n window base dep after r e =
    let l : 4294967295 ≤ r.start = rw e (omega arith) in (
      ap (range (board_next window base dep after) 0 n) (sym (board_none window base dep after r l)),
      record { among = λ u. absurd (omega arith); found = λ u. absurd (omega arith); starts = λ u. absurd (omega arith) },
    )

module _ (n : ℕ) (window : ℕ → Window) (base dep after : ℕ) (nominal : Nominal n window base dep after) (i : ℕ) (in-range : i < n) where
  abbrev w : Window
  w = window i

  -- what its search finds, as the code hands it on
  abbrev next : Run
  next = window_run w i base dep after

  abbrev turn : Option BoardedRun → Option BoardedRun
  turn = board_next window base dep after i

  -- a run that a search found starts before the largest time
  early : (k : ℕ) → first_run w base dep after ≡ hit k → run_start w k ≤ 1048575
  early k e = omega (arith, (found_says w base dep after k e).runs, nominal.ends i in-range)

  drawn_run : Drawn n window base dep after next
  drawn_run = go (first_run w base dep after) refl
    where
      go : (x : Hit) → first_run w base dep after ≡ x → Drawn n window base dep after (run_of w i x)
      go (hit k) e = record { among = λ l. in-range; found = λ l. e; starts = λ l. refl }
      go miss e = record { among = λ l. absurd (omega arith); found = λ l. absurd (omega arith); starts = λ l. absurd (omega arith) }

  module _ (best : Run) (f : Drawn n window base dep after best) where
    abbrev board : Option BoardedRun
    board = board_of window best base dep after

    -- an earlier run takes the place of the best so far
    turn_new : next.start < best.start → board_of window next base dep after ≡ turn board
    turn_new = go (first_run w base dep after) refl
      where
        go : (x : Hit) → first_run w base dep after ≡ x → (run_of w i x).start < best.start → board_of window (run_of w i x) base dep after ≡ earlier_of board (board_hit w i base dep after x)
        go (hit k) e l = board_some window base dep after (run_of w i (hit k)) (omega (arith, early k e)) ∙ by (ltb best.start 4294967295) refl
          where
            by : (b : Bool) → ltb best.start 4294967295 ≡ b → Some (board_run w i base dep after k) ≡ earlier_of (cond b (boarding window base dep after best) None) (Some (board_run w i base dep after k))
            by true q = earlier_next _ _ (omega (arith, (found_says w base dep after k e).wanted, f.starts (ltb-true best.start 4294967295 q)))
            by false q = refl
        go miss e l = ap (λ (x : Option BoardedRun). earlier_of x None) (sym (board_none window base dep after best (omega arith)))

    -- one that is not earlier leaves it
    turn_old : best.start ≤ next.start → board ≡ turn board
    turn_old = go (first_run w base dep after) refl
      where
        go : (x : Hit) → first_run w base dep after ≡ x → best.start ≤ (run_of w i x).start → board ≡ earlier_of board (board_hit w i base dep after x)
        go (hit k) e l =
            let s = board_some window base dep after best (omega (arith, early k e)) in
            s ∙ earlier_old _ (board_run w i base dep after k) (omega (arith, f.starts (omega (arith, early k e)))) ∙ ap (λ (x : Option BoardedRun). earlier_of x (Some (board_run w i base dep after k))) (sym s)
        go miss e l = earlier_none board

    turned : board_of window (earlier_run best next) base dep after ≡ turn board
    turned = go (ltb next.start best.start) refl
      where
        go : (t : Bool) → ltb next.start best.start ≡ t → board_of window (cond t next best) base dep after ≡ turn board
        go true q = turn_new (ltb-true next.start best.start q)
        go false q = turn_old (ltb-false next.start best.start q)

    drawn_earlier : Drawn n window base dep after (earlier_run best next)
    drawn_earlier = go (ltb next.start best.start)
      where
        go : (t : Bool) → Drawn n window base dep after (cond t next best)
        go true = drawn_run
        go false = f

    -- one turn of the loop, from the best run so far to the new one
    pub again : (r best' : Run) (whole : Option BoardedRun) → r ≡ next → best' ≡ earlier_run best r → whole ≡ range (board_next window base dep after) i n board
        → (whole ≡ range (board_next window base dep after) (i + 1) n (board_of window best' base dep after)) × Drawn n window base dep after best'
    again r best' whole e b inv =
        let q : best' ≡ earlier_run best next = b ∙ ap (earlier_run best) e in
        (range_again _ _ _ inv (ap (λ (x : Run). board_of window x base dep after) q ∙ turned) in-range, rw q drawn_earlier)

-- THE RUN AS IT IS BOARDED: what the code makes of it
module _ (n : ℕ) (window : ℕ → Window) (base dep after : ℕ) (r : Run) (d : Drawn n window base dep after r) (l : r.start < 4294967295) where
  abbrev v : Window
  v = window r.window

  pub leaves : after + base ≤ r.start + dep
  leaves = omega (arith, d.starts l, (found_says v base dep after r.run (d.found l)).wanted)

  pub starts_early : Nominal n window base dep after → r.start ≤ 1048575
  starts_early m = omega (arith, d.starts l, (found_says v base dep after r.run (d.found l)).runs, m.ends r.window (d.among l))

  pub waits_so : Remains r.run v.headway (ltb (v.start + dep) (after + base)) (r.start + dep - base - after)
  waits_so = rw (d.starts l) (remains v base dep after r.window r.run (d.found l))

  pub told : (h : Headways) → h ≡ headways_by r.window r.run v.headway (ltb (v.start + dep) (after + base)) (r.start + dep - base - after)
      → Some (boarding_of (r.start + dep - base) (bits_of (sub_ℕ r.start base)) h (r.start + dep - base - after)) ≡ board_of window r base dep after
  told h e =
      ap (λ (t : ℕ). Some (boarding_of (t + dep - base) (bits_of (sub_ℕ t base)) h (t + dep - base - after))) (d.starts l)
      ∙ ap₂ (λ (x : Headways) (y : ℕ). Some (boarding_of (run_start v r.run + dep - base) (bits_of (sub_ℕ (run_start v r.run) base)) x y))
      (e ∙ ap (λ (t : ℕ). headways_by r.window r.run v.headway (ltb (v.start + dep) (after + base)) (t + dep - base - after)) (d.starts l)
      ∙ headways_are v base dep after r.window r.run (d.found l))
      (sym (wait_is v base dep after r.run (d.found l)))
      ∙ sym (board_some window base dep after r l)
