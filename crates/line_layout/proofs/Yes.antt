-- What a yes to the questions on the lines' table gives, and that a table with those facts is answered yes.
use Prim.Native.Nat.{ℕ, ◌+◌, ◌*◌, ◌-◌, ◌≤◌}
use mathlib.Core.Path.{◌≡◌, ◌∙◌, sym, ap₂}
use mathlib.Core.Bool.{Bool, true, false, ◌&&◌}
use mathlib.Core.List.{List}
use native.Mathlib.Omega.{arith}
use lib.ListN.{length, get_or}
use lib.Dec.{ltb}
use borrow.Author.Tests.{leb-true, ltb-true, le-leb, lt-ltb}
use Rattle.loops.proofs.Iter.{every_in_at, every_all}
use Rattle.tables.specs.declared.Counts.{Counts}
use Rattle.line_layout.specs.Layout.{line_run_at}
use Rattle.line_layout.specs.Listed.{line_run_in, line_runs_ok, entries_ok, LinesListed}

-- a question that joins two tests, as the code finds it
pub found_yes : {r a b x y : Bool} → r ≡ a && b → a ≡ x → b ≡ y → r ≡ true → x && y ≡ true
found_yes {r} e f g h = sym (e ∙ ap₂ ◌&&◌ f g) ∙ h

pub found_no : {r a b x y : Bool} → r ≡ a && b → a ≡ x → b ≡ y → r ≡ false → x && y ≡ false
found_no {r} e f g h = sym (e ∙ ap₂ ◌&&◌ f g) ∙ h

-- 3 and 4, of the lines' table
pub lines_listed : (c : Counts) (lines n : ℕ) (runs entries : List ℕ) → lines ≤ 4096 → n ≤ 4096 → length runs ≡ lines * 2 → length entries ≡ n
    → line_runs_ok runs lines n ≡ true → entries_ok c entries n ≡ true → LinesListed c lines runs entries
unfolding line_runs_ok line_run_in entries_ok
lines_listed c lines n runs entries f g a b h k =
    record {
      few = f;
      size = a;
      run = λ l u. omega (arith, leb-true ((line_run_at runs l).first + (line_run_at runs l).count) n (every_in_at (λ i. line_run_in n (line_run_at runs i)) lines l h u));
      known = record { few = omega arith; trip = λ p u. ltb-true (get_or entries p 0) c.trips (every_in_at (λ i. ltb (get_or entries i 0) c.trips) n p k (omega arith)) };
    }

-- the other way: such a table is answered yes
pub runs_yes : (c : Counts) (lines : ℕ) (runs entries : List ℕ) → LinesListed c lines runs entries → line_runs_ok runs lines (length entries) ≡ true
unfolding line_runs_ok line_run_in
runs_yes c lines runs entries h = every_all (λ l. line_run_in (length entries) (line_run_at runs l)) 0 (lines - 0) (λ l a b. le-leb _ _ (h.run l (omega arith)))

pub entries_yes : (c : Counts) (lines : ℕ) (runs entries : List ℕ) → LinesListed c lines runs entries → entries_ok c entries (length entries) ≡ true
unfolding entries_ok
entries_yes c lines runs entries h = every_all (λ p. ltb (get_or entries p 0) c.trips) 0 (length entries - 0) (λ p a b. lt-ltb _ _ (h.known.trip p (omega arith)))
