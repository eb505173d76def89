-- The entry's questions: what a yes to all of them gives the inner call, and the outcome by the code.
use Prim.Native.Nat.{ℕ, ◌*◌, ◌<◌, ◌≤◌}
use mathlib.Core.Path.{◌≡◌}
use mathlib.Core.Bool.{true, ◌&&◌}
use mathlib.Core.List.{List}
use native.Mathlib.Omega.{arith}
use lib.ListN.{length}
use borrow.Author.Tests.{leb-true}
use Rattle.loops.proofs.Iter.{and_left, and_right, every_in_at}
use Rattle.frequency.specs.Gtfs.{window_count, window_in, Nominal}
use Rattle.frequency_call.specs.FrequencyCall.{is_time, are_times, window_in_range, windows_in_range, freq_in_range}

-- what a yes says of three times
record Three (a b c : ℕ) : Type 0 where
  one : a ≤ 1048575
  two : b ≤ 1048575
  three : c ≤ 1048575

are-times : (a b c : ℕ) → are_times a b c ≡ true → Three a b c
are-times a b c e =
    let q = and_right (is_time a) (is_time b && is_time c) e in
    record {
      one = leb-true a 1048575 (and_left (is_time a) (is_time b && is_time c) e);
      two = leb-true b 1048575 (and_left (is_time b) (is_time c) q);
      three = leb-true c 1048575 (and_right (is_time b) (is_time c) q);
    }

-- the times of window i
window_times : (ws : List ℕ) → windows_in_range ws ≡ true → (i : ℕ) → i < window_count ws → Three (window_in ws i).start (window_in ws i).end (window_in ws i).headway
window_times ws e i u = are-times _ _ _ (every_in_at (λ j. window_in_range (window_in ws j)) (window_count ws) i e u)

pub nominal : (count : ℕ) (ws : List ℕ) (base dep after : ℕ) → freq_in_range ws base dep after ≡ true → length ws ≡ 3 * count → count ≤ 65536
    → Nominal (window_count ws) (window_in ws) base dep after
nominal count ws base dep after e n c =
    let t = are-times base dep after (and_left (are_times base dep after) (windows_in_range ws) e) in
    let w = window_times ws (and_right (are_times base dep after) (windows_in_range ws) e) in
    record {
      few = omega arith;
      starts = λ i u. (w i u).one;
      ends = λ i u. (w i u).two;
      headways = λ i u. (w i u).three;
      template = t.one;
      departs = omega (arith, t.two);
      ready = omega (arith, t.three);
    }

-- the windows that are looked at are those that were counted
pub counted : (count : ℕ) (ws : List ℕ) → length ws ≡ 3 * count → window_count ws ≡ count
counted count ws n = omega arith
