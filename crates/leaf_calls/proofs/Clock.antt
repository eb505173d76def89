-- What holds of every clock reading. Assumes nothing.
use Prim.Native.Nat.{ℕ, ◌≤◌}
use mathlib.Core.Path.{◌≡◌}
use mathlib.Core.Bool.{true, ◌&&◌, and-eq-true_iff}
use native.Mathlib.Omega.{arith}
use lib.Dec.{leb}
use borrow.Author.Tests.{leb-true}
use Rattle.leaf_calls.specs.ClockCall.{clock_in_range, reading}

-- the three ranges, as orders
pub ranges : (h m s : ℕ) → clock_in_range h m s ≡ true → (h ≤ 47) × (m ≤ 59) × (s ≤ 59)
ranges h m s e =
    let hm = (and-eq-true_iff (leb h 47 && leb m 59) (leb s 59)).0 e in
    let p = (and-eq-true_iff (leb h 47) (leb m 59)).0 hm.0 in
    (leb-true h 47 p.0, leb-true m 59 p.1, leb-true s 59 hm.1)

-- a reading is at most 47:59:59
pub reading_most : (h m s : ℕ) → clock_in_range h m s ≡ true → reading h m s ≤ 172799
reading_most h m s e = let b = ranges h m s e in omega arith

-- two readings are equal only if hours, minutes and seconds are
pub reading_once : (h m s h' m' s' : ℕ) → clock_in_range h m s ≡ true → clock_in_range h' m' s' ≡ true
    → reading h m s ≡ reading h' m' s' → (h ≡ h') × (m ≡ m') × (s ≡ s')
reading_once h m s h' m' s' e e' q =
    let b = ranges h m s e in
    let b' = ranges h' m' s' e' in
    (omega arith, omega arith, omega arith)
