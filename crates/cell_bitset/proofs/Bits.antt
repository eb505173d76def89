-- The bits of a byte, and of bytes that are joined by `or`.
use Prim.Native.Nat.{ℕ, zero, suc, ◌+◌, ◌*◌, ◌/◌, ◌%◌, ◌^◌, ◌-◌, ◌<◌, ◌≤◌}
use mathlib.Core.Path.{◌≡◌, refl, ap, ap₂, sym, ◌∙◌}
use mathlib.Core.Bool.{Bool, true, false, not, ◌&&◌, ◌||◌, true≢false}
use native.Mathlib.Nat.{one-mul, zero-div, div-one, div-eq_of_lt, mul-div-mul_right, pow-suc, zero-lt-suc}
use native.Mathlib.Omega.{arith}
use lib.Dec.{ltb, eqb, lit<, eqb-suc-suc, eqb-suc-zero, eqb-zero-suc}
use lib.Pow.{shl_exact, shr-shr, pow_pos, pow-lt}
use lib.Bits.{bit_and, bit_or, or_shr, or_mod, and_shr, and_mod, and_le_r, shifted_even}
use borrow.Author.Tests.{ltb-true, eqb-true, eqb-false, lt-ltb, eq-eqb, ne_eqb, not-true}
use Rattle.loops.specs.Iter.{range, some, some_in}
use Rattle.loops.proofs.Iter.{Passes, some_at, some_found, and_left, and_right}
use Rattle.byte_words.specs.ByteWord.{has_bit}
use Rattle.byte_words.proofs.Words.{or_with, or_all}
use Rattle.cell_bitset.specs.CellSet.{bit}

-- two tests that are true of the same are the same
pub same_truth : (a b : Bool) → (a ≡ true → b ≡ true) → (b ≡ true → a ≡ true) → a ≡ b
same_truth true b f g = sym (f refl)
same_truth false true f g = g refl
same_truth false false f g = refl

-- `1 << k` of a byte, k below 8
pub one_shl : (n : ℕ) → (1 * 2 ^ (n % 8)) % 256 ≡ 2 ^ (n % 8)
one_shl n = shl_exact 1 (n % 8) 8 (lit< tt) (omega arith) ∙ one-mul (2 ^ (n % 8))

-- The bits of `op a b`, where op goes digit by digit (its laws of shifting and cutting) and is g on two digits.
module _ (op : ℕ → ℕ → ℕ) (g : Bool → Bool → Bool) (g00 : eqb (op 0 0) 1 ≡ g false false) (g01 : eqb (op 0 1) 1 ≡ g false true) (g10 : eqb (op 1 0) 1 ≡ g true false) (g11 : eqb (op 1 1) 1 ≡ g true true) where
  digit : (x y : ℕ) → x < 2 → y < 2 → eqb (op x y) 1 ≡ g (eqb x 1) (eqb y 1)
  digit zero zero h l = g00
  digit zero (suc zero) h l = g01
  digit (suc zero) zero h l = g10
  digit (suc zero) (suc zero) h l = g11
  digit zero (suc (suc y)) h l = absurd (omega arith)
  digit (suc zero) (suc (suc y)) h l = absurd (omega arith)
  digit (suc (suc x)) y h l = absurd (omega arith)

  bit_of : ((a b k : ℕ) → op a b / 2 ^ k ≡ op (a / 2 ^ k) (b / 2 ^ k)) → ((a b k : ℕ) → op a b % 2 ^ k ≡ op (a % 2 ^ k) (b % 2 ^ k)) → (a b k : ℕ) → bit (op a b) k ≡ g (bit a k) (bit b k)
  bit_of shr cut a b k =
      ap (λ (x : ℕ). eqb (x % 2) 1) (shr a b k) ∙ ap (λ (x : ℕ). eqb x 1) (cut (a / 2 ^ k) (b / 2 ^ k) 1)
      ∙ digit (a / 2 ^ k % 2) (b / 2 ^ k % 2) (omega arith) (omega arith)

pub bit-or : (a b k : ℕ) → bit (bit_or a b) k ≡ bit a k || bit b k
bit-or = bit_of bit_or ◌||◌ refl refl refl refl or_shr or_mod

pub bit-and : (a b k : ℕ) → bit (bit_and a b) k ≡ bit a k && bit b k
bit-and = bit_of bit_and ◌&&◌ refl refl refl refl and_shr and_mod

pub bit_zero : (k : ℕ) → bit 0 k ≡ false
bit_zero k = ap (λ (x : ℕ). eqb (x % 2) 1) (zero-div (2 ^ k))

bit_half : (z j : ℕ) → bit (z / 2) j ≡ bit z (suc j)
bit_half z j = let e : 1 + j ≡ suc j = omega arith in ap (λ (x : ℕ). eqb (x % 2) 1) (shr-shr z 1 j ∙ ap (λ (x : ℕ). z / 2 ^ x) e)

-- a power of two has its own bit and no other
pub bit_pow : (k j : ℕ) → bit (2 ^ k) j ≡ eqb j k
bit_pow zero zero = refl
bit_pow zero (suc j) = ap (λ (x : ℕ). eqb (x % 2) 1) (div-eq_of_lt (pow-lt (zero-lt-suc j))) ∙ sym (eqb-suc-zero j)
bit_pow (suc k) zero = ap (λ (x : ℕ). eqb (x % 2) 1) (div-one (2 ^ suc k) ∙ sym (one-mul (2 ^ suc k))) ∙ ap (λ (x : ℕ). eqb x 1) (shifted_even 1 k) ∙ sym (eqb-zero-suc k)
bit_pow (suc k) (suc j) =
    ap (λ (x : ℕ). eqb (x % 2) 1) (ap₂ ◌/◌ (pow-suc 2 k) (pow-suc 2 j) ∙ mul-div-mul_right (2 ^ k) (2 ^ j) (zero-lt-suc 1)) ∙ bit_pow k j ∙ sym (eqb-suc-suc j k)

-- a number below 2 ^ w that is not 0 has a bit
pub bit_found : (w z : ℕ) → z < 2 ^ w → (z ≡ 0 → ⊥) → Passes (bit z) 0 w
bit_found zero z h n = absurd (n (omega arith))
bit_found (suc w) z h n = go (eqb (z % 2) 1) refl (bit_found w (z / 2) (omega (arith, pow-suc 2 w)))
  where
    go : (t : Bool) → eqb (z % 2) 1 ≡ t → ((z / 2 ≡ 0 → ⊥) → Passes (bit (z / 2)) 0 w) → Passes (bit z) 0 (suc w)
    go true e later = record { at = 0; low = omega arith; high = omega arith; passes = ap (λ (x : ℕ). eqb (x % 2) 1) (div-one z) ∙ e }
    go false e later =
        let p = later (λ q. n (omega (arith, eqb-false (z % 2) 1 e))) in
        record { at = suc p.at; low = omega arith; high = omega (arith, p.high); passes = sym (bit_half z p.at) ∙ p.passes }

-- a bit is tested by `and`
pub bit_test : (b k : ℕ) → not (eqb (bit_and b (2 ^ k)) 0) ≡ bit b k
bit_test b k = same_truth (not (eqb z 0)) (bit b k) up down
  where
    z : ℕ
    z = bit_and b (2 ^ k)

    at_bit : (j : ℕ) → bit z j ≡ bit b j && eqb j k
    at_bit j = bit-and b (2 ^ k) j ∙ ap (λ (t : Bool). bit b j && t) (bit_pow k j)

    up : not (eqb z 0) ≡ true → bit b k ≡ true
    up e =
        let p = bit_found (suc k) z (omega (arith, and_le_r b (2 ^ k), pow-suc 2 k, pow_pos k)) (eqb-false z 0 (not-true (eqb z 0) e)) in
        let q = sym (at_bit p.at) ∙ p.passes in
        ap (bit b) (sym (eqb-true p.at k (and_right (bit b p.at) (eqb p.at k) q))) ∙ and_left (bit b p.at) (eqb p.at k) q

    down : bit b k ≡ true → not (eqb z 0) ≡ true
    down e = ap not (ne_eqb z 0 (λ n. true≢false (sym (at_bit k ∙ ap₂ ◌&&◌ e (eq-eqb k k refl)) ∙ ap (λ (x : ℕ). bit x k) n ∙ bit_zero k)))

-- the cell c of the first n bytes f 0, f 1, ..
abbrev pub cell_of : (ℕ → ℕ) → ℕ → ℕ → Bool
cell_of f n c = ltb (c / 8) n && bit (f (c / 8)) (c % 8)

cell_at : (f : ℕ → ℕ) (n k j : ℕ) → k < n → j < 8 → bit (f k) j ≡ true → cell_of f n (8 * k + j) ≡ true
cell_at f n k j h l e =
    let d : (8 * k + j) / 8 ≡ k = omega arith in
    let m : (8 * k + j) % 8 ≡ j = omega arith in
    rw (d, m) (ap₂ ◌&&◌ (lt-ltb k n h) e)

-- one of n bytes is not 0 exactly where one of their cells is set
pub some_cell : (f : ℕ → ℕ) (n : ℕ) → ((i : ℕ) → f i < 256) → n ≤ 64 → some (has_bit f) 0 n ≡ some_in (cell_of f n) 0 512
some_cell f n b u = same_truth (some (has_bit f) 0 n) (some_in (cell_of f n) 0 512) (λ e. up (some_found (has_bit f) 0 n e)) (λ e. down (some_found (cell_of f n) 0 512 e))
  where
    up : Passes (has_bit f) 0 n → some_in (cell_of f n) 0 512 ≡ true
    up p =
        let q = bit_found 8 (f p.at) (b p.at) (eqb-false (f p.at) 0 (not-true (eqb (f p.at) 0) p.passes)) in
        some_at (cell_of f n) 0 512 (8 * p.at + q.at) (cell_at f n p.at q.at (omega (arith, p.high)) (omega (arith, q.high)) q.passes) (omega arith) (omega (arith, p.high, q.high))

    down : Passes (cell_of f n) 0 512 → some (has_bit f) 0 n ≡ true
    down p =
        let k = p.at / 8 in
        some_at (has_bit f) 0 n k
        (ap not (ne_eqb (f k) 0 (λ z. true≢false (sym (and_right (ltb k n) (bit (f k) (p.at % 8)) p.passes) ∙ ap (λ (x : ℕ). bit x (p.at % 8)) z ∙ bit_zero (p.at % 8)))))
        (omega arith) (omega (arith, ltb-true k n (and_left (ltb k n) (bit (f k) (p.at % 8)) p.passes)))

-- a loop over n bytes that takes in the bits of each ends with more than 0 exactly where a cell is set
pub gathered : (f : ℕ → ℕ) (n : ℕ) → ((i : ℕ) → f i < 256) → n ≤ 64 → not (eqb (range (or_with f) 0 n 0) 0) ≡ some_in (cell_of f n) 0 512
gathered f n b u = let e : n - 0 ≡ n = omega arith in rw e (or_all f 0 n 0 ∙ some_cell f n b u)
