-- What `earliest_freq_board` of the Rust (raptor.rs) computes, operation by operation: for the law of `proofs/Rust`, which compares
-- it with `earliest_freq_board`, and cited nowhere else. Definitions only.
-- An i64 is an integer here: sums and differences of three u32 numbers are far inside its range. So is the i32 shift: both its
-- numbers are below 2 ^ 31 in the law. A u32 that saturates stops at 4,294,967,295.
-- For a law: no contract rests on this.
use Rattle.std.specs.Prelude.{ℕ, zero, suc, ◌+◌, ◌*◌, ◌-◌, ◌/◌, ◌%◌, min, cond, ◌&&◌, ◌||◌, eqb, ltb, leb, ℤ, pos, negsuc, ◌+ℤ◌, ◌-ℤ◌, Option, None, Some}
use Rattle.frequency.specs.declared.BoardedRun.{BoardedRun}
use Rattle.std.specs.Int.Signed.{le_z}
use Rattle.loops.specs.Iter.{range}
use Rattle.signed.specs.Signed.{of_bits}
use Rattle.frequency.specs.Gtfs.{Window, board_offset}

-- `x as u32` of an i64: its lowest 32 bits
abbrev pub as_u32 : ℤ → ℕ
as_u32 (pos n) = n % 4294967296
as_u32 (negsuc n) = 4294967295 - n % 4294967296

-- `a.max(b)` of two i64
abbrev pub max_i64 : ℤ → ℤ → ℤ
max_i64 a b = cond (le_z a b) b a

-- `a.saturating_add(b)`, `a.saturating_mul(b)` of two u32 (`saturating_sub` is the subtraction of ℕ)
abbrev pub saturating_add : ℕ → ℕ → ℕ
saturating_add a b = min (a + b) 4294967295

abbrev pub saturating_mul : ℕ → ℕ → ℕ
saturating_mul a b = min (a * b) 4294967295

-- `n.div_ceil(d)`: one more where something is left
abbrev pub div_ceil : ℕ → ℕ → ℕ
div_ceil n d = cond (eqb (n % d) 0) (n / d) (n / d + 1)

-- MAX_FREQ_DEPS_PER_WINDOW
abbrev pub max_tries : ℕ
max_tries = 32

-- `t_min`, from `need_t`
abbrev pub t_min : Window → ℕ → ℕ → ℕ → ℤ
t_min w base dep after = max_i64 (pos after -ℤ board_offset base dep) (pos w.start)

-- the first t: aligned upward to the headway grid
abbrev pub first_try : Window → ℤ → ℕ
first_try w t =
    cond (le_z t (pos w.start)) w.start
    (saturating_add w.start (saturating_mul (div_ceil (as_u32 t - w.start) w.headway) w.headway))

-- the while loop: n more tries at most, the next at t. Its find: departure and shift.
unfoldable pub tries : (w : Window) (base dep after left start : ℕ) → Option (ℕ × ℤ)
tries w base dep after zero t = None
tries w base dep after (suc n) t =
    cond (ltb t w.end)
    (cond (le_z (pos 0) (pos t +ℤ board_offset base dep) && leb after (as_u32 (pos t +ℤ board_offset base dep)))
    (Some (as_u32 (pos t +ℤ board_offset base dep), of_bits t -ℤ of_bits base))
    (tries w base dep after n (saturating_add t w.headway)))
    None

-- one window
abbrev pub rust_window : Window → ℕ → ℕ → ℕ → Option (ℕ × ℤ)
rust_window w base dep after =
    cond (eqb w.headway 0 || leb w.end w.start) None
    (cond (le_z (pos w.end) (t_min w base dep after)) None
    (tries w base dep after max_tries (first_try w (t_min w base dep after))))

-- `best` and a find: an earlier or equal best stays
abbrev pub keep_best : Option (ℕ × ℤ) → Option (ℕ × ℤ) → Option (ℕ × ℤ)
keep_best best None = best
keep_best None (Some f) = Some f
keep_best (Some b) (Some f) = cond (leb b.0 f.0) (Some b) (Some f)

unfoldable pub rust_board : (n : ℕ) (window : ℕ → Window) (base dep after : ℕ) → Option (ℕ × ℤ)
rust_board n window base dep after = range (λ i best. keep_best best (rust_window (window i) base dep after)) 0 n None

-- a boarding as the Rust returns it
abbrev pub pair_of : Option BoardedRun → Option (ℕ × ℤ)
pair_of None = None
pair_of (Some b) = Some (b.departure, of_bits b.time_shift_s)
