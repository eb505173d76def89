-- What holds of every effective duration and every round count. Assumes nothing.
use Prim.Native.Nat.{ℕ, ◌+◌, ◌*◌, ◌≤◌, min, max}
use mathlib.Core.Path.{◌≡◌, refl, sym, ◌∙◌}
use mathlib.Core.Bool.{Bool, true, false, cond, ◌&&◌}
use native.Mathlib.Nat.{min-eq_left}
use native.Mathlib.Omega.{arith}
use lib.Dec.{leb}
use borrow.Author.Tests.{leb-true, leb-false}
use Rattle.door.specs.Door.{time_limit}
use Rattle.walk_time.specs.Walk.{stairs_or_escalator, effective_duration, round_count}

-- an effective duration is never below the duration
pub duration_least : (d m : ℕ) (w : Bool) → d ≤ effective_duration d m w
unfolding effective_duration
duration_least d m w = go (w && stairs_or_escalator m)
  where
    go : (t : Bool) → d ≤ cond t (d * 100) d
    go true = omega arith
    go false = omega arith

-- and at most 104,857,500 seconds
pub duration_most : (d m : ℕ) (w : Bool) → d ≤ time_limit → effective_duration d m w ≤ 104857500
unfolding effective_duration
duration_most d m w h = go (w && stairs_or_escalator m)
  where
    go : (t : Bool) → cond t (d * 100) d ≤ 104857500
    go true = omega arith
    go false = omega arith

pub rounds_least : (wanted transfers : ℕ) → 4 ≤ round_count wanted transfers
unfolding round_count
rounds_least wanted transfers = omega arith

pub rounds_most : (wanted transfers : ℕ) → round_count wanted transfers ≤ 12
unfolding round_count
rounds_most wanted transfers = omega arith

-- more wanted rounds or more transfers never give fewer rounds
pub rounds_rise : (w t w' t' : ℕ) → w ≤ w' → t ≤ t' → round_count w t ≤ round_count w' t'
unfolding round_count
rounds_rise w t w' t' p q = omega arith

-- ten transfers or more give all 12 rounds
full : (w s : ℕ) → 12 ≤ s → min 12 (max w (max s 4)) ≡ 12
full w s h = omega arith

-- the Rust adds 2 to the transfers in 32 bits and stops at the greatest number: the count is the same
pub rounds_saturated : (w t : ℕ) → round_count w t ≡ min 12 (max w (max (min (t + 2) 4294967295) 4))
unfolding round_count
rounds_saturated w t = go (leb (t + 2) 4294967295) refl
  where
    go : (b : Bool) → leb (t + 2) 4294967295 ≡ b → min 12 (max w (max (t + 2) 4)) ≡ min 12 (max w (max (min (t + 2) 4294967295) 4))
    go true e = let q = min-eq_left (leb-true (t + 2) 4294967295 e) in rw q
    go false e =
        let l = leb-false (t + 2) 4294967295 e in
        full w (t + 2) (omega arith) ∙ sym (full w (min (t + 2) 4294967295) (omega arith))
