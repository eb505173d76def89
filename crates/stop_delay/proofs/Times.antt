-- Laws of effective times: by what is given, without a delay row, and how large they are.
use Prim.Native.Nat.{ℕ, ◌+◌, ◌<◌, ◌≤◌}
use mathlib.Core.Path.{◌≡◌, refl, ap, ◌∙◌}
use mathlib.Core.Bool.{Bool, true, false, cond, ◌||◌}
use mathlib.Core.Logic.{⊎_elim}
use native.Mathlib.Nat.{add-zero}
use native.Mathlib.Omega.{arith}
use Rattle.loops.proofs.Search.{split}
use Rattle.signed.proofs.Laws.{moved_low, moved_high, size_low}
use Rattle.door.specs.Door.{time_limit}
use Rattle.stop_delay.specs.declared.StopDelay.{StopDelay}
use Rattle.stop_delay.specs.Times.{departure_given, arrival_given, no_delay, size_of, shifted, effective_departure, effective_arrival}
use Rattle.stop_delay.specs.Door.{Bounded}

-- an arrival by what the stop row gives: neither time, the arrival's own, the departure's alone
pub arrival_shifted : (arrival shift : ℕ) (d : StopDelay) → departure_given d.flags || arrival_given d.flags ≡ false → effective_arrival arrival shift d ≡ shifted arrival shift
arrival_shifted arrival shift d e = ap (λ (b : Bool). shifted arrival (cond b (cond (arrival_given d.flags) d.arrival_delay d.trip_delay) shift)) e

pub arrival-given : (arrival shift : ℕ) (d : StopDelay) (own : Bool) → departure_given d.flags || arrival_given d.flags ≡ true → arrival_given d.flags ≡ own
    → effective_arrival arrival shift d ≡ shifted arrival (cond own d.arrival_delay d.trip_delay)
arrival-given arrival shift d own e a =
    ap (λ (b : Bool). shifted arrival (cond b (cond (arrival_given d.flags) d.arrival_delay d.trip_delay) shift)) e
    ∙ ap (λ (b : Bool). shifted arrival (cond b d.arrival_delay d.trip_delay)) a

-- no delay row: the departure stands, and the arrival moves by the shift alone
pub no_delay_departure : (departure : ℕ) → effective_departure departure no_delay ≡ departure
no_delay_departure departure = add-zero departure

pub no_delay_arrival : (arrival shift : ℕ) → effective_arrival arrival shift no_delay ≡ shifted arrival shift
no_delay_arrival arrival shift = refl

-- a time moves by no more than the delay's size
pub shifted_near : (time bits : ℕ) → shifted time bits ≤ time + size_of bits
shifted_near time bits =
    ⊎_elim (λ (l : bits < 2147483648). omega (arith, moved_low time bits l, size_low bits l))
    (λ (l : 2147483648 ≤ bits). omega (arith, moved_high time bits l))
    (split bits 2147483648)

cond_size : (b : Bool) (x y : ℕ) → size_of x ≤ time_limit → size_of y ≤ time_limit → size_of (cond b x y) ≤ time_limit
cond_size true x y h k = h
cond_size false x y h k = k

-- effective times of a timetable's times are at most 2,097,150
pub departure_bound : (departure : ℕ) (d : StopDelay) → departure ≤ time_limit → Bounded d → effective_departure departure d ≤ 2097150
departure_bound departure d h b =
    omega (arith, shifted_near departure (cond (departure_given d.flags) d.departure_delay d.trip_delay), cond_size (departure_given d.flags) d.departure_delay d.trip_delay b.departure b.trip)

pub arrival_bound : (arrival shift : ℕ) (d : StopDelay) → arrival ≤ time_limit → size_of shift ≤ time_limit → Bounded d → effective_arrival arrival shift d ≤ 2097150
arrival_bound arrival shift d h s b =
    let own = cond (arrival_given d.flags) d.arrival_delay d.trip_delay in
    let k : size_of own ≤ time_limit = cond_size (arrival_given d.flags) d.arrival_delay d.trip_delay b.arrival b.trip in
    omega (arith, shifted_near arrival (cond (departure_given d.flags || arrival_given d.flags) own shift), cond_size (departure_given d.flags || arrival_given d.flags) own shift k s)
