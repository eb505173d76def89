-- How late and how large the times of a boarding and of an arrival can be, by the questions at the door.
use Prim.Native.Nat.{ℕ, suc, ◌+◌, ◌-◌, ◌≤◌, ◌<◌}
use mathlib.Core.Path.{◌≡◌, refl, sym, subst}
use mathlib.Core.Logic.{⊎_elim}
use mathlib.Core.Bool.{Bool, true, false, cond, ◌||◌}
use native.Mathlib.Omega.{arith}
use lib.Dec.{ltb}
use lib.IntN.{ℤ, pos, negsuc, nat_abs, sub_ℕ}
use borrow.Author.Tests.{ltb-true, ltb-false}
use Rattle.door.specs.Door.{time_limit}
use Rattle.loops.specs.Iter.{Hit, hit, miss}
use Rattle.loops.proofs.Iter.{first_bound, iter_keeps}
use Rattle.loops.proofs.Search.{split}
use Rattle.signed.specs.Signed.{bits_of}
use Rattle.signed.proofs.Laws.{of_sub, moved_low, moved_high, size_high}
use Rattle.frequency.specs.declared.BoardedRun.{BoardedRun}
use Rattle.std.specs.Prelude.{Option, None, Some}
use Rattle.frequency.specs.Gtfs.{Window, run_start, first_run, board_run, board_ordinary, board_hit, window_board, board_next, earliest_freq_board}
use Rattle.frequency.proofs.Best.{earlier_keeps}
use Rattle.frequency.proofs.Runs.{found_says}
use Rattle.stop_delay.specs.declared.StopDelay.{StopDelay}
use Rattle.stop_delay.specs.Times.{departure_given, arrival_given, size_of, shifted}
use Rattle.stop_delay.proofs.Times.{shifted_near}
use Rattle.delay_rows.specs.Delays.{delay_row, stop_row, beside_trip, stop_delay}
use Rattle.model.specs.Tables.{Tables, Query, trips, stop_count, arrival, departure, sequence, no_windows}
use Rattle.model.specs.Search.{delay_of, delay_at, departure_now, arrival_now, board_at, trip_window}
use Rattle.model.specs.Door.{Door}

-- the latest boarding: a run that starts before the last second of a window, of a trip 2,097,150 seconds after its start
abbrev pub latest_boarding : ℕ
latest_boarding = 3145724

-- the difference of two numbers up to l is no larger than l
size_sub : (l a b : ℕ) → a ≤ b + l → b ≤ a + l → nat_abs (sub_ℕ a b) ≤ l
size_sub l a b u v = go (ltb a b) refl
  where
    go : (t : Bool) → ltb a b ≡ t → nat_abs (cond t (negsuc (b - suc a)) (pos (a - b))) ≤ l
    go true e = omega (arith, ltb-true a b e)
    go false e = omega (arith, ltb-false a b e)

-- .. as bits
bits_sub : (l a b : ℕ) → a < 2147483648 → b < 2147483648 → a ≤ b + l → b ≤ a + l → size_of (bits_of (sub_ℕ a b)) ≤ l
bits_sub l a b p q u v = subst (λ (z : ℤ). nat_abs z ≤ l) (sym (of_sub a b p q)) (size_sub l a b u v)

-- a time moves back by no more than the delay's size
pub shifted_back : (time bits : ℕ) → time ≤ shifted time bits + size_of bits
shifted_back time bits =
    ⊎_elim (λ (l : bits < 2147483648). omega (arith, moved_low time bits l))
    (λ (l : 2147483648 ≤ bits). omega (arith, moved_high time bits l, size_high bits l))
    (split bits 2147483648)

cond_size : (b : Bool) (x y : ℕ) → size_of x ≤ time_limit → size_of y ≤ time_limit → size_of (cond b x y) ≤ time_limit
cond_size true x y h k = h
cond_size false x y h k = k

-- the delays of a stop time are in their range
pub record Sized (d : StopDelay) : Type 0 where
  pub trip : size_of d.trip_delay ≤ time_limit
  pub departure : size_of d.departure_delay ≤ time_limit
  pub arrival : size_of d.arrival_delay ≤ time_limit

-- a boarding is early and its shift small
pub record Soon (b : BoardedRun) : Type 0 where
  pub departs : b.departure ≤ latest_boarding
  pub shift : size_of b.time_shift_s ≤ time_limit

data Soonest : Option BoardedRun → Type 0 where
  nothing : Soonest None
  soon : {b : BoardedRun} → Soon b → Soonest (Some b)

window_soon : (w : Window) (i base dep after : ℕ) → w.end ≤ time_limit → base ≤ time_limit → dep ≤ 2097150 → Soonest (window_board w i base dep after)
window_soon w i base dep after u v n = go (first_run w base dep after) refl
  where
    go : (h : Hit) → first_run w base dep after ≡ h → Soonest (board_hit w i base dep after h)
    go miss e = nothing
    go (hit k) e =
        let s = found_says w base dep after k e in
        let r : run_start w k < time_limit = omega (arith, s.runs) in
        soon {b = board_run w i base dep after k}
        (record { departs = omega arith; shift = bits_sub time_limit (run_start w k) base (omega arith) (omega arith) (omega arith) (omega arith) })

module _ (T : Tables) (Q : Query) (D : Door T Q) where
  pub delay_sized : (t o : ℕ) → Sized (delay_at T Q (delay_of Q t) t o)
  delay_sized t o = go (delay_row Q.delays t) refl
    where
      nothing_given : Sized (record { trip_delay = 0; flags = 0; departure_delay = 0; arrival_delay = 0 })
      nothing_given = record { trip = omega arith; departure = omega arith; arrival = omega arith }

      at_row : (i : ℕ) → size_of (Q.delays.delay i).delay ≤ time_limit → (h : Hit) → stop_row Q.delays i (sequence T t o) ≡ h
          → Sized (beside_trip Q.delays (Q.delays.delay i).delay h)
      at_row i u miss e = record { trip = u; departure = omega arith; arrival = omega arith }
      at_row i u (hit j) e =
          let n : j < Q.delays.stop_rows = omega (arith, first_bound _ 0 (Q.delays.stop_rows - 0) j e) in
          record { trip = u; departure = D.departure_delay_small j n; arrival = D.arrival_delay_small j n }

      go : (h : Hit) → delay_row Q.delays t ≡ h → Sized (stop_delay Q.delays h (sequence T t o))
      go miss e = nothing_given
      go (hit i) e =
          at_row i (D.delay_small i (omega (arith, first_bound _ 0 (Q.delays.delays - 0) i e))) (stop_row Q.delays i (sequence T t o)) refl

  module _ (t o : ℕ) (u : t < trips T) (n : o < stop_count T t) where
    abbrev d : StopDelay
    d = delay_at T Q (delay_of Q t) t o

    -- the delay of the departure: its own, or the trip's
    abbrev departure-delay : ℕ
    departure-delay = cond (departure_given d.flags) d.departure_delay d.trip_delay

    departure_delay_small : size_of departure-delay ≤ time_limit
    departure_delay_small =
        cond_size (departure_given d.flags) d.departure_delay d.trip_delay (delay_sized t o).departure (delay_sized t o).trip

    -- an effective departure, and an arrival by a ride with a small shift, are at most 2,097,150
    pub departure_early : departure_now T Q (delay_of Q t) t o ≤ 2097150
    departure_early =
        omega (arith, D.departure_small t o u n, shifted_near (departure T t o) departure-delay, departure_delay_small)

    pub arrival_early : (shift : ℕ) → size_of shift ≤ time_limit → arrival_now T Q (delay_of Q t) shift t o ≤ 2097150
    arrival_early shift s =
        let z = delay_sized t o in
        let own = cond (arrival_given d.flags) d.arrival_delay d.trip_delay in
        let k : size_of own ≤ time_limit = cond_size (arrival_given d.flags) d.arrival_delay d.trip_delay z.arrival z.trip in
        let any = departure_given d.flags || arrival_given d.flags in
        omega (arith, D.arrival_small t o u n, shifted_near (arrival T t o) (cond any own shift), cond_size any own shift k s)

    -- the difference between effective and scheduled departure is a delay's
    shift_small : size_of (bits_of (sub_ℕ (departure_now T Q (delay_of Q t) t o) (departure T t o))) ≤ time_limit
    shift_small =
        bits_sub time_limit (departure_now T Q (delay_of Q t) t o) (departure T t o) (omega (arith, departure_early))
        (omega (arith, D.departure_small t o u n))
        (omega (arith, shifted_near (departure T t o) departure-delay, departure_delay_small)) (omega
        (arith, shifted_back (departure T t o) departure-delay, departure_delay_small))

    windows_soon : (after : ℕ)
        → Soonest (earliest_freq_board (T.timetable.trip t).windows (trip_window T t) (departure T t 0) (departure_now T Q (delay_of Q t) t o) after)
    unfolding earliest_freq_board
    windows_soon after =
        let w = (T.timetable.trip t).windows in
        let dep = departure_now T Q (delay_of Q t) t o in
        iter_keeps (λ k x. Soonest x) (board_next (trip_window T t) (departure T t 0) dep after) 0 (w - 0) None nothing
        (λ k x l h p. earlier_keeps Soonest x _ p
        (window_soon (trip_window T t k) k (departure T t 0) dep after (D.window_end t k u (omega arith))
        (D.departure_small t 0 u (omega arith)) departure_early))

    -- HOW A TRIP IS BOARDED: early, and with a small shift
    pub boards_soon : (after : ℕ) (b : BoardedRun) → board_at T Q (delay_of Q t) t o after ≡ Some b → Soon b
    unfolding board_at
    boards_soon after b e =
        of (subst Soonest e (go (no_windows T t) (ltb (departure_now T Q (delay_of Q t) t o) after)))
      where
        of : Soonest (Some b) → Soon b
        of (soon s) = s

        go : (x y : Bool) → Soonest (elim x [
          | true ↦ elim y [
            | true ↦ None
            | false ↦ Some (board_ordinary (departure T t o) (departure_now T Q (delay_of Q t) t o) after)
          ]
          | false ↦ earliest_freq_board (T.timetable.trip t).windows (trip_window T t) (departure T t 0) (departure_now T Q (delay_of Q t) t o) after
        ])
        go true true = nothing
        go true false =
            soon {b = board_ordinary (departure T t o) (departure_now T Q (delay_of Q t) t o) after}
            (record { departs = omega (arith, departure_early); shift = shift_small })
        go false y = windows_soon after
