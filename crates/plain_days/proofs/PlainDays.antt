-- Plain days that exist: Timetable K, K with a pattern that skips nothing, K under other settings, and a day with walks. On K with the pattern the Rust itself
-- does not give what demand 3 asks.
use Prim.Native.Nat.{ℕ, zero, suc, ◌+◌, ◌≤◌}
use mathlib.Core.Path.{◌≡◌, refl, sym, ap, subst, ◌∙◌}
use mathlib.Core.Bool.{Bool, true, false, not, ◌||◌}
use mathlib.Core.List.Memᴰ
use mathlib.Core.List.{List, [], ◌∷◌, flatten}
use native.Mathlib.Omega.{arith}
use lib.ListN.{get_or}
use lib.Dec.{ltb, eqb}
use borrow.Author.Tests.{leb-true, ltb-true, eq-eqb}
use Rattle.loops.specs.Iter.{iter, every, first, some}
use Rattle.loops.specs.Count.{count, tab_from}
use Rattle.sorts.specs.Sort.{insert_by, sort_by}
use Rattle.sorts.specs.Orders.{keep}
use Rattle.walk_time.specs.Walk.{effective_duration, round_count}
use Rattle.line_numbers.specs.Lines.{line_of, same, lead_of, is_lead, line_trips}
use Rattle.departures.specs.Departures.{frequency_listed}
use Rattle.event_transfers.specs.Transfers.{departures_of_line, first_not_before, transfer_to, transfers_of}
use Rattle.model.specs.Tables.{Origin, Tables, Query, stop_at, change_before, edges_from, mode_wanted, usable, permitted}
use Rattle.model.specs.Search.{targets_from, target_cells, holds_target, use_arc_flags, some_transfer, skips_edge, skips_transfer, flags_in_use, put_off, run_tbr}
use Rattle.model.specs.Door.{Door}
use Rattle.model.specs.Promise.{scheduled, PlainDay, Alighting, Journey, WholeJourney, Way, Demand3}
use Rattle.plain_days.specs.K.{built, under, house, timetable_k, listed_k, tables_k, pattern_k, every_cell, query_k, asks, no_delays, origin, tables_w, timetable_w, listed_w, query_w}
use Rattle.plain_days.proofs.Examples.{worked}
use Rattle.plain_days.proofs.DayTests.{all_of, passed, all_in, among, first_or, any_in, sorted_test, rising_test, has, door_tests, plain_tests, door_holds, plain_holds, leaving}

-- K built and asked under other settings: transfer time 121, one trip tried in a line, no slack, no margin
abbrev pub query_h : Query
query_h = under (house 121 1 0 0) (query_k 90 120)

abbrev pub tables_h : Tables
tables_h = built (timetable_k 460 320 0) listed_k query_h.settings.transfer_time []

-- THE DAYS: each passes both tests
abbrev pub day_tests : List Bool
day_tests =
    all_of (door_tests tables_k (query_k 90 120)) ∷ all_of (plain_tests tables_k (query_k 90 120))
    ∷ all_of (door_tests pattern_k (query_k 90 121)) ∷ all_of (plain_tests pattern_k (query_k 90 121))
    ∷ all_of (door_tests pattern_k (query_k 91 60)) ∷ all_of (plain_tests pattern_k (query_k 91 60))
    ∷ all_of (door_tests tables_w query_w) ∷ all_of (plain_tests tables_w query_w)
    ∷ all_of (door_tests tables_h query_h) ∷ all_of (plain_tests tables_h query_h) ∷ []

pub days_pass : all_of day_tests ≡ true
unfolding all_of all_in any_in sorted_test rising_test has effective_duration edges_from targets_from target_cells holds_target use_arc_flags some_transfer skips_edge skips_transfer flags_in_use frequency_listed same lead_of is_lead line_of line_trips departures_of_line first_not_before transfer_to transfers_of iter every first some count tab_from insert_by sort_by keep flatten
days_pass = refl

-- Timetable K with Q1
pub door-k : Door tables_k (query_k 90 120)
door-k = door_holds tables_k (query_k 90 120) (passed day_tests days_pass 0)

pub plain_k : PlainDay tables_k (query_k 90 120)
plain_k = plain_holds (timetable_k 460 320 0) listed_k [] (query_k 90 120) (passed day_tests days_pass 1)

-- K with the pattern: the flags are on, and skip nothing
pub door_pattern : Door pattern_k (query_k 90 121)
door_pattern = door_holds pattern_k (query_k 90 121) (passed day_tests days_pass 2)

pub plain_pattern : PlainDay pattern_k (query_k 90 121)
plain_pattern = plain_holds (timetable_k 460 320 0) listed_k (every_cell ∷ []) (query_k 90 121) (passed day_tests days_pass 3)

-- .. and the change time is 60
pub door_short : Door pattern_k (query_k 91 60)
door_short = door_holds pattern_k (query_k 91 60) (passed day_tests days_pass 4)

pub plain_short : PlainDay pattern_k (query_k 91 60)
plain_short = plain_holds (timetable_k 460 320 0) listed_k (every_cell ∷ []) (query_k 91 60) (passed day_tests days_pass 5)

-- K under other settings
pub door_h : Door tables_h query_h
door_h = door_holds tables_h query_h (passed day_tests days_pass 8)

pub plain_h : PlainDay tables_h query_h
plain_h = plain_holds (timetable_k 460 320 0) listed_k [] query_h (passed day_tests days_pass 9)

-- the day with walks
pub door_w : Door tables_w query_w
door_w = door_holds tables_w query_w (passed day_tests days_pass 6)

pub plain_w : PlainDay tables_w query_w
plain_w = plain_holds timetable_w listed_w [] query_w (passed day_tests days_pass 7)

-- its best journey: T0, the walk from stop 1 to stop 2, the change time there, T3
pub journey_w : WholeJourney tables_w query_w (scheduled tables_w) 395
unfolding permitted usable mode_wanted insert_by sort_by keep tab_from edges_from effective_duration change_before round_count first
journey_w =
    record {
      just_rode = true;
      ride_count = 2;
      stop = 3;
      reached = 390;
      journey =
          Journey.ride 3 0 1
          (Journey.foot 0
          (Journey.ride 0 0 1 (Journey.access (origin 0 10) (Memᴰ.head refl))
          (record { trip = refl; listed = Memᴰ.head refl; pickup = refl; served = refl })
          (record { later = leb-true 1 1 refl; inside = leb-true 2 2 refl; drop_off = refl; served = refl }) (leb-true 100 100 refl))
          (Memᴰ.head refl))
          (record { trip = refl; listed = Memᴰ.tail (Memᴰ.head refl); pickup = refl; served = refl })
          (record { later = leb-true 1 1 refl; inside = leb-true 2 2 refl; drop_off = refl; served = refl }) (leb-true 380 380 refl);
      fits = leb-true 2 4 refl;
      walk = 5;
      egress = Memᴰ.head refl;
      sum = refl;
    }

-- without the wheelchair the same walks are not complete: from the origin at stop 1 the stairs reach stop 4 after 702 seconds, and the
-- origin there takes 900
abbrev on_foot_w : Query
on_foot_w = asks 90 query_w.origins query_w.egress false 120 no_delays false

slow_there : all_in (λ (b : Origin). not (eqb b.stop 4) || ltb 702 b.duration) query_w.origins ≡ true
unfolding all_in
slow_there = refl

pub not_plain : PlainDay tables_w on_foot_w → ⊥
unfolding keep tab_from edges_from effective_duration
not_plain d =
    let r = d.calm.conditions.origins_complete (origin 1 700) 1 (Memᴰ.tail (Memᴰ.head refl)) (Memᴰ.tail (Memᴰ.head refl)) in
    let b = r.0 in
    let p = among (λ (b : Origin). not (eqb b.stop 4) || ltb 702 b.duration) query_w.origins b slow_there r.1 in
    let q = ltb-true 702 b.duration (first_or (eqb b.stop 4) (ltb 702 b.duration) p (eq-eqb b.stop 4 r.2)) in
    let l = r.3 in
    omega (arith, q, l)

-- THE RUST ON A PLAIN DAY. On K with the pattern it knows only transfers of the transfer time.
rust_total : (run_tbr pattern_k (query_k 90 121)).total ≡ 385
rust_total = ap (λ l. get_or (get_or l 1 []) 0 0) worked.more

rust_stop : (run_tbr pattern_k (query_k 90 121)).stop ≡ 2
rust_stop = ap (λ l. get_or (get_or l 1 []) 1 0) worked.more

-- the reference with the switch put off: T2 is not scanned, one misses it by a second
off_scans : (run_tbr pattern_k (put_off (query_k 90 121))).scans ≡ (0, 0, 0) ∷ []
off_scans = ap (λ l. get_or l 1 []) worked.scans

rust_short : (run_tbr pattern_k (query_k 91 60)).total ≡ 465
rust_short = ap (λ l. get_or (get_or l 3 []) 0 0) worked.more

-- Over that one scan a way is at stop 2 at 400 or later
abbrev Late : ℕ → ℕ → Type 0
Late x v = x ≡ 2 → 400 ≤ v

-- T0 is left at stop 1 or 2
left : (p : ℕ) → Alighting pattern_k (query_k 90 121) (scheduled pattern_k) 0 0 p → Late (stop_at pattern_k 0 p) ((scheduled pattern_k).arrives 0 p)
unfolding first
left zero a = absurd (omega (arith, a.later))
left (suc zero) a = λ z. absurd (omega arith)
left (suc (suc zero)) a = λ z. leb-true 400 400 refl
left (suc (suc (suc p))) a = let q = a.inside in absurd (omega (arith, q))

-- so every way over it
late : {x v q : ℕ} → Way pattern_k (query_k 90 121) (scheduled pattern_k) ((0, 0, 0) ∷ []) x v q → Late x v
late (Way.access a m) = subst (λ (z : Origin). Late z.stop (90 + z.duration)) (sym (Memᴰ.eq_of_singleton m)) (λ z. absurd (omega arith))
late (Way.ride {x} {v} r t o p w f m b a h) = rode (Memᴰ.eq_of_singleton m)
  where
    rode : ◌≡◌ {A = ℕ × ℕ × ℕ} (r, t, o) (0, 0, 0) → Late (stop_at pattern_k t p) ((scheduled pattern_k).arrives t p)
    rode z =
        subst (λ (s : ℕ × ℕ × ℕ). Late (stop_at pattern_k s.1 p) ((scheduled pattern_k).arrives s.1 p)) (sym z)
        (left p (subst (λ (s : ℕ × ℕ × ℕ). Alighting pattern_k (query_k 90 121) (scheduled pattern_k) s.1 s.2 p) z a))
late (Way.foot {x} e w m) = absurd (let q = (leaving pattern_k (query_k 90 121) x e m).1 in omega (arith, q))

-- change time 121: the Rust's 385 at stop 2 is the arrival of no way
pub rust_breaks : Demand3 pattern_k (query_k 90 121) (scheduled pattern_k) (run_tbr pattern_k (query_k 90 121)) → ⊥
rust_breaks d =
    let b = d.best (λ z. let q = sym rust_total ∙ z in omega (arith, q)) in
    let y = subst (λ s. Way pattern_k (query_k 90 121) (scheduled pattern_k) s (run_tbr pattern_k (query_k 90 121)).stop b.reached b.last_round) off_scans b.way in
    let w = late (subst (λ x. Way pattern_k (query_k 90 121) (scheduled pattern_k) ((0, 0, 0) ∷ []) x b.reached b.last_round) rust_stop y) refl in
    let e = ap (λ (x : ℕ × ℕ). x.1) (Memᴰ.eq_of_singleton b.egress) in
    let s = b.sum in
    omega (arith, w, e, s, rust_total)

-- change time 60: a journey by T1 and T2 arrives at 385, and the Rust answers 465
pub short_change : WholeJourney pattern_k (query_k 91 60) (scheduled pattern_k) 385
unfolding permitted usable mode_wanted insert_by sort_by change_before round_count first
short_change =
    record {
      just_rode = true;
      ride_count = 2;
      stop = 2;
      reached = 380;
      journey =
          Journey.ride 2 0 1
          (Journey.ride 1 0 1 (Journey.access (origin 0 10) (Memᴰ.head refl))
          (record { trip = refl; listed = Memᴰ.tail (Memᴰ.head refl); pickup = refl; served = refl })
          (record { later = leb-true 1 1 refl; inside = leb-true 2 3 refl; drop_off = refl; served = refl }) (leb-true 101 160 refl))
          (record { trip = refl; listed = Memᴰ.tail (Memᴰ.tail (Memᴰ.head refl)); pickup = refl; served = refl })
          (record { later = leb-true 1 1 refl; inside = leb-true 2 2 refl; drop_off = refl; served = refl }) (leb-true 320 320 refl);
      fits = leb-true 2 4 refl;
      walk = 5;
      egress = Memᴰ.head refl;
      sum = refl;
    }

pub rust_breaks_short : Demand3 pattern_k (query_k 91 60) (scheduled pattern_k) (run_tbr pattern_k (query_k 91 60)) → ⊥
rust_breaks_short d = let l = d.lowest 385 short_change in omega (arith, l, rust_short)
