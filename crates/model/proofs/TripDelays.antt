-- Delays of whole trips make a steady day: each trip's effective times are its schedule moved by one delay, whatever the boarding.
use Prim.Native.Nat.{ℕ, suc, ◌-◌, ◌≤◌, ◌<◌}
use mathlib.Core.Path.{◌≡◌, refl, sym, ap, subst, ◌∙◌}
use mathlib.Core.Logic.{⊎_elim}
use mathlib.Core.Bool.{Bool, true, false, cond, ◌&&◌, ◌||◌}
use native.Mathlib.Omega.{arith}
use lib.Dec.{eqb}
use lib.IntN.{ℤ, pos, negsuc, sub_ℕ, ◌+ℤ◌}
use lib.Signed.{non_neg}
use borrow.Author.Tests.{eqb-true, lt-ltb, le-ltb}
use Rattle.door.specs.Door.{time_limit}
use Rattle.loops.specs.Iter.{Hit, hit, miss}
use Rattle.loops.proofs.Iter.{first_found}
use Rattle.loops.proofs.Search.{split, hit_below}
use Rattle.signed.specs.Signed.{of_bits, bits_of, floored}
use Rattle.signed.proofs.Laws.{of_low, of_high, of_sub, moved_low, moved_high}
use Rattle.stop_delay.specs.Times.{departure_given, arrival_given, size_of, shifted}
use Rattle.stop_delay.proofs.Times.{arrival_shifted, shifted_near}
use Rattle.delay_rows.specs.Delays.{stop_row, beside_trip}
use Rattle.model.specs.Tables.{Tables, Query, stops, trips, stop_count, arrival, departure, sequence}
use Rattle.model.specs.Search.{delay_of, delay_at}
use Rattle.model.specs.Door.{Door}
use Rattle.model.specs.Promise.{effective, Boarding, NoTimesFall, CalmDay, SteadyConditions, arrives_from, SteadyDay, TripDelays}
use Rattle.model.proofs.Base.{no_both, or-false, and-true}
use Rattle.model.proofs.Sizes.{shifted_back}
use Rattle.model.proofs.Times.{later}
use Rattle.model.proofs.Delayed.{row_below, row_trip}

-- a later time is moved to no earlier one
pub shifted_mono : (a b bits : ℕ) → a ≤ b → shifted a bits ≤ shifted b bits
shifted_mono a b bits h =
    ⊎_elim (λ (l : bits < 2147483648). omega (arith, moved_low a bits l, moved_low b bits l))
    (λ (l : 2147483648 ≤ bits). omega (arith, moved_high a bits l, moved_high b bits l))
    (split bits 2147483648)

abbrev sign : ℤ → ℕ
sign (pos n) = 0
sign (negsuc n) = 1

not_below : (x y : ℕ) → pos x ≡ negsuc y → ⊥
not_below x y q = omega (arith, ap sign q)

-- the floor changes nothing of what is not below 0
unchanged : (z : ℤ) → non_neg z ≡ true → pos (floored z) ≡ z
unchanged (pos n) e = refl
unchanged (negsuc n) e = absurd (no_both e refl)

-- and then the bits of the difference mean the delay
unfloored : (d m : ℕ) → pos (d - suc m) ≡ sub_ℕ d (suc m) → suc m ≤ d
unfloored d m e =
    ⊎_elim
    (λ (l : d < suc m). absurd (not_below (d - suc m) (suc m - suc d) (e ∙ ap (λ (t : Bool). cond t (negsuc (suc m - suc d)) (pos (d - suc m))) (lt-ltb d (suc m) l))))
    (λ (l : suc m ≤ d). l)
    (split d (suc m))

pub back : (d bits : ℕ) → d < 1073741824 → size_of bits < 1073741824 → pos (shifted d bits) ≡ pos d +ℤ of_bits bits → of_bits (bits_of (sub_ℕ (shifted d bits) d)) ≡ of_bits bits
back d bits u v e = of_sub (shifted d bits) d (omega (arith, shifted_near d bits)) (omega arith) ∙ ⊎_elim low high (split bits 2147483648)
  where
    low : bits < 2147483648 → sub_ℕ (shifted d bits) d ≡ of_bits bits
    low l =
        ap (λ (t : Bool). cond t (negsuc (d - suc (shifted d bits))) (pos (shifted d bits - d))) (le-ltb (shifted d bits) d (omega (arith, moved_low d bits l)))
        ∙ (ap pos (omega (arith, moved_low d bits l)) ∙ sym (of_low bits l))

    high : 2147483648 ≤ bits → sub_ℕ (shifted d bits) d ≡ of_bits bits
    high l =
        let m = 4294967296 - suc bits in
        let s = moved_high d bits l in
        let k : suc m ≤ d = unfloored d m (ap pos (sym s) ∙ (e ∙ ap (λ (z : ℤ). pos d +ℤ z) (of_high bits l))) in
        ap (λ (t : Bool). cond t (negsuc (d - suc (shifted d bits))) (pos (shifted d bits - d))) (lt-ltb (shifted d bits) d (omega (arith, s)))
        ∙ (ap negsuc (omega (arith, s)) ∙ sym (of_high bits l))

-- how late a trip with this delay row is, in signed seconds
abbrev late_by : Query → Hit → ℕ
late_by Q miss = 0
late_by Q (hit i) = (Q.delays.delay i).delay

module _ (T : Tables) (Q : Query) (D : Door T Q) (S : TripDelays T Q) where
  late_small : (t : ℕ) → size_of (late_by Q (delay_of Q t)) ≤ time_limit
  late_small t = go (delay_of Q t) refl
    where
      go : (h : Hit) → delay_of Q t ≡ h → size_of (late_by Q h) ≤ time_limit
      go miss e = omega arith
      go (hit i) e = D.delay_small i (row_below Q t i e)

  -- no stop row gives a time, so each time is moved by its trip's delay
  nothing_given : (t o : ℕ) → t < trips T → (departure_given (delay_at T Q (delay_of Q t) t o).flags || arrival_given (delay_at T Q (delay_of Q t) t o).flags) ≡ false
  nothing_given t o u = go (delay_of Q t) refl
    where
      at_row : (i : ℕ) → delay_of Q t ≡ hit i → (h : Hit) → stop_row Q.delays i (sequence T t o) ≡ h
          → (departure_given (beside_trip Q.delays (Q.delays.delay i).delay h).flags || arrival_given (beside_trip Q.delays (Q.delays.delay i).delay h).flags) ≡ false
      at_row i f miss e = refl
      at_row i f (hit j) e =
          let r = and-true _ _ (first_found (λ (j : ℕ). eqb (Q.delays.stop_row j).row i && eqb (Q.delays.stop_row j).sequence (sequence T t o)) 0 (Q.delays.stop_rows - 0) j e) in
          let b : j < Q.delays.stop_rows = hit_below _ Q.delays.stop_rows j e in
          S.only_skips j (omega (arith, b))
          (subst (λ (z : ℕ). z < trips T) (sym (ap (λ (k : ℕ). (Q.delays.delay k).trip) (eqb-true _ _ r.0) ∙ row_trip Q t i f)) u)

      go : (h : Hit) → delay_of Q t ≡ h → (departure_given (delay_at T Q h t o).flags || arrival_given (delay_at T Q h t o).flags) ≡ false
      go miss f = refl
      go (hit i) f = at_row i f (stop_row Q.delays i (sequence T t o)) refl

  trip-delay : (h : Hit) (t o : ℕ) → (delay_at T Q h t o).trip_delay ≡ late_by Q h
  trip-delay miss t o = refl
  trip-delay (hit i) t o = go (stop_row Q.delays i (sequence T t o))
    where
      go : (h : Hit) → (beside_trip Q.delays (Q.delays.delay i).delay h).trip_delay ≡ (Q.delays.delay i).delay
      go miss = refl
      go (hit j) = refl

  departs_late : (t o : ℕ) → t < trips T → (effective T Q).departs t o ≡ shifted (departure T t o) (late_by Q (delay_of Q t))
  departs_late t o u =
      let d = delay_at T Q (delay_of Q t) t o in
      ap (λ (b : Bool). shifted (departure T t o) (cond b d.departure_delay d.trip_delay)) (or-false (departure_given d.flags) (arrival_given d.flags) (nothing_given t o u)).0
      ∙ ap (shifted (departure T t o)) (trip-delay (delay_of Q t) t o)

  arrives_late : (t o : ℕ) → t < trips T → (effective T Q).arrives t o ≡ shifted (arrival T t o) (late_by Q (delay_of Q t))
  arrives_late t o u =
      let d = delay_at T Q (delay_of Q t) t o in
      ap (λ (b : Bool). shifted (arrival T t o) (cond b d.arrival_delay d.trip_delay)) (or-false (departure_given d.flags) (arrival_given d.flags) (nothing_given t o u)).1
      ∙ ap (shifted (arrival T t o)) (trip-delay (delay_of Q t) t o)

  -- a trip of the table is late by no more than the cap, and its departures stay where the delay puts them
  within : (t : ℕ) → t < trips T → size_of (late_by Q (delay_of Q t)) ≤ Q.settings.margin_cap
  within t u = go (delay_of Q t) refl
    where
      go : (h : Hit) → delay_of Q t ≡ h → size_of (late_by Q h) ≤ Q.settings.margin_cap
      go miss e = omega arith
      go (hit i) e = omega (arith, S.within_cap i (row_below Q t i e) (subst (λ (z : ℕ). z < trips T) (sym (row_trip Q t i e)) u))

  exact : (t o : ℕ) → t < trips T → o < stop_count T t → pos (shifted (departure T t o) (late_by Q (delay_of Q t))) ≡ pos (departure T t o) +ℤ of_bits (late_by Q (delay_of Q t))
  exact t o u n = go (delay_of Q t) refl
    where
      go : (h : Hit) → delay_of Q t ≡ h → pos (shifted (departure T t o) (late_by Q h)) ≡ pos (departure T t o) +ℤ of_bits (late_by Q h)
      go miss e = refl
      go (hit i) e =
          let q = row_trip Q t i e in
          let m = subst (λ (z : ℕ). o < stop_count T z) (sym q) n in
          unchanged (pos (departure T t o) +ℤ of_bits (Q.delays.delay i).delay)
          (subst (λ (z : ℕ). non_neg (pos (departure T z o) +ℤ of_bits (Q.delays.delay i).delay) ≡ true) q
          (S.after_zero i o (row_below Q t i e) (subst (λ (z : ℕ). z < trips T) (sym q) u) (omega (arith, m))))

  -- wherever it is boarded, its arrivals are late by the same
  one : (t o p : ℕ) → t < trips T → o < p → p < stop_count T t → arrives_from T Q t o p ≡ (effective T Q).arrives t p
  one t o p u l n =
      arrival_shifted (arrival T t p) (bits_of (sub_ℕ ((effective T Q).departs t o) (departure T t o))) (delay_at T Q (delay_of Q t) t p) (nothing_given t p u)
      ∙ ap (λ (z : ℤ). floored (pos (arrival T t p) +ℤ z))
      (ap (λ (x : ℕ). of_bits (bits_of (sub_ℕ x (departure T t o)))) (departs_late t o u)
      ∙ back (departure T t o) (late_by Q (delay_of Q t)) (omega (arith, D.departure_small t o u (omega arith))) (omega (arith, late_small t)) (exact t o u (omega arith)))
      ∙ sym (arrives_late t p u)

  -- a boarding is of a trip of the table
  known : (x t o : ℕ) → x < stops T → Boarding T Q (effective T Q) x t o → (t < trips T) × (o < stop_count T t)
  known x t o h b = (D.listed_trip x _ h b.listed, D.listed_offset x _ h b.listed)

  module _ (F : NoTimesFall T) where
    up : (t p : ℕ) → t < trips T → p < stop_count T t → (effective T Q).arrives t p ≤ (effective T Q).departs t p
    up t p u n =
        let l = F.waits t p u n in
        let m = shifted_mono (arrival T t p) (departure T t p) (late_by Q (delay_of Q t)) (omega (arith, l)) in
        omega (arith, m, departs_late t p u, arrives_late t p u)

    on : (t o p : ℕ) → t < trips T → o < p → p < stop_count T t → (effective T Q).departs t o ≤ (effective T Q).arrives t p
    on t o p u l n =
        let m = shifted_mono (departure T t o) (arrival T t p) (late_by Q (delay_of Q t)) (later T F t o p u l n) in
        omega (arith, m, departs_late t o u, arrives_late t p u)

  -- THE CONDITIONS of a steady day
  pub trip_delays_conditions : NoTimesFall T → SteadyConditions T Q
  trip_delays_conditions F =
      record {
        rides = λ x t o p h b a. omega (arith, on F t o p (known x t o h b).0 (omega (arith, a.later)) a.inside);
        arrivals = λ x t o p q h b a c l. let u = (known x t o h b).0 in omega (arith, up F t p u a.inside, on F t p q u l c.inside);
        departures = λ x y t o p h i b c l. let k = known y t p i c in omega (arith, on F t o p k.0 l k.1, up F t p k.0 k.1);
        not_late = λ x t o h b. let u = (known x t o h b).0 in omega (arith, departs_late t o u, shifted_near (departure T t o) (late_by Q (delay_of Q t)), within t u);
        not-early = λ x t o h b. let u = (known x t o h b).0 in omega (arith, departs_late t o u, shifted_back (departure T t o) (late_by Q (delay_of Q t)), within t u);
        one-arrival = λ x t o p h b a. one t o p (known x t o h b).0 (omega (arith, a.later)) a.inside;
      }

  pub trip_delays_steady : CalmDay T Q → NoTimesFall T → SteadyDay T Q
  trip_delays_steady C F = record { calm = C; conditions = trip_delays_conditions F }
