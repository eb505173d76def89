-- What the tables say of a stop time: in range, of one row alone, nothing without a row.
use Prim.Native.Nat.{ℕ, ◌<◌}
use mathlib.Core.Path.{◌≡◌, refl, ap, ap₂, ◌∙◌, sym}
use mathlib.Core.Bool.{Bool, false, ◌&&◌}
use mathlib.Core.Logic.{⊎_elim}
use native.Mathlib.Omega.{arith}
use lib.Dec.{eqb}
use borrow.Author.Tests.{eq-eqb, ne_eqb}
use Rattle.loops.specs.Iter.{Hit, hit, miss}
use Rattle.loops.proofs.Search.{first_is, hit_below}
use Rattle.delay_rows.specs.Delays.{DelayTables, unknown_trip, delay_row, stop_row, beside_trip, stop_delay}
use Rattle.stop_delay.specs.Times.{no_delay}
use Rattle.delay_lookup.specs.Sane.{DelayRows, StopRows}
use Rattle.stop_delay.specs.Door.{Bounded}

same_hit : {i j : ℕ} → hit j ≡ hit i → j ≡ i
same_hit e = cc

-- In range
pub no_delay_bounded : Bounded no_delay
no_delay_bounded = record { trip = omega arith; flags = omega arith; departure = omega arith; arrival = omega arith }

module _ (D : DelayTables) (d : DelayRows D.delays D.delay) (s : StopRows D.stop_rows D.stop_row) where
  pub row_bounded : (i sequence : ℕ) → i < D.delays → Bounded (stop_delay D (hit i) sequence)
  row_bounded i sequence u = beside (stop_row D i sequence) refl
    where
      beside : (h : Hit) → stop_row D i sequence ≡ h → Bounded (beside_trip D (D.delay i).delay h)
      beside miss e = record { trip = d.size i u; flags = omega arith; departure = omega arith; arrival = omega arith }
      beside (hit j) e =
          let l : j < D.stop_rows = hit_below _ _ j e in
          record { trip = d.size i u; flags = s.flags j l; departure = s.departure j l; arrival = s.arrival j l }

  pub bounded : (trip sequence : ℕ) → Bounded (stop_delay D (delay_row D trip) sequence)
  bounded trip sequence = at (delay_row D trip) refl
    where
      at : (h : Hit) → delay_row D trip ≡ h → Bounded (stop_delay D h sequence)
      at miss e = no_delay_bounded
      at (hit i) e = row_bounded i sequence (hit_below _ _ i e)

-- A known trip's row is the one that is found, and the only one
module _ (D : DelayTables) (d : DelayRows D.delays D.delay) (trip : ℕ) (known : trip ≡ unknown_trip → ⊥) where
  apart : (i j : ℕ) → i < j → j < D.delays → (D.delay i).trip ≡ trip → (D.delay j).trip ≡ trip → ⊥
  apart i j l u x y = ⊎_elim (λ z. omega arith) (λ z. known (sym x ∙ z.0)) (d.rise i j l u)

  pub delay_is : (i : ℕ) → (D.delay i).trip ≡ trip → i < D.delays → delay_row D trip ≡ hit i
  delay_is i e u =
      first_is (λ k. eqb (D.delay k).trip trip) D.delays i (eq-eqb (D.delay i).trip trip e)
      (λ j l. ne_eqb (D.delay j).trip trip (λ z. apart j i l u z e))
      u

  pub delay_only : (i j : ℕ) → delay_row D trip ≡ hit i → (D.delay j).trip ≡ trip → j < D.delays → j ≡ i
  delay_only i j e f u = same_hit (sym (delay_is j f u) ∙ e)

-- .. and so is a stop row
module _ (D : DelayTables) (s : StopRows D.stop_rows D.stop_row) (row sequence : ℕ) where
  abbrev here : ℕ → Bool
  here k = eqb (D.stop_row k).row row && eqb (D.stop_row k).sequence sequence

  pub stop_is : (j : ℕ) → (D.stop_row j).row ≡ row → (D.stop_row j).sequence ≡ sequence → j < D.stop_rows → stop_row D row sequence ≡ hit j
  stop_is j e f u =
      first_is here D.stop_rows j
      (ap₂ ◌&&◌ (eq-eqb (D.stop_row j).row row e) (eq-eqb (D.stop_row j).sequence sequence f))
      (λ k l. ⊎_elim (λ z. below k z) (λ z. beside k z) (s.rise k j l u))
      u
    where
      below : (k : ℕ) → (D.stop_row k).row < (D.stop_row j).row → here k ≡ false
      below k l = ap (λ (b : Bool). b && eqb (D.stop_row k).sequence sequence) (ne_eqb (D.stop_row k).row row (λ z. omega arith))

      beside : (k : ℕ) → ((D.stop_row k).row ≡ (D.stop_row j).row) × ((D.stop_row k).sequence < (D.stop_row j).sequence) → here k ≡ false
      beside k l = ap₂ ◌&&◌ (eq-eqb (D.stop_row k).row row (l.0 ∙ e)) (ne_eqb (D.stop_row k).sequence sequence (λ z. omega arith))

  pub stop_only : (i j : ℕ) → stop_row D row sequence ≡ hit i → (D.stop_row j).row ≡ row → (D.stop_row j).sequence ≡ sequence → j < D.stop_rows → j ≡ i
  stop_only i j e f g u = same_hit (sym (stop_is j f g u) ∙ e)
