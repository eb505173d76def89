-- The second loop of scan_trip_forward, turn by turn, and both loops as the whole. Assumes nothing.
use Prim.Native.Nat.{ℕ, zero, suc, ◌+◌, ◌-◌, ◌≤◌, ◌<◌}
use mathlib.Core.Path.{◌≡◌, refl, sym, ap, ◌∙◌}
use mathlib.Core.Bool.{Bool, true, false, not}
use native.Mathlib.Omega.{arith}
use native.Mathlib.Nat.{le_refl}
use native.Mathlib.Numerals.{add-one}
use lib.ListN.{length}
use lib.Dec.{ltb}
use borrow.Author.Tests.{not-true, not-false}
use Rattle.loops.specs.Iter.{Hit}
use Rattle.model.specs.Tables.{Tables, Query, stop_count, stop_at, no_drop_off}
use Rattle.model.specs.Search.{Arrivals, arrival_now, take_transfers, alightings, transferring, scan_trip_forward}
use Rattle.trip_scan.proofs.Turning.{turn, turn_shut, turn_cut, turn_go, turn_end}
use Rattle.trip_scan.proofs.Taking.{take_grows}

module _ (T : Tables) (Q : Query) (stamp : ℕ) (adj : Hit) (shift t : ℕ) where
  -- the transfers from offset p on, where the trip has n stop times
  abbrev pub transfer_from : ℕ → ℕ → Arrivals → Arrivals
  transfer_from n p a = transferring T Q stamp adj shift t (n - p) p a

  abbrev taken_at : ℕ → Arrivals → Arrivals
  taken_at p a = take_transfers T Q stamp (arrival_now T Q adj shift t p) (stop_at T t p) (T.transfers t p) a

  none : (p : ℕ) (a : Arrivals) → transferring T Q stamp adj shift t 0 p a ≡ a
  unfolding transferring
  none p a = refl

  one : (k p : ℕ) (a : Arrivals)
      → transferring T Q stamp adj shift t (suc k) p a
      ≡ turn (no_drop_off T t p) (ltb (arrival_now T Q adj shift t p) a.best) (transferring T Q stamp adj shift t k (suc p) a) a (transferring T Q stamp adj shift t k (suc p) (taken_at p a))
  unfolding transferring
  one k p a = refl

  module _ (n p : ℕ) (a : Arrivals) (h : p < n) (b : Bool) (eb : b ≡ no_drop_off T t p) where
    pub transfer_shut : b ≡ true → transfer_from n (p + 1) a ≡ transfer_from n p a
    transfer_shut = turn_shut (transferring T Q stamp adj shift t) (no_drop_off T t) (arrival_now T Q adj shift t) taken_at none one n p a h b eb

    pub transfer_cut : (v : ℕ) → b ≡ false → v ≡ arrival_now T Q adj shift t p → a.best ≤ v → a ≡ transfer_from n p a
    transfer_cut = turn_cut (transferring T Q stamp adj shift t) (no_drop_off T t) (arrival_now T Q adj shift t) taken_at none one n p a h b eb

    pub transfer_go : (v : ℕ) → b ≡ false → v ≡ arrival_now T Q adj shift t p → v < a.best
        → transfer_from n (p + 1) (take_transfers T Q stamp v (stop_at T t p) (T.transfers t p) a) ≡ transfer_from n p a
    transfer_go v e ev l =
        ap (λ (z : ℕ). transfer_from n (p + 1) (take_transfers T Q stamp z (stop_at T t p) (T.transfers t p) a)) ev
        ∙ turn_go (transferring T Q stamp adj shift t) (no_drop_off T t) (arrival_now T Q adj shift t) taken_at none one n p a h b eb v e ev l

  pub transfer_end : (n p : ℕ) (a : Arrivals) → n ≤ p → a ≡ transfer_from n p a
  transfer_end = turn_end (transferring T Q stamp adj shift t) (no_drop_off T t) (arrival_now T Q adj shift t) taken_at none one

  -- the queue does not shrink
  pub transferring_grows : (k p : ℕ) (a : Arrivals) → length a.seg_queue ≤ length (transferring T Q stamp adj shift t k p a).seg_queue
  transferring_grows zero p a = rw (none p a) (le_refl _)
  transferring_grows (suc k) p a =
      rw (one k p a) (go (no_drop_off T t p) (ltb (arrival_now T Q adj shift t p) a.best) (transferring_grows k (suc p) a) (transferring_grows k (suc p) (taken_at p a)))
    where
      go : (x y : Bool) → length a.seg_queue ≤ length (transferring T Q stamp adj shift t k (suc p) a).seg_queue
          → length (taken_at p a).seg_queue ≤ length (transferring T Q stamp adj shift t k (suc p) (taken_at p a)).seg_queue
          → length a.seg_queue
          ≤ length (turn x y (transferring T Q stamp adj shift t k (suc p) a) a (transferring T Q stamp adj shift t k (suc p) (taken_at p a))).seg_queue
      go true y u w = u
      go false false u w = le_refl _
      go false true u w = omega (arith, take_grows T Q stamp (arrival_now T Q adj shift t p) (stop_at T t p) (T.transfers t p) a, w)

  -- the whole: unflagged the first loop, flagged both
  module _ (s o : ℕ) (flagged : Bool) (a : Arrivals) where
    abbrev first_loop : ℕ → Arrivals
    first_loop p = alightings T Q stamp adj shift t s o (stop_count T t - p) p a

    pub scan_plain : not flagged ≡ true → first_loop (o + 1) ≡ scan_trip_forward T Q flagged stamp adj shift t s o a
    unfolding scan_trip_forward
    scan_plain e =
        ap first_loop (add-one o)
        ∙ sym (ap (λ (x : Bool). elim x as (λ z. Arrivals) [ true ↦ transferring T Q stamp adj shift t (stop_count T t - suc o) (suc o) (first_loop (suc o)) | false ↦ first_loop (suc o) ]) (not-true flagged e))

    pub scan_flagged : not flagged ≡ false
        → transferring T Q stamp adj shift t (stop_count T t - (o + 1)) (o + 1) (first_loop (o + 1)) ≡ scan_trip_forward T Q flagged stamp adj shift t s o a
    unfolding scan_trip_forward
    scan_flagged e =
        ap (λ (p : ℕ). transferring T Q stamp adj shift t (stop_count T t - p) p (first_loop p)) (add-one o)
        ∙ sym (ap (λ (x : Bool). elim x as (λ z. Arrivals) [ true ↦ transferring T Q stamp adj shift t (stop_count T t - suc o) (suc o) (first_loop (suc o)) | false ↦ first_loop (suc o) ]) (not-false flagged e))
