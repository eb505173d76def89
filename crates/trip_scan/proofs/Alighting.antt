-- The first loop of scan_trip_forward, turn by turn. Assumes nothing.
use Prim.Native.Nat.{ℕ, suc, ◌+◌, ◌-◌, ◌≤◌, ◌<◌}
use mathlib.Core.Path.{◌≡◌, refl, sym, ap, ◌∙◌}
use mathlib.Core.Bool.{Bool, true, false, cond, ◌&&◌, ◌||◌}
use mathlib.Core.List.{List}
use lib.Dec.{ltb, eqb}
use Rattle.loops.specs.Iter.{Hit}
use Rattle.label.specs.declared.Label.TheVariants.{Transit}
use Rattle.tables.specs.declared.Counts.{Counts}
use Rattle.tables.specs.Tables.{time_of, trip_of, first_of, count_of}
use Rattle.tables.specs.Timetable.{Timetable, timetable, time_at}
use Rattle.model.specs.Tables.{Tables, Query, stop_count, stop_at, no_drop_off}
use Rattle.model.specs.Search.{Arrivals, skipped, arrival_now, relax, alightings}
use Rattle.trip_scan.proofs.Turning.{turn, turn_shut, turn_cut, turn_go, turn_end}

-- drop-off by its number
pub drop_off_is : (T : Tables) (t : List ℕ) (c : Counts) (i o k : ℕ) → T.timetable ≡ timetable t c → k ≡ time_of t (first_of t c i + o) 5 → eqb k 1 ≡ no_drop_off T i o
drop_off_is T t c i o k e ek = ap (λ (x : ℕ). eqb x 1) ek ∙ sym (ap (λ (u : Timetable). eqb (time_at u i o).drop_off 1) e)

-- a second test, asked only where s is true
pub shut_is : (s x y : Bool) → (x || (s && y)) ≡ cond s (x || y) x
shut_is true x y = refl
shut_is false true y = refl
shut_is false false y = refl

-- the stop of a stop time
pub stop_read : (T : Tables) (t : List ℕ) (c : Counts) (i o f s : ℕ) → T.timetable ≡ timetable t c → f ≡ trip_of t c i 0 → s ≡ time_of t (f + o) 0 → s ≡ stop_at T i o
stop_read T t c i o f s e ef es = es ∙ ap (λ (k : ℕ). time_of t (k + o) 0) ef ∙ sym (ap (λ (u : Timetable). (time_at u i o).stop) e)

-- how many stop times
pub count_is : (T : Tables) (t : List ℕ) (c : Counts) (i : ℕ) → T.timetable ≡ timetable t c → stop_count T i ≡ count_of t c i
count_is T t c i e = ap (λ (u : Timetable). (u.trip i).count) e

module _ (T : Tables) (Q : Query) (stamp : ℕ) (adj : Hit) (shift t s o : ℕ) where
  -- alighting from offset p on, where the trip has n stop times
  abbrev pub alight_from : ℕ → ℕ → Arrivals → Arrivals
  alight_from n p a = alightings T Q stamp adj shift t s o (n - p) p a

  abbrev alighted_at : ℕ → Arrivals → Arrivals
  alighted_at p a = relax T Q stamp (stop_at T t p) (arrival_now T Q adj shift t p) (Transit (arrival_now T Q adj shift t p) t s o p (stamp - 2) shift) a

  abbrev shut_at : ℕ → Bool
  shut_at p = no_drop_off T t p || skipped T Q adj t p

  alight_none : (p : ℕ) (a : Arrivals) → alightings T Q stamp adj shift t s o 0 p a ≡ a
  unfolding alightings
  alight_none p a = refl

  alight_one : (k p : ℕ) (a : Arrivals)
      → alightings T Q stamp adj shift t s o (suc k) p a
      ≡ turn (shut_at p) (ltb (arrival_now T Q adj shift t p) a.best) (alightings T Q stamp adj shift t s o k (suc p) a) a (alightings T Q stamp adj shift t s o k (suc p) (alighted_at p a))
  unfolding alightings
  alight_one k p a = refl

  module _ (n p : ℕ) (a : Arrivals) (h : p < n) (b : Bool) (eb : b ≡ (no_drop_off T t p || skipped T Q adj t p)) where
    pub alight_shut : b ≡ true → alight_from n (p + 1) a ≡ alight_from n p a
    alight_shut = turn_shut (alightings T Q stamp adj shift t s o) shut_at (arrival_now T Q adj shift t) alighted_at alight_none alight_one n p a h b eb

    pub alight_cut : (v : ℕ) → b ≡ false → v ≡ arrival_now T Q adj shift t p → a.best ≤ v → a ≡ alight_from n p a
    alight_cut = turn_cut (alightings T Q stamp adj shift t s o) shut_at (arrival_now T Q adj shift t) alighted_at alight_none alight_one n p a h b eb

    pub alight_go : (v : ℕ) → b ≡ false → v ≡ arrival_now T Q adj shift t p → v < a.best
        → alight_from n (p + 1) (relax T Q stamp (stop_at T t p) v (Transit v t s o p (stamp - 2) shift) a) ≡ alight_from n p a
    alight_go v e ev l =
        ap (λ (z : ℕ). alight_from n (p + 1) (relax T Q stamp (stop_at T t p) z (Transit z t s o p (stamp - 2) shift) a)) ev
        ∙ turn_go (alightings T Q stamp adj shift t s o) shut_at (arrival_now T Q adj shift t) alighted_at alight_none alight_one n p a h b eb v e ev l

  pub alight_end : (n p : ℕ) (a : Arrivals) → n ≤ p → a ≡ alight_from n p a
  alight_end = turn_end (alightings T Q stamp adj shift t s o) shut_at (arrival_now T Q adj shift t) alighted_at alight_none alight_one
