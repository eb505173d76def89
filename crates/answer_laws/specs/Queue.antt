-- THE SEGMENT QUEUE, which question 8 asks about: how often a trip is queued, and when a queue half is never full. Definitions only.
use Rattle.std.specs.Prelude.{ℕ, zero, suc, ◌+◌, ◌<◌, ◌≡◌, Bool, true, false, eqb}
use mathlib.Core.List.{List, [], ◌∷◌, sum}
use Rattle.loops.specs.Count.{one, tab}
use Rattle.model.specs.Tables.{Tables, Query, trips, stop_count, no_windows}
use Rattle.model.specs.Search.{Segment, State, ride_phase, walk_phase, idle}

-- all together
abbrev pub added : List ℕ → ℕ
added l = sum ◌+◌ 0 l

-- how many of the segments are of trip t
unfoldable pub of_trip : ℕ → List Segment → ℕ
of_trip t [] = 0
of_trip t (g ∷ gs) = one (eqb g.trip t) + of_trip t gs

-- all trips' stop counts added together
abbrev pub all_stop_times : Tables → ℕ
all_stop_times T = added (tab (λ t. stop_count T t) (trips T))

-- no frequency trip
abbrev pub NoFrequency : Tables → Type 0
NoFrequency T = (t : ℕ) → t < trips T → no_windows T t ≡ true

module _ (T : Tables) (Q : Query) (flagged : Bool) where
  -- one round
  abbrev pub round_of : ℕ → State → State
  round_of r s = walk_phase T Q flagged r (ride_phase T Q flagged r s)

  -- HOW OFTEN TRIP t IS QUEUED in n rounds from round r on: its segments in the queue at each round's end. A round begins with an
  -- empty queue and only adds to it (proofs/Queue `moves_add`).
  unfoldable pub times_queued : ℕ → ℕ → ℕ → State → ℕ
  times_queued t zero r s = 0
  times_queued t (suc n) r s =
      elim (idle T Q flagged s.arrivals) [
        | true ↦ 0
        | false ↦ of_trip t (round_of r s).arrivals.seg_queue + times_queued t n (suc r) (round_of r s)
      ]
