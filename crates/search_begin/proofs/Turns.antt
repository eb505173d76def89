-- From one phase of a query to the next: a new state with its egress table, the lists exchanged, a list emptied. Assumes nothing.
use Prim.Native.Nat.{ℕ, ◌+◌, ◌*◌, ◌≤◌, ◌<◌}
use mathlib.Core.Path.{◌≡◌, refl, sym, ◌∙◌}
use mathlib.Core.List.{List}
use native.Mathlib.Omega.{arith}
use lib.ListN.{length, get_or}
use lib.Ieee.{Float}
use Rattle.loops.proofs.Count.{tab_is}
use Rattle.model.specs.Tables.{Tables, Query}
use Rattle.model.specs.Search.{emptied}
use Rattle.query_types.specs.declared.Lay.{Lay}
use Rattle.query_types.specs.declared.Head.{Head}
use Rattle.search_state.specs.Part.{part}
use Rattle.search_state.specs.Places.{WorkSized, turned}
use Rattle.query_types.specs.Layout.{rest_at}
use Rattle.search_state.specs.View.{memory, arrivals_of, queue_of}
use Rattle.search_state.proofs.Part.{part_at, part_length}

-- two sections with the same numbers
pub part_same_at : (w w' : List ℕ) (a n : ℕ) → length w' ≡ length w → a + n ≤ length w → ((i : ℕ) → a ≤ i → i < a + n → get_or w' i 0 ≡ get_or w i 0) → part w' a n ≡ part w a n
part_same_at w w' a n e r h =
    tab_is (λ k. get_or w (a + k) 0) n (part w' a n) (part_length w' a n (omega (arith, e, r))) (λ k u. part_at w' a n k u ∙ h (a + k) (omega arith) (omega (arith, u)))
    ∙ sym (tab_is (λ k. get_or w (a + k) 0) n (part w a n) (part_length w a n r) (λ k u. part_at w a n k u))

-- what stands below `rest_at` as it came holds the same state
pub below_view : (lay : Lay) (w w' l : List ℕ) (m : List Float) (h : Head) (q : List ℕ) → WorkSized lay (length w) → h.count ≤ lay.stops + 64 → length w' ≡ length w
    → ((i : ℕ) → i < rest_at lay → get_or w' i 0 ≡ get_or w i 0) → arrivals_of lay (memory w' l m h) q ≡ arrivals_of lay (memory w l m h) q
below_view lay w w' l m h q ok few size below =
    let low : (a n : ℕ) → a + n ≤ rest_at lay → part w' a n ≡ part w a n =
    λ a n r. part_same_at w w' a n size (omega (arith, r, ok.words)) (λ i v u. below i (omega (arith, u, r))) in
    λ i. record {
      labels = (arrivals_of lay (memory w l m h) q).labels;
      earliest = low 0 lay.stops (omega arith) i;
      best = h.best;
      stop_stamp = low lay.stops lay.stops (omega arith) i;
      reached = low lay.list h.count (omega (arith, few, ok.fits)) i;
      seg_queue = (arrivals_of lay (memory w l m h) q).seg_queue;
      seg_reach = low (lay.stops * 2) lay.trips (omega arith) i;
    }

-- THE LISTS EXCHANGED, the new one empty: the model's state with no stop reached
abbrev pub emptied_head : ℕ → Head → Head
emptied_head queued h = record { best = h.best; count = 0; queued = queued; full = h.full }

-- at a round's start (another queue, empty) and at a walk phase's (the same queue)
pub turned_view : (T : Tables) (Q : Query) (lay : Lay) (w l : List ℕ) (m : List Float) (h : Head) (q q' : List ℕ) (n : ℕ)
    → arrivals_of (turned lay) (memory w l m (emptied_head n h)) q' ≡ emptied T Q (queue_of q' n) (arrivals_of lay (memory w l m h) q)
unfolding part
turned_view T Q lay w l m h q q' n = refl
