-- What a boarding and an arrival leave alone of each other: arrivals, egress table, lines. Assumes nothing.
use Prim.Native.Nat.{ℕ, ◌+◌, ◌*◌, ◌≤◌, ◌<◌}
use mathlib.Core.Path.{◌≡◌, sym, ap, ◌∙◌}
use mathlib.Core.List.{List}
use native.Mathlib.Omega.{arith}
use lib.ListN.{length, get_or}
use lib.Seq.{get_or-take}
use lib.Ieee.{Float}
use Rattle.loops.specs.Iter.{Hit}
use Rattle.query_types.specs.declared.Lay.{Lay}
use Rattle.query_types.specs.declared.Head.{Head}
use Rattle.search_state.specs.Part.{part}
use Rattle.search_state.specs.Places.{WorkSized, Walks}
use Rattle.query_types.specs.Layout.{rest_at, trip_stamps_at}
use Rattle.search_state.specs.View.{memory, arrivals_of}
use Rattle.line_pruning.specs.Books.{Noted}
use Rattle.line_pruning.proofs.Chains.{part_ext}

-- after a boarding
module _ (lay : Lay) (stamp : ℕ) (built : List ℕ) (adj : Hit) (t o dep : ℕ) (w w' : List ℕ) (n : Noted lay stamp built adj t o dep w w') where
  pub noted_at : (i : ℕ) → i < trip_stamps_at lay → get_or w' i 0 ≡ get_or w i 0
  noted_at i h = sym (get_or-take (trip_stamps_at lay) w' i 0 h) ∙ ap (λ (l : List ℕ). get_or l i 0) n.below ∙ get_or-take (trip_stamps_at lay) w i 0 h

  pub walks_noted : Walks lay w → Walks lay w'
  walks_noted e = record { small = λ s h. rw (noted_at (rest_at lay + s) (omega (arith, h))) (e.small s h) }

  -- a section below the egress table
  pub part_noted : WorkSized lay (length w) → (a k : ℕ) → a + k ≤ rest_at lay → part w' a k ≡ part w a k
  part_noted ok a k h = part_ext w w' a k n.size (omega (arith, ok.words, h)) (λ i u. noted_at (a + i) (omega (arith, h, u)))

  pub arrivals_noted : WorkSized lay (length w) → (l : List ℕ) (m : List Float) (h : Head) → h.count ≤ lay.stops + 64 → (q : List ℕ)
      → arrivals_of lay (memory w' l m h) q ≡ arrivals_of lay (memory w l m h) q
  arrivals_noted ok l m h few q =
      let a = arrivals_of lay (memory w l m h) q in
      λ i. record {
        labels = a.labels;
        earliest = part_noted ok 0 lay.stops (omega arith) i;
        best = a.best;
        stop_stamp = part_noted ok lay.stops lay.stops (omega arith) i;
        reached = part_noted ok lay.list h.count (omega (arith, ok.fits, few)) i;
        seg_queue = a.seg_queue;
        seg_reach = part_noted ok (lay.stops * 2) lay.trips (omega arith) i;
      }
