-- The origins gone through one by one. Assumes nothing.
use Prim.Native.Nat.{ℕ, suc, ◌+◌, ◌*◌, ◌-◌, ◌≤◌, ◌<◌}
use mathlib.Core.Path.{◌≡◌, refl, sym, ap, ◌∙◌}
use mathlib.Core.List.{List}
use native.Mathlib.Omega.{arith}
use lib.ListN.{length, get_or}
use lib.Ieee.{Float}
use Rattle.loops.specs.Count.{tab, tab_from}
use Rattle.model.specs.Tables.{Tables, Query, Origin}
use Rattle.model.specs.Search.{Arrivals, set_out, access}
use Rattle.query_types.specs.declared.Lay.{Lay}
use Rattle.search_state.specs.Places.{Sized, Walks, Same, EgressTable}
use Rattle.search_state.specs.View.{Memory, arrivals_of, Written}
use Rattle.search_state.specs.Step.{Starting, StartStep}
use Rattle.search_state.proofs.Marking.{same_refl, same_then}
use Rattle.search_state.proofs.Steps.{egress_kept}
use Rattle.query_types.specs.declared.QueryCounts.{QueryCounts}
use Rattle.query_input.specs.Lent.{origin_at}
use Rattle.search_begin.specs.Laying.{Accessed}

-- the model's origins from k on, and one before them
access_more : (T : Tables) (Q : Query) (f : ℕ → Origin) (k n : ℕ) (a : Arrivals) → k < n
    → access T Q (tab_from f k (n - k)) a ≡ access T Q (tab_from f (k + 1) (n - (k + 1))) (set_out T Q (f k) a)
unfolding access tab_from
access_more T Q f k n a h =
    let e : n - k ≡ suc (n - (k + 1)) = omega arith in
    let g : k + 1 ≡ suc k = omega arith in
    ap (λ (m : ℕ). access T Q (tab_from f k m) a) e ∙ ap (λ (j : ℕ). access T Q (tab_from f j (n - (k + 1))) (set_out T Q (f k) a)) (sym g)

access_end : (T : Tables) (Q : Query) (f : ℕ → Origin) (k n : ℕ) (a : Arrivals) → n ≤ k → access T Q (tab_from f k (n - k)) a ≡ a
unfolding access tab_from
access_end T Q f k n a h = let e : n - k ≡ 0 = omega arith in ap (λ (m : ℕ). access T Q (tab_from f k m) a) e

-- k origins gone through, from a to b
pub record Going (n : QueryCounts) (q : List ℕ) (distances : List Float) (lay : Lay) (a b : Memory) (k : ℕ) : Type 0 where
  pub few : k ≤ n.origins
  pub view : (T : Tables) (Q : Query) → EgressTable Q.egress lay a.work → Q.start ≡ get_or q 0 0 → (queue : List ℕ)
      → access T Q (tab_from (origin_at q distances n) k (n.origins - k)) (arrivals_of lay b queue) ≡ access T Q (tab (origin_at q distances n) n.origins) (arrivals_of lay a queue)
  pub same : Same lay a.work b.work
  pub sized : Sized lay (length b.work) (length b.labels) (length b.label_distances)
  pub walks : Walks lay b.work
  pub count : b.head.count ≤ a.head.count + k
  pub queued : b.head.queued ≡ a.head.queued
  pub full : b.head.full ≡ a.head.full
  pub written : Written (lay.stops * 13) b.labels b.label_distances

module _ (n : QueryCounts) (q : List ℕ) (distances : List Float) (lay : Lay) (a : Memory) where
  pub going_none : Starting lay a → Going n q distances lay a a 0
  going_none s =
      record {
        few = omega arith;
        view = λ T Q e g queue. let z : n.origins - 0 ≡ n.origins = omega arith in ap (λ (m : ℕ). access T Q (tab_from (origin_at q distances n) 0 m) (arrivals_of lay a queue)) z;
        same = same_refl lay a.work;
        sized = s.sized;
        walks = s.walks;
        count = omega arith;
        queued = refl;
        full = refl;
        written = s.written;
      }

  -- the list has room for one more
  pub going_on : (b : Memory) (k : ℕ) → Going n q distances lay a b k → a.head.count ≡ 0 → n.origins ≤ 64 → k < n.origins → Starting lay b
  going_on b k g e f h = record { sized = g.sized; walks = g.walks; room = omega (arith, g.count, e, f, h); written = g.written }

  pub going_again : (b b' : Memory) (k : ℕ) → Going n q distances lay a b k → k < n.origins
      → StartStep lay (λ T Q. EgressTable Q.egress lay b.work × (Q.start ≡ get_or q 0 0)) (λ T Q. set_out T Q (origin_at q distances n k)) b b'
      → Going n q distances lay a b' (k + 1)
  going_again b b' k g h s =
      record {
        few = omega (arith, h);
        view = λ T Q e u queue.
            let f = origin_at q distances n in
            ap (access T Q (tab_from f (k + 1) (n.origins - (k + 1)))) (s.view T Q (egress_kept g.same e, u) queue)
            ∙ sym (access_more T Q f k n.origins (arrivals_of lay b queue) h) ∙ g.view T Q e u queue;
        same = same_then g.same s.same;
        sized = s.sized;
        walks = s.walks;
        count = omega (arith, g.count, s.count);
        queued = s.queued ∙ g.queued;
        full = s.full ∙ g.full;
        written = s.written;
      }

  pub going_done : (b : Memory) (k : ℕ) → Going n q distances lay a b k → n.origins ≤ k → Accessed n q distances lay a b
  going_done b k g h =
      record {
        view = λ T Q e u queue. sym (access_end T Q (origin_at q distances n) k n.origins (arrivals_of lay b queue) h) ∙ g.view T Q e u queue;
        same = g.same;
        sized = g.sized;
        walks = g.walks;
        count = omega (arith, g.count, g.few);
        queued = g.queued;
        full = g.full;
        written = g.written;
      }
