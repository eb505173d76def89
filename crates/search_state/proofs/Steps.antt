-- An arrival in memory is the model's. Assumes nothing.
use Prim.Native.Nat.{ℕ, ◌+◌, ◌*◌, ◌-◌, ◌≤◌, ◌<◌}
use mathlib.Core.Path.{◌≡◌, refl, ap, ap₂, ◌∙◌}
use mathlib.Core.Bool.{Bool, true, false, cond, ◌&&◌}
use mathlib.Core.List.{List}
use native.Mathlib.Omega.{arith}
use lib.ListN.{length, get_or}
use lib.Dec.{ltb}
use lib.Ieee.{Float}
use borrow.Author.Tests.{ne_eqb, lt-ltb, le-ltb}
use Rattle.label.specs.declared.Label.{Label}
use Rattle.label.specs.Label.{row_of}
use Rattle.label.specs.Table.{InTable, record_of, put_words, put_distance}
use Rattle.label.proofs.Laws.{put_words_length, put_distance_length}
use Rattle.model.specs.Tables.{Tables, Query, is_egress, egress_walk}
use Rattle.model.specs.Search.{Arrivals, at, best_after, improve, relax}
use Rattle.query_types.specs.declared.Lay.{Lay}
use Rattle.query_types.specs.declared.Head.{Head}
use Rattle.search_state.specs.Places.{Same, Grown, EgressTable, Walks, egress_word, table_word}
use Rattle.query_types.specs.Layout.{rest_at}
use Rattle.search_state.specs.View.{Memory, memory, arrivals_of, labels_of}
use Rattle.search_state.specs.Step.{Ready, Step, Marked, best_by}
use Rattle.search_state.proofs.Part.{first_at, drop_at}
use Rattle.search_state.proofs.Labels.{labels_put, written_put}
use Rattle.search_state.proofs.Marking.{same_refl, same_then}

best_word : (t : Bool) (d v b : ℕ) → best_by (egress_word t d) v b ≡ cond (t && ltb (v + d) b) (v + d) b
unfolding best_by
best_word true d v b = let z : d + 1 - 1 ≡ d = omega arith in rw (ne_eqb (d + 1) 0 (λ y. omega arith), z) refl
best_word false d v b = refl

-- by the egress table it is the model's
pub best_is : (T : Tables) (Q : Query) (lay : Lay) (w : List ℕ) (s v b : ℕ) → EgressTable Q.egress lay w → s < lay.stops
    → best_by (table_word lay w s) v b ≡ best_after T Q s v b
unfolding best_after
best_is T Q lay w s v b e h = ap (λ (g : ℕ). best_by g v b) (e.at s h) ∙ best_word (is_egress Q.egress s) (egress_walk Q.egress s) v b

-- the egress table where all else is as it came
pub egress_kept : {lay : Lay} {w w' : List ℕ} {es : List (ℕ × ℕ)} → Same lay w w' → EgressTable es lay w → EgressTable es lay w'
egress_kept {lay} {w} {w'} p e = record { at = λ s h. drop_at w w' (rest_at lay) s p.rest ∙ e.at s h }

pub walks_kept : {lay : Lay} {w w' : List ℕ} → Same lay w w' → Walks lay w → Walks lay w'
walks_kept {lay} {w} {w'} p e = record { small = λ s h. rw (drop_at w w' (rest_at lay) s p.rest) (e.small s h) }

pub grown_then : {lay : Lay} {stamp x y z : ℕ} {a b c : List ℕ} → Grown lay stamp a b x y → Grown lay stamp b c y z → Grown lay stamp a c x z
grown_then p q = record { by = omega (arith, p.by, q.by) }

-- COMPOSING STEPS. The same step, said of what agrees with more, as an equal function
pub step_as : {lay : Lay} {stamp : ℕ} {agree agree' : Tables → Query → Type 0} {f : Tables → Query → Arrivals → Arrivals} {a b : Memory}
    (g : Tables → Query → Arrivals → Arrivals) → Step lay stamp agree f a b → ((T : Tables) (Q : Query) → agree' T Q → agree T Q)
    → ((T : Tables) (Q : Query) → agree' T Q → (x : Arrivals) → f T Q x ≡ g T Q x) → Step lay stamp agree' g a b
step_as {lay} {stamp} {agree} {agree'} {f} {a} {b} g p h e =
    record {
      view = λ T Q y q. p.view T Q (h T Q y) q ∙ e T Q y (arrivals_of lay a q);
      same = p.same;
      ready = p.ready;
      grown = p.grown;
      queued = p.queued;
      full = p.full;
    }

-- no step
pub step_none : {lay : Lay} {stamp : ℕ} {agree : Tables → Query → Type 0} (f : Tables → Query → Arrivals → Arrivals) (a : Memory) → Ready lay stamp a
    → ((T : Tables) (Q : Query) → agree T Q → (q : List ℕ) → arrivals_of lay a q ≡ f T Q (arrivals_of lay a q)) → Step lay stamp agree f a a
step_none {lay} {stamp} {agree} f a ok e =
    record { view = e; same = same_refl lay a.work; ready = ok; grown = record { by = omega arith }; queued = refl; full = refl }

-- one after the other
pub step_then : {lay : Lay} {stamp : ℕ} {agree agree' : Tables → Query → Type 0} (both : Tables → Query → Type 0) {f g : Tables → Query → Arrivals → Arrivals} {a b c : Memory}
    → Step lay stamp agree f a b → Step lay stamp agree' g b c → ((T : Tables) (Q : Query) → both T Q → agree T Q × agree' T Q)
    → Step lay stamp both (λ T Q x. g T Q (f T Q x)) a c
step_then {lay} {stamp} {agree} {agree'} both {f} {g} p r h =
    record {
      view = λ T Q y q. r.view T Q (h T Q y).1 q ∙ ap (g T Q) (p.view T Q (h T Q y).0 q);
      same = same_then p.same r.same;
      ready = r.ready;
      grown = grown_then p.grown r.grown;
      queued = r.queued ∙ p.queued;
      full = r.full ∙ p.full;
    }

module _ (lay : Lay) (stamp s v : ℕ) (how : Label) (w l : List ℕ) (m : List Float) (h : Head) (ok : Ready lay stamp (memory w l m h)) (in-stops : s < lay.stops) where
  pub in_rows : InTable l m (record_of s (stamp - 1))
  in_rows = record { words = omega (arith, ok.sized.rows, ok.round.low, ok.round.high, in-stops); distance = omega (arith, ok.sized.metres, ok.round.low, ok.round.high, in-stops) }

  -- a stop marked, its label stored, the best total: that is `improve`
  pub improve_is : (w' l' : List ℕ) (m' : List Float) (best count k : ℕ) → Marked lay stamp s v w w' h.count count → k ≡ record_of s (stamp - 1)
      → l' ≡ put_words (row_of how) l k → m' ≡ put_distance (row_of how) m k → best ≡ best_by (table_word lay w s) v h.best
      → Step lay stamp (λ T Q. EgressTable Q.egress lay w) (λ T Q. improve T Q stamp s v how) (memory w l m h)
      (memory w' l' m' (record { best = best; count = count; queued = h.queued; full = h.full }))
  unfolding improve
  improve_is w' l' m' best count k p e x y z =
      record {
        view = λ T Q g q i. record {
          labels = (ap₂ (λ (a : List ℕ) (b : List Float). labels_of a b (lay.stops * 13)) (x ∙ ap (put_words (row_of how) l) e) (y ∙ ap (put_distance (row_of how) m) e)
              ∙ labels_put how l m (record_of s (stamp - 1)) (lay.stops * 13) in_rows (omega (arith, ok.round.low, ok.round.high, in-stops))) i;
          earliest = p.earliest i;
          best = (z ∙ best_is T Q lay w s v h.best g in-stops) i;
          stop_stamp = p.stamps i;
          reached = p.reached i;
          seg_queue = (arrivals_of lay (memory w l m h) q).seg_queue;
          seg_reach = p.seg_reach i;
        };
        same = p.same;
        ready = record {
          sized = rw (p.same.size, ap length x ∙ put_words_length (row_of how) l k, ap length y ∙ put_distance_length (row_of how) m k) ok.sized;
          walks = walks_kept p.same ok.walks;
          counted = p.counted;
          round = ok.round;
          written = rw (x, y, e) (written_put how l m (record_of s (stamp - 1)) (lay.stops * 13) in_rows ok.written);
        };
        grown = p.grown;
        queued = refl;
        full = refl;
      }

  -- the stop's earliest arrival is no later: nothing changes
  pub relax_late : get_or w s 0 ≤ v → Step lay stamp (λ T Q. EgressTable Q.egress lay w) (λ T Q. relax T Q stamp s v how) (memory w l m h) (memory w l m h)
  unfolding relax
  relax_late e =
      step_none (λ T Q. relax T Q stamp s v how) (memory w l m h) ok
      (λ T Q g q. rw (le-ltb v (at (arrivals_of lay (memory w l m h) q) s) (rw (first_at w lay.stops s in-stops) e)) refl)

  -- it is later: `improve`
  pub relax_go : {b : Memory} → v < get_or w s 0 → Step lay stamp (λ T Q. EgressTable Q.egress lay w) (λ T Q. improve T Q stamp s v how) (memory w l m h) b
      → Step lay stamp (λ T Q. EgressTable Q.egress lay w) (λ T Q. relax T Q stamp s v how) (memory w l m h) b
  unfolding relax
  relax_go e p =
      record {
        view = λ T Q g q. p.view T Q g q ∙ rw (lt-ltb v (at (arrivals_of lay (memory w l m h) q) s) (rw (first_at w lay.stops s in-stops) e)) refl;
        same = p.same;
        ready = p.ready;
        grown = p.grown;
        queued = p.queued;
        full = p.full;
      }
