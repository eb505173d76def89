-- Steps that may queue segments, and a loop of them. Assumes nothing.
use Prim.Native.Nat.{ℕ, ◌/◌, ◌≤◌}
use mathlib.Core.Path.{◌≡◌, refl, ap, ◌∙◌}
use mathlib.Core.Bool.{true, false}
use mathlib.Core.List.{List}
use native.Mathlib.Omega.{arith}
use lib.ListN.{length}
use Rattle.loops.proofs.Search.{clash}
use Rattle.model.specs.Tables.{Tables, Query}
use Rattle.model.specs.Search.{Arrivals}
use Rattle.query_types.specs.declared.Lay.{Lay}
use Rattle.search_state.specs.Places.{Same, Grown}
use Rattle.search_state.specs.View.{Memory, arrivals_of}
use Rattle.search_state.specs.Step.{Ready, QueueStep}
use Rattle.search_state.proofs.Marking.{same_refl, same_then}
use Rattle.search_state.proofs.Steps.{grown_then}
use Rattle.trip_scan.specs.Scan.{Open}

-- what is left to do from the state reached is the whole from the state at first, and all fit so far
pub record Queuing (lay : Lay) (stamp : ℕ) (agree : Tables → Query → Type 0) (whole rest : Tables → Query → Arrivals → Arrivals) (a b : Memory) (q r : List ℕ) : Type 0 where
  pub left : (T : Tables) (Q : Query) → agree T Q → rest T Q (arrivals_of lay b r) ≡ whole T Q (arrivals_of lay a q)
  pub same : Same lay a.work b.work
  pub ready : Ready lay stamp b
  pub grown : Grown lay stamp a.work b.work a.head.count b.head.count
  pub size : length r ≡ length q
  pub room : Open b.head (length r)

module _ {lay : Lay} {stamp : ℕ} {agree : Tables → Query → Type 0} where
  -- the same step, said of what agrees with more, as a function equal on the state at first
  pub queue_as : {agree' : Tables → Query → Type 0} {f : Tables → Query → Arrivals → Arrivals} {a b : Memory} {q r : List ℕ} (g : Tables → Query → Arrivals → Arrivals)
      → QueueStep lay stamp agree' f a b q r → ((T : Tables) (Q : Query) → agree T Q → agree' T Q)
      → ((T : Tables) (Q : Query) → agree T Q → f T Q (arrivals_of lay a q) ≡ g T Q (arrivals_of lay a q)) → QueueStep lay stamp agree g a b q r
  queue_as g p h e =
      record {
        view = λ u T Q y. p.view u T Q (h T Q y) ∙ e T Q y;
        over = λ u T Q y. omega (arith, p.over u T Q (h T Q y), ap (λ (x : Arrivals). length x.seg_queue) (e T Q y));
        same = p.same;
        ready = p.ready;
        grown = p.grown;
        size = p.size;
        room = p.room;
      }

  -- no step
  pub queue_none : (f : Tables → Query → Arrivals → Arrivals) (a : Memory) (q : List ℕ) → Ready lay stamp a → Open a.head (length q)
      → ((T : Tables) (Q : Query) → agree T Q → arrivals_of lay a q ≡ f T Q (arrivals_of lay a q)) → QueueStep lay stamp agree f a a q q
  queue_none f a q ok o e =
      record {
        view = λ u. e;
        over = λ u. absurd (clash u o.none);
        same = same_refl lay a.work;
        ready = ok;
        grown = record { by = omega arith };
        size = refl;
        room = o.room;
      }

  -- as a loop begins
  pub queuing_start : (whole rest : Tables → Query → Arrivals → Arrivals) (a : Memory) (q : List ℕ) → Ready lay stamp a → Open a.head (length q)
      → ((T : Tables) (Q : Query) → agree T Q → (x : Arrivals) → rest T Q x ≡ whole T Q x) → Queuing lay stamp agree whole rest a a q q
  queuing_start whole rest a q ok o e =
      record { left = λ T Q y. e T Q y (arrivals_of lay a q); same = same_refl lay a.work; ready = ok; grown = record { by = omega arith }; size = refl; room = o }

  -- a turn that does nothing
  pub queuing_skip : {whole rest : Tables → Query → Arrivals → Arrivals} {a b : Memory} {q r : List ℕ} (rest' : Tables → Query → Arrivals → Arrivals)
      → Queuing lay stamp agree whole rest a b q r → ((T : Tables) (Q : Query) → agree T Q → rest' T Q (arrivals_of lay b r) ≡ rest T Q (arrivals_of lay b r))
      → Queuing lay stamp agree whole rest' a b q r
  queuing_skip rest' p e =
      record { left = λ T Q y. e T Q y ∙ p.left T Q y; same = p.same; ready = p.ready; grown = p.grown; size = p.size; room = p.room }

  module _ {agree' : Tables → Query → Type 0} {whole rest g : Tables → Query → Arrivals → Arrivals} {a b c : Memory} {q r s : List ℕ}
      (rest' : Tables → Query → Arrivals → Arrivals) (p : Queuing lay stamp agree whole rest a b q r) (z : QueueStep lay stamp agree' g b c r s)
      (h : (T : Tables) (Q : Query) → agree T Q → agree' T Q)
      (e : (T : Tables) (Q : Query) → agree T Q → rest' T Q (g T Q (arrivals_of lay b r)) ≡ rest T Q (arrivals_of lay b r)) where
    -- a turn after which all fit
    pub queuing_turn : c.head.full ≡ false → Queuing lay stamp agree whole rest' a c q s
    queuing_turn n =
        record {
          left = λ T Q y. ap (rest' T Q) (z.view n T Q (h T Q y)) ∙ e T Q y ∙ p.left T Q y;
          same = same_then p.same z.same;
          ready = z.ready;
          grown = grown_then p.grown z.grown;
          size = z.size ∙ p.size;
          room = record { none = n; room = z.room };
        }

    -- a turn in which one does not fit: what is left queues no fewer
    pub queuing_over : c.head.full ≡ true → ((T : Tables) (Q : Query) (x : Arrivals) → length x.seg_queue ≤ length (rest' T Q x).seg_queue)
        → QueueStep lay stamp agree whole a c q s
    queuing_over n grows =
        record {
          view = λ u. absurd (clash n u);
          over = λ u T Q y.
              let k = z.over u T Q (h T Q y) in
              let m = grows T Q (g T Q (arrivals_of lay b r)) in
              let w = ap (λ (x : Arrivals). length x.seg_queue) (e T Q y ∙ p.left T Q y) in
              omega (arith, k, m, w, ap (λ (x : ℕ). x / 4) p.size);
          same = same_then p.same z.same;
          ready = z.ready;
          grown = grown_then p.grown z.grown;
          size = z.size ∙ p.size;
          room = z.room;
        }

  -- as it is left: nothing is left to do
  pub queuing_end : {rest : Tables → Query → Arrivals → Arrivals} {a b : Memory} {q r : List ℕ} (whole : Tables → Query → Arrivals → Arrivals)
      → Queuing lay stamp agree whole rest a b q r → ((T : Tables) (Q : Query) → agree T Q → arrivals_of lay b r ≡ rest T Q (arrivals_of lay b r))
      → QueueStep lay stamp agree whole a b q r
  queuing_end whole p e =
      record {
        view = λ u T Q y. e T Q y ∙ p.left T Q y;
        over = λ u. absurd (clash u p.room.none);
        same = p.same;
        ready = p.ready;
        grown = p.grown;
        size = p.size;
        room = p.room.room;
      }
