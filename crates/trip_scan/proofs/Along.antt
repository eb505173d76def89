-- A loop of steps: what is left to do from the state reached is the whole from the state at first. Assumes nothing.
use Prim.Native.Nat.{ℕ}
use mathlib.Core.Path.{◌≡◌, refl, ap, ◌∙◌}
use mathlib.Core.List.{List}
use native.Mathlib.Omega.{arith}
use Rattle.model.specs.Tables.{Tables, Query}
use Rattle.model.specs.Search.{Arrivals}
use Rattle.query_types.specs.declared.Lay.{Lay}
use Rattle.search_state.specs.Places.{Same, Grown}
use Rattle.search_state.specs.View.{Memory, arrivals_of}
use Rattle.search_state.specs.Step.{Ready, Step}
use Rattle.search_state.proofs.Marking.{same_refl, same_then}
use Rattle.search_state.proofs.Steps.{grown_then}

pub record Along (lay : Lay) (stamp : ℕ) (agree : Tables → Query → Type 0) (whole rest : Tables → Query → Arrivals → Arrivals) (a b : Memory) : Type 0 where
  pub left : (T : Tables) (Q : Query) → agree T Q → (q : List ℕ) → rest T Q (arrivals_of lay b q) ≡ whole T Q (arrivals_of lay a q)
  pub same : Same lay a.work b.work
  pub ready : Ready lay stamp b
  pub grown : Grown lay stamp a.work b.work a.head.count b.head.count
  pub queued : b.head.queued ≡ a.head.queued
  pub full : b.head.full ≡ a.head.full

module _ {lay : Lay} {stamp : ℕ} {agree : Tables → Query → Type 0} where
  -- as the loop begins
  pub along_start : (whole rest : Tables → Query → Arrivals → Arrivals) (a : Memory) → Ready lay stamp a
      → ((T : Tables) (Q : Query) → agree T Q → (x : Arrivals) → rest T Q x ≡ whole T Q x) → Along lay stamp agree whole rest a a
  along_start whole rest a ok e =
      record {
        left = λ T Q y q. e T Q y (arrivals_of lay a q);
        same = same_refl lay a.work;
        ready = ok;
        grown = record { by = omega arith };
        queued = refl;
        full = refl;
      }

  -- a turn that does nothing
  pub along_skip : {whole rest : Tables → Query → Arrivals → Arrivals} {a b : Memory} (rest' : Tables → Query → Arrivals → Arrivals)
      → Along lay stamp agree whole rest a b → ((T : Tables) (Q : Query) → agree T Q → (q : List ℕ) → rest' T Q (arrivals_of lay b q) ≡ rest T Q (arrivals_of lay b q))
      → Along lay stamp agree whole rest' a b
  along_skip rest' p e =
      record { left = λ T Q y q. e T Q y q ∙ p.left T Q y q; same = p.same; ready = p.ready; grown = p.grown; queued = p.queued; full = p.full }

  -- a turn
  pub along_turn : {agree' : Tables → Query → Type 0} {whole rest g : Tables → Query → Arrivals → Arrivals} {a b c : Memory}
      (rest' : Tables → Query → Arrivals → Arrivals) → Along lay stamp agree whole rest a b → Step lay stamp agree' g b c
      → ((T : Tables) (Q : Query) → agree T Q → agree' T Q)
      → ((T : Tables) (Q : Query) → agree T Q → (q : List ℕ) → rest' T Q (g T Q (arrivals_of lay b q)) ≡ rest T Q (arrivals_of lay b q))
      → Along lay stamp agree whole rest' a c
  along_turn rest' p s h e =
      record {
        left = λ T Q y q. ap (rest' T Q) (s.view T Q (h T Q y) q) ∙ e T Q y q ∙ p.left T Q y q;
        same = same_then p.same s.same;
        ready = s.ready;
        grown = grown_then p.grown s.grown;
        queued = s.queued ∙ p.queued;
        full = s.full ∙ p.full;
      }

  -- as it is left: nothing is left to do
  pub along_end : {rest : Tables → Query → Arrivals → Arrivals} {a b : Memory} (whole : Tables → Query → Arrivals → Arrivals)
      → Along lay stamp agree whole rest a b → ((T : Tables) (Q : Query) → agree T Q → (q : List ℕ) → arrivals_of lay b q ≡ rest T Q (arrivals_of lay b q))
      → Step lay stamp agree whole a b
  along_end whole p e =
      record { view = λ T Q y q. e T Q y q ∙ p.left T Q y q; same = p.same; ready = p.ready; grown = p.grown; queued = p.queued; full = p.full }
