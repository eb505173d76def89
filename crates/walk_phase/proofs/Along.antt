-- A loop of steps: what is done so far and what is left make the whole. Assumes nothing.
use Prim.Native.Nat.{ℕ}
use mathlib.Core.Path.{◌≡◌, refl, sym, ◌∙◌}
use Rattle.model.specs.Tables.{Tables, Query}
use Rattle.model.specs.Search.{Arrivals}
use Rattle.query_types.specs.declared.Lay.{Lay}
use Rattle.search_state.specs.View.{Memory}
use Rattle.search_state.specs.Step.{Ready, Step}
use Rattle.search_state.proofs.Steps.{step_as, step_none, step_then}
use Rattle.search_state.specs.Places.{Falls}
use Rattle.search_state.proofs.Falls.{falls_refl, falls_then}

pub record Along (lay : Lay) (stamp : ℕ) (agree : Tables → Query → Type 0) (whole rest : Tables → Query → Arrivals → Arrivals) (a b : Memory) : Type 0 where
  pub done : Tables → Query → Arrivals → Arrivals
  pub step : Step lay stamp agree done a b
  pub left : (T : Tables) (Q : Query) → agree T Q → (x : Arrivals) → rest T Q (done T Q x) ≡ whole T Q x
  pub falls : Falls lay a.work b.work

module _ {lay : Lay} {stamp : ℕ} {agree : Tables → Query → Type 0} where
  -- as a loop begins
  pub along_start : (whole rest : Tables → Query → Arrivals → Arrivals) (a : Memory) → Ready lay stamp a
      → ((T : Tables) (Q : Query) → agree T Q → (x : Arrivals) → rest T Q x ≡ whole T Q x) → Along lay stamp agree whole rest a a
  along_start whole rest a ok e =
      record { done = λ T Q x. x; step = step_none (λ T Q x. x) a ok (λ T Q g q. refl); left = e; falls = falls_refl lay a.work }

  -- one turn
  pub along_turn : {agree' : Tables → Query → Type 0} {whole rest g : Tables → Query → Arrivals → Arrivals} {a b c : Memory}
      (rest' : Tables → Query → Arrivals → Arrivals)
      → Along lay stamp agree whole rest a b → Step lay stamp agree' g b c → Falls lay b.work c.work
      → ((T : Tables) (Q : Query) → agree T Q → agree' T Q)
      → ((T : Tables) (Q : Query) → agree T Q → (x : Arrivals) → rest T Q x ≡ rest' T Q (g T Q x)) → Along lay stamp agree whole rest' a c
  along_turn {g = g} rest' p s f h e =
      record {
        done = λ T Q x. g T Q (p.done T Q x);
        step = step_then agree p.step s (λ T Q y. (y, h T Q y));
        left = λ T Q y x. sym (e T Q y (p.done T Q x)) ∙ p.left T Q y x;
        falls = falls_then p.falls f;
      }

  -- as it is left: nothing is left to do
  pub along_end : {rest : Tables → Query → Arrivals → Arrivals} {a b : Memory} (whole : Tables → Query → Arrivals → Arrivals)
      → Along lay stamp agree whole rest a b → ((T : Tables) (Q : Query) → agree T Q → (x : Arrivals) → rest T Q x ≡ x) → Step lay stamp agree whole a b
  along_end whole p e = step_as whole p.step (λ T Q y. y) (λ T Q y x. sym (e T Q y (p.done T Q x)) ∙ p.left T Q y x)
