-- Earliest arrivals that do not rise, one step after the other. Assumes nothing.
use Prim.Native.Nat.{ℕ}
use mathlib.Core.List.{List}
use native.Mathlib.Omega.{arith}
use Rattle.query_types.specs.declared.Lay.{Lay}
use Rattle.search_state.specs.Places.{Falls}

pub falls_refl : (lay : Lay) (w : List ℕ) → Falls lay w w
falls_refl lay w = record { earlier = λ s h. omega arith }

pub falls_then : {lay : Lay} {a b c : List ℕ} → Falls lay a b → Falls lay b c → Falls lay a c
falls_then p q = record { earlier = λ s h. omega (arith, p.earlier s h, q.earlier s h) }
