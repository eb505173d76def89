-- The stops of a round: after them each is handled, at a value between its earliest before and after.
use Prim.Native.Nat.{ℕ, ◌+◌, ◌≤◌, ◌<◌}
use mathlib.Core.Path.{◌≡◌, refl, sym, subst}
use mathlib.Core.Logic.{⊎_elim}
use mathlib.Core.Bool.{Bool, true, false}
use mathlib.Core.List.Memᴰ
use mathlib.Core.List.{List, [], ◌∷◌, Memᴰ}
use native.Mathlib.Nat.{le_refl, le_trans}
use lib.Dec.{leb}
use borrow.Author.Tests.{leb-true, leb-false}
use Rattle.model.proofs.Net.{Net, Plain}
use Rattle.model.proofs.PlainSearch.{Core, St, at, departures, change, stops}
use Rattle.model.proofs.Coverage.{Le, Le-refl, Le-trans}
use Rattle.model.proofs.Departures.{Ridden, ridden_le, ridden_best, Deps, Kept, deps_le, deps_kept, deps_ridden, deps_graph}

-- from stop x, reached at v, every permitted departure at least w later is ridden
pub record Closed (N : Net) (c : Core) (x v : ℕ) : Type 0 where
  pub ride : (t o : ℕ) → Memᴰ (t, o) (N.deps x) → N.ok_trip t ≡ true → N.pick t o ≡ true → v ≤ N.dep t o → Ridden N c t o

pub closed_le : {N : Net} {c' c : Core} {x v : ℕ} → Le c' c → Closed N c x v → Closed N c' x v
closed_le l h = record { ride = λ t o m k p d. ridden_le l (h.ride t o m k p d) }

pub closed_later : {N : Net} {c : Core} {x v v' : ℕ} → v ≤ v' → Closed N c x v → Closed N c x v'
closed_later l h = record { ride = λ t o m k p d. h.ride t o m k p (le_trans l d) }

pub record Handled (N : Net) (round : ℕ) (c c' : Core) (x : ℕ) : Type 0 where
  pub at_value : ℕ
  pub low : at c' x ≤ at_value
  pub high : at_value ≤ at c x
  pub closed : Closed N c' x (at_value + change N round)

module _ (N : Net) (round stamp : ℕ) where
  pub data Stops : List ℕ → St → St → Type 0 where
    nil : {s : St} → Stops [] s s
    skip : {x : ℕ} {xs : List ℕ} {s s' : St} → s.c.B ≤ at s.c x + change N round → Stops xs s s' → Stops (x ∷ xs) s s'
    go : {x : ℕ} {xs : List ℕ} {s m s' : St} → at s.c x + change N round < s.c.B → Deps N round stamp (at s.c x + change N round) (N.deps x) s m → Stops xs m s' → Stops (x ∷ xs) s s'

  pub stops_le : {xs : List ℕ} {s s' : St} → Stops xs s s' → Le s'.c s.c
  stops_le nil = Le-refl _
  stops_le (skip h r) = stops_le r
  stops_le (go h d r) = Le-trans (stops_le r) (deps_le N round stamp _ d)

  pub stops_handled : Plain N → {xs : List ℕ} {s s' : St} → Kept N round stamp s → Stops xs s s' → (x : ℕ) → Memᴰ x xs → Handled N round s.c s'.c x
  stops_handled P K nil x m = absurd (Memᴰ.not-nil m)
  stops_handled P K (skip {x = y} {s = s} {s' = s'} h r) x m =
      ⊎_elim
      (λ e. record {
        at_value = at s.c x;
        low = (stops_le r).e x;
        high = le_refl _;
        closed = record { ride = λ t o i k p d. ridden_le (stops_le r) (ridden_best P (record { at = x; listed = i; ok = k; pick = p }) (le_trans (subst (λ (z : ℕ). s.c.B ≤ at s.c z + change N round) (sym e) h) d)) };
      })
      (λ m'. stops_handled P K r x m')
      (Memᴰ.cases_cons m)
  stops_handled P K (go {x = y} {s = s} {m = n} {s' = s'} h d r) x m =
      ⊎_elim
      (λ e. subst (Handled N round s.c s'.c) (sym e) (record {
        at_value = at s.c y;
        low = (Le-trans (stops_le r) (deps_le N round stamp _ d)).e y;
        high = le_refl _;
        closed = record { ride = λ t o i k p q. ridden_le (stops_le r) (deps_ridden N round stamp _ P (P.sorted y) (λ t o i. i) K d t o i (record { ok = k; pick = p; late = q })) };
      }))
      (λ m'. let g = stops_handled P (deps_kept N round stamp _ P {x = y} (λ t o i. i) K d) r x m' in
      record { at_value = g.at_value; low = g.low; high = le_trans g.high ((deps_le N round stamp _ d).e x); closed = g.closed })
      (Memᴰ.cases_cons m)

  pub stops_graph : (xs : List ℕ) (s : St) → Stops xs s (stops N round stamp xs s)
  unfolding stops
  stops_graph [] s = nil
  stops_graph (x ∷ xs) s = test (leb s.c.B (at s.c x + change N round)) refl (stops_graph xs s) (stops_graph xs n)
    where
      n : St
      n = departures N round stamp (at s.c x + change N round) (N.deps x) s

      test : (b : Bool) → leb s.c.B (at s.c x + change N round) ≡ b → Stops xs s (stops N round stamp xs s) → Stops xs n (stops N round stamp xs n)
          → Stops (x ∷ xs) s (elim b [ true ↦ stops N round stamp xs s | false ↦ stops N round stamp xs n ])
      test true e p q = skip (leb-true _ _ e) p
      test false e p q = go (leb-false _ _ e) (deps_graph N round stamp _ (N.deps x) s) q
