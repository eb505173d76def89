-- The walk phase: after it every earliest is closed under the walk edges.
use Prim.Native.Nat.{ℕ, ◌+◌, ◌≤◌, ◌<◌}
use mathlib.Core.Path.{◌≡◌, refl, sym, ap, subst}
use mathlib.Core.Logic.{◌⊎◌, inl, inr, ⊎_elim}
use mathlib.Core.Bool.{Bool, true, false}
use mathlib.Core.List.Memᴰ
use mathlib.Core.List.{List, [], ◌∷◌, Memᴰ}
use native.Mathlib.Omega.{arith}
use native.Mathlib.Decide.{ℕ_discrete}
use lib.Dec.{ltb}
use borrow.Author.Tests.{ltb-true, ltb-false}
use Rattle.model.proofs.Net.{Net, Plain}
use Rattle.model.proofs.PlainSearch.{Core, at, relax, walk, walks}
use Rattle.model.proofs.Coverage.{Le, Cov, cov_le, cov_later, by_at, by_best, relax_cov}
use Rattle.model.proofs.Improvements.{Steps, stay, steps_trans, relax_steps, steps_le, steps_changed}

pub record Walked (N : Net) (c : Core) (x v : ℕ) : Type 0 where
  pub edge : (y d : ℕ) → Memᴰ (y, d) (N.edges x) → Cov c y (v + d)

pub walked_le : {N : Net} {c' c : Core} {x v : ℕ} → Le c' c → Walked N c x v → Walked N c' x v
walked_le l h = record { edge = λ y d m. cov_le l (h.edge y d m) }

pub walked_later : {N : Net} {c : Core} {x v v' : ℕ} → v ≤ v' → Walked N c x v → Walked N c x v'
walked_later l h = record { edge = λ y d m. cov_later (omega arith) (h.edge y d m) }

module _ (N : Net) (stamp : ℕ) where
  pub data Walk (v : ℕ) : List (ℕ × ℕ) → Core → Core → Type 0 where
    nil : {c : Core} → Walk v [] c c
    skip : {e : ℕ × ℕ} {es : List (ℕ × ℕ)} {c c' : Core} → c.B ≤ v + e.1 → Walk v es c c' → Walk v (e ∷ es) c c'
    go : {e : ℕ × ℕ} {es : List (ℕ × ℕ)} {c c' : Core} → v + e.1 < c.B → Walk v es (relax N stamp e.0 (v + e.1) c) c' → Walk v (e ∷ es) c c'

  pub walk_graph : (v : ℕ) (es : List (ℕ × ℕ)) (c : Core) → Walk v es c (walk N stamp v es c)
  unfolding walk
  walk_graph v [] c = nil
  walk_graph v (e ∷ es) c = test (ltb (v + e.1) c.B) refl (walk_graph v es c) (walk_graph v es n)
    where
      n : Core
      n = relax N stamp e.0 (v + e.1) c

      test : (b : Bool) → ltb (v + e.1) c.B ≡ b → Walk v es c (walk N stamp v es c) → Walk v es n (walk N stamp v es n) → Walk v (e ∷ es) c (elim b [ false ↦ walk N stamp v es c | true ↦ walk N stamp v es n ])
      test false h p q = skip (ltb-false _ _ h) p
      test true h p q = go (ltb-true _ _ h) q

  pub walk_steps : {J : ℕ → ℕ → Type 0} {v : ℕ} {es : List (ℕ × ℕ)} {c c' : Core} → ((y d : ℕ) → Memᴰ (y, d) es → J y (v + d)) → Walk v es c c' → Steps N stamp J c c'
  walk_steps j nil = stay
  walk_steps j (skip h r) = walk_steps (λ y d m. j y d (Memᴰ.tail m)) r
  walk_steps {v = v} j (go {e = e} {c = c} h r) = steps_trans N stamp (relax_steps N stamp e.0 (v + e.1) c (j e.0 e.1 (Memᴰ.head refl))) (walk_steps (λ y d m. j y d (Memᴰ.tail m)) r)

  pub walk_le : {v : ℕ} {es : List (ℕ × ℕ)} {c c' : Core} → Walk v es c c' → Le c' c
  walk_le r = steps_le N stamp {J = λ s v. Unit {0}} (walk_steps (λ y d m. tt) r)

  pub walk_cov : {v : ℕ} {es : List (ℕ × ℕ)} {c c' : Core} → Walk v es c c' → (y d : ℕ) → Memᴰ (y, d) es → Cov c' y (v + d)
  walk_cov nil y d m = absurd (Memᴰ.not-nil m)
  walk_cov {v = v} (skip {e = e} {c = c} {c' = c'} h r) y d m =
      ⊎_elim
      (λ q. cov_le (walk_le r) (by_best (subst (λ (z : ℕ × ℕ). c.B ≤ v + z.1) (sym q) h)))
      (λ m'. walk_cov r y d m')
      (Memᴰ.cases_cons m)
  walk_cov {v = v} (go {e = e} {c = c} {c' = c'} h r) y d m =
      ⊎_elim
      (λ q. cov_le (walk_le r) (subst (λ (z : ℕ × ℕ). Cov (relax N stamp e.0 (v + e.1) c) z.0 (v + z.1)) (sym q) (relax_cov N stamp e.0 (v + e.1) c)))
      (λ m'. walk_cov r y d m')
      (Memᴰ.cases_cons m)

  pub data Walks : List ℕ → Core → Core → Type 0 where
    nil : {c : Core} → Walks [] c c
    go : {x : ℕ} {xs : List ℕ} {c m c' : Core} → Walk (at c x) (N.edges x) c m → Walks xs m c' → Walks (x ∷ xs) c c'

  pub walks_graph : (xs : List ℕ) (c : Core) → Walks xs c (walks N stamp xs c)
  unfolding walks
  walks_graph [] c = nil
  walks_graph (x ∷ xs) c = go (walk_graph (at c x) (N.edges x) c) (walks_graph xs _)

  -- one stop's edges keep the others closed
  walk_keeps : Plain N → {x : ℕ} {xs : List ℕ} {c m : Core} → ((s : ℕ) → Memᴰ s (x ∷ xs) ⊎ Walked N c s (at c s)) → Walk (at c x) (N.edges x) c m → (s : ℕ) → Memᴰ s xs ⊎ Walked N m s (at m s)
  walk_keeps P {x} {xs} {c} {m} I w s =
      ⊎_elim
      (λ (e : at m s ≡ at c s). ⊎_elim
      (λ i. ⊎_elim
      (λ (q : s ≡ x). inr (subst (λ (z : ℕ). Walked N m z (at m s)) (sym q) (walked_later (omega (arith, ap (at c) q)) (record { edge = λ y d i. walk_cov w y d i }))))
      (λ i'. inl i')
      (Memᴰ.cases_cons i))
      (λ k. inr (subst (λ (z : ℕ). Walked N m s z) (sym e) (walked_le (walk_le w) k)))
      (I s))
      (λ j. inr (record { edge = λ y e k. from j.0 j.1 j.2 y e k (ℕ_discrete y x) }))
      (steps_changed N stamp (walk_steps {J = λ s v. (d : ℕ) × (Memᴰ (s, d) (N.edges x)) × (v ≡ at c x + d)} (λ y d i. (d, i, refl)) w) s)
    where
      from : (d : ℕ) → Memᴰ (s, d) (N.edges x) → at m s ≡ at c x + d → (y e : ℕ) → Memᴰ (y, e) (N.edges s) → Dec (y ≡ x) → Cov m y (at m s + e)
      from d i q y e k (yes z) = subst (λ (u : ℕ). Cov m u (at m s + e)) (sym z) (by_at (omega (arith, (walk_le w).e x)))
      from d i q y e k (no z) = let f = P.edge_edge x s y d e i k z in cov_later (omega (arith, f.2)) (walk_cov w y f.0 f.1)

  pub walks_closed : Plain N → {xs : List ℕ} {c c' : Core} → ((s : ℕ) → Memᴰ s xs ⊎ Walked N c s (at c s)) → Walks xs c c' → (s : ℕ) → Walked N c' s (at c' s)
  walks_closed P I nil s = ⊎_elim (λ m. absurd (Memᴰ.not-nil m)) (λ w. w) (I s)
  walks_closed P I (go w r) s = walks_closed P (walk_keeps P I w) r s

  pub walks_steps : {J : ℕ → ℕ → Type 0} → ((x v y d : ℕ) → J x v → Memᴰ (y, d) (N.edges x) → J y (v + d)) → {xs : List ℕ} {c c' : Core} → ((x : ℕ) → Memᴰ x xs → J x (at c x)) → Walks xs c c' → Steps N stamp J c c'
  walks_steps law W nil = stay
  walks_steps {J} law W (go {x = x} {c = c} {m = m} w r) =
      let q : Steps N stamp J c m = walk_steps (λ y d i. law x (at c x) y d (W x (Memᴰ.head refl)) i) w in
      steps_trans N stamp q (walks_steps law (λ y i. ⊎_elim (λ e. subst (λ (z : ℕ). J y z) (sym e) (W y (Memᴰ.tail i))) (λ j. j) (steps_changed N stamp q y)) r)
