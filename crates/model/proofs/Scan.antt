-- The scan of a trip: its graph, and its laws.
use Prim.Native.Nat.{ℕ, zero, suc, ◌+◌, ◌≤◌, ◌<◌}
use mathlib.Core.Path.{◌≡◌, refl, sym, ap, subst, ◌∙◌}
use mathlib.Core.Logic.{⊎_elim}
use mathlib.Core.Bool.{Bool, true, false}
use native.Mathlib.Nat.{le_trans}
use native.Mathlib.Omega.{arith}
use lib.Dec.{ltb}
use borrow.Author.Tests.{ltb-true, ltb-false}
use Rattle.model.proofs.Base.{split_eq}
use Rattle.model.proofs.Net.{Net, Boards, Plain}
use Rattle.model.proofs.PlainSearch.{Core, relax, scan}
use Rattle.model.proofs.Coverage.{Le, Le-refl, Le-trans, relax_le, relax_cov, Cov, cov_le, by_best}

module _ (N : Net) (stamp t : ℕ) where
  pub data Scan : ℕ → ℕ → Core → Core → Type 0 where
    done : {off : ℕ} {c : Core} → Scan zero off c c
    bar : {k off : ℕ} {c c' : Core} → N.alight t off ≡ false → Scan k (suc off) c c' → Scan (suc k) off c c'
    cut : {k off : ℕ} {c : Core} → N.alight t off ≡ true → c.B ≤ N.arr t off → Scan (suc k) off c c
    step : {k off : ℕ} {c c' : Core} → N.alight t off ≡ true → N.arr t off < c.B → Scan k (suc off) (relax N stamp (N.stop_at t off) (N.arr t off) c) c' → Scan (suc k) off c c'

  pub scan_graph : (k off : ℕ) (c : Core) → Scan k off c (scan N stamp t k off c)
  unfolding scan
  scan_graph zero off c = done
  scan_graph (suc k) off c =
      go (N.alight t off) refl (ltb (N.arr t off) c.B) refl (scan_graph k (suc off) c) (scan_graph k (suc off) (relax N stamp (N.stop_at t off) (N.arr t off) c))
    where
      r : Core
      r = relax N stamp (N.stop_at t off) (N.arr t off) c

      go : (x : Bool) → N.alight t off ≡ x → (y : Bool) → ltb (N.arr t off) c.B ≡ y → Scan k (suc off) c (scan N stamp t k (suc off) c) → Scan k (suc off) r (scan N stamp t k (suc off) r)
          → Scan (suc k) off c (elim x [ false ↦ scan N stamp t k (suc off) c | true ↦ elim y [ false ↦ c | true ↦ scan N stamp t k (suc off) r ] ])
      go false e y f p q = bar e p
      go true e false f p q = cut e (ltb-false _ _ f)
      go true e true f p q = step e (ltb-true _ _ f) q

  pub scan_le : {k off : ℕ} {c c' : Core} → Scan k off c c' → Le c' c
  scan_le done = Le-refl _
  scan_le (bar e r) = scan_le r
  scan_le (cut g h) = Le-refl _
  scan_le (step {c = c} g h r) = Le-trans (scan_le r) (relax_le N stamp _ _ c)

  -- of a trip boarded before
  pub scan_cov : Plain N → {b k off : ℕ} {c c' : Core} → Boards N t b → Scan k off c c' → b < off → k + off ≡ N.len t → (o : ℕ) → off ≤ o → o < N.len t → N.alight t o ≡ true → Cov c' (N.stop_at t o) (N.arr t o)
  scan_cov P w done z e o h l a = absurd (omega arith)
  scan_cov P w (bar {k = k} {off = off} f r) z e o h l a =
      ⊎_elim
      (λ q. absurd (no (ap (N.alight t) q ∙ a) f))
      (λ q. scan_cov P w r (omega arith) (omega arith) o q l a)
      (split_eq h)
    where
      no : {x : Bool} → x ≡ true → x ≡ false → ⊥
      no p q = let z : ◌≡◌ {A = Bool} true false = sym p ∙ q in let w : ◌≡◌ {A = ℕ} 0 1 = cc in omega arith
  scan_cov P {b} w (cut {off = off} g f) z e o h l a = by_best (le_trans f (P.arr_arr t b off o w z h l g a))
  scan_cov P w (step {k = k} {off = off} {c = c} {c' = c'} g f r) z e o h l a =
      ⊎_elim
      (λ q. subst (λ (x : ℕ). Cov c' (N.stop_at t x) (N.arr t x)) q (cov_le (scan_le r) (relax_cov N stamp _ _ c)))
      (λ q. scan_cov P w r (omega arith) (omega arith) o q l a)
      (split_eq h)
