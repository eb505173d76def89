-- Coverage: a stop is reached by a time, or the best total is no later than it. It only grows.
use Prim.Native.Nat.{ℕ, ◌+◌, ◌≤◌}
use mathlib.Core.Path.{◌≡◌, refl}
use mathlib.Core.Bool.{Bool, true, false, cond, ◌&&◌}
use native.Mathlib.Nat.{le_refl, le_trans}
use native.Mathlib.Omega.{arith}
use lib.Dec.{ltb}
use borrow.Author.Tests.{ltb-true, ltb-false}
use Rattle.model.proofs.Base.{set_le, set_hit}
use Rattle.model.proofs.Net.{Net}
use Rattle.model.proofs.PlainSearch.{Core, at, best, imp, relax}

pub record Le (c' c : Core) : Type 0 where
  pub e : (s : ℕ) → at c' s ≤ at c s
  pub b : c'.B ≤ c.B

pub Le-refl : (c : Core) → Le c c
Le-refl c = record { e = λ s. le_refl _; b = le_refl _ }

pub Le-trans : {a b c : Core} → Le a b → Le b c → Le a c
Le-trans p q = record { e = λ s. le_trans (p.e s) (q.e s); b = le_trans p.b q.b }

pub data Cov (c : Core) (s t : ℕ) : Type 0 where
  by_at : at c s ≤ t → Cov c s t
  by_best : c.B ≤ t → Cov c s t

pub cov_le : {c' c : Core} {s t : ℕ} → Le c' c → Cov c s t → Cov c' s t
cov_le {s = s} l (by_at p) = by_at (le_trans (l.e s) p)
cov_le l (by_best p) = by_best (le_trans l.b p)

pub cov_later : {c : Core} {s t t' : ℕ} → t ≤ t' → Cov c s t → Cov c s t'
cov_later l (by_at p) = by_at (le_trans p l)
cov_later l (by_best p) = by_best (le_trans p l)

module _ (N : Net) where
  pub best_le : (s v b : ℕ) → best N s v b ≤ b
  unfolding best
  best_le s v b = go (N.is_eg s) (ltb (v + N.eg s) b) refl
    where
      go : (x y : Bool) → ltb (v + N.eg s) b ≡ y → cond (x && y) (v + N.eg s) b ≤ b
      go true true h = omega (arith, ltb-true (v + N.eg s) b h)
      go true false h = le_refl _
      go false true h = le_refl _
      go false false h = le_refl _

  pub imp_le : (stamp s v : ℕ) (c : Core) → v ≤ at c s → Le (imp N stamp s v c) c
  unfolding imp
  imp_le stamp s v c h = record { e = λ x. set_le c.E s v x h; b = best_le s v c.B }

  pub relax_le : (stamp s v : ℕ) (c : Core) → Le (relax N stamp s v c) c
  unfolding relax
  relax_le stamp s v c = go (ltb v (at c s)) refl
    where
      go : (x : Bool) → ltb v (at c s) ≡ x → Le (cond x (imp N stamp s v c) c) c
      go true h = imp_le stamp s v c (omega (arith, ltb-true v (at c s) h))
      go false h = Le-refl c

  pub relax_cov : (stamp s v : ℕ) (c : Core) → Cov (relax N stamp s v c) s v
  unfolding relax imp
  relax_cov stamp s v c = go (ltb v (at c s)) refl
    where
      go : (x : Bool) → ltb v (at c s) ≡ x → Cov (cond x (imp N stamp s v c) c) s v
      go true h = by_at (set_hit c.E s v)
      go false h = by_at (ltb-false _ _ h)
