-- Demand 3, first half: no journey arrives before the best total.
use Prim.Native.Nat.{ℕ, ◌+◌, ◌≤◌, ◌<◌}
use mathlib.Core.Path.{◌≡◌, subst}
use mathlib.Core.Bool.{Bool, true}
use native.Mathlib.Omega.{arith}
use Rattle.model.proofs.Net.{Net, Plain}
use Rattle.model.proofs.PlainSearch.{at, run, begin, rounds}
use Rattle.model.proofs.Coverage.{Cov, by_at, by_best}
use Rattle.model.proofs.Improvements.{Att, att_none, att_stop}
use Rattle.model.proofs.Rounds.{Reach, Inv, rounds_inv}
use Rattle.model.proofs.Access.{begin_inv}

pub run_inv : (N : Net) → Plain N → (trips n : ℕ) → Inv N n (run N trips n)
unfolding run
run_inv N P trips n = subst (λ (k : ℕ). Inv N k (rounds N n 0 (begin N trips))) (omega arith) (rounds_inv N P n 0 (begin N trips) (begin_inv N P trips))

-- total: no later than the total of any egress stop (what the last loop computes)
pub no_better : (N : Net) → Plain N → (trips n total : ℕ) → ((s : ℕ) → N.is_eg s ≡ true → total ≤ at (run N trips n).c s + N.eg s)
    → (b : Bool) (m x v : ℕ) → m ≤ n → Reach N b m x v → N.is_eg x ≡ true → v < N.MAX → total ≤ v + N.eg x
no_better N P trips n total T b m x v h j e l = go ((run_inv N P trips n).reach b m x v h j) (run_inv N P trips n).att
  where
    go : Cov (run N trips n).c x v → Att N (run N trips n).c → total ≤ v + N.eg x
    go (by_at p) a = omega (arith, T x e)
    go (by_best p) (att_none q) = absurd (omega arith)
    go (by_best p) (att_stop s i q) = omega (arith, T s i)

-- "no way" only where no journey is
pub no_way : (N : Net) → Plain N → (trips n : ℕ) → ((s : ℕ) → N.is_eg s ≡ true → N.MAX ≤ at (run N trips n).c s)
    → (b : Bool) (m x v : ℕ) → m ≤ n → Reach N b m x v → N.is_eg x ≡ true → v < N.MAX → ⊥
no_way N P trips n T b m x v h j e l = go ((run_inv N P trips n).reach b m x v h j) (run_inv N P trips n).att
  where
    go : Cov (run N trips n).c x v → Att N (run N trips n).c → ⊥
    go (by_at p) a = omega (arith, T x e)
    go (by_best p) (att_none q) = omega arith
    go (by_best p) (att_stop s i q) = omega (arith, T s i)
