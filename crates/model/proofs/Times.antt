-- No scheduled times fall: from neighbours to any two offsets.
use Prim.Native.Nat.{ℕ, zero, suc, ◌+◌, ◌-◌, ◌≤◌, ◌<◌}
use mathlib.Core.Path.{◌≡◌, subst}
use native.Mathlib.Nat.{suc-add, zero-add}
use native.Mathlib.Omega.{arith}
use Rattle.model.specs.Tables.{Tables, trips, stop_count, arrival, departure}
use Rattle.model.specs.Promise.{NoTimesFall}

module _ (T : Tables) (F : NoTimesFall T) where
  further : (t o k : ℕ) → t < trips T → suc (k + o) < stop_count T t → departure T t o ≤ arrival T t (suc (k + o))
  further t o zero u h = rw zero-add (let r = F.rides t o u (omega arith) in omega (arith, r))
  further t o (suc k) u h =
      rw suc-add (let d = further t o k u (omega arith) in let w = F.waits t (suc (k + o)) u (omega arith) in let r = F.rides t (suc (k + o)) u (omega arith) in omega (arith, d, w, r))

  pub later : (t o p : ℕ) → t < trips T → o < p → p < stop_count T t → departure T t o ≤ arrival T t p
  later t o p u h l = let e : suc ((p - suc o) + o) ≡ p = omega arith in subst (λ (x : ℕ). departure T t o ≤ arrival T t x) e (further t o (p - suc o) u (omega arith))
