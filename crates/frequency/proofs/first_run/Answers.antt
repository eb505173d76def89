use mathlib.Core.Path.{refl}
use Rattle.frequency.proofs.Runs.{covers_ceil, found_none, found_run, run-first, run_later, run_miss, run_past}
use native.Mathlib.Nat.{zero-mul}
use native.Mathlib.Omega.{arith}
use Rattle.frequency.proofs.first_run.Goals as goal

pub returns-then-headway-eq0 : goal.returns-then-headway-eq0
returns-then-headway-eq0 c = found_none _ _ _ _ _ refl (run_miss _ _ _ _ (λ k b. omega (arith, b.spaced)))

pub returns-then-end-start : goal.returns-then-end-start
returns-then-end-start c = found_none _ _ _ _ _ refl (run_miss _ _ _ _ (λ k b. omega (arith, b.runs)))

pub returns-then-end-dep : goal.returns-then-end-dep
returns-then-end-dep c = found_none _ _ _ _ _ refl (run_miss _ _ _ _ (λ k b. omega (arith, b.runs, b.wanted)))

pub returns-then-wanted-start : goal.returns-then-wanted-start
returns-then-wanted-start c = found_run _ _ _ _ _ 0 (omega (arith, zero-mul c.args.headway)) (run-first _ _ _ _ (omega arith) (omega arith) (omega arith))

pub returns-then-t-end : goal.returns-then-t-end
returns-then-t-end c = found_run _ _ _ _ _ _ refl (run_later _ _ _ _ _ (omega arith) (covers_ceil _ _ _ (omega arith) c.div_ceil-run.ensures) (omega arith) (omega arith))

pub returns : goal.returns
returns c = found_none _ _ _ _ _ refl (run_past _ _ _ _ _ (omega arith) (covers_ceil _ _ _ (omega arith) c.div_ceil-run.ensures) (omega arith) (omega arith))
