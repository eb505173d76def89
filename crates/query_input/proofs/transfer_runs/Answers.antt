use Prim.Native.Nat.{ℕ}
use mathlib.Core.Path.{ap, ◌∙◌}
use native.Mathlib.Omega.{arith}
use lib.ListN.{length}
use lib.Seq.{slice}
use Rattle.sorts.proofs.Within.{part_slice}
use Rattle.query_input.proofs.transfer_runs.Goals as goal

pub returns : goal.returns
returns c =
    let l = c.args.built.now in
    part_slice c.transfer_runs_at-first.result (length l) l (omega (arith, c.transfer_runs_at-first.ensures.value, c.requires.transfer_runs_at)) (omega arith) ∙ ap (λ (k : ℕ). slice k (length l) l) c.transfer_runs_at-first.ensures.value
