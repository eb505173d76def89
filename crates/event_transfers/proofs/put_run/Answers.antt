use Rattle.event_transfers.proofs.Laying.{two}
use Rattle.event_transfers.specs.Packed.{put_run}
use borrow.Author.Tests.{le-leb, lt-leb}
use native.Mathlib.Omega.{arith}
use mathlib.Core.Path.{◌∙◌}
use Prim.Native.Nat.{◌*◌, ◌-◌}
use Rattle.event_transfers.proofs.put_run.Goals as goal

pub returns-then-transfer_runs-at : goal.returns-then-transfer_runs-at
unfolding put_run
returns-then-transfer_runs-at c = simp (lt-leb _ _ c.if-transfer_runs-at.true)

pub returns : goal.returns
unfolding put_run
returns c =
    two c.args.transfer_runs.now (c.args.e * 2) c.args.n (c.args.r - c.args.n) (omega arith) ∙ simp (le-leb _ _ c.if-transfer_runs-at.false)
