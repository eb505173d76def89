use mathlib.Core.Path.{◌≡◌}
use Prim.Native.Nat.{◌+◌}
use Rattle.arc_flags.proofs.Laws.{window_yes, window_no, windows_left}
use Rattle.arc_flags.specs.Skipping.{row_skipped}
use native.Mathlib.Omega.{arith}
use Rattle.arc_flags.proofs.some_window_skips.Goals as goal

pub returns-then-window_skips : goal.returns-then-window_skips
returns-then-window_skips c =
    record { says = λ T Q a. window_yes (row_skipped T Q c.args.transfers.now) c.args.transfer_runs.now _ _ (c.window_skips.ensures.says T Q a) c.if-window_skips.true }

pub loop-from-preserved : goal.loop-from-preserved
loop-from-preserved c =
    let w = c.loop-from in let z : c.min-n.result ≡ 4096 = omega (arith, c.min-n.ensures) in λ T Q a. rw z at (window_no (row_skipped T Q c.args.transfers.now) c.args.transfer_runs.now w.from _ (w.invariant T Q a) (c.window_skips.ensures.says T Q a) c.if-window_skips.false)

pub returns : goal.returns
returns c =
    let w = c.loop-from in record { says = λ T Q a. windows_left (row_skipped T Q c.args.transfers.now) c.args.transfer_runs.now w.from c.args.transfer_rows c.requires.runs_in (w.invariant T Q a) c.loop-from-test.false }

pub returns-else-window_skips : goal.returns-else-window_skips
returns-else-window_skips c =
    let w = c.loop-from in record { says = λ T Q a. windows_left (row_skipped T Q c.args.transfers.now) c.args.transfer_runs.now (w.from + c.min-n.result) c.args.transfer_rows c.requires.runs_in (window_no (row_skipped T Q c.args.transfers.now) c.args.transfer_runs.now w.from _ (w.invariant T Q a) (c.window_skips.ensures.says T Q a) c.if-window_skips.false) (omega (arith, c.min-n.ensures)) }
