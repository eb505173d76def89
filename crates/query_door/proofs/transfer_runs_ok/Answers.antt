use Prim.Native.Nat.{◌%◌, ◌*◌, ◌+◌, ℕ}
use lib.ListN.{get_or}
use mathlib.Core.Path.{◌∙◌, ap, ap₂, refl}
use mathlib.Core.Bool.{Bool, ◌&&◌}
use lib.Dec.{leb}
use native.Mathlib.Omega.{arith}
use Rattle.loops.specs.Iter.{every_in}
use Rattle.loops.proofs.Iter.{every_keep, every_kept}
use Rattle.departures.specs.Listed.{run_in}
use Rattle.query_door.specs.Door.{transfer_runs_ok}
use Rattle.query_door.proofs.Once.{inside_from, run_kept, runs_kept}
use Rattle.query_door.proofs.transfer_runs_ok.Goals as goal

pub loop-e-init : goal.loop-e-init
loop-e-init c = (omega arith, omega arith, refl)

pub overflow_mul-at : goal.overflow_mul-at
overflow_mul-at c = omega (arith, c.requires.transfer_runs_at)

pub overflow_add-at : goal.overflow_add-at
overflow_add-at c = omega (arith, c.requires.transfer_runs_at, c.transfer_runs_at-from.ensures.value)

pub bounds-built-at : goal.bounds-built-at
bounds-built-at c = omega (arith, c.requires.transfer_runs_at, c.transfer_runs_at-from.ensures.value)

pub bounds-built-at-in-loop-e : goal.bounds-built-at-in-loop-e
bounds-built-at-in-loop-e c = omega (arith, c.requires.transfer_runs_at, c.transfer_runs_at-from.ensures.value)

pub offset_bounds-built-at : goal.offset_bounds-built-at
offset_bounds-built-at c = omega (arith, c.requires.transfer_runs_at, c.transfer_runs_at-from.ensures.value)

pub offset_bounds-built-at-in-loop-e : goal.offset_bounds-built-at-in-loop-e
offset_bounds-built-at-in-loop-e c = omega (arith, c.requires.transfer_runs_at, c.transfer_runs_at-from.ensures.value)

pub loop-e-preserved : goal.loop-e-preserved
loop-e-preserved c =
    let l = c.loop-e in let b = c.args.built.now in let from = c.transfer_runs_at-from.result in let f = get_or b (from + l.e * 2) 0 in let m = get_or b (from + l.e * 2 + 1) 0 in (l.invariant.0, omega arith, every_keep (inside_from b from c.args.transfer_rows) l.e c.args.events (runs_kept l.inside l.bits) l.invariant.2 (run_kept l.inside l.bits c.args.transfer_rows f m c.requires.transfer_rows_bound (ap (λ (x : ℕ). l.inside && leb (f % 2147483648 + m % 2147483648) x) l.invariant.0)) (omega arith))

pub returns : goal.returns
unfolding transfer_runs_ok run_in
returns c =
    let l = c.loop-e in let b = c.args.built.now in let from = c.transfer_runs_at-from.result in every_kept (inside_from b from c.args.transfer_rows) l.e c.args.events (runs_kept l.inside l.bits) l.invariant.2 (omega arith) ∙ ap (λ (x : ℕ). every_in (inside_from b x c.args.transfer_rows) 0 c.args.events) c.transfer_runs_at-from.ensures.value
