use Rattle.frequency.specs.declared.BoardedRun.{BoardedRun}
use Rattle.std.specs.Prelude.{Some}
use Rattle.frequency.specs.Gtfs.{boarding_of}
use Rattle.frequency.proofs.Best.{leaves, starts_early, told, waits_so}
use native.Mathlib.Omega.{arith}
use mathlib.Core.Path.{◌∙◌, ap}
use Prim.Native.Nat.{◌+◌, ◌-◌, ℕ}
use Rattle.frequency.proofs.board_at.Goals as goal

pub overflow_add-departure : goal.overflow_add-departure
overflow_add-departure c = omega (arith, starts_early _ _ _ _ _ _ c.requires.drawn c.if-run.false c.requires.nominal, c.requires.nominal.departs)

pub overflow_sub-departure : goal.overflow_sub-departure
overflow_sub-departure c = omega (arith, leaves _ _ _ _ _ _ c.requires.drawn c.if-run.false)

pub difference-shift-requires-clause-a_bound : goal.difference-shift-requires-clause-a_bound
difference-shift-requires-clause-a_bound c = omega (arith, starts_early _ _ _ _ _ _ c.requires.drawn c.if-run.false c.requires.nominal)

pub overflow_sub-departure-2 : goal.overflow_sub-departure-2
overflow_sub-departure-2 c = omega (arith, leaves _ _ _ _ _ _ c.requires.drawn c.if-run.false)

pub headways_of-headways-requires : goal.headways_of-headways-requires
headways_of-headways-requires c = waits_so _ _ _ _ _ _ c.requires.drawn c.if-run.false

pub boarding_of-requires : goal.boarding_of-requires
boarding_of-requires c = omega (arith, leaves _ _ _ _ _ _ c.requires.drawn c.if-run.false)

pub returns : goal.returns
returns c =
    ap (λ (b : BoardedRun). Some b) (c.boarding_of.ensures ∙ ap (λ (s : ℕ). let d = c.args.run.start + c.args.dep - c.args.base in boarding_of d s c.headways_of-headways.result (d - c.args.after)) c.difference-shift.ensures) ∙ told _ _ _ _ _ _ c.requires.drawn c.if-run.false _ c.headways_of-headways.ensures
