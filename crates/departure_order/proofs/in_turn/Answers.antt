use mathlib.Core.Path.{◌≡◌, subst}
use native.Mathlib.Omega.{arith}
use Prim.Native.Nat.{ℕ}
use borrow.Author.Tests.{eqb-true}
use Rattle.departure_order.proofs.Turn.{Turned, in-turn}
use Rattle.departure_order.proofs.in_turn.Goals as goal

pub returns : goal.returns
returns c =
    λ h. let l = c.loop-s in let q : l.s ≡ c.args.c.stops = omega arith in in-turn c.args.tables.now c.args.c c.args.rows.now c.args.runs.now c.args.d l.end c.requires.slices_ok c.requires.runs_ok c.requires.runs_listed c.requires.rows_length (subst (λ (i : ℕ). Turned c.args.tables.now c.args.c c.args.rows.now c.args.runs.now i l.end) q l.invariant.1) (eqb-true l.end c.args.d h)
