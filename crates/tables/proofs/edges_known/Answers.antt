use Rattle.loops.proofs.Iter.{every_again, every_left, every_no}
use Rattle.tables.specs.Door.{edge_numbers}
use native.Mathlib.Omega.{arith}
use mathlib.Core.Path.{sym, refl, ◌∙◌, ap}
use Rattle.tables.proofs.edges_known.Goals as goal

pub loop-i-init : goal.loop-i-init
loop-i-init c = (omega arith, refl)

pub returns-then-not-edge_numbers : goal.returns-then-not-edge_numbers
returns-then-not-edge_numbers c = every_no _ _ _ c.loop-i.invariant.1 (sym (c.edge_numbers.ensures ∙ ap (edge_numbers c.args.c) c.edge_row.ensures) ∙ c.if-not-edge_numbers.true) (omega arith)

pub loop-i-preserved : goal.loop-i-preserved
loop-i-preserved c = (omega arith, every_again _ _ _ c.loop-i.invariant.1 (sym (c.edge_numbers.ensures ∙ ap (edge_numbers c.args.c) c.edge_row.ensures) ∙ c.if-not-edge_numbers.false) (omega arith))

pub returns : goal.returns
returns c = every_left _ _ _ c.loop-i.invariant.1 (omega arith)
