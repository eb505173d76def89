use Rattle.loops.proofs.Iter.{every_again, every_left, every_no}
use Rattle.tables.specs.Door.{edge_ranges}
use native.Mathlib.Omega.{arith}
use mathlib.Core.Path.{sym, refl, ◌∙◌, ap}
use Rattle.tables.proofs.edges_in_range.Goals as goal

pub loop-i-init : goal.loop-i-init
loop-i-init c = (omega arith, refl)

pub returns-then-not-edge_ranges : goal.returns-then-not-edge_ranges
returns-then-not-edge_ranges c = every_no _ _ _ c.loop-i.invariant.1 (sym (c.edge_ranges.ensures ∙ ap (edge_ranges) c.edge_row.ensures) ∙ c.if-not-edge_ranges.true) (omega arith)

pub loop-i-preserved : goal.loop-i-preserved
loop-i-preserved c = (omega arith, every_again _ _ _ c.loop-i.invariant.1 (sym (c.edge_ranges.ensures ∙ ap (edge_ranges) c.edge_row.ensures) ∙ c.if-not-edge_ranges.false) (omega arith))

pub returns : goal.returns
returns c = every_left _ _ _ c.loop-i.invariant.1 (omega arith)
