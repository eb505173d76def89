use native.Mathlib.Omega.{arith}
use borrow.Author.Tests.{le-leb, lt-leb}
use Rattle.loops.proofs.Search.{halved_start, halved_up, halved_down, halved_end, keys_stay}
use Rattle.tables.specs.Tables.{edge_of}
use Rattle.walk_phase.proofs.Edges.{edges_rising}
use Rattle.walk_phase.proofs.first_edge.Goals as goal

pub loop-lo-init : goal.loop-lo-init
loop-lo-init c = halved_start _ _

pub loop-lo-preserved-then-edge-x : goal.loop-lo-preserved-then-edge-x
loop-lo-preserved-then-edge-x c =
    halved_up _ _ _ _ _ (keys_stay (λ i. edge_of c.args.tables.now c.args.c i 0) c.args.x _ (edges_rising _ _ c.requires.order_ok)) c.loop-lo.invariant (lt-leb _ _ (rw c.edge.ensures.value at c.if-edge-x.true)) (omega arith)

pub loop-lo-preserved : goal.loop-lo-preserved
loop-lo-preserved c =
    halved_down _ _ _ _ _ (keys_stay (λ i. edge_of c.args.tables.now c.args.c i 0) c.args.x _ (edges_rising _ _ c.requires.order_ok)) c.loop-lo.invariant (le-leb _ _ (rw c.edge.ensures.value at c.if-edge-x.false)) (omega arith) (omega arith)

pub returns : goal.returns
returns c = halved_end _ _ _ _ c.loop-lo.invariant (omega arith)
