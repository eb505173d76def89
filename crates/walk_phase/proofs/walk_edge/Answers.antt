use mathlib.Core.Path.{refl}
use native.Mathlib.Omega.{arith}
use Rattle.walk_time.proofs.Laws.{duration_most}
use Rattle.walk_phase.proofs.Edge.{row-ok, edge_skipped, edge_late, edge_walked}
use Rattle.walk_phase.proofs.Falling.{relaxed_falls}
use Rattle.search_state.proofs.Falls.{falls_refl}
use Rattle.walk_phase.proofs.walk_edge.Goals as goal

pub returns-then-skips : goal.returns-then-skips
returns-then-skips c =
    record { step = edge_skipped c.args.lay c.args.ctx c.args.stamp c.args.x c.args.v c.args.e c.args.tables.now c.args.distances.now c.args.patterns.now c.args.work.now c.args.labels.now c.args.label_distances.now c.args.h c.edge_row-row.result c.edge_row-row.ensures _ refl c.requires.e_bound _ c.skips.ensures c.requires.ready c.if-skips.true; falls = falls_refl _ _ }

pub overflow_add-w : goal.overflow_add-w
overflow_add-w c =
    let q = row-ok _ _ c.requires.walk_ground c.edge_row-row.ensures c.requires.e_bound in let k = duration_most _ c.edge_row-row.result.pathway c.args.ctx.net.terms.wheelchair q.duration in omega (arith, k, c.effective_duration_s-d.ensures, c.requires.v_bound)

pub returns-then-h-w : goal.returns-then-h-w
returns-then-h-w c =
    record { step = edge_late c.args.lay c.args.ctx c.args.stamp c.args.x c.args.v c.args.e c.args.tables.now c.args.distances.now c.args.patterns.now c.args.work.now c.args.labels.now c.args.label_distances.now c.args.h c.edge_row-row.result c.edge_row-row.ensures _ c.effective_duration_s-d.ensures c.requires.e_bound _ c.skips.ensures c.requires.ready c.if-skips.false c.if-h-w.true; falls = falls_refl _ _ }

pub relax-requires : goal.relax-requires
relax-requires c =
    let q = row-ok _ _ c.requires.walk_ground c.edge_row-row.ensures c.requires.e_bound in let k = duration_most _ c.edge_row-row.result.pathway c.args.ctx.net.terms.wheelchair q.duration in record { ready = c.requires.ready; s_bound = q.to; v_bound = omega (arith, k, c.effective_duration_s-d.ensures, c.requires.v_bound) }

pub returns : goal.returns
returns c =
    record { step = edge_walked c.args.lay c.args.ctx c.args.stamp c.args.x c.args.v c.args.e c.args.tables.now c.args.distances.now c.args.patterns.now c.args.work.now c.args.labels.now c.args.label_distances.now c.args.h c.edge_row-row.result c.edge_row-row.ensures _ c.effective_duration_s-d.ensures c.requires.e_bound _ c.skips.ensures c.requires.ready c.if-skips.false c.if-h-w.false c.relax.ensures; falls = relaxed_falls _ _ _ c.relax.ensures }
