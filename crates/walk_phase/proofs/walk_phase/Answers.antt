use Rattle.search_state.proofs.Lists.{same_other, listed_kept}
use Rattle.walk_phase.proofs.Phases.{phase_fits, phase_flagged, phase_plain}
use Rattle.walk_phase.proofs.walk_phase.Goals as goal

pub returns-then-ctx : goal.returns-then-ctx
returns-then-ctx c =
    phase_flagged c.args.ctx.lay c.args.ctx c.args.stamp c.args.tables.now c.args.distances.now c.args.patterns.now c.args.work.now c.args.labels.now c.args.label_distances.now c.args.h c.requires.ready c.walk_all-x.ensures.step c.if-ctx.true

pub append_stamped-count-requires : goal.append_stamped-count-requires
append_stamped-count-requires c =
    record { work_sized = c.walk_all-x.ensures.step.ready.sized.sections; stops_listed = listed_kept c.requires.stops_listed (same_other c.walk_all-x.ensures.step.same) c.walk_all-x.ensures.falls; count_bound = phase_fits c.args.ctx.lay c.args.ctx c.args.stamp c.args.tables.now c.args.distances.now c.args.patterns.now c.args.work.now c.args.labels.now c.args.label_distances.now c.args.h c.requires.ready c.walk_all-x.ensures.step }

pub returns : goal.returns
returns c =
    phase_plain c.args.ctx.lay c.args.ctx c.args.stamp c.args.tables.now c.args.distances.now c.args.patterns.now c.args.work.now c.args.labels.now c.args.label_distances.now c.args.h c.requires.ready c.walk_all-x.ensures.step c.requires.stops_listed _ _ c.append_stamped-count.ensures c.if-ctx.false
