use Rattle.search_state.proofs.Steps.{relax_late, relax_go}
use Rattle.search_state.proofs.relax.Goals as goal

pub returns-then-work-s : goal.returns-then-work-s
returns-then-work-s c =
    relax_late c.args.lay c.args.stamp c.args.s c.args.v c.args.how c.args.work.now c.args.labels.now c.args.label_distances.now c.args.h c.requires.ready c.requires.s_bound c.if-work-s.true

pub returns : goal.returns
returns c =
    relax_go c.args.lay c.args.stamp c.args.s c.args.v c.args.how c.args.work.now c.args.labels.now c.args.label_distances.now c.args.h c.requires.ready c.requires.s_bound c.if-work-s.false c.improve.ensures
