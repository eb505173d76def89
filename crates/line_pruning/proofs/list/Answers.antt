use Rattle.search_state.proofs.Part.{few_of}
use Rattle.line_pruning.proofs.Reading.{listed_no, listed_seen, listed_new}
use Rattle.line_pruning.proofs.list.Goals as goal

pub returns-then-not-prunes : goal.returns-then-not-prunes
returns-then-not-prunes c = listed_no c.args.lay c.args.stamp c.args.line c.args.trip c.args.off c.args.work.now c.args.prunes (c.if-not-prunes.true)

pub trip_stamps_at-requires : goal.trip_stamps_at-requires
trip_stamps_at-requires c = few_of c.requires.work_sized

pub returns-then-work-at : goal.returns-then-work-at
returns-then-work-at c =
    listed_seen c.args.lay c.args.stamp c.args.line c.args.trip c.args.off c.args.work.now c.args.prunes _ _ c.trip_stamps_at.ensures (c.if-not-prunes.false) c.if-work-at.true c.lower.ensures

pub link-requires : goal.link-requires
link-requires c =
    record { work_sized = c.requires.work_sized; line_bound = c.requires.prunes_is (c.if-not-prunes.false); trip_bound = c.requires.trip_bound }

pub returns : goal.returns
returns c =
    listed_new c.args.lay c.args.stamp c.args.line c.args.trip c.args.off c.args.work.now c.args.prunes _ _ c.trip_stamps_at.ensures (c.if-not-prunes.false) c.if-work-at.false c.link.ensures
