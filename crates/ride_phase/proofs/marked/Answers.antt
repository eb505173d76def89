use Rattle.ride_phase.proofs.marked.Goals as goal

pub marks_at-requires : goal.marks_at-requires
marks_at-requires c = c.requires.limits
