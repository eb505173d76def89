use Rattle.ride_step.proofs.Phased.{going_first, going_then, phase_is_ride, phase_over, phase_then, segments_first, waiting_then}
use mathlib.Core.Path.{◌∙◌, sym}
use Rattle.ride_phase.proofs.ride_phase.Goals as goal

pub ride_segments-x-requires : goal.ride_segments-x-requires
ride_segments-x-requires c =
    record { going = going_first c.requires.laid c.requires.opening _; segments = segments_first c.requires.laid c.requires.opening c.args.p.context.flagged c.ridden-m.result c.ridden-m.ensures }

pub shape_of-work-then-x : goal.shape_of-work-then-x
shape_of-work-then-x c = c.ride_segments-x.ensures.step.kept.size

pub shape_of-labels-then-x : goal.shape_of-labels-then-x
shape_of-labels-then-x c = c.ride_segments-x.ensures.step.ready.sized.rows ∙ sym c.requires.opening.ready.sized.rows

pub shape_of-label_distances-then-x : goal.shape_of-label_distances-then-x
shape_of-label_distances-then-x c = c.ride_segments-x.ensures.step.ready.sized.metres ∙ sym c.requires.opening.ready.sized.metres

pub shape_of-queue-then-x : goal.shape_of-queue-then-x
shape_of-queue-then-x c = c.ride_segments-x.ensures.step.size

pub returns-then-x : goal.returns-then-x
returns-then-x c =
    phase_is_ride c.requires.laid c.requires.opening c.args.p.context.flagged (phase_over c.requires.laid c.requires.opening c.args.p.context.flagged c.ridden-m.result c.ridden-m.ensures c.ride_segments-x.ensures c.if-x.true)

pub scan_stops-requires : goal.scan_stops-requires
scan_stops-requires c =
    record { going = going_then c.requires.laid c.requires.opening c.args.p.context.flagged c.ridden-m.result c.ridden-m.ensures c.ride_segments-x.ensures c.if-x.false; stops_listed = waiting_then c.requires.laid c.requires.opening c.args.p.context.flagged c.ridden-m.result c.ridden-m.ensures c.ride_segments-x.ensures c.if-x.false; change_bound = c.requires.opening.small }

pub shape_of-work : goal.shape_of-work
shape_of-work c = c.scan_stops.ensures.step.kept.size ∙ c.ride_segments-x.ensures.step.kept.size

pub shape_of-labels : goal.shape_of-labels
shape_of-labels c = c.scan_stops.ensures.step.ready.sized.rows ∙ sym c.requires.opening.ready.sized.rows

pub shape_of-label_distances : goal.shape_of-label_distances
shape_of-label_distances c = c.scan_stops.ensures.step.ready.sized.metres ∙ sym c.requires.opening.ready.sized.metres

pub shape_of-queue : goal.shape_of-queue
shape_of-queue c = c.scan_stops.ensures.step.size ∙ c.ride_segments-x.ensures.step.size

pub returns : goal.returns
returns c =
    phase_is_ride c.requires.laid c.requires.opening c.args.p.context.flagged (phase_then c.requires.laid c.requires.opening c.args.p.context.flagged c.ridden-m.result c.ridden-m.ensures c.ride_segments-x.ensures c.if-x.false c.scan_stops.ensures)
