use Rattle.ride_phase.proofs.Stopping.{list_ordered, stop_late, stop_scanned}
use mathlib.Core.Path.{◌∙◌, refl, sym}
use native.Mathlib.Omega.{arith}
use Prim.Native.Nat.{◌-◌}
use Rattle.ride_phase.proofs.scan_stop.Goals as goal

pub returns-then-h-after : goal.returns-then-h-after
returns-then-h-after c =
    stop_late c.requires.going c.args.p.context.flagged (c.args.p.stamp - 2) c.args.p.change c.args.x c.requires.x_bound c.requires.work_word c.if-h-after.true

pub marked-has_freq-requires : goal.marked-has_freq-requires
marked-has_freq-requires c = record { limits = c.requires.going.laid.limits; marks_at = c.requires.going.laid.long; x_bound = c.requires.x_bound }

pub departures_from-list-requires : goal.departures_from-list-requires
departures_from-list-requires c =
    record { limits = c.requires.going.laid.limits; marks_at = omega (arith, c.requires.going.laid.long); runs_listed = c.requires.going.laid.listed.stops; x_bound = c.requires.x_bound; rows_ordered = list_ordered c.requires.going.laid c.args.x c.requires.x_bound _ refl }

pub scan_departures-requires : goal.scan_departures-requires
scan_departures-requires c =
    record { going = c.requires.going; rows_known = c.departures_from-list.ensures.rows_known; after_bound = omega (arith, c.requires.work_word, c.requires.change_bound) }

pub shape_of-work : goal.shape_of-work
shape_of-work c = c.scan_departures.ensures.step.kept.size

pub shape_of-labels : goal.shape_of-labels
shape_of-labels c = c.scan_departures.ensures.step.ready.sized.rows ∙ sym c.requires.going.ready.sized.rows

pub shape_of-label_distances : goal.shape_of-label_distances
shape_of-label_distances c = c.scan_departures.ensures.step.ready.sized.metres ∙ sym c.requires.going.ready.sized.metres

pub shape_of-queue : goal.shape_of-queue
shape_of-queue c = c.scan_departures.ensures.step.size

pub returns : goal.returns
returns c =
    stop_scanned c.requires.going c.args.p.context.flagged (c.args.p.stamp - 2) c.args.p.change c.args.x c.requires.x_bound c.requires.work_word c.if-h-after.false _ refl c.marked-has_freq.result c.marked-has_freq.ensures _ c.saturating_sub-from.ensures c.departures_from-list.result.now c.departures_from-list.ensures.meaning c.scan_departures.ensures
