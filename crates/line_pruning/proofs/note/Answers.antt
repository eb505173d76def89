use mathlib.Core.Path.{refl}
use Rattle.trip_boarding.specs.Reads.{hit_of}
use Rattle.line_pruning.proofs.Noting.{noted_as, sized_as}
use Rattle.line_pruning.proofs.note.Goals as goal

pub list-requires : goal.list-requires
list-requires c =
    record { work_sized = c.requires.work_sized; prunes_is = λ e. c.prunable-prunes.ensures.value e; trip_bound = c.requires.trip_bound }

pub stamp_trip-requires : goal.stamp_trip-requires
stamp_trip-requires c =
    record { work_sized = sized_as c.args.lay c.args.work.now _ c.requires.work_sized c.requires.chains c.requires.trip_bound _ _ _ c.list.ensures (λ e. c.prunable-prunes.ensures.value e); trip_bound = c.requires.trip_bound }

pub returns : goal.returns
returns c =
    noted_as c.args.lay c.args.stamp c.args.work.now c.requires.work_sized c.requires.chains _ c.args.trip c.args.off c.requires.trip_bound c.args.built.now (hit_of c.args.adj) c.args.dep _ (λ e. c.prunable-prunes.ensures.value e) refl c.prunable-prunes.ensures.meaning _ _ c.list.ensures c.stamp_trip.ensures
