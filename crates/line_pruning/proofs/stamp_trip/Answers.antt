use native.Mathlib.Omega.{arith}
use lib.ListN.{length-set}
use Rattle.search_state.proofs.Part.{few_of}
use Rattle.line_pruning.proofs.Reading.{stamped-as}
use Rattle.line_pruning.proofs.stamp_trip.Goals as goal

pub trip_stamps_at-requires : goal.trip_stamps_at-requires
trip_stamps_at-requires c = few_of c.requires.work_sized

pub boarded_offsets_at-requires : goal.boarded_offsets_at-requires
boarded_offsets_at-requires c = few_of c.requires.work_sized

pub boarded_departures_at-requires : goal.boarded_departures_at-requires
boarded_departures_at-requires c = few_of c.requires.work_sized

pub bounds-work-offset : goal.bounds-work-offset
bounds-work-offset c = simp length-set (omega (arith, c.requires.work_sized.words, c.requires.trip_bound, c.boarded_offsets_at.ensures))

pub bounds-work-departure : goal.bounds-work-departure
bounds-work-departure c = simp length-set (omega (arith, c.requires.work_sized.words, c.requires.trip_bound, c.boarded_departures_at.ensures))

pub returns : goal.returns
returns c =
    stamped-as c.args.lay c.args.stamp c.args.trip c.args.off c.args.dep _ _ _ c.args.work.now c.trip_stamps_at.ensures c.boarded_offsets_at.ensures c.boarded_departures_at.ensures
