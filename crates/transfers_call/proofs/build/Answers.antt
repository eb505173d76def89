use lib.Seq.{length-take-le}
use mathlib.Core.Path.{sym}
use Rattle.transfers_call.proofs.build.Goals as goal

pub slice_bounds-build_in-end-2 : goal.slice_bounds-build_in-end-2
slice_bounds-build_in-end-2 c = sym (length-take-le _ _ c.requires.d_bound)

pub slice_bounds-build_in-end-4 : goal.slice_bounds-build_in-end-4
slice_bounds-build_in-end-4 c = sym (length-take-le _ _ c.requires.d_bound_2)

pub build_in-requires : goal.build_in-requires
build_in-requires c =
    record { transfers_admitted = c.requires.transfers_admitted; work_length = length-take-le _ _ c.requires.d_bound; other_length = length-take-le _ _ c.requires.d_bound_2 }
