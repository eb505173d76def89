use Rattle.query_door.specs.Door.{query_question5}
use Rattle.query_input.proofs.Parts.{query_room, runs_room}
use native.Mathlib.Omega.{arith}
use mathlib.Core.Path.{◌∙◌, ap₂}
use mathlib.Core.Bool.{◌&&◌}
use Rattle.query_door.proofs.ranges_ok.Goals as goal

pub ranges_ok-requires : goal.ranges_ok-requires
ranges_ok-requires c = record { counts_ok = c.requires.limits.counts; slices_ok = c.requires.read_sized.slices }

pub mark_ranges-requires : goal.mark_ranges-requires
mark_ranges-requires c = record { limits = c.requires.limits; transfer_runs_at = runs_room c.requires.read_sized }

pub transfer_ranges-requires : goal.transfer_ranges-requires
transfer_ranges-requires c = c.requires.transfer_rows_bound

pub query_ranges-requires : goal.query_ranges-requires
query_ranges-requires c = omega (arith, query_room c.requires.read_sized)

pub walk_ranges-requires : goal.walk_ranges-requires
walk_ranges-requires c = record { limits = c.requires.limits; query_size = query_room c.requires.read_sized }

pub delay_ranges-requires : goal.delay_ranges-requires
delay_ranges-requires c = record { limits = c.requires.limits; query_size = query_room c.requires.read_sized }
