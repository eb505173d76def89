use Prim.Native.Nat.{ℕ}
use Rattle.query_door.specs.Door.{query_question4}
use Rattle.query_input.proofs.Parts.{marks_room, query_room, rows_size}
use Rattle.departures.specs.Listed.{listed_ok}
use lib.ListN.{length}
use mathlib.Core.Path.{◌∙◌, ap, ap₂}
use mathlib.Core.Bool.{◌&&◌}
use mathlib.Core.List.{List}
use Rattle.query_door.proofs.numbers_ok.Goals as goal

pub stop_runs-requires : goal.stop_runs-requires
stop_runs-requires c = record { limits = c.requires.limits; marks_at = marks_room c.requires.read_sized }

pub departure_rows-requires : goal.departure_rows-requires
departure_rows-requires c = record { limits = c.requires.limits; marks_at = marks_room c.requires.read_sized }

pub listed_ok-listed-requires : goal.listed_ok-listed-requires
listed_ok-listed-requires c =
    record { slices_ok = c.requires.read_sized.slices; runs_ok = c.requires.placed.trips; runs_listed = rw c.stop_runs.ensures c.requires.placed.stops; rows_length = ap length c.departure_rows.ensures ∙ rows_size c.args.built.now c.args.counts (marks_room c.requires.read_sized) }

pub numbers_ok-requires : goal.numbers_ok-requires
numbers_ok-requires c = record { counts_ok = c.requires.limits.counts; slices_ok = c.requires.read_sized.slices }

pub line_numbers-requires : goal.line_numbers-requires
line_numbers-requires c = record { limits = c.requires.limits; marks_at = marks_room c.requires.read_sized }

pub query_numbers-requires : goal.query_numbers-requires
query_numbers-requires c = record { limits = c.requires.limits; query_size = query_room c.requires.read_sized }

pub delay_numbers-requires : goal.delay_numbers-requires
delay_numbers-requires c = record { limits = c.requires.limits; query_size = query_room c.requires.read_sized }
