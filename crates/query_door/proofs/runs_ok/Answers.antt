use Prim.Native.Nat.{ℕ}
use Rattle.departures.specs.Listed.{stop_runs_ok}
use Rattle.query_door.specs.Door.{query_question3, transfer_runs_ok}
use Rattle.line_layout.specs.Listed.{line_runs_ok}
use Rattle.query_input.proofs.Parts.{line_runs_size, stop_runs_size}
use lib.ListN.{length}
use native.Mathlib.Omega.{arith}
use mathlib.Core.Path.{◌∙◌, ap, ap₂}
use mathlib.Core.Bool.{◌&&◌}
use mathlib.Core.List.{List}
use Rattle.query_door.proofs.runs_ok.Goals as goal

pub line_runs-requires : goal.line_runs-requires
line_runs-requires c = record { limits = c.requires.limits; marks_at = omega (arith, c.requires.built_length) }

pub line_runs_ok-lines-requires : goal.line_runs_ok-lines-requires
line_runs_ok-lines-requires c = ap length c.line_runs.ensures ∙ line_runs_size c.args.built.now c.args.counts (omega (arith, c.requires.built_length))

pub stop_runs-requires : goal.stop_runs-requires
stop_runs-requires c = record { limits = c.requires.limits; marks_at = omega (arith, c.requires.built_length) }

pub stop_runs_ok-stops-requires : goal.stop_runs_ok-stops-requires
stop_runs_ok-stops-requires c = ap length c.stop_runs.ensures ∙ stop_runs_size c.args.built.now c.args.counts (omega (arith, c.requires.built_length))

pub event_count-events-requires : goal.event_count-events-requires
event_count-events-requires c = record { counts_ok = c.requires.limits.counts; slices_ok = c.requires.slices_ok }

pub runs_ok-requires : goal.runs_ok-requires
runs_ok-requires c = record { counts_ok = c.requires.limits.counts; slices_ok = c.requires.slices_ok }

pub transfer_runs_ok-requires : goal.transfer_runs_ok-requires
transfer_runs_ok-requires c =
    record { limits = c.requires.limits; transfer_runs_at = omega (arith, c.requires.built_length, c.event_count-events.ensures.value); transfer_rows_bound = c.requires.transfer_rows_bound }
