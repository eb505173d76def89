use Prim.Native.Nat.{ℕ}
use Rattle.query_door.specs.Door.{column_below, mark_ranges}
use native.Mathlib.Omega.{arith}
use mathlib.Core.Path.{◌∙◌, ap}
use Rattle.query_door.proofs.mark_ranges.Goals as goal

pub marks_at-requires : goal.marks_at-requires
marks_at-requires c = c.requires.limits

pub column_below-requires : goal.column_below-requires
column_below-requires c = record { inside = λ i l. omega (arith, c.requires.transfer_runs_at, c.marks_at.ensures.value) }

pub returns : goal.returns
unfolding mark_ranges
returns c =
    c.column_below.ensures ∙ ap (λ (k : ℕ). column_below c.args.built.now k 1 c.args.counts.timetable.stops 2) c.marks_at.ensures.value
