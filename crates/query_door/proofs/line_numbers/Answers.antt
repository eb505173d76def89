use Prim.Native.Nat.{ℕ}
use Rattle.query_door.specs.Door.{line_numbers}
use lib.ListN.{length}
use Rattle.line_layout.specs.Listed.{entries_ok}
use Rattle.query_input.proofs.Parts.{entries_size}
use native.Mathlib.Omega.{arith}
use mathlib.Core.Path.{◌∙◌, ap, ap₂}
use mathlib.Core.Bool.{◌&&◌}
use mathlib.Core.List.{List}
use Rattle.query_door.proofs.line_numbers.Goals as goal

pub column_below-lines-requires : goal.column_below-lines-requires
column_below-lines-requires c = record { inside = λ i l. omega (arith, c.requires.marks_at) }

pub entries_ok-entries-requires : goal.entries_ok-entries-requires
entries_ok-entries-requires c = ap length c.line_entries.ensures ∙ entries_size c.args.built.now c.args.counts c.requires.marks_at
