use Rattle.query_door.specs.Door.{walk_ranges}
use native.Mathlib.Omega.{arith}
use mathlib.Core.Path.{◌∙◌, ap₂}
use mathlib.Core.Bool.{◌&&◌}
use Rattle.query_door.proofs.walk_ranges.Goals as goal

pub column_below-origins-requires : goal.column_below-origins-requires
column_below-origins-requires c = record { inside = λ i l. omega (arith, c.requires.query_size) }

pub overflow_mul-counts : goal.overflow_mul-counts
overflow_mul-counts c = omega (arith, c.requires.limits.origins)

pub overflow_add-counts : goal.overflow_add-counts
overflow_add-counts c = omega (arith, c.requires.limits.origins)

pub overflow_add-counts-2 : goal.overflow_add-counts-2
overflow_add-counts-2 c = omega (arith, c.requires.limits.origins)

pub column_below-egress-requires : goal.column_below-egress-requires
column_below-egress-requires c = record { inside = λ i l. omega (arith, c.requires.query_size) }
