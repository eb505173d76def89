use mathlib.Core.Path.{sym}
use Rattle.loops.proofs.Search.{hit_below}
use Rattle.delay_lookup.proofs.Search.{found_hit}
use Rattle.delay_lookup.proofs.stop_delay.Goals as goal

pub stop_row_at-stop-requires : goal.stop_row_at-stop-requires
stop_row_at-stop-requires c = hit_below _ _ _ (found_hit _ _ (sym c.in-Some.ensures))
