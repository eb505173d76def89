use Rattle.loops.proofs.Iter.{range_left}
use Rattle.frequency.proofs.Best.{again, none_yet}
use native.Mathlib.Omega.{arith}
use mathlib.Core.Path.{◌∙◌, refl}
use Rattle.frequency.proofs.earliest_freq_board.Goals as goal

pub loop-i-init : goal.loop-i-init
loop-i-init c = none_yet _ _ _ _ _ _ refl

pub loop-i-preserved : goal.loop-i-preserved
loop-i-preserved c = again _ _ _ _ _ c.requires _ (omega arith) _ c.loop-i.invariant.1 _ _ _ c.run_at.ensures c.earlier-best.ensures c.loop-i.invariant.0

pub board_at-requires : goal.board_at-requires
board_at-requires c = record { nominal = c.requires; drawn = c.loop-i.invariant.1 }

pub returns : goal.returns
returns c = c.board_at.ensures ∙ range_left _ _ _ c.loop-i.invariant.0 (omega arith)
