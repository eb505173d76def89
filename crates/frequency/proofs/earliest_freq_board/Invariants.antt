use Rattle.loops.specs.Iter.{range}
use Rattle.frequency.specs.Gtfs.{board_next, earliest_freq_board, window_in, window_count}
use mathlib.Core.Path.{◌≡◌}
use Rattle.frequency.specs.Found.{Drawn, board_of}
use Rattle.frequency.proofs.earliest_freq_board.Given as goal

abbrev pub invariant-loop-i : goal.invariant-loop-i
invariant-loop-i l = (earliest_freq_board (window_count l.windows) (window_in l.windows) l.base l.dep l.after ≡ range (board_next (window_in l.windows) l.base l.dep l.after) l.i (window_count l.windows) (board_of (window_in l.windows) l.best l.base l.dep l.after)) × Drawn (window_count l.windows) (window_in l.windows) l.base l.dep l.after l.best
