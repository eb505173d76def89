use Rattle.frequency_call.specs.FrequencyCall.{window_in_range, windows_in_range}
use Rattle.frequency.specs.Gtfs.{window_in, window_count}
use Rattle.loops.specs.Iter.{every_in}
use mathlib.Core.Path.{◌≡◌}
use Prim.Native.Nat.{◌≤◌}
use Rattle.frequency_call.proofs.windows_in_range.Given as goal

abbrev pub invariant-loop-i : goal.invariant-loop-i
invariant-loop-i l = (l.i ≤ window_count l.windows) × (windows_in_range l.windows ≡ every_in (λ k. window_in_range (window_in l.windows k)) l.i (window_count l.windows))
