use Rattle.line_layout.specs.Layout.{in_order}
use Rattle.loops.specs.Iter.{every_in}
use mathlib.Core.Bool.{Bool}
use mathlib.Core.Path.{◌≡◌}
use Prim.Native.Nat.{◌+◌, ◌≤◌, ℕ}
use Rattle.tables.specs.Tables.{stop_time_at}
use Rattle.line_layout.proofs.times_in_order.Given as goal

abbrev pub invariant-loop-k : goal.invariant-loop-k
invariant-loop-k l =
    let f : ℕ → Bool = λ j. in_order (stop_time_at l.tables (l.x + j)) (stop_time_at l.tables (l.y + j)) in
    (l.k ≤ l.n) × (every_in f 0 l.n ≡ every_in f l.k l.n)
