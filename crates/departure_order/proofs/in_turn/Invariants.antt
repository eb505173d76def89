use Prim.Native.Nat.{◌≤◌}
use Rattle.departure_order.proofs.Turn.{Turned}
use Rattle.departure_order.proofs.in_turn.Given as goal

abbrev pub invariant-loop-s : goal.invariant-loop-s
invariant-loop-s l = (l.end ≤ l.d) × Turned l.tables l.c l.rows l.runs l.s l.end
