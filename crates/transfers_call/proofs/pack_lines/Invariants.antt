use Rattle.event_transfers.specs.Packed.{packed_line_at}
use lib.ListN.{get_or, length}
use mathlib.Core.Path.{◌≡◌}
use Prim.Native.Nat.{◌<◌, ◌≤◌, ℕ}
use Rattle.transfers_call.proofs.pack_lines.Given as goal

abbrev pub invariant-loop-k : goal.invariant-loop-k
invariant-loop-k l = (l.k ≤ l.d) × (length l.work ≡ length l.initial.work) × ((j : ℕ) → j < l.k → get_or l.work j 0 ≡ packed_line_at l.tables l.c l.lines l.rows j)
