use Prim.Native.Nat.{◌≤◌}
use mathlib.Core.Path.{◌≡◌}
use mathlib.Core.Bool.{◌&&◌}
use Rattle.loops.specs.Iter.{every_in}
use Rattle.query_door.proofs.Once.{inside_from, runs_kept}
use Rattle.query_door.proofs.transfer_runs_ok.Given as goal

abbrev pub invariant-loop-e : goal.invariant-loop-e
invariant-loop-e l = (l.limit ≡ l.transfer_rows) × (l.e ≤ l.events) × (every_in (inside_from l.built l.from l.transfer_rows) 0 l.events ≡ runs_kept l.inside l.bits && every_in (inside_from l.built l.from l.transfer_rows) l.e l.events)
