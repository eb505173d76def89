use Rattle.model.specs.Search.{resolve_in}
use Rattle.target_resolving.proofs.Laws.{left}
use mathlib.Core.Path.{◌≡◌}
use Prim.Native.Nat.{ℕ}
use Rattle.model.specs.Tables.{Query, Tables}
use Rattle.target_resolving.specs.Resolving.{TripsAt}
use Rattle.trip_boarding.specs.Reads.{Agree, Asks}
use Rattle.target_resolving.proofs.resolve_in.Given as goal

abbrev pub invariant-loop-j : goal.invariant-loop-j
invariant-loop-j l =
    (T : Tables) (Q : Query) (trip : ℕ → ℕ) (p : ℕ) → Agree T Q l.tables l.c l.delay_rows l.stop_rows → Asks Q l.terms → TripsAt trip p l.built l.from l.k → resolve_in T Q l.is_fifo l.off l.after l.best trip l.k p ≡ left T Q l.is_fifo l.off l.after l.best trip l.k p l.j
