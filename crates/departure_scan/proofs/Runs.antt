-- A stop's run as it was read, and the part of the departures that it names.
use Prim.Native.Nat.{ℕ, ◌+◌, ◌*◌, ◌≤◌}
use mathlib.Core.Path.{◌≡◌, ap₂, ◌∙◌}
use mathlib.Core.List.{List}
use native.Mathlib.Omega.{arith}
use lib.ListN.{length}
use Rattle.departures.specs.declared.StopRun.{StopRun}
use Rattle.departures.specs.Departures.{run_at, run_end, part_of, departures_of}
use Rattle.departures.proofs.Parts.{run_part}

module _ (runs rows runs' rows' : List ℕ) (x : ℕ) (r : StopRun) (e : runs' ≡ runs) (f : r ≡ run_at runs' x) (g : rows' ≡ rows) where
  pub run_fits : (d : ℕ) → run_end runs x ≤ d → length rows ≡ d * 2 → (r.first + r.length) * 2 ≤ length rows'
  run_fits d u z = rw (f, e, g) (omega (arith, u, z))

  pub run_names : (part : List ℕ) → part ≡ part_of rows' r.first r.length → part ≡ departures_of runs rows x
  run_names part p = run_part runs' rows' x r f part p ∙ ap₂ (λ (a b : List ℕ). departures_of a b x) e g
