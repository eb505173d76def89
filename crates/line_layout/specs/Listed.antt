-- The questions of document 01 that concern the lines' table, and what a yes gives. Definitions only.
use Rattle.std.specs.Prelude.{ℕ, ◌+◌, ◌*◌, ◌<◌, ◌≤◌, ◌≡◌, Bool, List, length, get_or, ltb, leb}
use Rattle.loops.specs.Iter.{every_in}
use Rattle.tables.specs.declared.Counts.{Counts}
use Rattle.line_layout.specs.declared.LineRun.{LineRun}
use Rattle.line_layout.specs.Layout.{line_run_at}

-- 3: does a line's run lie in the n entries? A run without trips too.
unfoldable pub line_run_in : ℕ → LineRun → Bool
line_run_in n r = leb (r.first + r.count) n

unfoldable pub line_runs_ok : List ℕ → ℕ → ℕ → Bool
line_runs_ok runs lines n = every_in (λ l. line_run_in n (line_run_at runs l)) 0 lines

-- 4: is every entry's trip below the count?
unfoldable pub entries_ok : Counts → List ℕ → ℕ → Bool
entries_ok c entries n = every_in (λ p. ltb (get_or entries p 0) c.trips) 0 n

-- WHAT A YES GIVES. The entries:
pub record EntriesListed (c : Counts) (entries : List ℕ) : Type 0 where
  pub few : length entries ≤ 4096
  pub trip : (p : ℕ) → p < length entries → get_or entries p 0 < c.trips

-- the lines
pub record LinesListed (c : Counts) (lines : ℕ) (runs entries : List ℕ) : Type 0 where
  pub few : lines ≤ 4096
  pub size : length runs ≡ lines * 2
  pub run : (l : ℕ) → l < lines → (line_run_at runs l).first + (line_run_at runs l).count ≤ length entries
  pub known : EntriesListed c entries
