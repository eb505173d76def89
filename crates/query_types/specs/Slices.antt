-- The slices that the rounds of a query read, by their names. Definitions only.
-- Inner: nobody has to believe this.
use Rattle.std.specs.Prelude.{ℕ, List}

pub record Slices : Type 0 where
  pub tables : List ℕ
  pub delay_rows : List ℕ
  pub stop_rows : List ℕ
  pub built : List ℕ
  pub patterns : List ℕ
  pub transfers : List ℕ

abbrev pub slices : List ℕ → List ℕ → List ℕ → List ℕ → List ℕ → List ℕ → Slices
slices tables delay_rows stop_rows built patterns transfers =
    record { tables = tables; delay_rows = delay_rows; stop_rows = stop_rows; built = built; patterns = patterns; transfers = transfers }
