-- THE SEARCH IS AS IT WAS before document 02's T-02: today's boarding gives the departure, shift, window and run that it gave, and so every query has
-- the answer that it had, labels, candidates, scans and queued segments included.
-- It is said of the model, for all tables and all queries, admitted or not. Definitions only.
-- For a law: no contract rests on this.
use Rattle.std.specs.Prelude.{ℕ, ◌≡◌}
use Rattle.loops.specs.Iter.{Hit}
use Rattle.frequency.specs.Gtfs.{Window, earliest_freq_board}
use Rattle.model.specs.Tables.{Tables, Query}
use Rattle.model.specs.Search.{board_at, run_tbr, query}
use Rattle.boarding_laws.specs.Boarding.{as_before, earliest_before, board_before}
use Rattle.boarding_laws.specs.Search.{run_tbr_before, query_before}

pub record AsBefore : Type 0 where
  -- a trip boarded, with windows or without
  pub boarding : (T : Tables) (Q : Query) (adj : Hit) (t o after : ℕ) → as_before (board_at T Q adj t o after) ≡ board_before T Q adj t o after
  -- a trip with windows, by frequency boarding alone
  pub frequency : (n : ℕ) (window : ℕ → Window) (base dep after : ℕ)
      → as_before (earliest_freq_board n window base dep after) ≡ earliest_before n window base dep after
  -- the two calls
  pub query_same : (T : Tables) (Q : Query) → query T Q ≡ query_before T Q
  pub run_tbr_same : (T : Tables) (Q : Query) → run_tbr T Q ≡ run_tbr_before T Q
