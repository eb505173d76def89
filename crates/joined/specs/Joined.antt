-- HOW A RIDE IS JOINED to a label before it: the stop where a trip is boarded has a label of its own, early enough for the boarding.
-- It is said of the labels that an answer gives. It is not said that this label is the one from which the search boarded: a label may be
-- replaced by an earlier one of the same stop and row until its round ends. Nor is it said how that label came about; its own kind says
-- that. Its row is at most the ride's. It may be the ride's own row: a stop that is reached earlier within a round is boarded at that
-- earlier time, where its departures are scanned later in the same round; it may even be the ride's own label, where a trip whose times fall
-- comes back to the stop before it left.
-- Assumes nothing; proofs/Joined proves it of every admitted answer. Definitions only.
use Rattle.std.specs.Prelude.{ℕ, suc, ◌+◌, ◌≤◌, ◌<◌, ◌≡◌, List, Some}
use Rattle.frequency.specs.declared.BoardedRun.{BoardedRun}
use Rattle.label.specs.declared.Label.{Label}
use Rattle.label.specs.declared.Label.TheVariants.{Transit}
use Rattle.model.specs.Tables.{Tables, Query, change_before, stops}
use Rattle.model.specs.Search.{reached_by, delay_of, board_at}
use Rattle.answer_laws.specs.Lawful.{label_in}

-- stop x is reached in time: it has a label in row `row` or in a lower one, and its arrival with the change time is no later than `time`
pub record InTime (labels : List Label) (row x change time : ℕ) : Type 0 where
  -- the row of the label before
  pub before : ℕ
  pub not-above : before ≤ row
  -- its arrival
  pub reached : ℕ
  pub label : reached_by (label_in labels x before) ≡ suc reached
  pub in_time : reached + change ≤ time

-- what a ride of round r was boarded from: trip t was boarded at stop x, its offset o, as `board_at` finds it from the time `after` on, which
-- gives the time shift; x is reached in time for `after`, with the change time before round r (none in the first). So the trip departs
-- from x no sooner than the change time after the arrival of a label of x.
pub record BoardedFrom (T : Tables) (Q : Query) (labels : List Label) (row x t o r shift : ℕ) : Type 0 where
  pub after : ℕ
  pub reaches : InTime labels row x (change_before Q r) after
  pub boarding : BoardedRun
  pub boards : board_at T Q (delay_of Q t) t o after ≡ Some boarding
  pub shift_is : shift ≡ boarding.time_shift_s
  pub departs : after ≤ boarding.departure

-- WITHOUT ARC FLAGS: every ride's label, of any stop s
pub record Joined (T : Tables) (Q : Query) (labels : List Label) : Type 0 where
  pub joins : (s row v t x o p r shift : ℕ) → s < stops T → row < 13 → label_in labels s row ≡ Transit v t x o p r shift
      → BoardedFrom T Q labels row x t o r shift

-- with arc flags a trip may also be boarded by a precomputed transfer, which has a time of its own in place of the change time: x is
-- reached no later than the trip departs there
pub record BoardedBy (T : Tables) (Q : Query) (labels : List Label) (row x t o shift : ℕ) : Type 0 where
  pub after : ℕ
  pub boarding : BoardedRun
  pub boards : board_at T Q (delay_of Q t) t o after ≡ Some boarding
  pub shift_is : shift ≡ boarding.time_shift_s
  pub reaches : InTime labels row x 0 boarding.departure

-- WITH OR WITHOUT ARC FLAGS: every ride's label, of any stop s
pub record JoinedByDeparture (T : Tables) (Q : Query) (labels : List Label) : Type 0 where
  pub joins : (s row v t x o p r shift : ℕ) → s < stops T → row < 13 → label_in labels s row ≡ Transit v t x o p r shift
      → BoardedBy T Q labels row x t o shift
