-- What a caller sees of a call that answers a number: the answer as document 01 numbers it, and the slices. Definitions only.
use Rattle.door.specs.declared.Answer.{Answer}
use Rattle.lines_call.specs.Call.{LineAreas, LinesOutcome}
use Rattle.transfers_call.specs.Call.{TransferAreas, TransfersOutcome}

pub record Shown : Type 0 where
  pub answer : Answer
  pub areas : LineAreas

abbrev pub shown : Answer → LineAreas → Shown
shown a s = record { answer = a; areas = s }

abbrev pub shown_of : LinesOutcome → Shown
shown_of o = shown o.answer o.areas

-- the same of the transfers
pub record ShownTransfers : Type 0 where
  pub answer : Answer
  pub areas : TransferAreas

abbrev pub shown_transfers : Answer → TransferAreas → ShownTransfers
shown_transfers a s = record { answer = a; areas = s }

abbrev pub shown_transfers_of : TransfersOutcome → ShownTransfers
shown_transfers_of o = shown_transfers o.answer o.areas
