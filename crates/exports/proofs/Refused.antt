-- What each exported call's proof is made of: the two cases of a screen, and what a refusal gives where a call makes a part of it. Assumes nothing.
use mathlib.Core.Path.{◌≡◌, ap}
use Rattle.door.specs.declared.Answer.{Answer}
use Rattle.tally.proofs.Gate.{shut, opened, shut_tally, open_tally}
use Rattle.lines_call.specs.Call.{LineAreas}
use Rattle.transfers_call.specs.Call.{TransferAreas}
use Rattle.sized_calls.specs.Shown.{shown, shown_transfers}

pub shown_as : (r a : Answer) (s : LineAreas) → r ≡ a → shown r s ≡ shown a s
shown_as r a s e = ap (λ (b : Answer). shown b s) e

pub shown_transfers_as : (r a : Answer) (s : TransferAreas) → r ≡ a → shown_transfers r s ≡ shown_transfers a s
shown_transfers_as r a s e = ap (λ (b : Answer). shown_transfers b s) e

pub ruleset gate = (shut, opened, shut_tally, open_tally, shown_as, shown_transfers_as)
