use Rattle.std.proofs.Common.{rules}
use Rattle.frequency_call.proofs.FrequencyCall.{nominal}
use Rattle.frequency_call.proofs.freq_board.Goals as goal

pub earliest_freq_board-requires : goal.earliest_freq_board-requires
earliest_freq_board-requires c = nominal c.args.count c.args.windows.now _ _ _ (search rules) (search rules) (search rules)
