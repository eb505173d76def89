use Rattle.line_layout.proofs.Placing.{all_unlisted}
use Rattle.line_layout.proofs.line_positions.Goals as goal

pub place_lines-requires-clause-positions_is : goal.place_lines-requires-clause-positions_is
place_lines-requires-clause-positions_is c = all_unlisted _ _ _ (c.fill.ensures.after (λ y e. e)) c.requires.positions_length
