use mathlib.Core.Path.{◌∙◌}
use Rattle.byte_words.specs.ByteWord.{byte_in}
use Rattle.byte_words.proofs.Words.{eight}
use Rattle.byte_words.proofs.word_at.Goals as goal

pub returns : goal.returns
returns c = c.from_le_bytes.ensures ∙ eight (byte_in c.args.bytes.now) c.args.at
