use Rattle.std.proofs.Common.{rules}
use borrow.Author.Tests.{tests}
use Rattle.byte_words.specs.ByteWord.{byte_in, eight_of}
use Rattle.byte_words.proofs.Words.{tab_made}
use Rattle.byte_words.proofs.words_of.Goals as goal

pub returns : goal.returns
returns c = tab_made _ (eight_of (byte_in c.args.bytes)) 8 _ c.from_fn.ensures.items (λ x y q k. search (rules, tests))
