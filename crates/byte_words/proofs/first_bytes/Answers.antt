use Prim.Native.Nat.{ℕ, ◌%◌}
use mathlib.Core.Path.{ap}
use Rattle.byte_words.proofs.Words.{one_shl_bytes}
use Rattle.byte_words.proofs.first_bytes.Goals as goal

pub returns : goal.returns
returns c = ap (λ (x : ℕ). c.args.word % x) (one_shl_bytes c.args.n c.requires)
