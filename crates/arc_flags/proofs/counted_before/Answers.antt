use mathlib.Core.Path.{ap, ◌∙◌}
use Prim.Native.Nat.{ℕ, min}
use lib.ListN.{get_or}
use Rattle.arc_flags.proofs.Laws.{counted_by}
use Rattle.arc_flags.proofs.counted_before.Goals as goal

pub returns : goal.returns
returns c =
    λ f h. ap (λ (i : ℕ). get_or c.args.counts.now i 0) (c.min.ensures ∙ ap (λ (i : ℕ). min i c.args.n) c.saturating_sub.ensures) ∙ counted_by f c.args.from c.args.n c.args.counts.now h c.args.k
