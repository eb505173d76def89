use Prim.Native.Nat.{ℕ, ◌+◌}
use mathlib.Core.Path.{ap, sym, ◌∙◌}
use lib.ListN.{get_or}
use Rattle.walk_phase.proofs.Appending.{append_none, append_more}
use Rattle.walk_phase.proofs.append_one.Goals as goal

pub returns-then-work-at : goal.returns-then-work-at
returns-then-work-at c =
    append_none c.args.lay c.args.work.now c.requires.work_sized c.args.stamp c.args.s c.args.count c.requires.s_bound
    (λ h. c.if-work-at.true (ap (λ (r : ℕ). get_or c.args.work.now (r + c.args.s) 0) c.stamps_at.ensures ∙ h))

pub returns : goal.returns
returns c =
    append_more c.args.lay c.args.work.now c.requires.work_sized c.args.stamp c.args.s c.args.count c.requires.s_bound (ap (λ (r : ℕ). get_or c.args.work.now (r + c.args.s) 0) (sym c.stamps_at.ensures) ∙ c.if-work-at.false) c.requires.count_bound
