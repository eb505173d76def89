use Prim.Native.Nat.{ℕ, ◌+◌}
use mathlib.Core.Path.{ap, sym, ◌∙◌}
use lib.ListN.{get_or}
use native.Mathlib.Omega.{arith}
use Rattle.search_state.proofs.Marking.{mark_room, mark_seen, mark_new}
use Rattle.search_state.proofs.mark.Goals as goal

pub returns-then-work-at : goal.returns-then-work-at
returns-then-work-at c =
    mark_seen c.args.lay c.args.work.now c.requires.work_sized c.args.stamp c.args.s c.args.v c.args.count c.requires.s_bound c.requires.counted
    (ap (λ (r : ℕ). get_or c.args.work.now (r + c.args.s) 0) (sym c.stamps_at.ensures) ∙ c.if-work-at.true)

pub enter-requires : goal.enter-requires
enter-requires c =
    let k = mark_room c.args.lay c.args.work.now c.requires.work_sized c.args.stamp c.args.s c.args.v c.args.count c.requires.s_bound c.requires.counted (λ h. c.if-work-at.false (ap (λ (r : ℕ). get_or c.args.work.now (r + c.args.s) 0) c.stamps_at.ensures ∙ h)) in record { work_sized = c.requires.work_sized; s_bound = c.requires.s_bound; count_bound = omega (arith, k) }

pub overflow_add-result : goal.overflow_add-result
overflow_add-result c =
    let k = mark_room c.args.lay c.args.work.now c.requires.work_sized c.args.stamp c.args.s c.args.v c.args.count c.requires.s_bound c.requires.counted (λ h. c.if-work-at.false (ap (λ (r : ℕ). get_or c.args.work.now (r + c.args.s) 0) c.stamps_at.ensures ∙ h)) in omega (arith, k)

pub returns : goal.returns
returns c =
    mark_new c.args.lay c.args.work.now c.requires.work_sized c.args.stamp c.args.s c.args.v c.args.count c.requires.s_bound c.requires.counted (λ h. c.if-work-at.false (ap (λ (r : ℕ). get_or c.args.work.now (r + c.args.s) 0) c.stamps_at.ensures ∙ h)) _ c.enter.ensures
