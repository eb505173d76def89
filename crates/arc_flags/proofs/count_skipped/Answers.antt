use Rattle.loops.specs.Count.{one}
use Rattle.loops.specs.Count as counting
use Rattle.loops.proofs.Count.{count_step, one_le, fill_again}
use Rattle.arc_flags.proofs.Laws.{count_zero}
use Rattle.arc_flags.specs.Skipping.{row_skipped}
use mathlib.Core.Bool.{Bool}
use mathlib.Core.Path.{◌≡◌, refl, ap, ap₂, sym, ◌∙◌}
use Prim.Native.Nat.{ℕ, ◌+◌}
use lib.ListN.{set, length-set}
use native.Mathlib.Omega.{arith}
use Rattle.arc_flags.proofs.count_skipped.Goals as goal

pub loop-k-init : goal.loop-k-init
loop-k-init c =
    ((omega arith, refl), λ T Q a. (count_zero (λ i. row_skipped T Q c.args.transfers.now (c.args.from + i)), λ j l. absurd (omega arith)))

pub loop-k-preserved : goal.loop-k-preserved
loop-k-preserved c =
    let w = c.loop-k in ((omega (arith, w.invariant.0.0, c.from-skipped.ensures, one_le c.row_skipped.result), simp length-set w.invariant.0.1), λ T Q a. let f : ℕ → Bool = λ i. row_skipped T Q c.args.transfers.now (c.args.from + i) in (ap₂ ◌+◌ (w.invariant.1 T Q a).0 (c.from-skipped.ensures ∙ ap one (c.row_skipped.ensures T Q a)) ∙ sym (count_step f w.k), fill_again (counting.count f) w.k w.counts _ (w.invariant.1 T Q a).1 (ap (set w.counts w.k) (w.invariant.1 T Q a).0) (omega (arith, c.requires.n_bound, w.invariant.0.1))))

pub returns : goal.returns
returns c =
    let w = c.loop-k in let e : w.k ≡ c.args.n = omega (arith, w.auto.k-end) in record { counted = λ T Q a. let f : ℕ → Bool = λ i. row_skipped T Q c.args.transfers.now (c.args.from + i) in record { before = λ j l. fill_again (counting.count f) c.args.n w.counts _ (λ i u. (w.invariant.1 T Q a).1 i (omega arith)) (ap (set w.counts c.args.n) ((w.invariant.1 T Q a).0 ∙ ap (counting.count f) e)) (omega (arith, c.requires.n_bound, w.invariant.0.1)) j (omega arith) } }
