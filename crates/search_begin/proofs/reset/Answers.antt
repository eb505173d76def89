use Prim.Native.Nat.{ℕ}
use mathlib.Core.Path.{ap, ◌∙◌}
use Prim.Native.Nat.{◌+◌}
use native.Mathlib.Omega.{arith}
use lib.ListN.{length, replicate, length-replicate}
use Rattle.search_begin.proofs.Sections.{fill_part, filled_at}
use lib.Ieee.{Float}
use Rattle.label.specs.Label.{no_distance}
use Rattle.search_begin.proofs.Filling.{fresh}
use Rattle.search_state.proofs.Part.{few_of}
use Rattle.search_begin.proofs.reset.Goals as goal

pub reach_at-reach-requires : goal.reach_at-reach-requires
reach_at-reach-requires c = few_of c.requires.sections

pub returns : goal.returns
returns c =
    let r = c.reach_at-reach.result in
    let n = ap length c.zero_all.ensures.work_new ∙ length-replicate (length c.args.work.now) 0 in
    let one = fill_part 0 c.args.lay.stops 4294967295 c.zero_all.new.work c.fill.new.self (omega arith) (omega (arith, n, c.requires.sections.words)) (c.fill.ensures.after (λ y e. e)) in
    let two = fill_part r (r + c.args.lay.trips) 4294967295 _ c.fill-2.new.self (omega arith) (omega (arith, n, one.size, c.reach_at-reach.ensures, c.requires.sections.words)) (c.fill-2.ensures.after (λ y e. e)) in
    record {
      fresh = fresh c.args.lay c.args.work.now _ _ _ _ _ c.requires.sections c.zero_all.ensures.work_new one (filled_at _ c.reach_at-reach.ensures two) (c.zero_all.ensures.labels_new ∙ ap (λ (n : ℕ). replicate {A = ℕ} n 0) c.requires.rows) (c.zero_all.ensures.label_distances_new ∙ ap (λ (n : ℕ). replicate {A = Float} n no_distance) c.requires.metres);
      label_distances_new = c.zero_all.ensures.label_distances_new;
    }
