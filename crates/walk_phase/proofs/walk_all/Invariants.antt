use lib.ListN.{drop}
use Rattle.model.specs.Search.{walk_all}
use Rattle.search_state.specs.Part.{part}
use Rattle.search_state.specs.View.{memory}
use Rattle.walk_phase.specs.Walking.{WalksAgree}
use Rattle.walk_phase.proofs.Along.{Along}
use Rattle.walk_phase.proofs.walk_all.Given as goal

abbrev pub invariant-loop-i : goal.invariant-loop-i
invariant-loop-i l =
    Along l.lay l.stamp (WalksAgree l.lay l.ctx l.tables l.distances l.patterns l.initial.work) (λ T Q. walk_all T Q l.ctx.flagged l.stamp (part l.initial.work l.lay.other l.n))
    (λ T Q. walk_all T Q l.ctx.flagged l.stamp (drop l.i (part l.initial.work l.lay.other l.n))) (memory l.initial.work l.initial.labels l.initial.label_distances l.initial.g) (memory l.work l.labels l.label_distances l.g)
