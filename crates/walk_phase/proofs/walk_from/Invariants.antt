use Rattle.model.specs.Tables.{edges_from}
use Rattle.model.specs.Search.{walk_from}
use Rattle.search_state.specs.View.{memory}
use Rattle.walk_phase.specs.Walking.{WalksAgree}
use Rattle.walk_phase.proofs.Along.{Along}
use Rattle.walk_phase.proofs.From.{walk_left}
use Rattle.walk_phase.proofs.walk_from.Given as goal

abbrev pub invariant-loop-e : goal.invariant-loop-e
invariant-loop-e l =
    Along l.lay l.stamp (WalksAgree l.lay l.ctx l.tables l.distances l.patterns l.initial.work) (λ T Q. walk_from T Q l.ctx.flagged l.stamp l.x l.v (edges_from T l.x))
    (λ T Q. walk_left T Q l.ctx.flagged l.stamp l.x l.v l.tables l.ctx.counts.timetable l.e) (memory l.initial.work l.initial.labels l.initial.label_distances l.initial.g) (memory l.work l.labels l.label_distances l.g)
