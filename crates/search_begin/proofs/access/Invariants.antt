use Rattle.search_state.specs.View.{memory}
use lib.ListN.{length}
use mathlib.Core.Path.{◌≡◌}
use Rattle.search_begin.specs.Laying.{Origins}
use Rattle.search_begin.proofs.Starting.{Going}
use Rattle.search_begin.proofs.access.Given as goal

abbrev pub invariant-loop-k : goal.invariant-loop-k
invariant-loop-k l = (l.initial.x.count ≡ 0) × Origins l.counts l.lay.stops l.query (length l.distances) × Going l.counts l.query l.distances l.lay (memory l.initial.work l.initial.labels l.initial.label_distances l.initial.x) (memory l.work l.labels l.label_distances l.x) l.k
