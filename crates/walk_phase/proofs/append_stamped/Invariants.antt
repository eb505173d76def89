use Rattle.search_state.specs.Part.{part}
use Rattle.walk_phase.specs.Lists.{Appended, bearing}
use Rattle.walk_phase.proofs.append_stamped.Given as goal

abbrev pub invariant-loop-i : goal.invariant-loop-i
invariant-loop-i l = Appended l.lay l.initial.work l.work l.count l.k (bearing l.lay l.stamp l.initial.work (part l.initial.work l.lay.other l.i))
