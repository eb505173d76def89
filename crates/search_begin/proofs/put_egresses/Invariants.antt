use Prim.Native.Nat.{◌-◌, ◌≤◌}
use lib.ListN.{length}
use Rattle.loops.specs.Count.{tab_from}
use Rattle.search_state.specs.Places.{WorkSized}
use Rattle.search_begin.specs.Fill.{EgressRows, Egressed, egress_row_from}
use Rattle.search_begin.proofs.put_egresses.Given as goal

abbrev pub invariant-loop-k : goal.invariant-loop-k
invariant-loop-k l = (l.k ≤ l.n) × WorkSized l.lay (length l.work) × EgressRows l.lay l.query l.first l.n × Egressed (tab_from (egress_row_from l.query l.first) l.k (l.n - l.k)) l.lay l.initial.work l.work
