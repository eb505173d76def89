use Rattle.query_input.specs.Lent.{lent, query_of, tables_of}
use Rattle.rounds.specs.Round.{Running}
use Rattle.search_state.specs.View.{memory}
use lib.ListN.{length}
use Rattle.query_types.specs.Slices.{slices}
use Rattle.rounds.proofs.rounds.Given as goal

abbrev pub invariant-loop-r : goal.invariant-loop-r
invariant-loop-r l =
    Running l.ctx (slices l.tables l.delay_rows l.stop_rows l.built l.patterns l.transfers) (tables_of (lent l.ctx.counts l.tables l.built l.transfers l.patterns l.distances l.query)) (query_of (lent l.ctx.counts l.tables l.built l.transfers l.patterns l.distances l.query)) l.limit l.r l.even (length l.initial.queue_a)
    (memory l.work l.labels l.label_distances l.g) l.queue_a l.queue_b
