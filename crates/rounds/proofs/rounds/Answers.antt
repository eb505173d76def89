use Rattle.walk_time.proofs.Laws.{rounds_most}
use mathlib.Core.Path.{refl, sym, ◌∙◌}
use Rattle.query_input.specs.Lent.{lent}
use lib.ListN.{get_or}
use Rattle.rounds.proofs.Loop.{ended_early, ended_last, fed_of, loop_open, loop_start, loop_turn}
use native.Mathlib.Omega.{arith}
use Rattle.rounds.proofs.rounds.Goals as goal

pub loop-r-init : goal.loop-r-init
loop-r-init c =
    loop_start c.requires _ _ _ _ _ c.delay_rows-delay_rows.ensures c.stop_rows-stop_rows.ensures c.tbr_max_rounds-limit.ensures refl refl

pub returns-then-ends : goal.returns-then-ends
returns-then-ends c =
    let p = c.loop-r.invariant in ended_early (lent c.args.ctx.counts c.args.tables.now c.args.built.now c.args.transfers.now c.args.patterns.now c.args.distances.now c.args.query.now) _ _ (fed_of c.requires _ _) p (sym c.ends.ensures ∙ c.if-ends.true)

pub turn-g-requires : goal.turn-g-requires
turn-g-requires c =
    let p = c.loop-r.invariant in let m = rounds_most (get_or c.args.query.now 2 0) (get_or c.args.query.now 3 0) in loop_open _ _ (fed_of c.requires _ _) p (sym c.ends.ensures ∙ c.if-ends.false) c.loop-r-test.true (omega (arith, c.tbr_max_rounds-limit.ensures, m))

pub loop-r-preserved : goal.loop-r-preserved
loop-r-preserved c =
    let p = c.loop-r.invariant in loop_turn _ _ (fed_of c.requires _ _) p (sym c.ends.ensures ∙ c.if-ends.false) _ _ c.loop-r-test.true c.queue_a-1.given c.queue_b-1.given c.turn-g.ensures

pub returns : goal.returns
returns c =
    let p = c.loop-r.invariant in ended_last (lent c.args.ctx.counts c.args.tables.now c.args.built.now c.args.transfers.now c.args.patterns.now c.args.distances.now c.args.query.now) _ _ (fed_of c.requires _ _) p c.loop-r-test.false
