use mathlib.Core.Path.{sym, ap, ◌∙◌}
use Rattle.arc_flags.specs.Flags.{egress_rows}
use Rattle.best_target.specs.Totals.{target_of}
use Rattle.query_reply.proofs.Replying.{rounds_below, no_way, some_way}
use borrow.Author.Rules.{rules}
use Rattle.query_reply.proofs.reply_of.Goals as goal

pub returns-then-best : goal.returns-then-best
returns-then-best c =
    λ T Q a g. no_way T Q a g (target_of c.best_target-best.result) _ c.args.candidates.now _ c.egress_rows-egress.ensures (c.best_target-best.ensures T Q a g.reached) c.if-best.true c.requires.candidates_length (c.fill.ensures.after (λ y e. e))

pub candidates-m-requires-clause-rounds_bound : goal.candidates-m-requires-clause-rounds_bound
candidates-m-requires-clause-rounds_bound c = rounds_below _ _ _ c.tbr_max_rounds-rounds.ensures

pub returns : goal.returns
returns c =
    λ T Q a g. some_way T Q a g (target_of c.best_target-best.result) _ _ c.tbr_max_rounds-rounds.result c.candidates-m.result c.egress_rows-egress.ensures (c.best_target-best.ensures T Q a g.reached) c.if-best.false (c.tbr_max_rounds-rounds.ensures ∙ sym g.rounds) (search rules) c.candidates-m.ensures.bound c.candidates-m.ensures.zero_from (c.candidates-m.ensures.meaning T Q a g.labelled (g.egress ∙ sym (ap egress_rows c.egress_rows-egress.ensures)) g.slack)
