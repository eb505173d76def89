use Rattle.rounds.proofs.Loop.{even_close, even_open, odd_close, odd_open}
use Rattle.rounds.proofs.turn.Goals as goal

pub round-requires : goal.round-requires
round-requires c = let qa = c.args.queue_a.now in let qb = c.args.queue_b.now in even_open qa qb c.args.at.even c.if-at.true c.requires

pub returns-then-at : goal.returns-then-at
returns-then-at c = let qa = c.args.queue_a.now in let qb = c.args.queue_b.now in even_close qa qb c.args.at.even _ _ c.if-at.true c.round.ensures

pub round-requires-else-at : goal.round-requires-else-at
round-requires-else-at c = let qa = c.args.queue_a.now in let qb = c.args.queue_b.now in odd_open qa qb c.args.at.even c.if-at.false c.requires

pub returns-else-at : goal.returns-else-at
returns-else-at c =
    let qa = c.args.queue_a.now in let qb = c.args.queue_b.now in odd_close qa qb c.args.at.even _ _ c.if-at.false c.round-else-at.ensures
