use mathlib.Core.Path.{refl}
use Rattle.query_input.specs.Lent.{lent}
use Rattle.query_reply.specs.Outcome.{query_areas}
use Rattle.query_reply.proofs.Ends.{ending}
use Rattle.query_call.proofs.Outcomes.{finished}
use borrow.Author.Rules.{rules}
use Rattle.query_call.proofs.answer_query.Goals as goal

pub finish-requires : goal.finish-requires
finish-requires c =
    record { full_is = λ f. ending _ _ c.requires _ _ _ _ _ _ c.search-h.ensures f; candidates_length = c.requires.lengthy.candidates }

pub returns : goal.returns
returns c =
    finished
    (lent c.args.counts c.args.tables.now c.args.built.now c.args.transfers.now c.args.patterns.now c.args.distances.now c.args.query.now)
    c.args.mode
    (query_areas c.args.labels.now c.args.label_distances.now c.args.work.now c.args.queue_a.now c.args.queue_b.now c.args.candidates.now)
    c.requires
    c.search-h.ensures
    (record { labels = search rules; label_distances = search rules; work = search rules; queue_a = search rules; queue_b = search rules; candidates = refl })
    c.finish.ensures
