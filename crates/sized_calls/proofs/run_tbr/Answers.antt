use mathlib.Core.Path.{ap, ◌∙◌}
use Rattle.query_types.specs.declared.QueryCounts.{QueryCounts}
use Rattle.query_input.specs.Lent.{lent}
use Rattle.query_reply.specs.Outcome.{query_areas}
use Rattle.query_call.specs.Call.{run_tbr_outcome}
use Rattle.sized_calls.proofs.run_tbr.Goals as goal

pub returns : goal.returns
returns c =
    c.run_tbr.ensures ∙ ap (λ (k : QueryCounts). run_tbr_outcome (lent k c.args.tables.now c.args.built.now c.args.transfers.now c.args.patterns.now c.args.distances.now c.args.query.now) (query_areas c.args.labels.now c.args.label_distances.now c.args.work.now c.args.queue_a.now c.args.queue_b.now c.args.candidates.now)) c.query_counts.ensures
