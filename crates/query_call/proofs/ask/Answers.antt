use mathlib.Core.Path.{sym, ap, ◌∙◌}
use Rattle.door.specs.Door.{code_of}
use Rattle.query_input.specs.Lent.{lent}
use Rattle.query_door.proofs.Yes.{admitted}
use Rattle.query_reply.specs.Outcome.{query_areas}
use Rattle.query_call.proofs.Outcomes.{refused_is, admitted_is}
use Rattle.query_call.proofs.ask.Goals as goal

pub returns-in-Err : goal.returns-in-Err
returns-in-Err c =
    refused_is c.args.mode (lent c.args.counts c.args.tables.now c.args.built.now c.args.transfers.now c.args.patterns.now c.args.distances.now c.args.query.now) (query_areas c.args.labels.now c.args.label_distances.now c.args.work.now c.args.queue_a.now c.args.queue_b.now c.args.candidates.now) c.in-Err.question c.from.ensures (sym (ap code_of c.in-Err.is) ∙ c.questions-asked.ensures)

pub answer_query-requires : goal.answer_query-requires
answer_query-requires c = admitted _ _ (sym c.questions-asked.ensures ∙ ap code_of c.in_default.is)

pub returns : goal.returns
returns c =
    admitted_is c.args.mode (lent c.args.counts c.args.tables.now c.args.built.now c.args.transfers.now c.args.patterns.now c.args.distances.now c.args.query.now) (query_areas c.args.labels.now c.args.label_distances.now c.args.work.now c.args.queue_a.now c.args.queue_b.now c.args.candidates.now) (sym (ap code_of c.in_default.is) ∙ c.questions-asked.ensures) c.answer_query.ensures
