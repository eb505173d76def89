use lib.Ieee
use Rattle.model.proofs.Base.{no_both}
use Rattle.query_reply.proofs.Clearing.{over_is, rest_is}
use Rattle.query_reply.proofs.finish.Goals as goal

pub returns-then-h : goal.returns-then-h
unfolding Ieee.of_bits
returns-then-h c =
    record { over = λ f. over_is c.args.labels.now c.args.label_distances.now c.args.work.now c.args.queue_a.now c.args.queue_b.now c.args.candidates.now c.from.ensures (c.fill.ensures.after (λ y e. e)) (c.fill-then-h.ensures.after (λ y e. e)) c.zero_work.ensures.work_new c.zero_work.ensures.queue_a_new c.zero_work.ensures.queue_b_new; replied = λ f. absurd (no_both c.if-h.true f); rest = λ f. absurd (no_both c.if-h.true f) }

pub returns : goal.returns
returns c =
    record { over = λ f. absurd (no_both f c.if-h.false); replied = λ f. c.reply_of-r.ensures; rest = λ f. rest_is c.args.labels.now c.args.label_distances.now c.args.work.now c.args.queue_a.now c.args.queue_b.now c.args.candidates.now c.zero_work-2.ensures.work_new c.zero_work-2.ensures.queue_a_new c.zero_work-2.ensures.queue_b_new }
