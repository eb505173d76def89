use lib.Ieee
use mathlib.Core.Path.{◌≡◌, ◌∙◌}
use Rattle.model.specs.Tables.{no_windows}
use Rattle.search_state.specs.Places.{EgressTable}
use Rattle.search_state.proofs.Queue.{queue_step, queue_then}
use Rattle.search_state.proofs.transfer.Goals as goal

pub returns : goal.returns
unfolding Ieee.of_bits
returns c =
    queue_then (λ T Q. EgressTable Q.egress c.args.lay c.args.work.now × (no_windows T c.args.seg.trip ≡ c.args.plain)) (queue_step c.args.queue.now c.relax-x.ensures c.requires.full_is c.requires.queued_bound) (c.relax-x.ensures.full ∙ c.requires.full_is) (c.enqueue.ensures c.args.stamp _ _ c.relax-x.ensures.ready) (λ T Q y. y)
