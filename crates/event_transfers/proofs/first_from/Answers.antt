use Rattle.event_transfers.proofs.Lists.{halved_none, last_down, last_up}
use Rattle.loops.proofs.Search.{keys_stay}
use Rattle.sorts.specs.Sort.{hi}
use borrow.Author.Tests.{le-leb, lt-leb}
use lib.ListN.{get_or}
use native.Mathlib.Omega.{arith}
use Rattle.event_transfers.proofs.first_from.Goals as goal

pub returns-then-part-n : goal.returns-then-part-n
unfolding hi
returns-then-part-n c =
    halved_none _ _ (keys_stay (λ i. hi (get_or c.args.part.now i 0)) c.args.key _ c.requires.keys.rising) c.requires.part_above (lt-leb _ _ c.if-part-n.true)

pub returns-then-part-lo : goal.returns-then-part-lo
unfolding hi
returns-then-part-lo c =
    last_up _ _ _ _ (keys_stay (λ i. hi (get_or c.args.part.now i 0)) c.args.key _ c.requires.keys.rising) c.loop-size.invariant.2 (omega arith) (lt-leb _ _ c.if-part-lo.true)

pub returns : goal.returns
unfolding hi
returns c =
    last_down _ _ _ _ (keys_stay (λ i. hi (get_or c.args.part.now i 0)) c.args.key _ c.requires.keys.rising) c.loop-size.invariant.2 (omega arith) (le-leb _ _ c.if-part-lo.false)
