use Rattle.event_transfers.proofs.Lists.{halved_either, leb_not}
use Rattle.loops.proofs.Search.{keys_stay}
use Rattle.sorts.specs.Sort.{hi}
use lib.Dec.{ltb}
use lib.ListN.{get_or}
use mathlib.Core.Path.{ap}
use Prim.Native.Nat.{ℕ, ◌+◌, ◌*◌, ◌/◌}
use Rattle.event_transfers.proofs.narrowed.Goals as goal

pub returns : goal.returns
unfolding hi
returns c =
    halved_either _ _ _ _ (keys_stay (λ i. hi (get_or c.args.part.now i 0)) c.args.key _ c.requires.keys.rising) c.requires.halved c.requires.size_above (ltb (hi (get_or c.args.part.now (c.args.lo + c.args.size / 2) 0)) c.args.key) (leb_not (hi (get_or c.args.part.now (c.args.lo + c.args.size / 2) 0)) c.args.key) _ (ap (λ (d : ℕ). c.args.lo + c.args.size / 2 * d) c.below.ensures.value)
