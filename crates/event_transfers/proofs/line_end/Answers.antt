use Rattle.event_transfers.proofs.Grouping.{ends_min}
use lib.ListN.{get_or}
use Rattle.event_transfers.proofs.line_end.Goals as goal

pub returns : goal.returns
returns c =
    ends_min c.args.run.now c.args.k (get_or c.args.ends.now c.args.k 0) c.requires.keys (c.requires.line_ends.at c.args.k c.requires.k_bound) c.requires.k_bound c.min.result c.min.ensures
