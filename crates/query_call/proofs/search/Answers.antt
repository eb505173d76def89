use mathlib.Core.Path.{sym}
use native.Mathlib.Omega.{arith}
use Rattle.query_call.proofs.Given.{flagging, askable, lends, sized_at, started, ended}
use borrow.Author.Rules.{rules}
use Rattle.query_call.proofs.search.Goals as goal

pub lay_for-lay-requires : goal.lay_for-lay-requires
lay_for-lay-requires c = record { stops_bound = c.requires.admitted.limits.counts.stops; trips_bound = c.requires.admitted.limits.counts.trips }

pub net_of-net-requires : goal.net_of-net-requires
net_of-net-requires c = askable c.requires.admitted

pub flags_off-flags_off-requires : goal.flags_off-flags_off-requires
flags_off-flags_off-requires c = omega (arith, c.requires.admitted.sized.query_is)

pub in_use-flagged-requires : goal.in_use-flagged-requires
in_use-flagged-requires c = flagging c.requires.admitted

pub begin-h-requires : goal.begin-h-requires
begin-h-requires c =
    record { askable = askable c.requires.admitted; lay_is = c.lay_for-lay.ensures; sized = sized_at c.requires.admitted c.lay_for-lay.ensures }

pub bounds-query-1 : goal.bounds-query-1
bounds-query-1 c = omega (arith, c.requires.admitted.sized.query_is)

pub rounds-requires : goal.rounds-requires
rounds-requires c =
    started c.requires.admitted (c.net_of-net.ensures _ _ c.requires.admitted (lends c.requires.admitted)) (c.begin-h.ensures _ _ c.requires.admitted (lends c.requires.admitted) _) (search rules)

pub returns : goal.returns
returns c =
    ended c.args.mode c.rounds.ensures (c.in_use-flagged.ensures c.args.distances.now c.args.query.now (c.net_of-net.ensures _ _ c.requires.admitted (lends c.requires.admitted)) (sym c.flags_off-flags_off.ensures)) c.lay_for-lay.ensures
