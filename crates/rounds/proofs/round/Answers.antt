use Rattle.rounds.proofs.Closing.{round_done, round_full}
use Rattle.rounds.proofs.Opening.{opening, two_more, walk_ground, walkers}
use Rattle.rounds.proofs.round.Goals as goal

pub ride_phase-g-requires : goal.ride_phase-g-requires
ride_phase-g-requires c =
    record { laid = c.requires.between.laid; opening = opening c.requires.between c.requires.T c.requires.Q c.requires.fed c.requires.holds c.requires.early _ _ (two_more c.args.r) (c.change_before-change.ensures c.requires.Q c.requires.fed.changes) }

pub returns-then-g : goal.returns-then-g
returns-then-g c = round_full c.requires (two_more c.args.r) c.change_before-change.ensures c.ride_phase-g.ensures c.if-g.true

pub walk_phase-requires : goal.walk_phase-requires
walk_phase-requires c =
    record { ready = c.ride_phase-g.ensures.ready; walk_ground = walk_ground c.requires.between.laid c.requires.fed; stops_listed = walkers c.requires.between c.requires.T c.requires.Q c.requires.fed c.requires.holds (two_more c.args.r) (c.change_before-change.ensures c.requires.Q c.requires.fed.changes) c.ride_phase-g.ensures c.requires.early c.if-g.false }

pub returns : goal.returns
returns c =
    round_done c.requires (two_more c.args.r) c.change_before-change.ensures c.ride_phase-g.ensures c.if-g.false c.walk_phase.ensures
