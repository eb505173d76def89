use Rattle.departures.specs.Packed.{un_trip}
use Rattle.event_transfers.specs.Packed.{line_x}
use Rattle.event_transfers.proofs.Grouping.{line_none, line_row, line_same}
use mathlib.Core.Path.{◌∙◌, refl}
use Rattle.event_transfers.proofs.to_line.Goals as goal

pub returns-then-group-p : goal.returns-then-group-p
unfolding line_x
returns-then-group-p c =
    line_none c.args.time c.args.ti c.args.w c.args.group.now _ c.first_from-p.result _ refl c.requires.group c.first_from-p.ensures c.if-group-p.true

pub returns-then-x-ti : goal.returns-then-x-ti
unfolding line_x un_trip
returns-then-x-ti c =
    line_same c.args.time c.args.ti c.args.w c.args.group.now _ c.first_from-p.result _ refl c.requires.group c.first_from-p.ensures c.if-group-p.false c.if-x-ti.true

pub returns : goal.returns
unfolding line_x un_trip
returns c =
    c.lay_row.ensures ∙ line_row c.args.time c.args.ti c.args.w c.args.group.now _ c.first_from-p.result _ refl c.requires.group c.first_from-p.ensures c.if-group-p.false c.if-x-ti.false
