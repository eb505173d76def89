use Rattle.std.proofs.Common.{rules}
use Rattle.label_call.proofs.Calls.{in_table_too, store_steps}
use Rattle.label_call.proofs.store.Goals as goal

pub returns-in_err-place : goal.returns-in_err-place
returns-in_err-place c = search (rules, store_steps)

pub store_label-requires : goal.store_label-requires
store_label-requires c =
    rw c.record_of.ensures (in_table_too c.args.settings c.args.stops c.args.stop c.args.row _ _ c.if-stop-stops.known c.args.below (search rules) (search rules))

pub returns : goal.returns
returns c = search (rules, store_steps)
