use Rattle.departures_call.specs.Call.{sort_areas, sort_outcome}
use mathlib.Core.Path.{◌∙◌, ap}
use Rattle.tables.specs.declared.Counts.{Counts}
use Rattle.sized_calls.proofs.sort_stop_departures.Goals as goal

pub returns : goal.returns
returns c =
    c.sort_stop_departures.ensures ∙ ap (λ (k : Counts). sort_outcome c.args.settings c.args.tables.now k c.args.departures c.args.runs.now (sort_areas c.args.rows.now c.args.marks.now c.args.work.now c.args.other.now)) c.counts-c.ensures
