use mathlib.Core.Path.{ap, ◌∙◌}
use Rattle.query_types.specs.declared.Lay.{Lay}
use Rattle.query_types.specs.Layout.{work_size}
use Rattle.query_door.proofs.work_size.Goals as goal

pub work_size-requires : goal.work_size-requires
work_size-requires c = rw c.lay_for.ensures (record { stops = c.requires.counts.stops; trips = c.requires.counts.trips; lines = c.requires.lines })

pub returns : goal.returns
returns c = c.work_size.ensures ∙ ap (λ (k : Lay). work_size k) c.lay_for.ensures
