use Prim.Native.Nat.{ℕ, ◌+◌, ◌-◌}
use Rattle.label.specs.declared.Label.TheVariants.{Transit}
use mathlib.Core.Path.{ap, sym, ◌∙◌}
use Rattle.tables.specs.Tables.{time_of}
use Rattle.tables.specs.Timetable.{Timetable, time_at}
use Rattle.model.specs.Tables.{stop_at}
use Rattle.model.specs.Search.{relax}
use Rattle.search_state.proofs.Steps.{step_as}
use Rattle.search_state.proofs.alight.Goals as goal

pub returns : goal.returns
returns c =
    step_as (λ T Q. relax T Q c.args.ride.stamp (stop_at T c.args.ride.trip c.args.p) c.args.v (Transit c.args.v c.args.ride.trip c.args.ride.stop c.args.ride.offset c.args.p (c.args.ride.stamp - 2) c.args.ride.shift)) c.relax.ensures (λ T Q y. y.0) (λ T Q y z. ap (λ (s : ℕ). relax T Q c.args.ride.stamp s c.args.v (Transit c.args.v c.args.ride.trip c.args.ride.stop c.args.ride.offset c.args.p (c.args.ride.stamp - 2) c.args.ride.shift) z) (c.time-s.ensures.value ∙ ap (λ (f : ℕ). time_of c.args.tables.now (f + c.args.p) 0) c.trip-first.ensures.value ∙ sym (ap (λ (u : Timetable). (time_at u c.args.ride.trip c.args.p).stop) y.1)))
