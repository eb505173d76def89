use Rattle.best_target.proofs.Laws.{stop_never, stop_reached}
use Rattle.best_target.specs.Totals.{target_of}
use Rattle.model.specs.Tables.{never}
use mathlib.Core.Logic.{⊎_elim}
use mathlib.Core.Path.{◌≡◌}
use Prim.Native.Nat.{◌<◌}
use native.Mathlib.Omega.{arith}
use Rattle.best_target.proofs.with_stop.Goals as goal

pub returns-then-v-eq4294967295 : goal.returns-then-v-eq4294967295
returns-then-v-eq4294967295 c = stop_never (target_of c.args.best) c.args.v c.args.stop c.args.walk c.if-v-eq4294967295.true

pub overflow_add-v : goal.overflow_add-v
overflow_add-v c =
    ⊎_elim (λ (h : c.args.v ≡ never). absurd (c.if-v-eq4294967295.false h)) (λ (h : c.args.v < 134217728). omega (arith, c.requires.walk_bound)) c.requires.v_bound

pub returns-else-v-eq4294967295 : goal.returns-else-v-eq4294967295
returns-else-v-eq4294967295 c = stop_reached (target_of c.args.best) _ c.args.v c.args.stop c.args.walk c.if-v-eq4294967295.false c.better.ensures
