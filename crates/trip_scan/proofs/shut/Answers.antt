use Rattle.model.specs.Tables.{no_drop_off}
use Rattle.model.specs.Search.{skipped}
use Rattle.trip_boarding.specs.Reads.{hit_of}
use mathlib.Core.Bool.{Bool, ◌&&◌, ◌||◌}
use mathlib.Core.Path.{◌∙◌, ap, ap₂, sym}
use Rattle.trip_scan.proofs.Alighting.{shut_is}
use Rattle.trip_scan.proofs.shut.Goals as goal

pub returns-then-no_drop_off : goal.returns-then-no_drop_off
returns-then-no_drop_off c =
    λ T Q y. let b = skipped T Q (hit_of c.args.adj) c.args.trip c.args.off in c.if-no_drop_off.true ∙ ap (λ (x : Bool). x || (c.args.tested && b)) (sym c.if-no_drop_off.true ∙ c.no_drop_off.ensures T Q y) ∙ shut_is c.args.tested (no_drop_off T c.args.trip c.args.off) b

pub returns-then-tested : goal.returns-then-tested
returns-then-tested c =
    λ T Q y. let b = skipped T Q (hit_of c.args.adj) c.args.trip c.args.off in c.skipped.ensures T Q y ∙ ap₂ (λ (x s : Bool). x || (s && b)) (sym c.if-no_drop_off.false ∙ c.no_drop_off.ensures T Q y) (sym c.if-tested.true) ∙ shut_is c.args.tested (no_drop_off T c.args.trip c.args.off) b

pub returns-else-tested : goal.returns-else-tested
returns-else-tested c =
    λ T Q y. let b = skipped T Q (hit_of c.args.adj) c.args.trip c.args.off in c.if-tested.false ∙ ap₂ (λ (x s : Bool). x || (s && b)) (sym c.if-no_drop_off.false ∙ c.no_drop_off.ensures T Q y) (sym c.if-tested.false) ∙ shut_is c.args.tested (no_drop_off T c.args.trip c.args.off) b
