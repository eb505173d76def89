use mathlib.Core.Path.{sym, ◌∙◌, refl}
use Rattle.trip_boarding.specs.Reads.{hit_of}
use Rattle.line_pruning.proofs.Reading.{pruned_no, pruned_yes}
use Rattle.line_pruning.proofs.Noting.{line-is}
use Rattle.line_pruning.proofs.pruned.Goals as goal

pub returns-else-prunable : goal.returns-else-prunable
returns-else-prunable c =
    λ T Q k b ag bk. c.if-prunable.false ∙ pruned_no T Q (hit_of c.args.adj) c.args.trip c.args.off b (sym (c.prunable.ensures.meaning T Q k ag) ∙ c.if-prunable.false)

pub dominated-requires : goal.dominated-requires
dominated-requires c =
    record { work_sized = c.requires.work_sized; chains = c.requires.chains; line_bound = c.prunable.ensures.value (c.if-prunable.true); trip_bound = c.requires.trip_bound }

pub returns-then-prunable : goal.returns-then-prunable
returns-then-prunable c =
    λ T Q k b ag bk. pruned_yes T Q (hit_of c.args.adj) c.args.trip c.args.off b _ (sym (c.prunable.ensures.meaning T Q k ag) ∙ c.if-prunable.true) (c.dominated.ensures T Q k c.args.built.now b ag bk (line-is T c.args.lay k c.args.built.now c.args.work.now c.args.trip _ ag c.requires.trip_bound refl))
