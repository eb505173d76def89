use Rattle.std.specs.Prelude.{Bool, ◌&&◌, ◌+◌, get_or, eqb}
use mathlib.Core.Path.{refl, sym, ap, ◌∙◌}
use borrow.Author.Tests.{le-ltb}
use Rattle.trip_boarding.specs.Reads.{hit_of}
use Rattle.search_state.proofs.Part.{few_of}
use Rattle.line_pruning.proofs.Reading.{read_at, prunable_past, prunable_known, undelayed_is, never}
use Rattle.query_types.specs.Layout.{fifo_at}
use Rattle.line_pruning.proofs.prunable.Goals.{then-line-lay, else-line-lay}
use Rattle.line_pruning.proofs.prunable.Goals as goal

pub fifo_at-requires : goal.fifo_at-requires
fifo_at-requires c = few_of c.requires.work_sized

pub returns-then-is_none-clause-meaning : goal.returns-then-is_none-clause-meaning
returns-then-is_none-clause-meaning c =
    let l = get_or c.args.built.now c.args.trip 0 in
    elim c.if-line-lay.branch [
      | then-line-lay w ↦ λ T Q k ag. prunable_known T Q c.args.lay k c.args.built.now c.args.work.now (hit_of c.args.adj) c.args.trip _ ag c.requires.trip_bound refl w.if-line-lay.true _ _ _ (sym (ap (λ (z : Bool). z && eqb (get_or c.args.work.now (c.fifo_at.result + l) 0) 1) (sym w.value-is ∙ c.if-is_none.true))) (undelayed_is c.args.adj _ w.is_none.ensures) (read_at c.args.work.now l _ _ c.fifo_at.ensures)
      | else-line-lay w ↦ absurd (never (sym (w.value-is ∙ le-ltb _ _ w.if-line-lay.false) ∙ c.if-is_none.true))
    ]

pub returns-else-is_none-clause-meaning : goal.returns-else-is_none-clause-meaning
returns-else-is_none-clause-meaning c =
    let l = get_or c.args.built.now c.args.trip 0 in
    elim c.if-line-lay.branch [
      | then-line-lay w ↦ λ T Q k ag. prunable_known T Q c.args.lay k c.args.built.now c.args.work.now (hit_of c.args.adj) c.args.trip _ ag c.requires.trip_bound refl w.if-line-lay.true _ _ _ (c.if-is_none.false ∙ sym (ap (λ (z : Bool). z && eqb (get_or c.args.work.now (fifo_at c.args.lay + l) 0) 1) (sym w.value-is ∙ c.if-is_none.false))) (undelayed_is c.args.adj _ w.is_none.ensures) refl
      | else-line-lay w ↦ λ T Q k ag. w.value-is ∙ le-ltb _ _ w.if-line-lay.false ∙ prunable_past T Q c.args.lay k c.args.built.now c.args.work.now (hit_of c.args.adj) c.args.trip _ ag c.requires.trip_bound refl w.if-line-lay.false
    ]
