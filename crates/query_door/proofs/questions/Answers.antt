use mathlib.Core.Path.{refl, sym, ◌∙◌}
use Rattle.door.proofs.Laws.{within}
use Rattle.query_door.proofs.Yes.{limits_yes, sized_yes, placed_yes, numbered_yes}
use Rattle.query_door.proofs.questions.Goals as goal

pub passed-requires-clause-placed : goal.passed-requires-clause-placed
passed-requires-clause-placed c =
    let few = limits_yes _ (within c.in_ok-limits.ensures c.counts_ok.ensures refl).counts_yes in
    placed_yes _ _ _ _ _ few (sized_yes _ _ _ _ _ _ _ (sym c.sizes_ok-sized.ensures ∙ c.in_ok-ask.ensures)) (sym c.runs_ok.ensures ∙ c.in_ok-ask-2.ensures)

pub numbers_ok-numbered-requires-clause-placed : goal.numbers_ok-numbered-requires-clause-placed
numbers_ok-numbered-requires-clause-placed c =
    let few = limits_yes _ (within c.in_ok-limits.ensures c.counts_ok.ensures refl).counts_yes in
    placed_yes _ _ _ _ _ few (sized_yes _ _ _ _ _ _ _ (sym c.sizes_ok-sized.ensures ∙ c.in_ok-ask.ensures)) (sym c.runs_ok.ensures ∙ c.in_ok-ask-2.ensures)

pub order_ok-requires-clause-rows_listed : goal.order_ok-requires-clause-rows_listed
order_ok-requires-clause-rows_listed c =
    let few = limits_yes _ (within c.in_ok-limits.ensures c.counts_ok.ensures refl).counts_yes in
    let sized = sized_yes _ _ _ _ _ _ _ (sym c.sizes_ok-sized.ensures ∙ c.in_ok-ask.ensures) in
    (numbered_yes _ _ _ _ _ sized (placed_yes _ _ _ _ _ few sized (sym c.runs_ok.ensures ∙ c.in_ok-ask-2.ensures)) (sym c.numbers_ok-numbered.ensures ∙ c.in_ok-ask-3.ensures)).listed
