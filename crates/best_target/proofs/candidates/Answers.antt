use Rattle.loops.specs.Count.{tab_from}
use Rattle.best_target.proofs.Laws.{rows_begin, rows_put, rows_pass, rows_take, rows_end, put_zeros, zeroed}
use Rattle.best_target.specs.Totals.{candidates_in}
use Rattle.model.specs.Tables.{never}
use lib.ListN.{length}
use Prim.Native.Nat.{ℕ, suc}
use mathlib.Core.List.{List, ◌++◌}
use mathlib.Core.Path.{sym, ap, ◌∙◌}
use native.Mathlib.Omega.{arith}
use borrow.Author.Rules.{rules}
use Rattle.best_target.proofs.candidates.Goals as goal

pub loop-row-init : goal.loop-row-init
unfolding tab_from
loop-row-init c =
    (omega arith, omega arith, omega arith, zeroed (length c.args.candidates.now) (search rules), λ T Q a g e d. rows_begin T Q a c.args.top (suc c.args.rounds) never)

pub row_target-b-requires : goal.row_target-b-requires
row_target-b-requires c =
    record { labels_ok = c.requires.labels_ok; egress_ok = c.requires.egress_ok; row_bound = omega (arith, c.requires.rounds_bound) }

pub loop-row-preserved-then-not-taken : goal.loop-row-preserved-then-not-taken
loop-row-preserved-then-not-taken c =
    let w = c.loop-row in (omega arith, omega (arith, w.invariant.1), w.invariant.2, w.invariant.3, λ T Q a g e d. w.invariant.4 T Q a g e d ∙ ap (λ (l : List (ℕ × ℕ × ℕ)). candidates_in w.candidates w.m ++ l) (rows_pass T Q a c.args.top (suc c.args.rounds) w.row w.last c.args.slack c.row_target-b.result c.args.egress.now _ (omega arith) e d (c.row_target-b.ensures T Q a g) c.taken.ensures (c.if-not-taken.true)))

pub put_candidate-requires : goal.put_candidate-requires
put_candidate-requires c = let w = c.loop-row in omega (arith, w.invariant.1, w.invariant.2, c.requires.rounds_bound)

pub overflow_add-m : goal.overflow_add-m
overflow_add-m c = let w = c.loop-row in omega (arith, w.invariant.1, c.requires.rounds_bound)

pub loop-row-preserved : goal.loop-row-preserved
loop-row-preserved c =
    let w = c.loop-row in (omega arith, omega (arith, w.invariant.1), c.put_candidate.ensures.size ∙ w.invariant.2, put_zeros _ _ _ _ _ _ c.put_candidate.ensures w.invariant.3, λ T Q a g e d. rows_put T Q a c.args.top (suc c.args.rounds) _ _ w.m _ _ _ _ _ _ c.put_candidate.ensures (w.invariant.4 T Q a g e d ∙ ap (λ (l : List (ℕ × ℕ × ℕ)). candidates_in w.candidates w.m ++ l) (rows_take T Q a c.args.top (suc c.args.rounds) w.row w.last c.args.slack c.row_target-b.result c.args.egress.now _ (omega arith) e d (c.row_target-b.ensures T Q a g) c.taken.ensures (c.if-not-taken.false))))

pub shape_of-candidates : goal.shape_of-candidates
shape_of-candidates c = omega (arith, c.loop-row.invariant.2, c.requires.candidates_length)

pub returns : goal.returns
returns c =
    let w = c.loop-row in record { zero_from = w.invariant.3; meaning = λ T Q a g e d. rows_end T Q a c.args.top (suc c.args.rounds) w.row w.last (candidates_in w.candidates w.m) (omega arith) ∙ sym (w.invariant.4 T Q a g e d); bound = omega (arith, w.invariant.0, w.invariant.1, c.requires.rounds_bound) }
