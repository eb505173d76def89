use Rattle.std.proofs.Common.{rules, refl, ◌∙◌}
use mathlib.Core.Bool.{not}
use borrow.Author.Tests.{tests}
use Rattle.loops.proofs.Chains.{some_from_any}
use Rattle.tables.specs.Tables.{edge_of}
use Rattle.model.specs.Search.{holds_target}
use Rattle.arc_flags.proofs.Laws.{skips_first}
use Rattle.arc_flags.proofs.skips_edge.Goals as goal

pub returns : goal.returns
returns c =
    λ T Q e g et. some_from_any _ _ _ (λ s. not (holds_target T Q (edge_of c.args.tables.now c.args.c s 4))) 0 _ refl c.any.ensures.ran (λ x b q k. search (rules, tests, g, et)) ∙ skips_first T Q c.args.tables.now c.args.c e
