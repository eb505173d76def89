use Rattle.delay_lookup.proofs.Search.{delay_keyed, delay_told}
use native.Mathlib.Omega.{arith}
use borrow.Author.Tests.{tests}
use Rattle.std.proofs.Common.{rules, ◌∙◌}
use Rattle.delay_lookup.proofs.delay_row.Goals as goal

pub first_from-at-requires : goal.first_from-at-requires
first_from-at-requires c =
    delay_keyed c.args.delay_rows.now c.args.trip c.key_of.result (λ k. omega (arith, c.type_inv.delay_rows k)) c.key_of.ensures c.requires

pub returns : goal.returns
returns c =
    c.then_some.ensures ∙ delay_told c.args.delay_rows.now c.args.trip c.key_of.result (λ k. omega (arith, c.type_inv.delay_rows k)) c.key_of.ensures c.requires _ c.first_from-at.ensures c.if-at-n.then_some (search (rules, tests))
