use Rattle.delay_lookup.proofs.Search.{stop_keyed, stop_told}
use native.Mathlib.Omega.{arith}
use borrow.Author.Tests.{tests}
use Rattle.std.proofs.Common.{rules, ◌∙◌}
use Rattle.delay_lookup.proofs.stop_row.Goals as goal

pub first_from-at-requires : goal.first_from-at-requires
first_from-at-requires c =
    stop_keyed c.args.stop_rows.now c.args.row c.args.sequence c.key_of-key.result (λ k. omega (arith, c.type_inv.stop_rows k)) c.requires

pub returns : goal.returns
returns c =
    c.then_some.ensures ∙ stop_told c.args.stop_rows.now c.args.row c.args.sequence c.key_of-key.result (λ k. omega (arith, c.type_inv.stop_rows k)) c.requires c.key_of-key.ensures (omega arith) _ c.first_from-at.ensures c.if-at-m.then_some (search (rules, tests))
