use Rattle.event_transfers.specs.Packed.{pack_line, packed_line_at}
use borrow.Author.Rules.{rules}
use lib.ListN.{length-set, set}
use Rattle.loops.proofs.Count.{fill_again, tab_is}
use native.Mathlib.Omega.{arith}
use mathlib.Core.Path.{◌∙◌, ap, refl}
use Rattle.transfers_call.proofs.pack_lines.Goals as goal

pub loop-k-init : goal.loop-k-init
loop-k-init c = (omega arith, refl, λ k x. absurd (omega arith))

pub pack_line-requires : goal.pack_line-requires
pack_line-requires c =
    let k = c.requires.rows_known.known c.loop-k.k (omega arith) in record { sane = search rules; row_known = rw c.departure_row.ensures k; lines_length = c.requires.lines_below.size; lines_word = rw c.departure_row.ensures (omega (arith, c.requires.lines_below.few, c.requires.lines_below.line _ k.trip)) }

pub loop-k-preserved : goal.loop-k-preserved
loop-k-preserved c =
    (omega arith, simp length-set (omega arith), fill_again (packed_line_at c.args.tables.now c.args.c c.args.lines.now c.args.rows.now) c.loop-k.k c.loop-k.work _ c.loop-k.invariant.2 (ap (set c.loop-k.work c.loop-k.k) (c.pack_line.ensures ∙ ap (pack_line _ _ _) c.departure_row.ensures)) (omega arith))

pub returns : goal.returns
returns c =
    tab_is (packed_line_at c.args.tables.now c.args.c c.args.lines.now c.args.rows.now) _ _ (omega arith) (λ k x. c.loop-k.invariant.2 k (omega arith))
