use Rattle.arc_flags.proofs.Laws.{ahead_first, ahead_step, ahead_end, cell_is}
use Rattle.cell_bitset.specs.CellWords.{cell_words}
use mathlib.Core.Path.{refl, sym, ap, ◌∙◌}
use native.Mathlib.Omega.{arith}
use Rattle.arc_flags.proofs.target_cells.Goals as goal

pub loop-i-init : goal.loop-i-init
loop-i-init c =
    (refl, (λ k l. omega (arith, c.requires.egress_in.stop k l, c.requires.sane.slices.size)), omega (arith, c.requires.sane.counts.times, c.requires.sane.counts.trips, c.requires.sane.counts.windows, c.requires.sane.counts.edges), λ T Q ec en eq. ahead_first T c.args.egress.now _ Q c.args.cells _ refl en eq c.new-set.ensures)

pub loop-i-preserved : goal.loop-i-preserved
loop-i-preserved c =
    let w = c.loop-i in (w.invariant.0, w.invariant.1, w.invariant.2, λ T Q ec en eq. w.invariant.3 T Q ec en eq ∙ ahead_step T c.args.egress.now _ w.i _ _ _ c.loop-i-test.true (sym (ec _)) c.set_bit-set.ensures)

pub returns : goal.returns
returns c =
    λ T Q e en eq. c.words.ensures ∙ ap cell_words (ahead_end T c.args.egress.now _ c.loop-i.i _ c.loop-i-test.false ∙ sym (c.loop-i.invariant.3 T Q (cell_is T c.args.tables.now c.args.c e) en eq))
