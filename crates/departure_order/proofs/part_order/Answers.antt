use Rattle.tables.specs.Timetable.{Timetable, timetable}
use Rattle.departures.specs.Departures.{row_at, row_departure}
use Rattle.departure_order.specs.Order.{not_earlier, part_order}
use Rattle.loops.proofs.Iter.{every_again, every_left, every_no}
use native.Mathlib.Omega.{arith}
use borrow.Author.Tests.{le-leb, lt-leb}
use lib.Dec.{leb}
use mathlib.Core.Bool.{Bool}
use mathlib.Core.List.{List}
use mathlib.Core.Path.{◌∙◌, ◌≡◌, refl, sym, ap₂}
use Prim.Native.Nat.{ℕ, ◌+◌, ◌-◌}
use Rattle.departure_order.proofs.part_order.Goals as goal

tested : (T : Timetable) (rows : List ℕ) (k : ℕ) {last next : ℕ} {b : Bool} → last ≡ row_departure T (row_at rows (k - 1)) → next ≡ row_departure T (row_at rows k) → leb last next ≡ b
    → not_earlier T rows k ≡ b
unfolding not_earlier
tested T rows k p q e = sym (ap₂ leb p q) ∙ e

pub returns-then-count-eq0 : goal.returns-then-count-eq0
unfolding part_order
returns-then-count-eq0 c = every_left _ 1 _ refl (omega arith)

pub loop-k-init : goal.loop-k-init
unfolding part_order
loop-k-init c = (c.departure_at-last.ensures, refl)

pub returns-then-next-last : goal.returns-then-next-last
returns-then-next-last c =
    let l = c.loop-k in
    every_no _ _ _ l.invariant.1 (tested (timetable c.args.tables.now c.args.c) c.args.rows.now l.k l.invariant.0 c.departure_at-next.ensures (lt-leb _ _ c.if-next-last.true)) c.loop-k-test.true

pub loop-k-preserved : goal.loop-k-preserved
loop-k-preserved c =
    let l = c.loop-k in
    let e : l.k + 1 - 1 ≡ l.k = omega arith in
    (rw e c.departure_at-next.ensures, every_again _ _ _ l.invariant.1 (tested (timetable c.args.tables.now c.args.c) c.args.rows.now l.k l.invariant.0 c.departure_at-next.ensures (le-leb _ _ c.if-next-last.false)) c.loop-k-test.true)

pub returns : goal.returns
returns c = every_left _ _ _ c.loop-k.invariant.1 (omega arith)
