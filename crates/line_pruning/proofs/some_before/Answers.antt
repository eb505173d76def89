use mathlib.Core.Path.{sym, ◌∙◌}
use native.Mathlib.Omega.{arith}
use Prim.Native.Nat.{◌-◌}
use Rattle.search_state.proofs.Part.{few_of}
use Rattle.line_pruning.proofs.Reading.{read_at, walking_start, walking_none, walking_below, walking_yes, walking_next, walking_end}
use Rattle.line_pruning.proofs.some_before.Goals as goal

pub links_at-links-requires : goal.links_at-links-requires
links_at-links-requires c = few_of c.requires.work_sized

pub loop-k-init : goal.loop-k-init
loop-k-init c = walking_start c.args.lay c.args.work.now c.args.p c.args.off c.args.first c.requires.inside

pub returns-then-h-eq0 : goal.returns-then-h-eq0
returns-then-h-eq0 c = let v = c.loop-k in walking_none c.args.lay c.args.work.now c.args.p c.args.off c.args.first v._k v.h v.invariant c.if-h-eq0.true

pub is_before-requires : goal.is_before-requires
is_before-requires c =
    let v = c.loop-k in record { work_sized = c.requires.work_sized; trip_bound = walking_below c.args.lay c.args.work.now c.args.p c.args.off c.args.first v._k v.h v.invariant c.loop-k-test.true c.if-h-eq0.false }

pub returns-then-is_before : goal.returns-then-is_before
returns-then-is_before c =
    let v = c.loop-k in walking_yes c.args.lay c.args.work.now c.args.p c.args.off c.args.first v._k v.h v.invariant c.loop-k-test.true c.if-h-eq0.false (sym c.is_before.ensures ∙ c.if-is_before.true)

pub overflow_add-h : goal.overflow_add-h
overflow_add-h c =
    let v = c.loop-k in let u = walking_below c.args.lay c.args.work.now c.args.p c.args.off c.args.first v._k v.h v.invariant c.loop-k-test.true c.if-h-eq0.false in omega (arith, u, c.links_at-links.ensures, c.requires.work_sized.stops, c.requires.work_sized.trips, c.requires.work_sized.lines)

pub offset_bounds-work-links : goal.offset_bounds-work-links
offset_bounds-work-links c =
    let v = c.loop-k in let u = walking_below c.args.lay c.args.work.now c.args.p c.args.off c.args.first v._k v.h v.invariant c.loop-k-test.true c.if-h-eq0.false in omega (arith, u, c.links_at-links.ensures, c.requires.work_sized.stops, c.requires.work_sized.trips, c.requires.work_sized.lines)

pub bounds-work-links : goal.bounds-work-links
bounds-work-links c =
    let v = c.loop-k in let u = walking_below c.args.lay c.args.work.now c.args.p c.args.off c.args.first v._k v.h v.invariant c.loop-k-test.true c.if-h-eq0.false in omega (arith, u, c.links_at-links.ensures, c.requires.work_sized.words)

pub loop-k-preserved : goal.loop-k-preserved
loop-k-preserved c =
    let v = c.loop-k in walking_next c.args.lay c.args.work.now c.args.p c.args.off c.args.first v._k v.h v.invariant c.loop-k-test.true c.if-h-eq0.false _ (sym c.is_before.ensures ∙ c.if-is_before.false) (read_at c.args.work.now (v.h - 1) _ _ c.links_at-links.ensures)

pub returns : goal.returns
returns c =
    let v = c.loop-k in walking_end c.args.lay c.args.work.now c.args.p c.args.off c.args.first v._k v.h v.invariant c.loop-k-test.false
