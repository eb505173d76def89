use Rattle.query_types.specs.declared.Lay.{Lay}
use Rattle.search_state.proofs.Part.{few_of}
use native.Mathlib.Omega.{arith}
use mathlib.Core.Path.{ap, refl}
use Rattle.event_transfers.proofs.Counting.{all_of_them}
use Rattle.search_begin.proofs.Sections.{running_again, running_none}
use Rattle.search_begin.proofs.put_events.Goals as goal

pub events_at-a-requires : goal.events_at-a-requires
events_at-a-requires c = few_of c.requires.work_sized

pub loop-i-init : goal.loop-i-init
loop-i-init c =
    running_none c.args.tables.now c.args.counts.timetable _ c.args.lay.trips c.args.work.now (ap (λ (k : Lay). k.trips) c.requires.lay_is) c.requires.sane (omega (arith, c.events_at-a.ensures, c.requires.work_sized.words))

pub overflow_cast-work : goal.overflow_cast-work
overflow_cast-work c = let r = c.loop-i.invariant in omega (arith, r.small, r.few, r.trips_are, r.sane.counts.trips)

pub bounds-work-a : goal.bounds-work-a
bounds-work-a c = let r = c.loop-i.invariant in omega (arith, r.put.size, r.room)

pub trip-before-requires : goal.trip-before-requires
trip-before-requires c =
    let r = c.loop-i.invariant in record { counts_ok = r.sane.counts; slices_ok = r.sane.slices; i_bound = omega (arith, r.trips_are); k_bound = omega arith }

pub overflow_add-before : goal.overflow_add-before
overflow_add-before c = let r = c.loop-i.invariant in omega (arith, r.small, r.few, r.trips_are, r.sane.counts.trips, c.trip-before.ensures.bound)

pub loop-i-preserved : goal.loop-i-preserved
loop-i-preserved c = running_again c.loop-i.invariant c.loop-i-test.true _ c.trip-before.ensures.value

pub shape_of-work : goal.shape_of-work
shape_of-work c = c.loop-i.invariant.put.size

pub returns : goal.returns
returns c =
    let e = all_of_them _ _ _ refl c.loop-i.invariant.few (omega arith) in rw c.events_at-a.ensures at (rw e at c.loop-i.invariant.put)
