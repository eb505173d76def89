use Rattle.std.specs.Prelude.{◌≡◌, not, ◌||◌, refl}
use Rattle.trip_boarding.specs.Reads.{hit_of, Agree, Asks}
use Rattle.model.specs.Tables.{Tables, Query, permitted, no_pickup}
use Rattle.model.specs.Search.{Boardings, pruned}
use Rattle.line_pruning.specs.Books.{Agrees, Books}
use Rattle.departure_scan.proofs.Testing.{or_yes, or_no, pickup_word}
use native.Mathlib.Omega.{arith}
use mathlib.Core.Path.{ap, sym, ◌∙◌}
use Rattle.departure_scan.proofs.barred_listed.Goals.{Joined-pruned, then-not-permitted, else-not-permitted, then-pruned, else-pruned}
use Rattle.departure_scan.proofs.barred_listed.Goals as goal

-- the first three tests
three : (c : Joined-pruned) (T : Tables) (Q : Query) (b : Boardings) → Agree T Q c.args.tables.now c.args.c c.args.delay_rows.now c.args.stop_rows.now → Asks Q c.args.terms
    → Agrees T c.args.lay c.args.c c.args.built.now c.args.work.now → Books c.args.lay c.args.stamp T Q c.args.work.now b
    → c.if-pruned.value ≡ ((not (permitted T Q c.args.trip) || pruned T Q (hit_of c.args.adj) c.args.trip c.args.off b) || no_pickup T c.args.trip c.args.off)
three c T Q b g q a k =
    let fit = ap not (c.permitted.ensures T Q g.timetable q) in
    let two : c.if-not-permitted.value ≡ (not (permitted T Q c.args.trip) || pruned T Q (hit_of c.args.adj) c.args.trip c.args.off b) =
    elim c.if-not-permitted.branch [
      | then-not-permitted w ↦ or_yes _ w.value-is fit (ap not w.if-not-permitted.true)
      | else-not-permitted w ↦ or_no (w.value-is ∙ w.pruned.ensures T Q c.args.c b a k) fit (ap not w.if-not-permitted.false)
    ] in
    elim c.if-pruned.branch [
      | then-pruned w ↦ or_yes _ w.value-is two w.if-pruned.true
      | else-pruned w ↦ or_no (w.value-is ∙ sym (pickup_word T c.args.tables.now c.args.c c.args.trip c.args.off _ _ g.timetable w.trip.ensures.value w.time.ensures.value)) two w.if-pruned.false
    ]

pub pruned-requires : goal.pruned-requires
pruned-requires c =
    record { work_sized = c.requires.round_chains.sized; chains = c.requires.round_chains.chains; trips_bound = c.requires.round_chains.lines; trip_bound = omega (arith, c.requires.round_chains.trips, c.requires.event.trip) }

pub overflow_add-trip : goal.overflow_add-trip
overflow_add-trip c =
    let k = c.requires.on_ground.sane.runs.run c.args.trip c.requires.event.trip in omega (arith, c.trip.ensures.value, k, c.requires.event.offset, c.requires.on_ground.sane.counts.times)

pub time-requires : goal.time-requires
time-requires c =
    let k = c.requires.on_ground.sane.runs.run c.args.trip c.requires.event.trip in record { counts_ok = c.requires.on_ground.sane.counts; slices_ok = c.requires.on_ground.sane.slices; i_bound = omega (arith, c.trip.ensures.value, k, c.requires.event.offset); k_bound = omega arith }

pub returns-then-time-eq1 : goal.returns-then-time-eq1
returns-then-time-eq1 c = λ T Q b g q a k. or_yes _ refl (three (goal.at.returns-then-time-eq1 c).Joined-pruned T Q b g q a k) c.if-time-eq1.true

pub returns-else-time-eq1 : goal.returns-else-time-eq1
returns-else-time-eq1 c =
    λ T Q b g q a k. or_no (c.skipped.ensures T Q g) (three (goal.at.returns-else-time-eq1 c).Joined-pruned T Q b g q a k) c.if-time-eq1.false
