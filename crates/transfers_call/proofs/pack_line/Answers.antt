use Rattle.departures.proofs.Parts.{row_time}
use Rattle.transfers_call.proofs.Packing.{pack_is, row_fits, departure_is}
use native.Mathlib.Omega.{arith}
use mathlib.Core.Path.{refl}
use lib.ListN.{get_or}
use borrow.Author.Rules.{rules}
use Rattle.transfers_call.proofs.pack_line.Goals as goal

pub overflow_add-at : goal.overflow_add-at
overflow_add-at c =
    let f = row_fits c.args.tables.now c.args.c c.args.r c.requires.sane c.requires.row_known in omega (arith, row_time c.args.tables.now c.args.c c.args.r c.requires.sane.runs c.requires.row_known, c.requires.sane.counts.times, c.trip.ensures.value)

pub time-departure-requires : goal.time-departure-requires
time-departure-requires c =
    record { counts_ok = search rules; slices_ok = search rules; i_bound = omega (arith, row_time c.args.tables.now c.args.c c.args.r c.requires.sane.runs c.requires.row_known, c.trip.ensures.value); k_bound = omega arith }

pub overflow_mul-result-2 : goal.overflow_mul-result-2
overflow_mul-result-2 c =
    let f = row_fits c.args.tables.now c.args.c c.args.r c.requires.sane c.requires.row_known in let g = departure_is c.args.tables.now c.args.c c.args.r c.trip.result c.time-departure.result c.trip.ensures.value c.time-departure.ensures.value in omega (arith, g, f.departure, c.requires.lines_word)

pub overflow_add-result-2 : goal.overflow_add-result-2
overflow_add-result-2 c =
    let f = row_fits c.args.tables.now c.args.c c.args.r c.requires.sane c.requires.row_known in let g = departure_is c.args.tables.now c.args.c c.args.r c.trip.result c.time-departure.result c.trip.ensures.value c.time-departure.ensures.value in omega (arith, g, f.departure, c.requires.lines_word, f.trip)

pub overflow_add-result-3 : goal.overflow_add-result-3
overflow_add-result-3 c =
    let f = row_fits c.args.tables.now c.args.c c.args.r c.requires.sane c.requires.row_known in let g = departure_is c.args.tables.now c.args.c c.args.r c.trip.result c.time-departure.result c.trip.ensures.value c.time-departure.ensures.value in omega (arith, g, f.departure, c.requires.lines_word, f.trip, f.offset)

pub returns : goal.returns
returns c =
    pack_is c.args.tables.now c.args.c c.args.lines.now c.args.r (get_or c.args.lines.now c.args.r.trip 0) c.time-departure.result refl (departure_is c.args.tables.now c.args.c c.args.r c.trip.result c.time-departure.result c.trip.ensures.value c.time-departure.ensures.value) (row_fits c.args.tables.now c.args.c c.args.r c.requires.sane c.requires.row_known)
