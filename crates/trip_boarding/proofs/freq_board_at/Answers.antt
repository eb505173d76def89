use Rattle.tables.specs.Tables.{first_of}
use Rattle.trip_boarding.proofs.Laws.{event_time, part_board, part_nominal}
use native.Mathlib.Omega.{arith}
use Prim.Native.Nat.{ℕ, ◌+◌, ◌*◌}
use Rattle.trip_boarding.proofs.freq_board_at.Goals as goal

pub earliest_freq_board-requires : goal.earliest_freq_board-requires
earliest_freq_board-requires c =
    let from : ℕ = c.args.c.times * 6 + c.args.c.trips * 8 + c.trip.result * 3 in part_nominal c.args.tables.now c.args.c c.args.trip from (from + c.trip-2.result * 3) c.requires.sane c.requires.trip_bound (omega (arith, c.trip.ensures.value)) (omega (arith, c.trip-2.ensures.value)) _ _ _ (omega (arith, c.event_word-base.ensures, c.requires.sane.ranges.departure (first_of c.args.tables.now c.args.c c.args.trip + 0) (event_time _ _ _ _ c.requires.sane (record { trip = c.requires.trip_bound; offset = c.requires.sane.runs.some c.args.trip c.requires.trip_bound })))) c.requires.dep_bound c.requires.after_bound

pub returns : goal.returns
returns c =
    let from : ℕ = c.args.c.times * 6 + c.args.c.trips * 8 + c.trip.result * 3 in part_board c.args.tables.now c.args.c c.args.trip from (from + c.trip-2.result * 3) c.requires.sane c.requires.trip_bound (omega (arith, c.trip.ensures.value)) (omega (arith, c.trip-2.ensures.value)) _ _ _ _ c.event_word-base.ensures c.earliest_freq_board.ensures
