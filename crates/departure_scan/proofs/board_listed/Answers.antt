use Rattle.trip_boarding.specs.Reads.{hit_of}
use Rattle.departure_scan.proofs.Testing.{as_nothing, board_barred, board_late, board_none, board_passed, board_taken}
use native.Mathlib.Omega.{arith}
use mathlib.Core.Path.{◌∙◌}
use Rattle.departure_scan.proofs.board_listed.Goals.{then-best-b-via-then-best-b, then-best-b-via-else-best-b+then-passed_over}
use Rattle.departure_scan.proofs.board_listed.Goals as goal

pub returns-then-barred_listed : goal.returns-then-barred_listed
returns-then-barred_listed c =
    record { meaning = λ T Q z g q a k m. board_barred T Q c.args.stamp c.args.after (hit_of c.args.adj) c.args.trip c.args.off z _ (c.barred_listed.ensures T Q z.boardings g q a k) c.if-barred_listed.true; as_boarded = as_nothing c.args.tables.now c.args.c c.args.delay_rows.now c.args.stop_rows.now c.args.adj c.args.trip c.args.off c.args.after }

pub passed_over-requires : goal.passed_over-requires
passed_over-requires c =
    record { work_sized = c.requires.round_chains.sized; trip_bound = omega (arith, c.requires.round_chains.trips, c.requires.event.trip) }

pub returns-in_err-b-clause-meaning : goal.returns-in_err-b-clause-meaning
returns-in_err-b-clause-meaning c =
    λ T Q z g q a k m. c.from_residual.ensures ∙ board_none T Q c.args.stamp c.args.after (hit_of c.args.adj) c.args.trip c.args.off z _ (c.barred_listed.ensures T Q z.boardings g q a k) c.if-barred_listed.false _ (c.board_at.ensures T Q g) c.in_err-b.was

pub returns-then-best-b-clause-meaning : goal.returns-then-best-b-clause-meaning
returns-then-best-b-clause-meaning c =
    elim c.then-best-b.branch [
      | then-best-b-via-then-best-b w ↦ λ T Q z g q a k m. board_late T Q c.args.stamp c.args.after (hit_of c.args.adj) c.args.trip c.args.off z _ (c.barred_listed.ensures T Q z.boardings g q a k) c.if-barred_listed.false _ (c.board_at.ensures T Q g) _ c.args.best c.in_ok-b.was m w.if-best-b.true
      | then-best-b-via-else-best-b+then-passed_over w ↦ λ T Q z g q a k m. board_passed T Q c.args.stamp c.args.after (hit_of c.args.adj) c.args.trip c.args.off z _ (c.barred_listed.ensures T Q z.boardings g q a k) c.if-barred_listed.false _ (c.board_at.ensures T Q g) _ c.args.best c.in_ok-b.was m w.if-best-b.false _ (w.passed_over.ensures T Q z.boardings k) w.if-passed_over.true
    ]

pub returns-clause-meaning : goal.returns-clause-meaning
returns-clause-meaning c =
    λ T Q z g q a k m. board_taken T Q c.args.stamp c.args.after (hit_of c.args.adj) c.args.trip c.args.off z _ (c.barred_listed.ensures T Q z.boardings g q a k) c.if-barred_listed.false _ (c.board_at.ensures T Q g) _ c.args.best c.in_ok-b.was m c.if-best-b.false _ (c.passed_over.ensures T Q z.boardings k) c.if-passed_over.false
