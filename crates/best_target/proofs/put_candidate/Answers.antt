use Rattle.best_target.proofs.Laws.{put_is}
use lib.ListN.{length-set}
use native.Mathlib.Omega.{arith}
use Rattle.best_target.proofs.put_candidate.Goals as goal

pub bounds-candidates-at-2 : goal.bounds-candidates-at-2
bounds-candidates-at-2 c = simp length-set (omega arith)

pub bounds-candidates-at-3 : goal.bounds-candidates-at-3
bounds-candidates-at-3 c = simp length-set (omega arith)

pub returns : goal.returns
returns c = put_is c.args.candidates.now c.args.m c.args.b.total c.args.b.stop c.args.row c.requires
