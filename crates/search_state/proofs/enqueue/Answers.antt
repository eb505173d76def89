use mathlib.Core.Path.{sym}
use mathlib.Core.Bool.{false, ◌&&◌}
use lib.ListN.{get_or}
use lib.Dec.{leb}
use borrow.Author.Tests.{tests}
use borrow.Author.Rules.{rules}
use Prim.Native.Nat.{◌+◌, ◌*◌}
use mathlib.Core.Path.{◌≡◌}
use Rattle.search_state.proofs.Queue.{queue_not, queue-full, queue_put}
use Rattle.search_state.proofs.enqueue.Goals as goal
use Rattle.search_state.proofs.enqueue.Goals.{else-plain-via-then-plain+else-work-at, else-plain-via-else-plain}

pub returns-then-work-at : goal.returns-then-work-at
returns-then-work-at c =
    λ stamp l m ok. let g = c.args.seg in queue_not c.args.lay stamp c.args.work.now l m c.args.h c.args.queue.now c.args.plain g.trip g.offset g.stop g.shift ok c.requires.trip_bound c.requires.queued_bound (rw (sym c.reach_at.ensures, c.if-plain.true) (search (rules, tests)))

pub returns-then-queue-queued : goal.returns-then-queue-queued
returns-then-queue-queued c =
    λ stamp l m ok. let g = c.args.seg in let k : c.args.plain && leb (get_or c.args.work.now (c.args.lay.stops * 2 + g.trip) 0) g.offset ≡ false = elim c.else-plain.branch [ else-plain-via-then-plain+else-work-at w ↦ rw (sym c.reach_at.ensures) (search (rules, tests)) | else-plain-via-else-plain w ↦ search (rules, tests) ] in queue-full c.args.lay stamp c.args.work.now l m c.args.h c.args.queue.now c.args.plain g.trip g.offset g.stop g.shift ok c.requires.trip_bound c.requires.queued_bound k c.if-queue-queued.true

pub returns : goal.returns
returns c =
    λ stamp l m ok. let g = c.args.seg in let k : c.args.plain && leb (get_or c.args.work.now (c.args.lay.stops * 2 + g.trip) 0) g.offset ≡ false = elim c.else-plain.branch [ else-plain-via-then-plain+else-work-at w ↦ rw (sym c.reach_at.ensures) (search (rules, tests)) | else-plain-via-else-plain w ↦ search (rules, tests) ] in queue_put c.args.lay stamp c.args.work.now l m c.args.h c.args.queue.now c.args.plain g.trip g.offset g.stop g.shift ok c.requires.trip_bound c.requires.queued_bound _ _ k c.if-queue-queued.false c.put_segment.ensures (rw c.reach_at.ensures at c.lower.ensures)
