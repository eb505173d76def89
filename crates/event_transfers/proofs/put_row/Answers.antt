use Rattle.departures.specs.Packed.{un_offset, un_trip}
use Rattle.event_transfers.specs.Packed.{put_row}
use borrow.Author.Tests.{le-leb, lt-leb}
use Rattle.event_transfers.proofs.Laying.{four}
use native.Mathlib.Omega.{arith}
use mathlib.Core.Path.{◌∙◌}
use Prim.Native.Nat.{◌%◌, ◌*◌, ◌/◌}
use Rattle.event_transfers.proofs.put_row.Goals as goal

pub returns-then-area-at : goal.returns-then-area-at
unfolding put_row
returns-then-area-at c = simp (lt-leb _ _ c.if-area-at.true)

pub returns : goal.returns
unfolding put_row un_trip un_offset
returns c =
    four c.args.area.now (c.args.n * 4) (c.args.x % 4294967296 / 65536) (c.args.x % 65536) c.args.time 0 (omega arith) ∙ simp (le-leb _ _ c.if-area-at.false)
