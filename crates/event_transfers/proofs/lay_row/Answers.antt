use Rattle.event_transfers.proofs.Laying.{row_full, row_more}
use Rattle.event_transfers.specs.Packed.{laid}
use mathlib.Core.Path.{◌∙◌, ap, sym}
use Prim.Native.Nat.{◌+◌}
use Rattle.event_transfers.proofs.lay_row.Goals as goal

pub returns-then-n-gt65536 : goal.returns-then-n-gt65536
returns-then-n-gt65536 c = sym (row_full _ _ _ c.if-n-gt65536.true)

pub returns : goal.returns
returns c = ap (laid (c.args.n + 1)) c.put_row.ensures ∙ sym (row_more _ _ _ c.if-n-gt65536.false)
