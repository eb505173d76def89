use Prim.Native.Nat.{ℕ, ◌/◌, ◌%◌}
use mathlib.Core.Path.{sym, ap, ◌∙◌}
use mathlib.Core.Bool.{not}
use native.Mathlib.Omega.{arith}
use lib.ListN.{get_or}
use borrow.Author.Tests.{le-ltb}
use lib.Dec.{eqb}
use lib.Bits.{bit_and}
use Rattle.cell_bitset.proofs.Bits.{one_shl, bit_test}
use Rattle.cell_bitset.proofs.Laws.{held_in, held_past}
use Rattle.cell_bitset.proofs.CellBitSet.get_bit.Goals as goal

pub returns-then-at-reserved_bytes : goal.returns-then-at-reserved_bytes
returns-then-at-reserved_bytes c =
    let b = get_or c.args.self.bytes (c.args.cell / 8) 0 in
    ap (λ (x : ℕ). not (eqb (bit_and b x) 0)) (one_shl c.args.cell) ∙ bit_test b (c.args.cell % 8)
    ∙ sym (held_in c.args.self c.args.cell (omega arith))

pub returns-else-at-reserved_bytes : goal.returns-else-at-reserved_bytes
returns-else-at-reserved_bytes c = le-ltb _ _ c.if-at-reserved_bytes.false ∙ sym (held_past c.args.self c.args.cell (omega arith))
