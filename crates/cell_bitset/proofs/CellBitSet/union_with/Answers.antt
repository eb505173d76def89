use Rattle.cell_bitset.proofs.Laws.{union_made}
use Rattle.cell_bitset.proofs.CellBitSet.union_with.Goals as goal

pub returns : goal.returns
returns c =
    simp (c.max.ensures, c.merged-self.ensures, c.cleared.ensures, c.reserved_bytes-a.ensures, c.reserved_bytes-b.ensures, union_made)
