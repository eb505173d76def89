-- The sets that the calls make are well formed where those that they are given are.
use Prim.Native.Nat.{ℕ, ◌*◌, ◌/◌, ◌%◌, ◌^◌, ◌<◌, ◌≤◌}
use mathlib.Core.Path.{◌≡◌, refl, ap₂, sym, ◌∙◌}
use mathlib.Core.Bool.{Bool, true, false, cond}
use mathlib.Core.List.{List}
use mathlib.Core.Logic.{⊎_elim}
use native.Mathlib.Omega.{arith}
use lib.ListN.{get_or, replicate, length-set, length-replicate, get_or-replicate, get_or-eq_default}
use lib.Seq.{get_or-set_other}
use lib.Bits.{bit_or}
use borrow.Author.Tests.{ltb-true}
use Rattle.loops.specs.Count.{tab}
use Rattle.loops.proofs.Count.{length_tab_from, get_d_tab, tab_is}
use Rattle.loops.proofs.Search.{split}
use Rattle.cell_bitset.specs.declared.CellBitSet.{CellBitSet}
use Rattle.cell_bitset.specs.CellSet.{empty_set, with_cell, union, sized, groups, kept, reserved_of, byte_of, WellFormed}
use Rattle.cell_bitset.proofs.Fill.{byte-in, byte_out}
use Rattle.cell_bitset.proofs.Laws.{added}

-- 64 bytes f 0, f 1, .. are 0 where f is
tab_past : (f : ℕ → ℕ) (i : ℕ) → f i ≡ 0 → get_or (tab f 64) i 0 ≡ 0
tab_past f i z =
    ⊎_elim (λ (h : i < 64). get_d_tab f 64 i 0 h ∙ z) (λ (h : 64 ≤ i). get_or-eq_default (tab f 64) 0 (omega (arith, length_tab_from f 0 64))) (split i 64)

past_byte : (s : CellBitSet) (i : ℕ) → reserved_of s ≤ i → byte_of s i ≡ 0
past_byte s i h = byte_out (reserved_of s) s.bytes i h

pub well_new : (n : ℕ) → n ≤ 512 → WellFormed (empty_set n)
well_new n h =
    record {
      long = length-replicate {A = ℕ} 64 0;
      room = omega arith;
      whole = omega arith;
      past = λ i l. ⊎_elim (λ (u : i < 64). get_or-replicate 64 i 0 0 u) (λ (u : 64 ≤ i). get_or-eq_default (replicate {A = ℕ} 64 0) 0 {n = i} u) (split i 64);
    }

pub well_set : (s : CellBitSet) (c : ℕ) → WellFormed s → WellFormed (with_cell s c)
well_set s c w = go (kept s c) refl
  where
    go : (t : Bool) → kept s c ≡ t → WellFormed (cond t (added s c) s)
    go true e =
        record {
          long = length-set s.bytes (c / 8) (bit_or (get_or s.bytes (c / 8) 0) (2 ^ (c % 8))) ∙ w.long;
          room = w.room;
          whole = w.whole;
          past = λ i l. get_or-set_other s.bytes (c / 8) i (bit_or (get_or s.bytes (c / 8) 0) (2 ^ (c % 8))) 0 (λ q. omega (arith, ltb-true (c / 8) (reserved_of s) e)) ∙ w.past i l;
        }
    go false e = w

pub well_union : (s t : CellBitSet) → WellFormed s → WellFormed t → WellFormed (union s t)
well_union s t v w =
    record {
      long = length_tab_from (λ i. bit_or (byte_of s i) (byte_of t i)) 0 64;
      room = omega arith;
      whole = omega (arith, v.whole, w.whole);
      past = λ i l. tab_past (λ i. bit_or (byte_of s i) (byte_of t i)) i (ap₂ bit_or (past_byte s i (omega arith)) (past_byte t i (omega arith)));
    }

pub well_sized : (s : CellBitSet) (n : ℕ) → WellFormed s → n ≤ 512 → WellFormed (sized s n)
well_sized s n w h =
    record {
      long = length_tab_from (byte_of s) 0 64;
      room = omega arith;
      whole = omega (arith, w.whole);
      past = λ i l. tab_past (byte_of s) i (past_byte s i (omega arith));
    }

-- a set that has the room already is left as it is
pub sized_same : (s : CellBitSet) (n : ℕ) → WellFormed s → 8 * groups n ≤ s.reserved → sized s n ≡ s
sized_same s n w h =
    ap₂ (λ (l : List ℕ) (r : ℕ). record { bytes = l; reserved = r })
    (sym (tab_is (byte_of s) 64 s.bytes w.long (λ k u. ⊎_elim (λ (x : k < reserved_of s). sym (byte-in (reserved_of s) s.bytes k x)) (λ (x : reserved_of s ≤ k). w.past k (omega (arith, w.room)) ∙ sym (past_byte s k x)) (split k (reserved_of s)))))
    (omega (arith, w.room))
