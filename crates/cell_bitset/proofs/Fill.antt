-- A loop that goes through 64 bytes: those below i are f's, those from i on g's.
use Prim.Native.Nat.{ℕ, ◌+◌, ◌<◌, ◌≤◌}
use mathlib.Core.Path.{◌≡◌, ap, ◌∙◌}
use mathlib.Core.List.{List}
use native.Mathlib.Omega.{arith}
use mathlib.Core.Logic.{⊎_elim}
use Rattle.loops.proofs.Search.{split}
use lib.ListN.{length, get_or, set, length-set}
use mathlib.Core.Bool.{Bool, cond}
use borrow.Author.Tests.{lt-ltb, le-ltb}
use Rattle.cell_bitset.specs.CellSet.{byte_upto}
use lib.Seq.{get_or-set_other}
use Rattle.loops.specs.Count.{tab}
use Rattle.loops.proofs.Count.{tab_is, fill_again}

-- a byte that is one of the first n, and one that is not
pub byte-in : (n : ℕ) (l : List ℕ) (i : ℕ) → i < n → byte_upto n l i ≡ get_or l i 0
byte-in n l i h = ap (λ (b : Bool). cond b (get_or l i 0) 0) (lt-ltb i n h)

pub byte_out : (n : ℕ) (l : List ℕ) (i : ℕ) → n ≤ i → byte_upto n l i ≡ 0
byte_out n l i h = ap (λ (b : Bool). cond b (get_or l i 0) 0) (le-ltb i n h)

pub record Filled (f g : ℕ → ℕ) (i : ℕ) (l : List ℕ) : Type 0 where
  pub long : length l ≡ 64
  pub below : (k : ℕ) → k < i → get_or l k 0 ≡ f k
  pub above : (k : ℕ) → i ≤ k → get_or l k 0 ≡ g k

-- one turn
pub filled_again : (f g : ℕ → ℕ) (i : ℕ) (l l' : List ℕ) → Filled f g i l → l' ≡ set l i (f i) → i < 64 → Filled f g (i + 1) l'
filled_again f g i l l' h e u =
    record {
      long = ap length e ∙ simp length-set h.long;
      below = fill_again f i l l' h.below e (omega (arith, h.long));
      above = λ k x. ap (λ (m : List ℕ). get_or m k 0) e ∙ get_or-set_other l i k (f i) 0 (λ q. omega arith) ∙ h.above k (omega arith);
    }

-- the end: what is left is f's as it is
pub filled_done : (f g : ℕ → ℕ) (i : ℕ) (l : List ℕ) → Filled f g i l → ((k : ℕ) → i ≤ k → k < 64 → g k ≡ f k) → l ≡ tab f 64
filled_done f g i l h r = tab_is f 64 l h.long (λ k u. ⊎_elim (λ (x : k < i). h.below k x) (λ (x : i ≤ k). h.above k x ∙ r k x u) (split k i))
