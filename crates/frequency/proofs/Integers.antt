-- Integers as differences of numbers; need as one, above zero where run 0 leaves too early.
use Prim.Native.Nat.{ℕ, zero, suc, ◌+◌, ◌-◌, ◌<◌, ◌≤◌}
use mathlib.Core.Path.{◌≡◌, refl, ap, sym, ◌∙◌}
use mathlib.Core.Bool.{Bool, true, false, cond, not}
use mathlib.Core.Logic.{⊎_elim}
use native.Mathlib.Omega.{arith}
use lib.IntN.{ℤ, pos, negsuc, nat_abs, neg_ℤ, sub_ℕ, ◌+ℤ◌, ◌-ℤ◌, +ℤ_assoc, +ℤ_comm, neg_ℤ-+ℤ, neg_ℤ-neg_ℤ}
use borrow.Author.Tests.{lt-ltb, le-ltb, le-leb, lt-leb}
use Rattle.loops.proofs.Search.{split}
use Rattle.frequency.specs.Gtfs.{Window, board_offset, need, is_above}

pub sub_pos : (a b : ℕ) → b ≤ a → sub_ℕ a b ≡ pos (a - b)
sub_pos a b h = ap (λ (t : Bool). cond t (negsuc (b - suc a)) (pos (a - b))) (le-ltb a b h)

pub sub_neg : (a b : ℕ) → a < b → sub_ℕ a b ≡ negsuc (b - suc a)
sub_neg a b h = ap (λ (t : Bool). cond t (negsuc (b - suc a)) (pos (a - b))) (lt-ltb a b h)

pub minus : (a b : ℕ) → pos a -ℤ pos b ≡ sub_ℕ a b
minus a zero = ap pos (omega arith) ∙ sym (sub_pos a 0 (omega arith))
minus a (suc b) = refl

-- t + (dep - base) and after - (dep - base)
pub plus_offset : (t base dep : ℕ) → pos t +ℤ board_offset base dep ≡ sub_ℕ (t + dep) base
plus_offset t base dep = sym (+ℤ_assoc (pos t) (pos dep) (neg_ℤ (pos base))) ∙ minus (t + dep) base

pub less_offset : (after base dep : ℕ) → pos after -ℤ board_offset base dep ≡ sub_ℕ (after + base) dep
less_offset after base dep =
    ap (λ (z : ℤ). pos after +ℤ z) (neg_ℤ-+ℤ (pos dep) (neg_ℤ (pos base)) ∙ ap (λ (z : ℤ). neg_ℤ (pos dep) +ℤ z) (neg_ℤ-neg_ℤ (pos base)) ∙ +ℤ_comm (neg_ℤ (pos dep)) (pos base))
    ∙ sym (+ℤ_assoc (pos after) (pos base) (neg_ℤ (pos dep)))
    ∙ minus (after + base) dep

-- (a - b) - c = a - (b + c)
less_both : (a b c : ℕ) → sub_ℕ a b -ℤ pos c ≡ sub_ℕ a (b + c)
less_both a b c =
    ap (λ (z : ℤ). z +ℤ neg_ℤ (pos c)) (sym (minus a b))
    ∙ +ℤ_assoc (pos a) (neg_ℤ (pos b)) (neg_ℤ (pos c))
    ∙ ap (λ (z : ℤ). pos a +ℤ z) (sym (neg_ℤ-+ℤ (pos b) (pos c)))
    ∙ minus a (b + c)

module _ (w : Window) (base dep after : ℕ) where
  need_is : need w base dep after ≡ sub_ℕ (after + base) (dep + w.start)
  need_is = ap (λ (z : ℤ). z -ℤ pos w.start) (less_offset after base dep) ∙ less_both (after + base) dep w.start

  -- run 0 leaves too early
  module _ (l : w.start + dep < after + base) where
    need_later : need w base dep after ≡ pos (after + base - (w.start + dep))
    need_later = need_is ∙ sub_pos (after + base) (dep + w.start) (omega arith) ∙ ap pos (omega arith)

    pub above_later : is_above (need w base dep after) ≡ true
    above_later = ap is_above need_later ∙ ap not (lt-leb (after + base - (w.start + dep)) 0 (omega arith))

    pub size_later : nat_abs (need w base dep after) ≡ after + base - (w.start + dep)
    size_later = ap nat_abs need_later

    pub need_size : need w base dep after ≡ pos (nat_abs (need w base dep after))
    need_size = need_later ∙ ap pos (sym size_later)

  -- it does not
  pub above_first : after + base ≤ w.start + dep → is_above (need w base dep after) ≡ false
  above_first l =
      ap is_above need_is
      ∙ ⊎_elim (λ (q : after + base < dep + w.start). ap is_above (sub_neg (after + base) (dep + w.start) q))
      (λ (q : dep + w.start ≤ after + base). ap is_above (sub_pos (after + base) (dep + w.start) q) ∙ ap not (le-leb (after + base - (dep + w.start)) 0 (omega arith)))
      (split (after + base) (dep + w.start))
