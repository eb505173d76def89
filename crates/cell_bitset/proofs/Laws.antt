-- Which cells the sets hold.
use Prim.Native.Nat.{ℕ, zero, suc, ◌*◌, ◌-◌, ◌/◌, ◌%◌, ◌^◌, ◌<◌, ◌≤◌, min, max}
use mathlib.Core.Path.{◌≡◌, refl, ap, ap₂, sym, ◌∙◌}
use mathlib.Core.Bool.{Bool, true, false, not, ◌&&◌, ◌||◌, cond, and-true, and-false, and_assoc, or-false, true≢false}
use native.Mathlib.Omega.{arith}
use mathlib.Core.List.{List, [], ◌∷◌}
use lib.ListN.{get_or, length, set, replicate, length-replicate, get_or-replicate, get_or-eq_default}
use lib.Seq.{get_or-set_same, get_or-set_other}
use lib.Dec.{ltb, eqb}
use lib.Bits.{bit_or, bit_and, and_le_l, and_le_r, or_lt}
use lib.Pow.{pow-lt}
use mathlib.Core.Logic.{⊎_elim}
use Rattle.loops.specs.Iter.{range, some, some_in}
use Rattle.loops.proofs.Iter.{some_at, some_none, some_found, some_ext, and_left, and_right}
use Rattle.loops.specs.Count.{tab}
use Rattle.loops.proofs.Count.{get_d_tab, tab_ext}
use Rattle.loops.proofs.Search.{split}
use Rattle.byte_words.specs.ByteWord.{Bytes, byte_in, has_bit, both_have}
use Rattle.byte_words.proofs.Words.{or_with, not_not}
use Rattle.cell_bitset.proofs.Bits.{same_truth, bit-or, bit-and, bit_pow, bit_zero, cell_of, some_cell, gathered}
use Rattle.cell_bitset.proofs.Fill.{byte-in, byte_out}
use borrow.Author.Tests.{lt-ltb, le-ltb, ltb-true, eqb-true, eqb-false, eq-eqb, ne_eqb, not-true}
use Rattle.cell_bitset.specs.declared.CellBitSet.{CellBitSet}
use Rattle.cell_bitset.specs.CellSet.{bit, held, kept, reserved_of, byte_upto, byte_of, with_cell, union, sized, empty_set, groups, meets, holds_none, InBoth}

pub held_in : (s : CellBitSet) (c : ℕ) → c / 8 < reserved_of s → held s c ≡ bit (get_or s.bytes (c / 8) 0) (c % 8)
held_in s c h = ap (λ (b : Bool). b && bit (get_or s.bytes (c / 8) 0) (c % 8)) (lt-ltb (c / 8) (reserved_of s) h)

pub held_past : (s : CellBitSet) (c : ℕ) → reserved_of s ≤ c / 8 → held s c ≡ false
held_past s c h = ap (λ (b : Bool). b && bit (get_or s.bytes (c / 8) 0) (c % 8)) (le-ltb (c / 8) (reserved_of s) h)

-- a cell is held exactly where its bit in the bytes as reserved is set
held_byte : (s : CellBitSet) (c : ℕ) → held s c ≡ bit (byte_of s (c / 8)) (c % 8)
held_byte s c =
    ⊎_elim
    (λ (h : c / 8 < reserved_of s). held_in s c h ∙ ap (λ (x : ℕ). bit x (c % 8)) (sym (byte-in (reserved_of s) s.bytes (c / 8) h)))
    (λ (h : reserved_of s ≤ c / 8). held_past s c h ∙ sym (ap (λ (x : ℕ). bit x (c % 8)) (byte_out (reserved_of s) s.bytes (c / 8) h) ∙ bit_zero (c % 8)))
    (split (c / 8) (reserved_of s))

-- byte i of a set whose bytes are f's, where f is 0 past the reserved ones
byte_tab : (f : ℕ → ℕ) (r i : ℕ) → (min r 64 ≤ i → f i ≡ 0) → byte_upto (min r 64) (tab f 64) i ≡ f i
byte_tab f r i z =
    ⊎_elim
    (λ (h : i < min r 64). byte-in (min r 64) (tab f 64) i h ∙ get_d_tab f 64 i 0 (omega arith))
    (λ (h : min r 64 ≤ i). byte_out (min r 64) (tab f 64) i h ∙ sym (z h))
    (split i (min r 64))

pub held_union : (s t : CellBitSet) (c : ℕ) → held (union s t) c ≡ held s c || held t c
held_union s t c =
    held_byte (union s t) c
    ∙ ap (λ (x : ℕ). bit x (c % 8))
    (byte_tab (λ i. bit_or (byte_of s i) (byte_of t i)) (max (reserved_of s) (reserved_of t)) (c / 8)
    (λ h. ap₂ bit_or (byte_out (reserved_of s) s.bytes (c / 8) (omega arith)) (byte_out (reserved_of t) t.bytes (c / 8) (omega arith))))
    ∙ bit-or (byte_of s (c / 8)) (byte_of t (c / 8)) (c % 8) ∙ sym (ap₂ ◌||◌ (held_byte s c) (held_byte t c))

pub held_sized : (s : CellBitSet) (n c : ℕ) → held (sized s n) c ≡ held s c
held_sized s n c =
    held_byte (sized s n) c
    ∙ ap (λ (x : ℕ). bit x (c % 8)) (byte_tab (byte_of s) (max (reserved_of s) (8 * groups n)) (c / 8) (λ h. byte_out (reserved_of s) s.bytes (c / 8) (omega arith)))
    ∙ sym (held_byte s c)

pub held_new : (n c : ℕ) → held (empty_set n) c ≡ false
held_new n c =
    ⊎_elim
    (λ (h : c / 8 < reserved_of (empty_set n)). held_in (empty_set n) c h ∙ ap (λ (x : ℕ). bit x (c % 8)) (get_or-replicate 64 (c / 8) 0 0 (omega arith)) ∙ bit_zero (c % 8))
    (held_past (empty_set n) c)
    (split (c / 8) (reserved_of (empty_set n)))

-- the groups for n cells hold them, and no fewer do
pub groups_hold : (n : ℕ) → n ≤ 64 * groups n
groups_hold n = omega arith

pub groups_least : (n g : ℕ) → n ≤ 64 * g → groups n ≤ g
groups_least n g h = omega arith

-- a new set reserves whole groups
pub kept_new : (n c : ℕ) → n ≤ 512 → kept (empty_set n) c ≡ ltb c (64 * groups n)
kept_new n c h =
    same_truth (kept (empty_set n) c) (ltb c (64 * groups n))
    (λ e. lt-ltb c (64 * groups n) (omega (arith, ltb-true (c / 8) (reserved_of (empty_set n)) e)))
    (λ e. lt-ltb (c / 8) (reserved_of (empty_set n)) (omega (arith, ltb-true c (64 * groups n) e)))

-- the set with c, where c is kept
abbrev pub added : CellBitSet → ℕ → CellBitSet
added s c = record { bytes = set s.bytes (c / 8) (bit_or (get_or s.bytes (c / 8) 0) (2 ^ (c % 8))); reserved = s.reserved }

held_added : (s : CellBitSet) (c d : ℕ) → length s.bytes ≡ 64 → c / 8 < reserved_of s → held (added s c) d ≡ held s d || eqb d c
held_added s c d l h = go (eqb (d / 8) (c / 8)) refl
  where
    old : ℕ
    old = get_or s.bytes (c / 8) 0

    new : ℕ
    new = bit_or old (2 ^ (c % 8))

    go : (t : Bool) → eqb (d / 8) (c / 8) ≡ t → held (added s c) d ≡ held s d || eqb d c
    go true e =
        let q = eqb-true (d / 8) (c / 8) e in
        let same : get_or (set s.bytes (c / 8) new) (d / 8) 0 ≡ new = ap (λ (x : ℕ). get_or (set s.bytes (c / 8) new) x 0) q ∙ get_or-set_same s.bytes (c / 8) new 0 (omega arith) in
        held_in (added s c) d (omega arith) ∙ ap (λ (x : ℕ). bit x (d % 8)) same
        ∙ bit-or old (2 ^ (c % 8)) (d % 8)
        ∙ ap₂ ◌||◌ (ap (λ (x : ℕ). bit (get_or s.bytes x 0) (d % 8)) (sym q) ∙ sym (held_in s d (omega arith)))
        (bit_pow (c % 8) (d % 8)
        ∙ same_truth (eqb (d % 8) (c % 8)) (eqb d c) (λ x. eq-eqb d c (omega (arith, eqb-true (d % 8) (c % 8) x))) (λ x. eq-eqb (d % 8) (c % 8) (ap (λ (y : ℕ). y % 8) (eqb-true d c x))))
    go false e =
        let q = eqb-false (d / 8) (c / 8) e in
        ap (λ (x : ℕ). kept s d && bit x (d % 8)) (get_or-set_other s.bytes (c / 8) (d / 8) new 0 q)
        ∙ sym (ap (λ (b : Bool). held s d || b) (ne_eqb d c (λ x. q (ap (λ (y : ℕ). y / 8) x))) ∙ or-false (held s d))

-- setting a cell adds that cell, where it is kept, and no other
pub held_set : (s : CellBitSet) (c d : ℕ) → length s.bytes ≡ 64 → held (with_cell s c) d ≡ held s d || (eqb d c && kept s c)
held_set s c d l = go (kept s c) refl
  where
    go : (t : Bool) → kept s c ≡ t → held (cond t (added s c) s) d ≡ held s d || (eqb d c && t)
    go true e = held_added s c d l (ltb-true (c / 8) (reserved_of s) e) ∙ ap (λ (b : Bool). held s d || b) (sym (and-true (eqb d c)))
    go false e = sym (ap (λ (b : Bool). held s d || b) (and-false (eqb d c)) ∙ or-false (held s d))

-- the room of the sets
pub kept_set : (s : CellBitSet) (c d : ℕ) → kept (with_cell s c) d ≡ kept s d
kept_set s c d = go (kept s c)
  where
    go : (t : Bool) → kept (cond t (added s c) s) d ≡ kept s d
    go true = refl
    go false = refl

-- a number is below the greater of two, or the smaller
below_max : (i a b : ℕ) → ltb i (max a b) ≡ ltb i a || ltb i b
below_max i a b =
    ⊎_elim
    (λ (h : i < a). lt-ltb i (max a b) (omega arith) ∙ sym (ap (λ (x : Bool). x || ltb i b) (lt-ltb i a h)))
    (λ (h : a ≤ i).
    same_truth (ltb i (max a b)) (ltb i b)
    (λ e. lt-ltb i b (omega (arith, ltb-true i (max a b) e)))
    (λ e. lt-ltb i (max a b) (omega (arith, ltb-true i b e)))
    ∙ sym (ap (λ (x : Bool). x || ltb i b) (le-ltb i a h)))
    (split i a)

below_min : (i a b : ℕ) → ltb i (min a b) ≡ ltb i a && ltb i b
below_min i a b =
    same_truth (ltb i (min a b)) (ltb i a && ltb i b)
    (λ e. ap₂ ◌&&◌ (lt-ltb i a (omega (arith, ltb-true i (min a b) e))) (lt-ltb i b (omega (arith, ltb-true i (min a b) e))))
    (λ e. lt-ltb i (min a b) (omega (arith, ltb-true i a (and_left (ltb i a) (ltb i b) e), ltb-true i b (and_right (ltb i a) (ltb i b) e))))

pub kept_union : (s t : CellBitSet) (c : ℕ) → kept (union s t) c ≡ kept s c || kept t c
kept_union s t c =
    let e : min (max (reserved_of s) (reserved_of t)) 64 ≡ max (reserved_of s) (reserved_of t) = omega arith in
    ap (ltb (c / 8)) e ∙ below_max (c / 8) (reserved_of s) (reserved_of t)

pub kept_sized : (s : CellBitSet) (n c : ℕ) → n ≤ 512 → kept (sized s n) c ≡ kept s c || ltb c (64 * groups n)
kept_sized s n c h =
    let e : min (max (reserved_of s) (8 * groups n)) 64 ≡ max (reserved_of s) (reserved_of (empty_set n)) = omega arith in
    ap (ltb (c / 8)) e ∙ below_max (c / 8) (reserved_of s) (reserved_of (empty_set n)) ∙ ap (λ (b : Bool). kept s c || b) (kept_new n c h)

and_pairs : (p q u v : Bool) → (p && q) && (u && v) ≡ (p && u) && (q && v)
and_pairs true true u v = refl
and_pairs true false u v = sym (and-false u)
and_pairs false q u v = refl

-- two sets meet exactly where their first n bytes share a bit, if what the n bytes share is what both hold
meets_by : (f g : ℕ → ℕ) (n : ℕ) (s t : CellBitSet) → n ≤ 64 → ((k : ℕ) → bit_and (f k) (g k) < 256)
    → ((c : ℕ) → ltb (c / 8) n && (bit (f (c / 8)) (c % 8) && bit (g (c / 8)) (c % 8)) ≡ held s c && held t c) → some_in (both_have f g) 0 n ≡ meets s t
meets_by f g n s t u b h =
    let e : n - 0 ≡ n = omega arith in
    ap (some (both_have f g) 0) e ∙ some_cell (λ k. bit_and (f k) (g k)) n b u
    ∙ some_ext (cell_of (λ k. bit_and (f k) (g k)) n) (λ c. held s c && held t c) 0 512
    (λ c l u. ap (λ (x : Bool). ltb (c / 8) n && x) (bit-and (f (c / 8)) (g (c / 8)) (c % 8)) ∙ h c)

-- what `intersects` asks of the bytes of both, up to the shorter set's
pub meets_shorter : (s t : CellBitSet) (n : ℕ) → n ≡ min (reserved_of s) (reserved_of t) → ((k : ℕ) → get_or s.bytes k 0 < 256) → some_in (both_have (byte_in s.bytes) (byte_in t.bytes)) 0 n ≡ meets s t
meets_shorter s t n m b =
    meets_by (byte_in s.bytes) (byte_in t.bytes) n s t (omega arith) (λ k. omega (arith, b k, and_le_l (get_or s.bytes k 0) (get_or t.bytes k 0)))
    (λ c. let x = bit (get_or s.bytes (c / 8) 0) (c % 8) in
    let y = bit (get_or t.bytes (c / 8) 0) (c % 8) in
    ap (λ (z : Bool). z && (x && y)) (ap (ltb (c / 8)) m ∙ below_min (c / 8) (reserved_of s) (reserved_of t)) ∙ and_pairs (kept s c) (kept t c) x y)

-- a set of 64 reserved bytes f 0, f 1, ..
row_held : (f : ℕ → ℕ) (s : CellBitSet) → s ≡ record { bytes = tab f 64; reserved = 64 } → (c : ℕ) → ltb (c / 8) 64 && bit (f (c / 8)) (c % 8) ≡ held s c
row_held f s e c =
    ⊎_elim
    (λ (h : c / 8 < 64). ap (λ (x : ℕ). ltb (c / 8) 64 && bit x (c % 8)) (sym (get_d_tab f 64 (c / 8) 0 h)))
    (λ (h : 64 ≤ c / 8). ap (λ (b : Bool). b && bit (f (c / 8)) (c % 8)) (le-ltb (c / 8) 64 h) ∙ sym (ap (λ (b : Bool). b && bit (get_or (tab f 64) (c / 8) 0) (c % 8)) (le-ltb (c / 8) 64 h)))
    (split (c / 8) 64)
    ∙ ap (λ (x : CellBitSet). held x c) (sym e)

-- and what a query asks of a pattern's bytes, all 64 of them reserved, and the words of a set
pub meets_row : (f : ℕ → ℕ) (s t : CellBitSet) → Bytes (byte_of t) → s ≡ record { bytes = tab f 64; reserved = 64 } → some_in (both_have f (byte_of t)) 0 64 ≡ meets s t
meets_row f s t b e =
    meets_by f (byte_of t) 64 s t (omega arith) (λ k. omega (arith, b.small k, and_le_r (f k) (byte_of t k)))
    (λ c. sym (and_assoc (ltb (c / 8) 64) (bit (f (c / 8)) (c % 8)) (bit (byte_of t (c / 8)) (c % 8))) ∙ ap₂ ◌&&◌ (row_held f s e c) (sym (held_byte t c)))

-- a set's words have no bit exactly where it holds no cell
byte_cell : (s : CellBitSet) (c : ℕ) → cell_of (byte_of s) 64 c ≡ held s c
byte_cell s c =
    ⊎_elim
    (λ (h : c / 8 < 64). ap (λ (b : Bool). b && bit (byte_of s (c / 8)) (c % 8)) (lt-ltb (c / 8) 64 h) ∙ sym (held_byte s c))
    (λ (h : 64 ≤ c / 8). ap (λ (b : Bool). b && bit (byte_of s (c / 8)) (c % 8)) (le-ltb (c / 8) 64 h) ∙ sym (held_past s c (omega arith)))
    (split (c / 8) 64)

pub none_words : (s : CellBitSet) → Bytes (byte_of s) → not (some_in (has_bit (byte_of s)) 0 64) ≡ holds_none s
none_words s b = ap not (some_cell (byte_of s) 64 b.small (omega arith) ∙ some_ext (cell_of (byte_of s) 64) (held s) 0 512 (λ c l u. byte_cell s c))

-- the bytes of a set are bytes: of a new one, and where a cell is set
set_small : (l : List ℕ) (i v k : ℕ) → v < 256 → ((j : ℕ) → get_or l j 0 < 256) → get_or (set l i v) k 0 < 256
set_small [] i v k h b = b k
set_small (x ∷ l) zero v zero h b = h
set_small (x ∷ l) zero v (suc k) h b = b (suc k)
set_small (x ∷ l) (suc i) v zero h b = b 0
set_small (x ∷ l) (suc i) v (suc k) h b = set_small l i v k h (λ j. b (suc j))

zeros_small : (n k : ℕ) → get_or (replicate {A = ℕ} n 0) k 0 < 256
zeros_small n k = ⊎_elim (λ (h : k < n). omega (arith, get_or-replicate {A = ℕ} n k 0 0 h)) (λ (h : n ≤ k). omega (arith, get_or-eq_default (replicate {A = ℕ} n 0) 0 {n = k} (omega (arith, length-replicate {A = ℕ} n 0)))) (split k n)

pub bytes_new : (n : ℕ) → Bytes (byte_in (empty_set n).bytes)
bytes_new n = record { small = zeros_small 64 }

pub bytes_set : (s : CellBitSet) (c : ℕ) → Bytes (byte_in s.bytes) → Bytes (byte_in (with_cell s c).bytes)
bytes_set s c b = go (kept s c)
  where
    go : (t : Bool) → Bytes (byte_in (cond t (added s c) s).bytes)
    go true = record { small = λ k. set_small s.bytes (c / 8) (bit_or (get_or s.bytes (c / 8) 0) (2 ^ (c % 8))) k (or_lt 8 (get_or s.bytes (c / 8) 0) (2 ^ (c % 8)) (b.small (c / 8)) (pow-lt {j = 8} (omega arith))) b.small }
    go false = b

pub bytes_of : (s : CellBitSet) → Bytes (byte_in s.bytes) → Bytes (byte_of s)
bytes_of s b = record { small = λ i. go i (ltb i (reserved_of s)) }
  where
    go : (i : ℕ) (t : Bool) → cond t (get_or s.bytes i 0) 0 < 256
    go i true = b.small i
    go i false = omega arith

-- what the loop of `is_empty` ends with
pub none_gathered : (s : CellBitSet) (n x : ℕ) → x ≡ range (or_with (λ k. get_or s.bytes k 0)) 0 n 0 → n ≡ reserved_of s → ((k : ℕ) → get_or s.bytes k 0 < 256) → eqb x 0 ≡ holds_none s
none_gathered s n x e m b =
    sym (not_not (eqb x 0))
    ∙ ap not
    (ap (λ (y : ℕ). not (eqb y 0)) e ∙ gathered (λ k. get_or s.bytes k 0) n b (omega arith)
    ∙ ap (λ (k : ℕ). some_in (cell_of (λ i. get_or s.bytes i 0) k) 0 512) m)

-- a cell that is held is one of the 512
held_below : (s : CellBitSet) (c : ℕ) → held s c ≡ true → c < 512
held_below s c h = omega (arith, ltb-true (c / 8) (reserved_of s) (and_left (kept s c) (bit (get_or s.bytes (c / 8) 0) (c % 8)) h))

-- two sets meet exactly where a cell is in both
pub meets_at : (s t : CellBitSet) (c : ℕ) → held s c ≡ true → held t c ≡ true → meets s t ≡ true
meets_at s t c h k = some_at (λ c. held s c && held t c) 0 512 c (ap₂ ◌&&◌ h k) (omega arith) (omega (arith, held_below s c h))

pub meets_found : (s t : CellBitSet) → meets s t ≡ true → InBoth s t
meets_found s t e =
    let p = some_found (λ c. held s c && held t c) 0 512 e in
    record { cell = p.at; first = and_left (held s p.at) (held t p.at) p.passes; second = and_right (held s p.at) (held t p.at) p.passes }

-- a set is empty exactly where it holds no cell
pub none_at : (s : CellBitSet) → holds_none s ≡ true → (c : ℕ) → held s c ≡ false
none_at s e c = go (held s c) refl
  where
    go : (t : Bool) → held s c ≡ t → t ≡ false
    go true h = absurd (true≢false (sym (some_at (held s) 0 512 c h (omega arith) (omega (arith, held_below s c h))) ∙ not-true (some_in (held s) 0 512) e))
    go false h = refl

pub none_all : (s : CellBitSet) → ((c : ℕ) → held s c ≡ false) → holds_none s ≡ true
none_all s h = ap not (some_none (held s) 0 512 (λ c l u. h c))

-- what `union_with` makes of the parts
pub union_made : (s t : CellBitSet) → tab (λ i. bit_or (get_or (tab (byte_of s) 64) i 0) (byte_of t i)) 64 ≡ (union s t).bytes
union_made s t =
    tab_ext (λ i. bit_or (get_or (tab (byte_of s) 64) i 0) (byte_of t i)) (λ i. bit_or (byte_of s i) (byte_of t i)) 64
    (λ i u. ap (λ (x : ℕ). bit_or x (byte_of t i)) (get_d_tab (byte_of s) 64 i 0 u))
