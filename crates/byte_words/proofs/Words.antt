-- Words against their bytes.
use Prim.Native.Nat.{ℕ, zero, suc, ◌+◌, ◌*◌, ◌-◌, ◌/◌, ◌%◌, ◌^◌, ◌<◌, ◌≤◌}
use mathlib.Core.Path.{◌≡◌, refl, ap, ap₂, sym, ◌∙◌, subst}
use mathlib.Core.Bool.{Bool, true, false, not, ◌||◌, or_assoc, or-false}
use native.Mathlib.Nat.{eq-or-lt_of_le, one-mul, add-zero, add-suc, suc-add, zero-add}
use mathlib.Core.List.{List}
use mathlib.Core.Logic.{⊎_elim}
use mir.Val.{Fits}
use mir.Syntax.{w8}
use lib.ListN.{get_or}
use native.Mathlib.Omega.{arith}
use lib.Dec.{eqb, lit<}
use lib.Bits.{bit_and, bit_or, and_shr, and_mod, or_add_and, and_le_l, and_le_r}
use lib.Pow.{shl_exact, mod-pow-add}
use borrow.Author.Tests.{eqb-true, eqb-false, eq-eqb, ne_eqb}
use Rattle.loops.specs.Iter.{iter, range, some, some_in}
use Rattle.loops.proofs.Iter.{some_ext}
use Rattle.loops.specs.Count.{tab, tab_from}
use Rattle.loops.proofs.Count.{get_d_tab, tab_ext, tab_is}
use Rattle.std.specs.List.{fold}
use Rattle.std.specs.Array.{IsFromFnResult, IsFromFnResultFrom}
use Rattle.std.specs.Fn.{Called}
use denote.Param.Members.{Mut}
use Rattle.loops.proofs.Search.{split}
use Rattle.byte_words.specs.ByteWord.{byte_in, Bytes, word_of, eight_of, words_of, has_bit, both_have}

pub not_not : (b : Bool) → not (not b) ≡ b
not_not true = refl
not_not false = refl

-- OR. A number that takes in the bits of n others is 0 exactly where it was 0 and each of them is
abbrev pub or_with : (ℕ → ℕ) → ℕ → ℕ → ℕ
or_with f k x = bit_or x (f k)

or_some : (a b : ℕ) → not (eqb (bit_or a b) 0) ≡ not (eqb a 0) || not (eqb b 0)
or_some a b = go (eqb a 0) refl
  where
    go : (x : Bool) → eqb a 0 ≡ x → not (eqb (bit_or a b) 0) ≡ not x || not (eqb b 0)
    go true e = ap (λ (x : ℕ). not (eqb (bit_or x b) 0)) (eqb-true a 0 e)
    go false e = ap not (ne_eqb (bit_or a b) 0 (λ q. eqb-false a 0 e (omega (arith, or_add_and a b, and_le_r a b))))

pub or_all : (f : ℕ → ℕ) (i n s : ℕ) → not (eqb (iter (or_with f) i n s) 0) ≡ not (eqb s 0) || some (has_bit f) i n
unfolding iter some
or_all f i zero s = sym (or-false (not (eqb s 0)))
or_all f i (suc n) s =
    or_all f (suc i) n (bit_or s (f i)) ∙ ap (λ (b : Bool). b || some (has_bit f) (suc i) n) (or_some s (f i))
    ∙ or_assoc (not (eqb s 0)) (has_bit f i) (some (has_bit f) (suc i) n)

-- THE WIDTH. A word is 0 exactly where each of its bytes is; the `and` of two words is the word of their bytes' `and`s
add_some : (a x : ℕ) → not (eqb (a + 256 * x) 0) ≡ not (eqb a 0) || not (eqb x 0)
add_some a x = go (eqb a 0) refl (eqb x 0) refl
  where
    go : (p : Bool) → eqb a 0 ≡ p → (q : Bool) → eqb x 0 ≡ q → not (eqb (a + 256 * x) 0) ≡ not p || not q
    go true e true d = ap not (eq-eqb (a + 256 * x) 0 (omega (arith, eqb-true a 0 e, eqb-true x 0 d)))
    go true e false d = ap not (ne_eqb (a + 256 * x) 0 (λ z. eqb-false x 0 d (omega arith)))
    go false e q d = ap not (ne_eqb (a + 256 * x) 0 (λ z. eqb-false a 0 e (omega arith)))

pub word_some : (f : ℕ → ℕ) (i n : ℕ) → not (eqb (word_of f i n) 0) ≡ some (has_bit f) i n
unfolding word_of some
word_some f i zero = refl
word_some f i (suc n) = add_some (f i) (word_of f (suc i) n) ∙ ap (λ (b : Bool). has_bit f i || b) (word_some f (suc i) n)

and_step : (a b x y : ℕ) → a < 256 → b < 256 → bit_and (a + 256 * x) (b + 256 * y) ≡ bit_and a b + 256 * bit_and x y
and_step a b x y h l =
    let z = bit_and (a + 256 * x) (b + 256 * y) in
    let xa : (a + 256 * x) / 256 ≡ x = omega arith in
    let yb : (b + 256 * y) / 256 ≡ y = omega arith in
    let ra : (a + 256 * x) % 256 ≡ a = omega arith in
    let rb : (b + 256 * y) % 256 ≡ b = omega arith in
    let high : z / 256 ≡ bit_and x y = and_shr (a + 256 * x) (b + 256 * y) 8 ∙ ap₂ bit_and xa yb in
    let low : z % 256 ≡ bit_and a b = and_mod (a + 256 * x) (b + 256 * y) 8 ∙ ap₂ bit_and ra rb in
    omega (arith, high, low)

and_word : (f g : ℕ → ℕ) → Bytes f → Bytes g → (i n : ℕ) → bit_and (word_of f i n) (word_of g i n) ≡ word_of (λ k. bit_and (f k) (g k)) i n
unfolding word_of
and_word f g p q i zero = refl
and_word f g p q i (suc n) =
    and_step (f i) (g i) (word_of f (suc i) n) (word_of g (suc i) n) (p.small i) (q.small i)
    ∙ ap (λ (x : ℕ). bit_and (f i) (g i) + 256 * x) (and_word f g p q (suc i) n)

-- the law over the width: the `and` of two words is 0 exactly where the `and` of every two of their bytes is
pub word_and : (f g : ℕ → ℕ) → Bytes f → Bytes g → (i n : ℕ) → not (eqb (bit_and (word_of f i n) (word_of g i n)) 0) ≡ some (both_have f g) i n
word_and f g p q i n = ap (λ (x : ℕ). not (eqb x 0)) (and_word f g p q i n) ∙ word_some (λ k. bit_and (f k) (g k)) i n

-- the same of two words that were gathered from slices of bytes
pub fits_bytes : (l : List ℕ) → ((k : ℕ) → Fits w8 (get_or l k 0)) → Bytes (byte_in l)
fits_bytes l h = record { small = λ k. (h k).fits }

pub words_and : (a b : List ℕ) (i : ℕ) {x y : ℕ} → Bytes (byte_in a) → Bytes (byte_in b) → x ≡ word_of (byte_in a) i 8 → y ≡ word_of (byte_in b) i 8 → not (eqb (bit_and x y) 0) ≡ some (both_have (byte_in a) (byte_in b)) i 8
words_and a b i p q ex ey = ap₂ (λ (x y : ℕ). not (eqb (bit_and x y) 0)) ex ey ∙ word_and (byte_in a) (byte_in b) p q i 8

-- WORDS IN A ROW. Some byte of two ranges, one after the other; of so many words
pub some_split : (p : ℕ → Bool) (i a m : ℕ) → some p i (a + m) ≡ some p i a || some p (i + a) m
unfolding some
some_split p i zero m = ap₂ (some p) (sym (add-zero i)) (zero-add m)
some_split p i (suc a) m =
    ap (some p i) (suc-add a m)
    ∙ ap (λ (b : Bool). p i || b) (some_split p (suc i) a m ∙ ap (λ (k : ℕ). some p (suc i) a || some p k m) (suc-add i a ∙ sym (add-suc i a)))
    ∙ sym (or_assoc (p i) (some p (suc i) a) (some p (i + suc a) m))

pub some_words : (p : ℕ → Bool) (i n : ℕ) → some (λ w. some p (w * 8) 8) i n ≡ some p (i * 8) (n * 8)
unfolding some
some_words p i zero = refl
some_words p i (suc n) =
    let m : suc n * 8 ≡ 8 + n * 8 = omega arith in
    let j : suc i * 8 ≡ i * 8 + 8 = omega arith in
    ap (λ (b : Bool). some p (i * 8) 8 || b) (some_words p (suc i) n ∙ ap (λ (k : ℕ). some p k (n * 8)) j)
    ∙ sym (ap (some p (i * 8)) m ∙ some_split p (i * 8) 8 (n * 8))

-- bytes from a on
pub word_shift : (f : ℕ → ℕ) (a j n : ℕ) → word_of f (a + j) n ≡ word_of (λ i. f (a + i)) j n
unfolding word_of
word_shift f a j zero = refl
word_shift f a j (suc n) = ap (λ (x : ℕ). f (a + j) + 256 * x) (ap (λ (k : ℕ). word_of f k n) (sym (add-suc a j)) ∙ word_shift f a (suc j) n)

-- a loop that takes in n numbers, each 0 exactly where p passes no byte of a word
pub words_taken : (h : ℕ → ℕ) (p : ℕ → Bool) (n x : ℕ) → x ≡ range (or_with h) 0 n 0 → ((w : ℕ) → w < n → has_bit h w ≡ some p (w * 8) 8) → not (eqb x 0) ≡ some_in p 0 (n * 8)
words_taken h p n x e each =
    ap (λ (y : ℕ). not (eqb y 0)) e
    ∙ or_all h 0 (n - 0) 0
    ∙ some_ext (has_bit h) (λ w. some p (w * 8) 8) 0 (n - 0) (λ w l u. each w (omega arith))
    ∙ some_words p 0 (n - 0)
    ∙ ap (some p 0) (omega arith)

or_none : (a b : Bool) → a || b ≡ false → a ≡ false
or_none true b h = h
or_none false b h = refl

-- A search by the word, with the invariant `whole ≡ some_in p i n`: a word that passes, one that does not, the end
some_next : (p : ℕ → Bool) (i n : ℕ) → i + 8 ≤ n → some_in p i n ≡ some p i 8 || some_in p (i + 8) n
some_next p i n h = let e : n - i ≡ 8 + (n - (i + 8)) = omega arith in ap (some p i) e ∙ some_split p i 8 (n - (i + 8))

pub word_yes : (p : ℕ → Bool) (i n x : ℕ) {whole : Bool} → whole ≡ some_in p i n → not (eqb x 0) ≡ some p i 8 → (x ≡ 0 → ⊥) → i + 8 ≤ n → true ≡ whole
word_yes p i n x inv e f h = sym (inv ∙ some_next p i n h ∙ ap (λ (b : Bool). b || some_in p (i + 8) n) (sym e ∙ ap not (ne_eqb x 0 f)))

pub word_again : (p : ℕ → Bool) (i n x : ℕ) {whole : Bool} → whole ≡ some_in p i n → not (eqb x 0) ≡ some p i 8 → x ≡ 0 → i < n → whole ≡ some_in p (i + 8) n
unfolding some
word_again p i n x inv e f h = inv ∙ ⊎_elim long short (split n (i + 8))
  where
    none : some p i 8 ≡ false
    none = sym e ∙ ap not (eq-eqb x 0 f)

    short : i + 8 ≤ n → some_in p i n ≡ some_in p (i + 8) n
    short l = some_next p i n l ∙ ap (λ (b : Bool). b || some_in p (i + 8) n) none

    long : n < i + 8 → some_in p i n ≡ some_in p (i + 8) n
    long l =
        let z : n - (i + 8) ≡ 0 = omega arith in
        let m : 8 ≡ (n - i) + (8 - (n - i)) = omega arith in
        or_none (some p i (n - i)) (some p (i + (n - i)) (8 - (n - i))) (sym (some_split p i (n - i) (8 - (n - i))) ∙ sym (ap (some p i) m) ∙ none) ∙ sym (ap (some p (i + 8)) z)

pub word_left : (p : ℕ → Bool) (i n : ℕ) {whole : Bool} → whole ≡ some_in p i n → n ≤ i → false ≡ whole
unfolding some
word_left p i n inv h = let e : n - i ≡ 0 = omega arith in sym (inv ∙ ap (some p i) e)

-- CUT. The first n bytes of a word, as `%` cuts them off, and `1 << 8 n`
word_cut : (f : ℕ → ℕ) → Bytes f → (i n m : ℕ) → word_of f i (n + m) % 2 ^ (n * 8) ≡ word_of f i n
unfolding word_of
word_cut f b i zero m = omega arith
word_cut f b i (suc n) m =
    let rest = word_of f (suc i) (n + m) in
    let k : suc n * 8 ≡ n * 8 + 8 = omega arith in
    let high : (f i + 256 * rest) / 256 ≡ rest = omega (arith, b.small i) in
    let low : (f i + 256 * rest) % 256 ≡ f i = omega (arith, b.small i) in
    ap₂ (λ (x y : ℕ). word_of f i x % 2 ^ y) (suc-add n m) k
    ∙ mod-pow-add (f i + 256 * rest) (n * 8) 8
    ∙ ap₂ (λ (x y : ℕ). x % 2 ^ (n * 8) * 256 + y) high low
    ∙ ap (λ (x : ℕ). x * 256 + f i) (word_cut f b (suc i) n m)
    ∙ omega arith

pub one_shl_bytes : (n : ℕ) → n < 8 → (1 * 2 ^ (n * 8)) % 18446744073709551616 ≡ 2 ^ (n * 8)
one_shl_bytes n h = shl_exact 1 (n * 8) 64 (lit< tt) (omega arith) ∙ one-mul (2 ^ (n * 8))

and_small : (f g : ℕ → ℕ) → Bytes f → Bytes (λ k. bit_and (f k) (g k))
and_small f g p = record { small = λ k. omega (arith, p.small k, and_le_l (f k) (g k)) }

pub word_and_cut : (f g : ℕ → ℕ) → Bytes f → Bytes g → (i n : ℕ) → n < 8 → not (eqb (bit_and (word_of f i 8) (word_of g i 8) % 2 ^ (n * 8)) 0) ≡ some (both_have f g) i n
word_and_cut f g p q i n h =
    let z : 8 ≡ n + (8 - n) = omega arith in
    ap (λ (x : ℕ). not (eqb (x % 2 ^ (n * 8)) 0)) (and_word f g p q i 8 ∙ ap (word_of (λ k. bit_and (f k) (g k)) i) z)
    ∙ ap (λ (x : ℕ). not (eqb x 0)) (word_cut (λ k. bit_and (f k) (g k)) (and_small f g p) i n (8 - n))
    ∙ word_some (λ k. bit_and (f k) (g k)) i n

-- bytes that are the same make the same words
word_ext : (f g : ℕ → ℕ) (i n : ℕ) → ((k : ℕ) → k < i + n → f k ≡ g k) → word_of f i n ≡ word_of g i n
unfolding word_of
word_ext f g i zero h = refl
word_ext f g i (suc n) h = ap₂ (λ (x y : ℕ). x + 256 * y) (h i (omega arith)) (word_ext f g (suc i) n (λ k l. h k (omega arith)))

pub words_tab : (f : ℕ → ℕ) → words_of (byte_in (tab f 64)) ≡ words_of f
words_tab f = tab_ext (eight_of (byte_in (tab f 64))) (eight_of f) 8 (λ w u. word_ext (byte_in (tab f 64)) f (w * 8) 8 (λ k l. get_d_tab f 64 k 0 (omega arith)))

-- eight bytes, one by one, make a word
pub eight : (f : ℕ → ℕ) (i : ℕ)
    → f i + f (i + 1) * 256 + f (i + 2) * 65536 + f (i + 3) * 16777216 + f (i + 4) * 4294967296 + f (i + 5) * 1099511627776 + f (i + 6) * 281474976710656 + f (i + 7) * 72057594037927936 ≡ word_of f i 8
unfolding word_of
eight f i =
    let i1 : i + 1 ≡ suc i = omega arith in
    let i2 : i + 2 ≡ suc (suc i) = omega arith in
    let i3 : i + 3 ≡ suc (suc (suc i)) = omega arith in
    let i4 : i + 4 ≡ suc (suc (suc (suc i))) = omega arith in
    let i5 : i + 5 ≡ suc (suc (suc (suc (suc i)))) = omega arith in
    let i6 : i + 6 ≡ suc (suc (suc (suc (suc (suc i))))) = omega arith in
    let i7 : i + 7 ≡ suc (suc (suc (suc (suc (suc (suc i)))))) = omega arith in
    rw (i1, i2, i3, i4, i5, i6, i7) (omega arith)

-- a fold that takes in the bits of the values of a function
pub fold_taken : (f : ℕ → ℕ) (i n s : ℕ) → fold bit_or s (tab_from f i n) ≡ iter (or_with f) i n s
unfolding tab_from iter
fold_taken f i zero s = refl
fold_taken f i (suc n) s = fold_taken f (suc i) n (bit_or s (f i))

-- an array made by a closure that leaves itself as it was and gives f of each place
pub tab_made : {F : Type 0} {g : Mut F (ℕ × Unit {0}) ℕ} (p : F) (f : ℕ → ℕ) (n : ℕ) (ys : List ℕ) → IsFromFnResult g p ys n
    → ((x y : ℕ) (q : F) → Called g p (x, tt) y q → (q ≡ p) × (y ≡ f x)) → ys ≡ tab f n
tab_made {F} {g} p f n ys made k = tab_is f n ys made.long (λ i l. from 0 n made.each i (omega arith) (omega arith))
  where
    from : (a m : ℕ) → IsFromFnResultFrom g p ys a m → (i : ℕ) → a ≤ i → i < a + m → get_or ys i 0 ≡ f i
    from a zero e i l u = absurd (omega arith)
    from a (suc m) e i l u =
        let t = k a e.1 e.0 e.3 in
        ⊎_elim (λ (d : a ≡ i). ap (λ (x : ℕ). get_or ys x 0) (sym d) ∙ e.2.1 0 ∙ t.1 ∙ ap f d)
        (λ (d : a < i). from (a + 1) m (subst (λ (x : F). IsFromFnResultFrom g x ys (a + 1) m) t.0 e.4) i (omega arith) (omega arith))
        (eq-or-lt_of_le l)
