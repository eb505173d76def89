-- A list that is seven lists, one after the other: what stands where.
use Prim.Native.Nat.{ℕ, ◌+◌, ◌<◌}
use mathlib.Core.Path.{◌≡◌, sym, ap, ◌∙◌}
use mathlib.Core.List.{List, ◌++◌, append_assoc}
use native.Mathlib.Omega.{arith}
use lib.ListN.{length, get_or, drop, length-append, get_or-append}
use lib.Seq.{take_at, drop_at, get_or-append-add}
use Rattle.query_input.specs.Lent.{section}

part_mid : (p m r : List ℕ) (a n : ℕ) → length p ≡ a → length m ≡ n → section (p ++ (m ++ r)) a n ≡ m
part_mid p m r a n e f =
    ap (λ (l : List ℕ). section l a n) (sym (append_assoc p m r))
    ∙ ap (drop a) (take_at (p ++ m) r (a + n) (omega (arith, length-append p m)))
    ∙ drop_at p m a e

past : (p r : List ℕ) (a i : ℕ) → length p ≡ a → get_or (p ++ r) (a + i) 0 ≡ get_or r i 0
past p r a i e = ap (λ (k : ℕ). get_or (p ++ r) (k + i) 0) (sym e) ∙ get_or-append-add p r i 0

pub record Sizes (a b d e f g : List ℕ) (na nb nd ne nf ng : ℕ) : Type 0 where
  pub a_size : length a ≡ na
  pub b_size : length b ≡ nb
  pub d_size : length d ≡ nd
  pub e_size : length e ≡ ne
  pub f_size : length f ≡ nf
  pub g_size : length g ≡ ng

module _ (a b d e f g r : List ℕ) (na nb nd ne nf ng : ℕ) (s : Sizes a b d e f g na nb nd ne nf ng) where
  abbrev all : List ℕ
  all = a ++ (b ++ (d ++ (e ++ (f ++ (g ++ r)))))

  at_a : (i : ℕ) → i < na → get_or all i 0 ≡ get_or a i 0
  at_a i h = get_or-append a (b ++ (d ++ (e ++ (f ++ (g ++ r))))) 0 i (omega (arith, s.a_size))

  is_b : section all na nb ≡ b
  is_b = part_mid a b (d ++ (e ++ (f ++ (g ++ r)))) na nb s.a_size s.b_size

  ab_size : length (a ++ b) ≡ na + nb
  ab_size = omega (arith, length-append a b, s.a_size, s.b_size)

  is_d : section all (na + nb) nd ≡ d
  is_d =
      ap (λ (l : List ℕ). section l (na + nb) nd) (sym (append_assoc a b (d ++ (e ++ (f ++ (g ++ r))))))
      ∙ part_mid (a ++ b) d (e ++ (f ++ (g ++ r))) (na + nb) nd ab_size s.d_size

  abd_size : length (a ++ (b ++ d)) ≡ na + nb + nd
  abd_size = omega (arith, length-append a (b ++ d), length-append b d, s.a_size, s.b_size, s.d_size)

  is_e : section all (na + nb + nd) ne ≡ e
  is_e =
      let z : all ≡ (a ++ (b ++ d)) ++ (e ++ (f ++ (g ++ r))) = simp append_assoc in
      ap (λ (l : List ℕ). section l (na + nb + nd) ne) z
      ∙ part_mid (a ++ (b ++ d)) e (f ++ (g ++ r)) (na + nb + nd) ne abd_size s.e_size

  abde_size : length (a ++ (b ++ (d ++ e))) ≡ na + nb + nd + ne
  abde_size = omega (arith, length-append a (b ++ (d ++ e)), length-append b (d ++ e), length-append d e, s.a_size, s.b_size, s.d_size, s.e_size)

  is_f : section all (na + nb + nd + ne) nf ≡ f
  is_f =
      let z : all ≡ (a ++ (b ++ (d ++ e))) ++ (f ++ (g ++ r)) = simp append_assoc in
      ap (λ (l : List ℕ). section l (na + nb + nd + ne) nf) z
      ∙ part_mid (a ++ (b ++ (d ++ e))) f (g ++ r) (na + nb + nd + ne) nf abde_size s.f_size

  abdef_size : length (a ++ (b ++ (d ++ (e ++ f)))) ≡ na + nb + nd + ne + nf
  abdef_size =
      omega (arith, length-append a (b ++ (d ++ (e ++ f))), length-append b (d ++ (e ++ f)), length-append d (e ++ f), length-append e f, s.a_size, s.b_size, s.d_size, s.e_size, s.f_size)

  at_g : (i : ℕ) → i < ng → get_or all (na + nb + nd + ne + nf + i) 0 ≡ get_or g i 0
  at_g i h =
      let z : all ≡ (a ++ (b ++ (d ++ (e ++ f)))) ++ (g ++ r) = simp append_assoc in
      ap (λ (l : List ℕ). get_or l (na + nb + nd + ne + nf + i) 0) z
      ∙ past (a ++ (b ++ (d ++ (e ++ f)))) (g ++ r) (na + nb + nd + ne + nf) i abdef_size
      ∙ get_or-append g r 0 i (omega (arith, s.g_size))

  abdefg_size : length (a ++ (b ++ (d ++ (e ++ (f ++ g))))) ≡ na + nb + nd + ne + nf + ng
  abdefg_size =
      omega (arith, length-append a (b ++ (d ++ (e ++ (f ++ g)))), length-append b (d ++ (e ++ (f ++ g))), length-append d (e ++ (f ++ g)), length-append e (f ++ g), length-append f g, s.a_size, s.b_size, s.d_size, s.e_size, s.f_size, s.g_size)

  at_rest : (i : ℕ) → get_or all (na + nb + nd + ne + nf + ng + i) 0 ≡ get_or r i 0
  at_rest i =
      let z : all ≡ (a ++ (b ++ (d ++ (e ++ (f ++ g))))) ++ r = simp append_assoc in
      ap (λ (l : List ℕ). get_or l (na + nb + nd + ne + nf + ng + i) 0) z
      ∙ past (a ++ (b ++ (d ++ (e ++ (f ++ g))))) r (na + nb + nd + ne + nf + ng) i abdefg_size

  all_size : length all ≡ na + nb + nd + ne + nf + ng + length r
  all_size =
      let z : all ≡ (a ++ (b ++ (d ++ (e ++ (f ++ g))))) ++ r = simp append_assoc in
      ap length z ∙ omega (arith, length-append (a ++ (b ++ (d ++ (e ++ (f ++ g))))) r, abdefg_size)

-- ALL OF IT, as one
pub record Sections (l a b d e f g r : List ℕ) (na nb nd ne nf ng : ℕ) : Type 0 where
  pub first : (i : ℕ) → i < na → get_or l i 0 ≡ get_or a i 0
  pub second : section l na nb ≡ b
  pub third : section l (na + nb) nd ≡ d
  pub fourth : section l (na + nb + nd) ne ≡ e
  pub fifth : section l (na + nb + nd + ne) nf ≡ f
  pub sixth : (i : ℕ) → i < ng → get_or l (na + nb + nd + ne + nf + i) 0 ≡ get_or g i 0
  pub rest : (i : ℕ) → get_or l (na + nb + nd + ne + nf + ng + i) 0 ≡ get_or r i 0
  pub size : length l ≡ na + nb + nd + ne + nf + ng + length r

pub sections : {a b d e f g : List ℕ} (r : List ℕ) {na nb nd ne nf ng : ℕ} → Sizes a b d e f g na nb nd ne nf ng → {l : List ℕ}
    → l ≡ a ++ (b ++ (d ++ (e ++ (f ++ (g ++ r))))) → Sections l a b d e f g r na nb nd ne nf ng
sections {a} {b} {d} {e} {f} {g} r {na} {nb} {nd} {ne} {nf} {ng} s {l} z =
    record {
      first = λ i h. ap (λ (l : List ℕ). get_or l i 0) z ∙ at_a a b d e f g r na nb nd ne nf ng s i h;
      second = ap (λ (l : List ℕ). section l na nb) z ∙ is_b a b d e f g r na nb nd ne nf ng s;
      third = ap (λ (l : List ℕ). section l (na + nb) nd) z ∙ is_d a b d e f g r na nb nd ne nf ng s;
      fourth = ap (λ (l : List ℕ). section l (na + nb + nd) ne) z ∙ is_e a b d e f g r na nb nd ne nf ng s;
      fifth = ap (λ (l : List ℕ). section l (na + nb + nd + ne) nf) z ∙ is_f a b d e f g r na nb nd ne nf ng s;
      sixth = λ i h. ap (λ (l : List ℕ). get_or l (na + nb + nd + ne + nf + i) 0) z ∙ at_g a b d e f g r na nb nd ne nf ng s i h;
      rest = λ i. ap (λ (l : List ℕ). get_or l (na + nb + nd + ne + nf + ng + i) 0) z ∙ at_rest a b d e f g r na nb nd ne nf ng s i;
      size = ap length z ∙ all_size a b d e f g r na nb nd ne nf ng s;
    }
