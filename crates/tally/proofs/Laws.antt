-- What is claimed of the tally (specs/Laws), proved. Assumes nothing.
--     the_screen, the_tally    the claims
use mathlib.Core.Path.{◌≡◌, refl, sym, ap, subst, ◌∙◌}
use mathlib.Core.List.{List, [], ◌∷◌}
use Prim.Native.Nat.{ℕ, zero, suc, ◌+◌, ◌≤◌, ◌<◌, min}
use native.Mathlib.Omega.{arith}
use native.Mathlib.Decide.{ℕ_discrete, dec_le}
use borrow.Author.Tests.{le-leb, lt-leb, eq-eqb, ne_eqb}
use lib.ListN.{length, get_or, set, replicate, length-set, length-replicate, get_or-append}
use lib.Seq.{get_or-set_same, get_or-set_other, get_or-append-add}
use Rattle.tally.specs.declared.Tally.{Tally}
use Rattle.tally.specs.declared.ScreenTally.{ScreenTally}
use Rattle.tally.specs.Tally.{one_more, with_call, tally_words, shown_at, put_at, tally_with}
use Rattle.tally.specs.Screen.{for_screen, tally_after}
use Rattle.tally.specs.Laws.{ScreenCall, tally_of, codes_of, answers_in, refusals_in, valid_calls, tally_sum, greatest, IsTally, zero_tally, ScreenLaws, TallyLaws}
use Rattle.tally.proofs.Gate.{shut, opened, shut_tally, open_tally}

-- two counts
abbrev of : ℕ → ℕ → ScreenTally
of a r = record { answered = a; refused = r }

both : {a b c d : ℕ} → a ≡ b → c ≡ d → of a c ≡ of b d
both e f = λ i. of (e i) (f i)

-- A SCREEN'S OWN PLACE
length_put : (ws : List ℕ) (s : ℕ) (t : ScreenTally) → length (put_at ws s t) ≡ length ws
length_put ws s t = length-set (set ws s t.answered) (s + 64) t.refused ∙ length-set ws s t.answered

put_shown : (ws : List ℕ) (s : ℕ) (t : ScreenTally) → length ws ≡ 128 → s ≤ 63 → shown_at (put_at ws s t) s ≡ t
put_shown ws s t size valid =
    let l = length-set ws s t.answered in
    both
    (get_or-set_other (set ws s t.answered) (s + 64) s t.refused 0 (omega arith) ∙ get_or-set_same ws s t.answered 0 (omega arith))
    (get_or-set_same (set ws s t.answered) (s + 64) t.refused 0 (omega arith))

-- a place that is not the screen's
put_beside : (ws : List ℕ) (s : ℕ) (t : ScreenTally) (i : ℕ) → ((i ≡ s) → ⊥) → ((i ≡ s + 64) → ⊥) → get_or (put_at ws s t) i 0 ≡ get_or ws i 0
put_beside ws s t i d e = get_or-set_other (set ws s t.answered) (s + 64) i t.refused 0 e ∙ get_or-set_other ws s i t.answered 0 d

put_other : (ws : List ℕ) (s o : ℕ) (t : ScreenTally) → s ≤ 63 → o ≤ 63 → ((s ≡ o) → ⊥) → shown_at (put_at ws s t) o ≡ shown_at ws o
put_other ws s o t valid there d =
    let e : (o + 64 ≡ s + 64) → ⊥ = λ e. d (omega arith) in
    both (put_beside ws s t o (λ e. d (sym e)) (omega arith)) (put_beside ws s t (o + 64) (omega arith) e)

-- ONE CALL: the tally after it, by its screen
data Made (ws : List ℕ) (screen code : ℕ) : Type 0 where
  counted : screen ≤ 63 → tally_after ws screen code ≡ put_at ws screen (with_call (shown_at ws screen) code) → Made ws screen code
  nowhere : 63 < screen → tally_after ws screen code ≡ ws → Made ws screen code

made : (ws : List ℕ) (screen code : ℕ) → Made ws screen code
unfolding tally_with
made ws screen code = elim (dec_le screen 63) [
  | yes h ↦ counted h (sym (open_tally ws screen code h refl))
  | no n ↦ let h : 63 < screen = omega arith in nowhere h (sym (shut_tally ws screen code h refl))
]

with_call_fits : (t : ScreenTally) (k : ℕ) → t.answered ≤ greatest → t.refused ≤ greatest
    → ((with_call t k).answered ≤ greatest) × ((with_call t k).refused ≤ greatest)
with_call_fits t zero a r = (omega arith, r)
with_call_fits t (suc k) a r = (a, omega arith)

module _ (ws : List ℕ) (is : IsTally ws) (screen code : ℕ) where
  own_call : Made ws screen code → screen ≤ 63 → shown_at (tally_after ws screen code) screen ≡ with_call (shown_at ws screen) code
  own_call (counted h e) valid = rw e (put_shown ws screen (with_call (shown_at ws screen) code) is.size valid)
  own_call (nowhere h e) valid = absurd (omega arith)

  other_call : Made ws screen code → (s : ℕ) → s ≤ 63 → ((screen ≡ s) → ⊥) → shown_at (tally_after ws screen code) s ≡ shown_at ws s
  other_call (counted h e) s valid d = rw e (put_other ws screen s (with_call (shown_at ws screen) code) h valid d)
  other_call (nowhere h e) s valid d = rw e refl

  -- every place fits, by which place it is
  put_fits : screen ≤ 63 → (i : ℕ) → Dec (i ≡ screen) → Dec (i ≡ screen + 64) → get_or (put_at ws screen (with_call (shown_at ws screen) code)) i 0 ≤ greatest
  put_fits valid i (yes e) g =
      let t = put_shown ws screen (with_call (shown_at ws screen) code) is.size valid in
      subst (λ (j : ℕ). get_or (put_at ws screen (with_call (shown_at ws screen) code)) j 0 ≤ greatest) (sym e)
      (subst (λ (x : ScreenTally). x.answered ≤ greatest) (sym t) (with_call_fits (shown_at ws screen) code (is.fits screen) (is.fits (screen + 64))).0)
  put_fits valid i (no d) (yes e) =
      let t = put_shown ws screen (with_call (shown_at ws screen) code) is.size valid in
      subst (λ (j : ℕ). get_or (put_at ws screen (with_call (shown_at ws screen) code)) j 0 ≤ greatest) (sym e)
      (subst (λ (x : ScreenTally). x.refused ≤ greatest) (sym t) (with_call_fits (shown_at ws screen) code (is.fits screen) (is.fits (screen + 64))).1)
  put_fits valid i (no d) (no g) = subst (λ (n : ℕ). n ≤ greatest) (sym (put_beside ws screen (with_call (shown_at ws screen) code) i d g)) (is.fits i)

  call_keeps : Made ws screen code → IsTally (tally_after ws screen code)
  call_keeps (counted h e) =
      subst IsTally (sym e) (record {
        size = length_put ws screen (with_call (shown_at ws screen) code) ∙ is.size;
        fits = λ i. put_fits h i (ℕ_discrete i screen) (ℕ_discrete i (screen + 64));
      })
  call_keeps (nowhere h e) = subst IsTally (sym e) is

-- CALLS: what a screen shows after them depends on what it showed and on the codes of its own calls alone
abbrev with_calls : ScreenTally → List ℕ → ScreenTally
with_calls t [] = t
with_calls t (k ∷ ks) = with_calls (with_call t k) ks

module _ (s : ℕ) (valid : s ≤ 63) where
  -- one call more in front, given the law for the calls after it
  first : (cs : List ScreenCall) → ((vs : List ℕ) → IsTally vs → shown_at (tally_of vs cs) s ≡ with_calls (shown_at vs s) (codes_of s cs))
      → (ws : List ℕ) (c : ScreenCall) → IsTally ws → Dec (c.screen ≡ s)
      → shown_at (tally_of ws (c ∷ cs)) s ≡ with_calls (shown_at ws s) (codes_of s (c ∷ cs))
  unfolding tally_of codes_of
  first cs law ws c is (yes d) =
      rw (eq-eqb _ _ d) (law (tally_after ws c.screen c.code) (call_keeps ws is c.screen c.code (made ws c.screen c.code))
      ∙ ap (λ (z : ScreenTally). with_calls z (codes_of s cs))
      (subst (λ (t : ℕ). shown_at (tally_after ws t c.code) s ≡ with_call (shown_at ws s) c.code) (sym d) (own_call ws is s c.code (made ws s c.code) valid)))
  first cs law ws c is (no d) =
      rw (ne_eqb _ _ d) (law (tally_after ws c.screen c.code) (call_keeps ws is c.screen c.code (made ws c.screen c.code))
      ∙ ap (λ (z : ScreenTally). with_calls z (codes_of s cs)) (other_call ws is c.screen c.code (made ws c.screen c.code) s valid d))

  after : (cs : List ScreenCall) (ws : List ℕ) → IsTally ws → shown_at (tally_of ws cs) s ≡ with_calls (shown_at ws s) (codes_of s cs)
  unfolding tally_of codes_of
  after [] ws is = refl
  after (c ∷ cs) ws is = first cs (λ vs e. after cs vs e) ws c is (ℕ_discrete c.screen s)

-- the counts after calls of a screen's own: so many more, cut at the greatest
with-calls : (ks : List ℕ) (a r : ℕ) → a ≤ greatest → r ≤ greatest
    → with_calls (of a r) ks ≡ of (min (a + answers_in ks) greatest) (min (r + refusals_in ks) greatest)
unfolding answers_in refusals_in
with-calls [] a r fa fr = both (omega arith) (omega arith)
with-calls (zero ∷ ks) a r fa fr = with-calls ks (one_more a) r (omega arith) fr ∙ both (omega arith) (omega arith)
with-calls (suc k ∷ ks) a r fa fr = with-calls ks a (one_more r) fa (omega arith) ∙ both (omega arith) (omega arith)

-- THE SUM over a list with one number changed
total_set : (ws : List ℕ) (p v : ℕ) → p < length ws → tally_sum (set ws p v) + get_or ws p 0 ≡ tally_sum ws + v
unfolding tally_sum
total_set [] p v h = absurd (omega arith)
total_set (n ∷ ns) zero v h = omega arith
total_set (n ∷ ns) (suc p) v h = let ih = total_set ns p v (omega arith) in omega arith

at_most : (ws : List ℕ) (p : ℕ) → get_or ws p 0 ≤ tally_sum ws
unfolding tally_sum
at_most [] p = omega arith
at_most (n ∷ ns) zero = omega arith
at_most (n ∷ ns) (suc p) = let ih = at_most ns p in omega arith

total_put : (ws : List ℕ) (s : ℕ) (t : ScreenTally) → length ws ≡ 128 → s ≤ 63
    → tally_sum (put_at ws s t) + (get_or ws s 0 + get_or ws (s + 64) 0) ≡ tally_sum ws + (t.answered + t.refused)
total_put ws s t size valid =
    let l = length-set ws s t.answered in
    let one = total_set ws s t.answered (omega arith) in
    let two = total_set (set ws s t.answered) (s + 64) t.refused (omega arith) in
    let same = get_or-set_other ws s (s + 64) t.answered 0 (omega arith) in
    omega arith

-- a screen's two counts with one call more: one more in all, below the greatest; never more than one
one_more_lem : (t : ScreenTally) (k : ℕ) → t.answered < greatest → t.refused < greatest
    → (with_call t k).answered + (with_call t k).refused ≡ t.answered + t.refused + 1
one_more_lem t zero a r = omega arith
one_more_lem t (suc k) a r = omega arith

at_most_one : (t : ScreenTally) (k : ℕ) → (with_call t k).answered + (with_call t k).refused ≤ t.answered + t.refused + 1
at_most_one t zero = omega arith
at_most_one t (suc k) = omega arith

-- one call, in the sum
module _ (ws : List ℕ) (is : IsTally ws) (c : ScreenCall) (cs : List ScreenCall) where
  abbrev next : List ℕ
  next = tally_after ws c.screen c.code

  adds : Made ws c.screen c.code → tally_sum ws + valid_calls (c ∷ cs) ≤ greatest → tally_sum next + valid_calls cs ≡ tally_sum ws + valid_calls (c ∷ cs)
  unfolding valid_calls
  adds (counted h e) few =
      let v : valid_calls (c ∷ cs) ≡ suc (valid_calls cs) = rw (le-leb _ _ h) refl in
      let n : tally_sum next ≡ tally_sum (put_at ws c.screen (with_call (shown_at ws c.screen) c.code)) = ap tally_sum e in
      let t = total_put ws c.screen (with_call (shown_at ws c.screen) c.code) is.size h in
      let a = at_most ws c.screen in
      let r = at_most ws (c.screen + 64) in
      let m = one_more_lem (shown_at ws c.screen) c.code (omega arith) (omega arith) in
      omega arith
  adds (nowhere h e) few = rw (e, lt-leb _ _ h) refl

  adds_at_most : Made ws c.screen c.code → tally_sum next + valid_calls cs ≤ tally_sum ws + valid_calls (c ∷ cs)
  unfolding valid_calls
  adds_at_most (counted h e) =
      let v : valid_calls (c ∷ cs) ≡ suc (valid_calls cs) = rw (le-leb _ _ h) refl in
      let n : tally_sum next ≡ tally_sum (put_at ws c.screen (with_call (shown_at ws c.screen) c.code)) = ap tally_sum e in
      let t = total_put ws c.screen (with_call (shown_at ws c.screen) c.code) is.size h in
      let m = at_most_one (shown_at ws c.screen) c.code in
      omega arith
  adds_at_most (nowhere h e) = rw (e, lt-leb _ _ h) (omega arith)

no_calls : valid_calls [] ≡ 0
unfolding valid_calls
no_calls = refl

sums_from : (cs : List ScreenCall) (ws : List ℕ) → IsTally ws → tally_sum ws + valid_calls cs ≤ greatest → tally_sum (tally_of ws cs) ≡ tally_sum ws + valid_calls cs
unfolding tally_of
sums_from [] ws is few = let z = no_calls in omega arith
sums_from (c ∷ cs) ws is few =
    let m = made ws c.screen c.code in
    let e = adds ws is c cs m few in
    sums_from cs (tally_after ws c.screen c.code) (call_keeps ws is c.screen c.code m) (omega arith) ∙ e

at_most_from : (cs : List ScreenCall) (ws : List ℕ) → IsTally ws → tally_sum (tally_of ws cs) ≤ tally_sum ws + valid_calls cs
unfolding tally_of
at_most_from [] ws is = omega arith
at_most_from (c ∷ cs) ws is =
    let m = made ws c.screen c.code in
    let e = adds_at_most ws is c cs m in
    let r = at_most_from cs (tally_after ws c.screen c.code) (call_keeps ws is c.screen c.code m) in
    omega arith

valid_few : (c : ScreenCall) (cs : List ScreenCall) → Dec (c.screen ≤ 63) → valid_calls (c ∷ cs) ≤ suc (valid_calls cs)
unfolding valid_calls
valid_few c cs (yes h) = rw (le-leb _ _ h) (omega arith)
valid_few c cs (no n) = let h : 63 < c.screen = omega arith in rw (lt-leb _ _ h) (omega arith)

valid_at_most : (cs : List ScreenCall) → valid_calls cs ≤ length cs
valid_at_most [] = let z = no_calls in omega arith
valid_at_most (c ∷ cs) =
    let ih = valid_at_most cs in
    let e = valid_few c cs (dec_le c.screen 63) in
    omega arith

-- A ZERO TALLY
zeros_total : (n : ℕ) → ◌≡◌ {A = ℕ} (tally_sum (replicate n 0)) 0
unfolding tally_sum
zeros_total zero = refl
zeros_total (suc n) = let ih = zeros_total n in omega arith

zeros_at : (n i : ℕ) → ◌≡◌ {A = ℕ} (get_or (replicate n 0) i 0) 0
zeros_at zero i = refl
zeros_at (suc n) zero = refl
zeros_at (suc n) (suc i) = zeros_at n i

zero_is : IsTally zero_tally
zero_is = record { size = length-replicate {A = ℕ} 128 0; fits = λ i. let z = zeros_at 128 i in omega arith }

-- a code of 0 is none of the refusal's
answers : {A : Type 0} (code_of : A → ℕ) (screen : ℕ) (refused own : A) → Dec (screen ≤ 63) → code_of refused ≡ 15 → code_of (for_screen screen refused own) ≡ 0
    → (screen ≤ 63) × (for_screen screen refused own ≡ own)
answers code_of screen refused own (yes h) r e = (h, sym (opened screen refused own h refl))
answers code_of screen refused own (no n) r e =
    let h : 63 < screen = omega arith in
    let z : code_of refused ≡ 0 = ap code_of (shut screen refused own h refl) ∙ e in
    absurd (omega arith)

pub the_screen : {A : Type 0} (code_of : A → ℕ) → ScreenLaws A code_of
the_screen code_of =
    record {
      no_screen = λ screen refused own h. sym (shut screen refused own h refl);
      valid = λ screen refused own h. sym (opened screen refused own h refl);
      answered = λ screen refused own r e. answers code_of screen refused own (dec_le screen 63) r e;
    }

-- the record's two parts, in its numbers
record_is : (t : Tally) → length t.answered ≡ 64 → (s : ℕ) → s ≤ 63 → shown_at (tally_words t) s ≡ of (get_or t.answered s 0) (get_or t.refused s 0)
record_is t size s h =
    let p : s + 64 ≡ length t.answered + s = omega arith in
    both (get_or-append t.answered t.refused 0 s (omega arith))
    (ap (λ (i : ℕ). get_or (tally_words t) i 0) p ∙ get_or-append-add t.answered t.refused s 0)

pub the_tally : TallyLaws
the_tally =
    record {
      record_shows = record_is;
      nowhere = λ ws screen code h. sym (shut_tally ws screen code h refl);
      own = λ ws is screen code h. own_call ws is screen code (made ws screen code) h;
      others = λ ws is screen code s h d. other_call ws is screen code (made ws screen code) s h d;
      kept = λ ws is screen code. call_keeps ws is screen code (made ws screen code);
      shows = λ ws is cs s h. after s h cs ws is ∙ with-calls (codes_of s cs) (get_or ws s 0) (get_or ws (s + 64) 0) (is.fits s) (is.fits (s + 64));
      independent = λ ws is s h cs ds e. after s h cs ws is ∙ ap (with_calls (shown_at ws s)) e ∙ sym (after s h ds ws is);
      sums = λ cs few. let z = zeros_total 128 in let v = valid_at_most cs in let e = sums_from cs zero_tally zero_is (omega arith) in omega arith;
      never_above = λ cs. let z = zeros_total 128 in let e = at_most_from cs zero_tally zero_is in omega arith;
      zeroed = zero_is;
    }
