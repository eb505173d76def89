-- Laws of the questions at a door.
use Prim.Native.Nat.{ℕ, zero, suc, ◌<◌}
use mathlib.Core.Path.{◌≡◌, refl, sym, ap, ◌∙◌}
use mathlib.Core.Bool.{Bool, true, false, ◌&&◌}
use native.Mathlib.Omega.{arith}
use Rattle.std.specs.Prelude.{Result, Ok, Err}
use Rattle.door.specs.declared.Refusal.{Refusal}
use Rattle.door.specs.declared.Refusal.TheVariants.{Counts, Sizes, Runs, Numbers, Ranges, Order, Room, Queue, Settings, Screen}
use Rattle.door.specs.Door.{ask, refusal, success, answer, number_of, code_of, answer_of}

-- a no ends the asking, a yes hands it on
pub ask_no : (n : ℕ) (b : Bool) (later : ℕ) → b ≡ false → n ≡ ask n b later
ask_no n b later e = sym (ap (λ (t : Bool). ask n t later) e)

pub ask_on : (n : ℕ) (b : Bool) {later r : ℕ} → b ≡ true → r ≡ later → r ≡ ask n b later
ask_on n b {later} e h = h ∙ sym (ap (λ (t : Bool). ask n t later) e)

-- an outcome of 0 answers each question with yes
pub ask_yes : (n : ℕ) (b : Bool) (later : ℕ) → ask (suc n) b later ≡ 0 → b ≡ true
ask_yes n true later h = refl
ask_yes n false later h = absurd (omega arith)

pub ask_later : (n : ℕ) (b : Bool) (later : ℕ) → ask (suc n) b later ≡ 0 → later ≡ 0
ask_later n true later h = h
ask_later n false later h = absurd (omega arith)

-- a test that is asked only where the one before it is yes
pub lent_no : {a r : Bool} (b : Bool) → r ≡ a → r ≡ false → false ≡ a && b
lent_no {a} b e f = sym (ap (λ (t : Bool). t && b) (sym e ∙ f))

pub lent_yes : {a r b q : Bool} → r ≡ a → r ≡ true → q ≡ b → q ≡ a && b
lent_yes {a} {r} {b} e f g = g ∙ sym (ap (λ (t : Bool). t && b) (sym e ∙ f))

-- QUESTIONS 1 AND 14, which a call asks first, both answered yes
pub record Within (counts settings : Bool) : Type 0 where
  pub counts_yes : counts ≡ true
  pub settings_yes : settings ≡ true

-- the number v that they gave, of a test q that is a: 0 answers both with yes
pub within : {v : ℕ} {q a b : Bool} → v ≡ ask 1 q (ask 14 b 0) → q ≡ a → v ≡ 0 → Within a b
within {v} {q} {a} {b} e f z =
    let h : ask 1 q (ask 14 b 0) ≡ 0 = sym e ∙ z in
    record { counts_yes = sym f ∙ ask_yes 0 q (ask 14 b 0) h; settings_yes = ask_yes 13 b 0 (ask_later 0 q (ask 14 b 0) h) }

-- any other number is the verdict, whatever is asked later
pub not_within : {v : ℕ} {q a : Bool} (b : Bool) (later : ℕ) → v ≡ ask 1 q (ask 14 b 0) → q ≡ a → (v ≡ 0 → ⊥) → v ≡ ask 1 a (ask 14 b later)
not_within {v} {q} {a} b later e f h = go q b e h ∙ ap (λ (t : Bool). ask 1 t (ask 14 b later)) f
  where
    go : (q b : Bool) → v ≡ ask 1 q (ask 14 b 0) → (v ≡ 0 → ⊥) → v ≡ ask 1 q (ask 14 b later)
    go true true e h = absurd (h e)
    go true false e h = e
    go false b e h = e

-- past them
pub ask_past : {a b : Bool} {later r : ℕ} → Within a b → r ≡ later → r ≡ ask 1 a (ask 14 b later)
ask_past {a} {b} w h = ask_on 1 a w.counts_yes (ask_on 14 b w.settings_yes h)

-- QUESTIONS 14 AND 5 of a call that is handed numbers alone: the number v that they gave, of a test q that is a
pub ranged : {v : ℕ} {q a : Bool} (b : Bool) → v ≡ ask 14 b (ask 5 q 0) → q ≡ a → v ≡ ask 14 b (ask 5 a 0)
ranged b e f = e ∙ ap (λ (t : Bool). ask 14 b (ask 5 t 0)) f

pub ranged_yes : (b a : Bool) → ask 14 b (ask 5 a 0) ≡ 0 → a ≡ true
ranged_yes b a h = ask_yes 4 a 0 (ask_later 13 b (ask 5 a 0) h)

-- what a call with one number answers
pub refused_is : {v w : ℕ} (x : ℕ) → v ≡ w → (v ≡ 0 → ⊥) → refusal v ≡ answer w x
refused_is {v} {w} x e h = go v h ∙ ap (λ (n : ℕ). answer n x) e
  where
    go : (n : ℕ) → (n ≡ 0 → ⊥) → refusal n ≡ answer n x
    go zero h = absurd (h refl)
    go (suc n) h = refl

pub given_is : {v w x y : ℕ} → v ≡ w → v ≡ 0 → y ≡ x → success y ≡ answer w x
given_is {v} {w} {x} {y} e z f = ap success f ∙ ap (λ (n : ℕ). answer n x) (sym z ∙ e)

-- a refusal's number is not 0
pub number_above : (q : Refusal) → 0 < number_of q
number_above Counts = omega arith
number_above Sizes = omega arith
number_above Runs = omega arith
number_above Numbers = omega arith
number_above Ranges = omega arith
number_above Order = omega arith
number_above Room = omega arith
number_above Queue = omega arith
number_above Settings = omega arith
number_above Screen = omega arith

-- an outcome is Ok exactly where its code is 0
pub code_ok : {A : Type 0} (r : Result A Refusal) → code_of r ≡ 0 → (a : A) × (r ≡ Ok a)
code_ok (Ok a) h = (a, refl)
code_ok (Err q) h = absurd (omega (arith, number_above q))

-- an outcome whose code a verdict gave, and whose value is v where all is yes
pub answer_is : (r : Result ℕ Refusal) (w v : ℕ) → code_of r ≡ w → ((a : ℕ) → r ≡ Ok a → a ≡ v) → answer_of r ≡ answer w v
answer_is (Ok a) w v e f = ap success (f a refl) ∙ ap (λ n. answer n v) e
answer_is (Err q) w v e f = go (number_of q) (number_above q) ∙ ap (λ n. answer n v) e
  where
    go : (n : ℕ) → 0 < n → refusal n ≡ answer n v
    go zero h = absurd (omega arith)
    go (suc n) h = refl
