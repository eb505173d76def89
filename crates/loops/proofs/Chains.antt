-- What the iterators of std answer over a range of numbers, in the words of specs/Iter. Cite each with the call's clause `ran`, the range's equation
-- (mostly `refl`), and what one call of the closure says, which `search (rules, tests)` mostly finds.
use Rattle.std.specs.Prelude.{◌≡◌, ℕ, zero, suc, ◌-◌, Bool, true, false, ◌&&◌, ◌||◌, cond, List, Option, None, Some, refl}
use Rattle.std.proofs.Common.{ap, ◌∙◌, add-one}
use Rattle.std.specs.Bool.{⊤}
use Rattle.std.specs.List.{range_with_len, list_all, list_any, find, FoldsTo}
use Rattle.std.specs.Option.{MatchOption, option_map}
use Rattle.std.specs.Fn.{Called, CalledAt}
use Rattle.std.specs.Iterator.{YieldsThen}
use Rattle.std.proofs.iter.Yields.{nat_range_steps}
use Rattle.std.proofs.lemmas.Iterator.{YieldsList-from_range}
use Rattle.std.proofs.lemmas.Iterator.Search.{all_from_yields_List, any_from_yields_List, find_from_yields_List}
use Rattle.std.specs.declared.ops.Range.{Range}
use denote.Param.Members.{Mut}
use denote.Ref.{Bor}
use Rattle.loops.specs.Iter.{every, every_in, some, some_in, first, first_in, hit, found}

every_list : (f : ℕ → Bool) (a n : ℕ) → list_all f (range_with_len a n) ≡ every f a n
unfolding every
every_list f a zero = refl
every_list f a (suc n) = rw add-one (ap (λ b. f a && b) (every_list f (suc a) n))

some_list : (f : ℕ → Bool) (a n : ℕ) → list_any f (range_with_len a n) ≡ some f a n
unfolding some
some_list f a zero = refl
some_list f a (suc n) = rw add-one (ap (λ b. f a || b) (some_list f (suc a) n))

found_list : (f : ℕ → Bool) (a n : ℕ) → find f (range_with_len a n) ≡ found (first f a n)
unfolding first
found_list f a zero = refl
found_list f a (suc n) = rw add-one (by (f a) (found_list f (suc a) n))
  where
    by : (b : Bool) → find f (range_with_len (suc a) n) ≡ found (first f (suc a) n)
        → cond b (Some a) (find f (range_with_len (suc a) n)) ≡ found (elim b [ true ↦ hit a | false ↦ first f (suc a) n ])
    by true h = refl
    by false h = h

module _ {F : Type 0} {s : Range ℕ} (u : Range ℕ) (f : F) where
  -- `(a..b).all(f)`
  pub every_from_all : {g : Mut F (ℕ × Unit {0}) Bool} (r : Bool) (test : ℕ → Bool) (a b : ℕ) → s ≡ record { start = a; end = b }
      → (xs : List ℕ) × (o : Option ℕ) × (j : F) × YieldsThen nat_range_steps s xs o u × FoldsTo (λ p x q. Called g p (x, tt) true q) f xs j × MatchOption o (r ≡ true) (λ x. (r ≡ false) × ((h : F) × Called g j (x, tt) false h))
      → ((x : ℕ) (c : Bool) (q : F) → Called g f (x, tt) c q → (q ≡ f) × (c ≡ test x)) → r ≡ every_in test a b
  every_from_all r test a b e d k = all_from_yields_List test u f r d (YieldsList-from_range a b (b - a) e refl) k ∙ every_list test a (b - a)

  -- `(a..b).any(f)`
  pub some_from_any : {g : Mut F (ℕ × Unit {0}) Bool} (r : Bool) (test : ℕ → Bool) (a b : ℕ) → s ≡ record { start = a; end = b }
      → (xs : List ℕ) × (o : Option ℕ) × (j : F) × YieldsThen nat_range_steps s xs o u × FoldsTo (λ p x q. Called g p (x, tt) false q) f xs j × MatchOption o (r ≡ false) (λ x. (r ≡ true) × ((h : F) × Called g j (x, tt) true h))
      → ((x : ℕ) (c : Bool) (q : F) → Called g f (x, tt) c q → (q ≡ f) × (c ≡ test x)) → r ≡ some_in test a b
  some_from_any r test a b e d k = any_from_yields_List test u f r d (YieldsList-from_range a b (b - a) e refl) k ∙ some_list test a (b - a)

  -- `(a..b).find(f)`
  pub found_from_find : {g : Mut F (Bor ℕ × Unit {0}) Bool} (r : Option ℕ) (test : ℕ → Bool) (a b : ℕ) → s ≡ record { start = a; end = b }
      → (xs : List ℕ) × (j : F) × YieldsThen nat_range_steps s xs r u × FoldsTo (λ p x q. CalledAt g p x false q) f xs j × MatchOption r ⊤ (λ x. (h : F) × CalledAt g j x true h)
      → ((x : ℕ) (c : Bool) (q : F) → CalledAt g f x c q → (q ≡ f) × (c ≡ test x)) → r ≡ found (first_in test a b)
  found_from_find r test a b e d k = same r ∙ find_from_yields_List test u f r d (YieldsList-from_range a b (b - a) e refl) k ∙ found_list test a (b - a)
    where
      same : (o : Option ℕ) → o ≡ option_map (λ x. x) o
      same None = refl
      same (Some x) = refl
