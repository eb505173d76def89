-- `(a..b).fold(s, f)` over a range of numbers, in the words of `loops` specs/Iter.
use Rattle.std.specs.Prelude.{◌≡◌, ℕ, zero, suc, ◌-◌, List}
use Rattle.std.proofs.Common.{refl, ◌∙◌, add-one}
use Rattle.std.specs.List.{range_with_len, fold, FoldsTo}
use Rattle.std.specs.Fn.{Called}
use Rattle.std.specs.Iterator.{Drains}
use Rattle.std.proofs.iter.Yields.{nat_range_steps}
use Rattle.std.proofs.lemmas.Iterator.{YieldsList-from_range}
use Rattle.std.proofs.lemmas.Iterator.Consumers.{fold_from_yields_List}
use Rattle.std.specs.declared.ops.Range.{Range}
use denote.Param.Members.{Mut}
use Rattle.loops.specs.Iter.{iter, range}

range_list : {S : Type 0} (f : ℕ → S → S) (a n : ℕ) (s : S) → fold (λ x i. f i x) s (range_with_len a n) ≡ iter f a n s
unfolding iter
range_list f a zero s = refl
range_list f a (suc n) s = rw add-one (range_list f (suc a) n (f a s))

pub range_from_fold : {S F : Type 0} {s : Range ℕ} (g : Mut F (S × (ℕ × Unit {0})) S) {f : F} (init r : S) (step : ℕ → S → S) (a b : ℕ) → s ≡ record { start = a; end = b }
    → ((xs : List ℕ) × (q : F) × Drains nat_range_steps s xs × FoldsTo {P = F × S} (λ x y z. Called g x.0 (x.1, (y, tt)) z.1 z.0) (f, init) xs (q, r))
    → ((x : S) (i : ℕ) (y : S) (q : F) → Called g f (x, (i, tt)) y q → (q ≡ f) × (y ≡ step i x)) → r ≡ range step a b init
range_from_fold g init r step a b e d k = fold_from_yields_List g (λ x i. step i x) init r d (YieldsList-from_range a b (b - a) e refl) k ∙ range_list step a (b - a) init
