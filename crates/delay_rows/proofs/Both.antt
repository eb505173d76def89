-- `a && b` where the check knows which way `a` went, and what each of them says.
use Rattle.std.specs.Prelude.{◌≡◌, Bool, true, false, ◌&&◌}
use Rattle.std.proofs.Common.{ap, sym, ◌∙◌}

pub both : {a b x y : Bool} → a ≡ x → b ≡ y → a ≡ true → b ≡ x && y
both {y = y} e f t = f ∙ sym (ap (λ z. z && y) (sym e ∙ t))

pub not_both : {a x : Bool} (y : Bool) → a ≡ x → a ≡ false → a ≡ x && y
not_both y e t = t ∙ sym (ap (λ z. z && y) (sym e ∙ t))
