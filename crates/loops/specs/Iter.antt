-- Loops as functions on values. Definitions only.
use Rattle.std.specs.Prelude.{ℕ, zero, suc, ◌-◌, Bool, true, false, ◌&&◌, ◌||◌, Option, None, Some}

-- a counted loop: s is taken through f i, f (i + 1), .., n steps
unfoldable pub iter : {S : Type 0} → (ℕ → S → S) → ℕ → ℕ → S → S
iter f i zero s = s
iter f i (suc n) s = iter f (suc i) n (f i s)

-- from a up to b, b not taken
abbrev pub range : {S : Type 0} → (ℕ → S → S) → ℕ → ℕ → S → S
range f a b s = iter f a (b - a) s

-- every one of the n numbers from i on passes
unfoldable pub every : (ℕ → Bool) → ℕ → ℕ → Bool
every f i zero = true
every f i (suc n) = f i && every f (suc i) n

abbrev pub every_in : (ℕ → Bool) → ℕ → ℕ → Bool
every_in f a b = every f a (b - a)

-- what a search finds
pub data Hit : Type 0 where
  hit : ℕ → Hit
  miss : Hit

-- the first of the n numbers from i on that passes
unfoldable pub first : (ℕ → Bool) → ℕ → ℕ → Hit
first f i zero = miss
first f i (suc n) = elim (f i) [ true ↦ hit i | false ↦ first f (suc i) n ]

abbrev pub first_in : (ℕ → Bool) → ℕ → ℕ → Hit
first_in f a b = first f a (b - a)

-- what a search found, as the code hands it on
abbrev pub found : Hit → Option ℕ
found (hit k) = Some k
found miss = None

-- where a search found it, or n where it found nothing
abbrev pub found_or : Hit → ℕ → ℕ
found_or (hit k) n = k
found_or miss n = n

-- some one of the n numbers from i on passes
unfoldable pub some : (ℕ → Bool) → ℕ → ℕ → Bool
some f i zero = false
some f i (suc n) = f i || some f (suc i) n

abbrev pub some_in : (ℕ → Bool) → ℕ → ℕ → Bool
some_in f a b = some f a (b - a)
