-- Tests and keys over the numbers below n that suit a search by halving. Definitions only.
-- Inner: nobody has to believe this.
use Rattle.std.specs.Prelude.{ℕ, ◌≤◌, ◌<◌, ◌≡◌, Bool, true, false}

-- once passed, the test stays passed
pub record Stays (f : ℕ → Bool) (n : ℕ) : Type 0 where
  pub stays : (i j : ℕ) → i ≤ j → j < n → f i ≡ true → f j ≡ true

-- the keys do not fall
pub record KeysRise (key : ℕ → ℕ) (n : ℕ) : Type 0 where
  pub rising : (i j : ℕ) → i ≤ j → j < n → key i ≤ key j

-- a search by halving: below lo the test fails, from hi on it passes
pub record Halved (f : ℕ → Bool) (n lo hi : ℕ) : Type 0 where
  pub order : lo ≤ hi
  pub inside : hi ≤ n
  pub below : (k : ℕ) → k < lo → f k ≡ false
  pub above : (k : ℕ) → hi ≤ k → k < n → f k ≡ true
