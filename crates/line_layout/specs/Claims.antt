-- What the laws speak of (proofs/Laws). Definitions only.
-- For a law: no contract rests on this.
use Rattle.std.specs.Prelude.{ℕ, ◌<◌, ◌≤◌, ◌≡◌}
use Rattle.tables.specs.Timetable.{Timetable, time_at}
use Rattle.line_layout.specs.Layout.{LineTrips}

-- trip a is nowhere later than trip b: neither has windows, and at each of their equally many offsets neither arrival nor
-- departure of a is later than b's, and the codes are equal
pub record NotLater (T : Timetable) (a b : ℕ) : Type 0 where
  pub windows : (T.trip a).windows ≡ 0
  pub windows_next : (T.trip b).windows ≡ 0
  pub count : (T.trip a).count ≡ (T.trip b).count
  pub arrival : (k : ℕ) → k < (T.trip a).count → (time_at T a k).arrival ≤ (time_at T b k).arrival
  pub departure : (k : ℕ) → k < (T.trip a).count → (time_at T a k).departure ≤ (time_at T b k).departure
  pub pickup : (k : ℕ) → k < (T.trip a).count → (time_at T a k).pickup ≡ (time_at T b k).pickup
  pub drop_off : (k : ℕ) → k < (T.trip a).count → (time_at T a k).drop_off ≡ (time_at T b k).drop_off

-- no line lists trip a
pub record Unlisted (line : ℕ → LineTrips) (lines a : ℕ) : Type 0 where
  pub nowhere : (l p : ℕ) → l < lines → p < (line l).count → (line l).trip p ≡ a → ⊥

-- trip a is listed at place p of line l, at no later place there, and in no later line
pub record ListedLast (line : ℕ → LineTrips) (lines a l p : ℕ) : Type 0 where
  pub known : l < lines
  pub place : p < (line l).count
  pub here : (line l).trip p ≡ a
  pub after : (q : ℕ) → p < q → q < (line l).count → (line l).trip q ≡ a → ⊥
  pub later : (m q : ℕ) → l < m → m < lines → q < (line m).count → (line m).trip q ≡ a → ⊥

-- some line lists trip a
pub record Listed (line : ℕ → LineTrips) (lines a : ℕ) : Type 0 where
  pub at : ℕ
  pub place : ℕ
  pub last : ListedLast line lines a at place

-- every trip is listed once: in its line, at its place there
pub record ListedOnce (trips lines : ℕ) (line : ℕ → LineTrips) (line_of place_of : ℕ → ℕ) : Type 0 where
  pub known : (a : ℕ) → a < trips → line_of a < lines
  pub place : (a : ℕ) → a < trips → place_of a < (line (line_of a)).count
  pub here : (a : ℕ) → a < trips → (line (line_of a)).trip (place_of a) ≡ a
  pub once_line : (a l p : ℕ) → a < trips → l < lines → p < (line l).count → (line l).trip p ≡ a → l ≡ line_of a
  pub once_place : (a l p : ℕ) → a < trips → l < lines → p < (line l).count → (line l).trip p ≡ a → p ≡ place_of a
