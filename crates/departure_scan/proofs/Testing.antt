-- The model's `boarding` by what its tests answer.
use Prim.Native.Nat.{ℕ, ◌≤◌, ◌<◌, ◌+◌}
use mathlib.Core.Path.{◌≡◌, refl, sym, ap, ap₂, ◌∙◌}
use mathlib.Core.Bool.{Bool, true, false, not, ◌||◌}
use mathlib.Core.List.{List}
use native.Mathlib.Omega.{arith}
use lib.Dec.{leb, eqb}
use borrow.Author.Tests.{le-leb, lt-leb}
use Rattle.loops.specs.Iter.{Hit}
use Rattle.frequency.specs.declared.BoardedRun.{BoardedRun}
use Rattle.std.specs.Prelude.{Option, None, Some}
use Rattle.tables.specs.declared.Counts.{Counts}
use Rattle.tables.specs.Tables.{time_of, first_of}
use Rattle.tables.specs.Timetable.{timetable}
use Rattle.trip_boarding.specs.Reads.{hit_of, Agree}
use Rattle.model.specs.Tables.{Tables, Query, permitted, no_pickup}
use Rattle.model.specs.Search.{Boardings, State, skipped, board_at, pruned, passed_over, boarding}
use Rattle.departure_scan.specs.Listed.{AsBoarded}

-- no pickup, by the number read
pub pickup_word : (T : Tables) (t : List ℕ) (c : Counts) (i o f k : ℕ) → T.timetable ≡ timetable t c → f ≡ first_of t c i → k ≡ time_of t (f + o) 4 → no_pickup T i o ≡ eqb k 1
pickup_word T t c i o f k e ef ek = rw (ek, ef, e) refl

-- one test, and then another
pub or_yes : {a r x : Bool} (b : Bool) → r ≡ x → x ≡ a → x ≡ true → r ≡ (a || b)
or_yes b e ea t = e ∙ t ∙ ap (λ (z : Bool). z || b) (sym t ∙ ea)

pub or_no : {a b r x : Bool} → r ≡ b → x ≡ a → x ≡ false → r ≡ (a || b)
or_no {b = b} e ea t = e ∙ ap (λ (z : Bool). z || b) (sym t ∙ ea)

-- the first four tests
abbrev pub barred : Tables → Query → Hit → ℕ → ℕ → Boardings → Bool
barred T Q h i o b = ((not (permitted T Q i) || pruned T Q h i o b) || no_pickup T i o) || skipped T Q h i o

-- the answer, by whether the departure is barred (v), how it is boarded (x), and whether it is passed over
module _ (T : Tables) (Q : Query) (stamp after : ℕ) (h : Hit) (i o : ℕ) (s : State) (v : Bool) (ev : v ≡ barred T Q h i o s.boardings) where
  abbrev taken : Bool → BoardedRun → Option BoardedRun
  taken w b = elim w [ true ↦ None | false ↦ Some b ]

  abbrev weighed : Option BoardedRun → Option BoardedRun
  weighed x = elim x [ None ↦ None | Some b ↦ taken (leb s.arrivals.best b.departure || passed_over T Q stamp i o b.departure s.boardings) b ]

  abbrev chosen : Bool → Option BoardedRun → Option BoardedRun
  chosen w x = elim w [ true ↦ None | false ↦ weighed x ]

  boarding_is : boarding T Q stamp after h i o s ≡ chosen (barred T Q h i o s.boardings) (board_at T Q h i o after)
  unfolding boarding
  boarding_is = refl

  pub board_barred : v ≡ true → None ≡ boarding T Q stamp after h i o s
  board_barred l = sym (boarding_is ∙ ap (λ (w : Bool). chosen w (board_at T Q h i o after)) (sym ev ∙ l))

  module _ (l : v ≡ false) (x : Option BoardedRun) (f : x ≡ board_at T Q h i o after) where
    found : boarding T Q stamp after h i o s ≡ weighed x
    found = boarding_is ∙ ap₂ chosen (sym ev ∙ l) (sym f)

    pub board_none : x ≡ None → None ≡ boarding T Q stamp after h i o s
    board_none z = sym (found ∙ ap weighed z)

    module _ (b : BoardedRun) (best : ℕ) (z : x ≡ Some b) (g : s.arrivals.best ≡ best) where
      abbrev over : Bool
      over = passed_over T Q stamp i o b.departure s.boardings

      against : boarding T Q stamp after h i o s ≡ taken (leb best b.departure || over) b
      against = found ∙ ap weighed z ∙ ap (λ (y : ℕ). taken (leb y b.departure || over) b) g

      pub board_late : best ≤ b.departure → None ≡ boarding T Q stamp after h i o s
      board_late m = sym (against ∙ ap (λ (w : Bool). taken (w || over) b) (le-leb best b.departure m))

      module _ (m : b.departure < best) (w : Bool) (ew : w ≡ over) where
        early : taken w b ≡ boarding T Q stamp after h i o s
        early = ap (λ (y : Bool). taken y b) ew ∙ sym (against ∙ ap (λ (y : Bool). taken (y || over) b) (lt-leb best b.departure m))

        pub board_passed : w ≡ true → None ≡ boarding T Q stamp after h i o s
        board_passed y = sym (ap (λ (w : Bool). taken w b) y) ∙ early

        pub board_taken : w ≡ false → Some b ≡ boarding T Q stamp after h i o s
        board_taken y = sym (ap (λ (w : Bool). taken w b) y) ∙ early

-- how it is boarded is how the trip is boarded there
module _ (t : List ℕ) (c : Counts) (rows stops : List ℕ) (adj : Option ℕ) (i o after : ℕ) where
  pub as_nothing : AsBoarded t c rows stops adj i o after None
  as_nothing = record { at = λ b e. let z : ◌≡◌ {A = ℕ} 0 1 = cc in absurd (omega arith) }

  pub as_taken : (x : Option BoardedRun) (b : BoardedRun) → ((T : Tables) (Q : Query) → Agree T Q t c rows stops → x ≡ board_at T Q (hit_of adj) i o after) → x ≡ Some b
      → AsBoarded t c rows stops adj i o after (Some b)
  as_taken x b f z = record { at = λ d e T Q g. sym (f T Q g) ∙ z ∙ e }
