-- Transfers: made from two inputs that say the same of an event, they are the same; and sorting the listed departures first changes none.
use Prim.Native.Nat.{ℕ, ◌+◌}
use mathlib.Core.Path.{◌≡◌, refl, ap, ap₂, ◌∙◌}
use mathlib.Core.Bool.{Bool, cond, not}
use mathlib.Core.List.{List, [], ◌∷◌, flatten, map}
use lib.ListN.{take}
use lib.Dec.{eqb, leb}
use borrow.Author.Tests.{le-leb}
use Rattle.loops.specs.Count.{tab}
use Rattle.loops.proofs.Count.{tab_ext}
use Rattle.sorts.specs.Sort.{sort_by, insert_by}
use Rattle.sorts.specs.Orders.{All, keep, Rising, ends, last, next}
use Rattle.sorts.proofs.Orders.{sort_cong, sort-all, sort_rising}
use Rattle.sorts.proofs.Places.{keep_all, sort_keep}
use Rattle.tables.specs.declared.StopTimeRow.{StopTimeRow}
use Rattle.tables.specs.Timetable.{time_at}
use Rattle.departures.specs.declared.DepartureRow.{DepartureRow}
use Rattle.departures.specs.Departures.{row_departure, by_departure}
use Rattle.event_transfers.specs.Transfers.{Input, departures_of_line, first_not_before, transfer_to, transfers_of, transfer_of, built_transfers}
use Rattle.promise.proofs.Alike.{all_imp, keep_ext}

-- a list that rises is sorted
pub sort_id : {A : Type 0} (key : A → ℕ) (l : List A) → Rising key l → sort_by key l ≡ l
unfolding sort_by insert_by
sort_id key [] ends = refl
sort_id key (x ∷ []) last = refl
sort_id {A} key (x ∷ y ∷ l) (next h r) =
    ap (insert_by key x) (sort_id key (y ∷ l) r) ∙ ap (λ (b : Bool). cond b (x ∷ y ∷ l) (y ∷ insert_by key x l)) (le-leb (key x) (key y) h)

pub sort_twice : {A : Type 0} (key : A → ℕ) (l : List A) → sort_by key (sort_by key l) ≡ sort_by key l
sort_twice key l = sort_id key (sort_by key l) (sort_rising key l)

-- SORTED FIRST, or not: a line's departures are the same
pub line_sorted : {A : Type 0} (key : A → ℕ) (p : A → Bool) (l : List A) → sort_by key (keep p (sort_by key l)) ≡ sort_by key (keep p l)
line_sorted key p l = ap (sort_by key) (sort_keep p key key (λ x y u v. refl) l) ∙ sort_twice key (keep p l)

-- what two inputs say alike of a departure
abbrev pub Alike : Input → Input → DepartureRow → Type 0
Alike I J r = (I.line_of r.trip ≡ J.line_of r.trip) × (row_departure I.timetable r ≡ row_departure J.timetable r)

-- TWO INPUTS, AN EVENT: they say the same stop time, lines, transfer time and departures there
module _ (I J : Input) (trip off : ℕ) (e : time_at I.timetable trip off ≡ time_at J.timetable trip off) (n : I.lines ≡ J.lines) (w : I.time ≡ J.time)
    (d : (line : ℕ) → departures_of_line I (time_at J.timetable trip off).stop line ≡ departures_of_line J (time_at J.timetable trip off).stop line)
    (k : (line : ℕ) → All (λ r. row_departure I.timetable r ≡ row_departure J.timetable r) (departures_of_line J (time_at J.timetable trip off).stop line)) where
  abbrev there : ℕ
  there = (time_at J.timetable trip off).stop

  first_alike : (line u : ℕ) → first_not_before I there line u ≡ first_not_before J there line u
  unfolding first_not_before
  first_alike line u =
      ap (λ (m : List DepartureRow). take 1 (keep (λ r. leb u (row_departure I.timetable r)) m)) (d line)
      ∙ ap (take 1) (keep_ext (λ r. leb u (row_departure I.timetable r)) (λ r. leb u (row_departure J.timetable r)) (departures_of_line J there line) (all_imp (departures_of_line J there line) (λ r q. ap (leb u) q) (k line)))

  to_alike : (line : ℕ) → transfer_to I trip off line ≡ transfer_to J trip off line
  unfolding transfer_to
  to_alike line =
      ap (keep (λ r. not (eqb r.trip trip)))
      (ap₂ (λ (y : StopTimeRow) (t : ℕ). first_not_before I y.stop line (y.arrival + t)) e w ∙ first_alike line ((time_at J.timetable trip off).arrival + J.time))

  of_alike : transfers_of I trip off ≡ transfers_of J trip off
  unfolding transfers_of
  of_alike =
      ap₂ (λ (y : StopTimeRow) (m : ℕ). cond (eqb y.drop_off 1) [] (flatten (tab (transfer_to I trip off) m))) e n
      ∙ ap (λ (z : List (List DepartureRow)). cond (eqb (time_at J.timetable trip off).drop_off 1) [] (flatten z)) (tab_ext (transfer_to I trip off) (transfer_to J trip off) J.lines (λ line u. to_alike line))

  pub built_alike : built_transfers I trip off ≡ built_transfers J trip off
  built_alike = ap₂ (λ (t : ℕ) (m : List DepartureRow). map (transfer_of t) m) w of_alike

-- .. where they list the same there, and say alike of each
module _ (I J : Input) (s : ℕ) (l : I.listed s ≡ J.listed s) (k : All (Alike I J) (J.listed s)) (line : ℕ) where
  pub line_alike : departures_of_line I s line ≡ departures_of_line J s line
  unfolding departures_of_line
  line_alike =
      ap (λ (m : List DepartureRow). by_departure I.timetable (keep (λ r. eqb (I.line_of r.trip) line) m)) l
      ∙ ap (by_departure I.timetable)
      (keep_ext (λ r. eqb (I.line_of r.trip) line) (λ r. eqb (J.line_of r.trip) line) (J.listed s) (all_imp (J.listed s) (λ r h. ap (λ (m : ℕ). eqb m line) h.0) k))
      ∙ sort_cong (row_departure I.timetable) (row_departure J.timetable) (keep (λ r. eqb (J.line_of r.trip) line) (J.listed s))
      (all_imp (keep (λ r. eqb (J.line_of r.trip) line) (J.listed s)) (λ r h. h.0.1) (keep_all (Alike I J) (λ r. eqb (J.line_of r.trip) line) (J.listed s) k))

  pub all_alike : All (λ r. row_departure I.timetable r ≡ row_departure J.timetable r) (departures_of_line J s line)
  unfolding departures_of_line
  all_alike =
      sort-all (row_departure J.timetable) (keep (λ r. eqb (J.line_of r.trip) line) (J.listed s))
      (all_imp (keep (λ r. eqb (J.line_of r.trip) line) (J.listed s)) (λ r h. h.0.1) (keep_all (Alike I J) (λ r. eqb (J.line_of r.trip) line) (J.listed s) k))
