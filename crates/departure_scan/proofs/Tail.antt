-- Of departures in order, those from the first on that is not before a time: the model's `not_before` of them, and in order again.
use Prim.Native.Nat.{ℕ, zero, suc, ◌+◌, ◌*◌, ◌-◌, ◌/◌, ◌≤◌, ◌<◌}
use mathlib.Core.Path.{◌≡◌, refl, sym, ap, ap₂, ◌∙◌}
use mathlib.Core.Bool.{Bool, true, false}
use mathlib.Core.List.{List, ◌∷◌}
use native.Mathlib.Omega.{arith}
use lib.ListN.{length}
use lib.Dec.{leb, ltb}
use borrow.Author.Tests.{leb-true, leb-false, lt-ltb, le-ltb}
use Rattle.loops.specs.Count.{tab_from}
use Rattle.loops.specs.Order.{Halved, KeysRise}
use Rattle.loops.proofs.Count.{tab_ext}
use Rattle.tables.specs.declared.Counts.{Counts}
use Rattle.tables.specs.Timetable.{Timetable, timetable}
use Rattle.departures.specs.declared.DepartureRow.{DepartureRow}
use Rattle.departures.specs.Departures.{row_at, rows_of, row_departure, part_of}
use Rattle.departures.proofs.Parts.{part_row, part_length, part_known}
use Rattle.model.specs.Tables.{Tables}
use Rattle.model.specs.Search.{not_before}
use Rattle.departure_scan.specs.Listed.{RowsOrdered}

-- of the values from i on, n of them: the first d are too early, the next is not
drop_early : (T : Tables) (m : ℕ) (f : ℕ → DepartureRow) (i d n : ℕ) → d ≤ n
    → ((k : ℕ) → i ≤ k → k < i + d → ltb (row_departure T.timetable (f k)) m ≡ true)
    → (d < n → ltb (row_departure T.timetable (f (i + d))) m ≡ false)
    → not_before T m (tab_from f i n) ≡ tab_from f (i + d) (n - d)
unfolding not_before tab_from
drop_early T m f i d zero h e l = let z : 0 - d ≡ 0 = omega arith in rw z refl
drop_early T m f i zero (suc n) h e l =
    let z : i + 0 ≡ i = omega arith in
    let q : suc n - 0 ≡ suc n = omega arith in
    ap (λ (b : Bool). elim b [ true ↦ not_before T m (tab_from f (suc i) n) | false ↦ f i ∷ tab_from f (suc i) n ]) (rw z at (l (omega arith)))
    ∙ sym (ap₂ (λ (a b : ℕ). tab_from f a b) z q)
drop_early T m f i (suc d) (suc n) h e l =
    let z : suc i + d ≡ i + suc d = omega arith in
    let q : n - d ≡ suc n - suc d = omega arith in
    ap (λ (b : Bool). elim b [ true ↦ not_before T m (tab_from f (suc i) n) | false ↦ f i ∷ tab_from f (suc i) n ]) (e i (omega arith) (omega arith))
    ∙ drop_early T m f (suc i) d n (omega arith) (λ k u v. e k (omega arith) (omega arith)) (λ u. rw z (l (omega arith)))
    ∙ ap₂ (λ (a b : ℕ). tab_from f a b) z q

-- the values from d on
shift : {A : Type 0} (f : ℕ → A) (d i n : ℕ) → tab_from f (d + i) n ≡ tab_from (λ k. f (d + k)) i n
unfolding tab_from
shift f d i zero = refl
shift f d i (suc n) =
    let z : suc (d + i) ≡ d + suc i = omega arith in
    ap (λ (l : List _). f (d + i) ∷ l) (ap (λ (a : ℕ). tab_from f a n) z ∙ shift f d (suc i) n)

-- n rows of a list, of which the first r are before m
module _ (t : List ℕ) (c : Counts) (list : List ℕ) (n m r : ℕ) (o : RowsOrdered t c list n) (h : Halved (λ i. leb m (row_departure (timetable t c) (row_at list i))) n r r) where
  abbrev tail : List ℕ
  tail = part_of list r (n - r)

  tail_row : (k : ℕ) → k < n - r → row_at tail k ≡ row_at list (r + k)
  tail_row k u = part_row list r (n - r) k u

  pub tail_length : length tail ≡ (n - r) * 2
  tail_length = part_length list r (n - r) (omega (arith, h.inside, o.known.size))

  leaves : (k : ℕ) → k < n - r → row_departure (timetable t c) (row_at tail k) ≡ row_departure (timetable t c) (row_at list (r + k))
  leaves k u = ap (row_departure (timetable t c)) (tail_row k u)

  tail_ordered : RowsOrdered t c tail (n - r)
  tail_ordered =
      record {
        known = part_known t c list n r (n - r) o.known (omega (arith, h.inside));
        order = λ i j l u. omega (arith, leaves i (omega arith), leaves j u, o.order (r + i) (r + j) (omega arith) (omega arith));
      }

  tail_rows : (T : Tables) → T.timetable ≡ timetable t c → rows_of tail (n - r) ≡ not_before T m (rows_of list n)
  tail_rows T e =
      let z : 0 + r ≡ r + 0 = omega arith in
      tab_ext (row_at tail) (λ k. row_at list (r + k)) (n - r) tail_row ∙ sym (shift (row_at list) r 0 (n - r)) ∙ sym (ap (λ (a : ℕ). tab_from (row_at list) a (n - r)) z)
      ∙ sym (drop_early T m (row_at list) 0 r n h.inside early late)
    where
      early : (k : ℕ) → 0 ≤ k → k < 0 + r → ltb (row_departure T.timetable (row_at list k)) m ≡ true
      early k u v =
          let d = row_departure (timetable t c) (row_at list k) in
          ap (λ (X : Timetable). ltb (row_departure X (row_at list k)) m) e ∙ lt-ltb d m (leb-false m d (h.below k (omega arith)))

      late : r < n → ltb (row_departure T.timetable (row_at list (0 + r))) m ≡ false
      late u =
          let z : 0 + r ≡ r = omega arith in
          let d = row_departure (timetable t c) (row_at list r) in
          ap₂ (λ (k : ℕ) (X : Timetable). ltb (row_departure X (row_at list k)) m) z e ∙ le-ltb d m (leb-true m d (h.above r (omega arith) u))

  -- the part that is handed on
  pub handed_ordered : (x : List ℕ) → x ≡ tail → RowsOrdered t c x (length x / 2)
  handed_ordered x q = let z : length x / 2 ≡ n - r = omega (arith, ap length q, tail_length) in rw (z, q) tail_ordered

  pub handed_rows : (x : List ℕ) → x ≡ tail → (T : Tables) → T.timetable ≡ timetable t c → rows_of x (length x / 2) ≡ not_before T m (rows_of list n)
  handed_rows x q T e = let z : length x / 2 ≡ n - r = omega (arith, ap length q, tail_length) in ap₂ (λ (l : List ℕ) (k : ℕ). rows_of l k) q z ∙ tail_rows T e

-- departures in order have keys that do not fall
pub departures_rising : (t : List ℕ) (c : Counts) (list : List ℕ) (n : ℕ) → RowsOrdered t c list n → KeysRise (λ i. row_departure (timetable t c) (row_at list i)) n
departures_rising t c list n o = record { rising = o.order }
