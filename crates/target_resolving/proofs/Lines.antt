-- `resolve` of the model by what the slices hold.
use Prim.Native.Nat.{ℕ, ◌+◌, ◌-◌, ◌<◌, ◌≤◌, min}
use mathlib.Core.Path.{◌≡◌, refl, ap, ap₂, sym, ◌∙◌}
use mathlib.Core.Bool.{Bool, true, false, ◌&&◌}
use mathlib.Core.Logic.{◌⊎◌, ⊎_elim}
use mathlib.Core.List.{List}
use Rattle.std.specs.Prelude.{Option, None}
use native.Mathlib.Omega.{arith}
use native.Mathlib.Nat.{min-le_left}
use lib.ListN.{get_or}
use lib.Dec.{ltb, eqb}
use borrow.Author.Tests.{lt-ltb, le-ltb, eq-eqb, ne_eqb, ltb-true}
use Rattle.loops.specs.Count.{one}
use Rattle.loops.proofs.Iter.{and_left}
use Rattle.tables.specs.declared.Counts.{Counts}
use Rattle.frequency.specs.declared.BoardedRun.{BoardedRun}
use Rattle.line_layout.specs.Layout.{LineTrips, fifo_line}
use Rattle.event_transfers.specs.Transfers.{Transfer}
use Rattle.model.specs.Tables.{never, Tables, Query, trips, position, fifo}
use Rattle.model.specs.Search.{line_at, line_trips_at, resolve_in, resolve}
use Rattle.target_resolving.specs.declared.Tried.{Tried}
use Rattle.target_resolving.specs.declared.Tried.TheVariants.{Next, Stop}
use Rattle.query_types.specs.declared.Lined.{Lined}
use Rattle.target_resolving.specs.Resolving.{tried, go_on, TripsAt, Names, line_run_first, line_run_count, LinesOf}
use Rattle.target_resolving.proofs.Laws.{left_first, left_step, left_end}

-- the line of a trip
module _ (T : Tables) (c : Counts) (n : Lined) (built work : List ℕ) (e : trips T ≡ c.trips) (h : LinesOf T c n built work) where
  line_as : (i : ℕ) (b : Bool) → ltb i (trips T) ≡ b → elim b [ true ↦ T.line_of i | false ↦ never ] ≡ line_at T i
  unfolding line_at
  line_as i b z = sym (ap (λ (x : Bool). elim x as (λ y. ℕ) [ true ↦ T.line_of i | false ↦ never ]) z)

  pub line_past : (i : ℕ) → c.trips ≤ i → never ≡ line_at T i
  line_past i l = line_as i false (ap (ltb i) e ∙ le-ltb i c.trips l)

  pub line_known : (i r : ℕ) → i < c.trips → r ≡ get_or built i 0 → r ≡ line_at T i
  line_known i r l q = q ∙ sym (h.line_of i l) ∙ line_as i true (ap (ltb i) e ∙ lt-ltb i c.trips l)

-- one trip alone
module _ (T : Tables) (Q : Query) (f : Bool) (o after best target scan : ℕ) (q : Q.settings.line_scan ≡ scan) where
  abbrev alone : Option (ℕ × BoardedRun)
  alone = resolve_in T Q f o after best (λ p. target) (min 1 Q.settings.line_scan) 0

  pub alone_none : scan ≡ 0 → None ≡ alone
  alone_none z =
      let m : min 1 Q.settings.line_scan ≡ 0 = omega arith in
      left_end T Q f o after best (λ p. target) 0 0 0 (omega arith) ∙ sym (left_first T Q f o after best (λ p. target) 0 0)
      ∙ sym (ap (λ (k : ℕ). resolve_in T Q f o after best (λ p. target) k 0) m)

  pub alone_tried : (r : Tried) → (scan ≡ 0 → ⊥) → r ≡ tried T Q f o after best target → go_on r target None ≡ alone
  alone_tried r z er =
      let m : min 1 Q.settings.line_scan ≡ 1 = omega arith in
      ap (go_on r target) (left_end T Q f o after best (λ p. target) 1 0 1 (omega arith))
      ∙ sym (left_first T Q f o after best (λ p. target) 1 0 ∙ left_step T Q f o after best (λ p. target) 1 0 0 target r (omega arith) refl er)
      ∙ sym (ap (λ (k : ℕ). resolve_in T Q f o after best (λ p. target) k 0) m)

  pub alone_passed : (r : Tried) → (scan ≡ 0 → ⊥) → (r ≡ Next) ⊎ (r ≡ Stop) → r ≡ tried T Q f o after best target → None ≡ alone
  alone_passed r z p er =
      let e : go_on r target None ≡ None = ⊎_elim (λ (n : r ≡ Next). rw n refl) (λ (n : r ≡ Stop). rw n refl) p in
      sym e ∙ alone_tried r z er

-- `resolve` by the line's trips, the target's position and the line's flag
module _ (T : Tables) (Q : Query) (e : Transfer) (after best : ℕ) where
  abbrev by : LineTrips → ℕ → Bool → Option (ℕ × BoardedRun)
  by l p f =
      elim (ltb p l.count && eqb (l.trip p) e.target) [
        | true ↦ resolve_in T Q f e.offset after best l.trip (min (l.count - p) Q.settings.line_scan) p
        | false ↦ resolve_in T Q f e.offset after best (λ p. e.target) (min 1 Q.settings.line_scan) 0
      ]

  resolve_as : by (line_trips_at T Q (line_at T e.target)) (position T e.target) (fifo T (line_at T e.target)) ≡ resolve T Q e after best
  unfolding resolve
  resolve_as = refl

  abbrev no_trips : LineTrips
  no_trips = record { count = 0; trip = λ p. never }

  trips_past : (l : ℕ) → T.lines ≤ l → line_trips_at T Q l ≡ no_trips
  unfolding line_trips_at
  trips_past l h = ap (λ (x : Bool). elim x as (λ y. LineTrips) [ true ↦ T.line l | false ↦ no_trips ]) (le-ltb l T.lines h)

  trips_known : (l : ℕ) → l < T.lines → line_trips_at T Q l ≡ T.line l
  unfolding line_trips_at
  trips_known l h = ap (λ (x : Bool). elim x as (λ y. LineTrips) [ true ↦ T.line l | false ↦ no_trips ]) (lt-ltb l T.lines h)

  fifo_past : (l : ℕ) → T.lines ≤ l → fifo T l ≡ false
  unfolding fifo
  fifo_past l h = ap (λ (x : Bool). x && fifo_line T.timetable (T.line l)) (le-ltb l T.lines h)

  pub resolve_past : T.lines ≤ line_at T e.target → resolve_in T Q false e.offset after best (λ p. e.target) (min 1 Q.settings.line_scan) 0 ≡ resolve T Q e after best
  resolve_past h =
      sym (ap (λ (x : Bool). elim (x && eqb never e.target) as (λ y. Option (ℕ × BoardedRun)) [
        | true ↦ resolve_in T Q false e.offset after best (λ p. never) (min (0 - position T e.target) Q.settings.line_scan) (position T e.target)
        | false ↦ resolve_in T Q false e.offset after best (λ p. e.target) (min 1 Q.settings.line_scan) 0
      ]) (le-ltb (position T e.target) 0 (omega arith)))
      ∙ sym (ap₂ (λ (l : LineTrips) (f : Bool). by l (position T e.target) f) (trips_past (line_at T e.target) h) (fifo_past (line_at T e.target) h)) ∙ resolve_as

  pub resolve_known : (line p : ℕ) (f b : Bool) → line ≡ line_at T e.target → line < T.lines → position T e.target ≡ p → fifo T line ≡ f
      → (ltb p (T.line line).count && eqb ((T.line line).trip p) e.target) ≡ b
      → elim b [
        | true ↦ resolve_in T Q f e.offset after best (T.line line).trip (min ((T.line line).count - p) Q.settings.line_scan) p
        | false ↦ resolve_in T Q f e.offset after best (λ p. e.target) (min 1 Q.settings.line_scan) 0
      ] ≡ resolve T Q e after best
  resolve_known line p f b el h ep ef eb =
      sym (ap (λ (x : Bool). elim x as (λ y. Option (ℕ × BoardedRun)) [
        | true ↦ resolve_in T Q f e.offset after best (T.line line).trip (min ((T.line line).count - p) Q.settings.line_scan) p
        | false ↦ resolve_in T Q f e.offset after best (λ p. e.target) (min 1 Q.settings.line_scan) 0
      ]) eb)
      ∙ ap₂ (λ (x : ℕ) (y : Bool). by (T.line line) x y) (sym ep) (sym ef)
      ∙ ap (λ (l : LineTrips). by l (position T e.target) (fifo T line)) (sym (trips_known line h))
      ∙ ap (λ (l : ℕ). by (line_trips_at T Q l) (position T e.target) (fifo T l)) el ∙ resolve_as

-- the same in memory
pub stands_below : (p n : ℕ) (x b : Bool) → b ≡ (ltb p n && x) → b ≡ true → p < n
stands_below p n x b e z = ltb-true p n (and_left (ltb p n) x (sym e ∙ z))

flag_is : (b : Bool) (x : ℕ) → one b ≡ x → b ≡ eqb x 1
flag_is true x e = sym (eq-eqb x 1 (sym e))
flag_is false x e = sym (ne_eqb x 1 (λ z. omega arith))

guarded : (p n x y t : ℕ) → (p < n → x ≡ y) → (ltb p n && eqb x t) ≡ (ltb p n && eqb y t)
guarded p n x y t h = go (ltb p n) refl
  where
    go : (b : Bool) → ltb p n ≡ b → (b && eqb x t) ≡ (b && eqb y t)
    go true e = ap (λ (z : ℕ). eqb z t) (h (ltb-true p n e))
    go false e = refl

module _ (T : Tables) (Q : Query) (e : Transfer) (after best : ℕ) (c : Counts) (n : Lined) (built work : List ℕ) (line target off p scan : ℕ) (f b : Bool) (h : LinesOf T c n built work)
    (el : line ≡ line_at T target) (u : line < n.lines) (v : target < c.trips) (q : Q.settings.line_scan ≡ scan) (ep : p ≡ get_or work (n.positions + target) 0)
    (ef : f ≡ eqb (get_or work (n.fifo + line) 0) 1) (eb : b ≡ (ltb p (line_run_count n built line) && eqb (get_or built (n.entries + line_run_first n built line + p) 0) target)) where
  known : Names e target off → (ltb p (T.line line).count && eqb ((T.line line).trip p) e.target) ≡ b
  known m =
      ap₂ (λ (x y : ℕ). ltb p x && eqb ((T.line line).trip p) y) (h.count line u) m.trip
      ∙ guarded p (line_run_count n built line) ((T.line line).trip p) (get_or built (n.entries + line_run_first n built line + p) 0) target (h.entry line p u) ∙ sym eb

  all : Names e target off → elim b [
    | true ↦ resolve_in T Q f e.offset after best (T.line line).trip (min ((T.line line).count - p) Q.settings.line_scan) p
    | false ↦ resolve_in T Q f e.offset after best (λ p. e.target) (min 1 Q.settings.line_scan) 0
  ] ≡ resolve T Q e after best
  all m =
      resolve_known T Q e after best line p f b (el ∙ ap (line_at T) (sym m.trip)) (omega (arith, h.lines)) (ap (position T) m.trip ∙ h.position target v ∙ sym ep)
      (flag_is (fifo T line) _ (h.fifo line u) ∙ sym ef) (known m)

  pub resolve_stands : Names e target off → b ≡ true → (r : Option (ℕ × BoardedRun)) → r ≡ resolve_in T Q f off after best (T.line line).trip (min (line_run_count n built line - p) scan) p → r ≡ resolve T Q e after best
  resolve_stands m z r er =
      er ∙ sym (ap₂ (λ (x y : ℕ). resolve_in T Q f off after best (T.line line).trip (min (x - p) y) p) (h.count line u) q)
      ∙ sym (ap (λ (x : ℕ). resolve_in T Q f x after best (T.line line).trip (min ((T.line line).count - p) Q.settings.line_scan) p) m.place)
      ∙ sym (ap (λ (x : Bool). elim x as (λ y. Option (ℕ × BoardedRun)) [
        | true ↦ resolve_in T Q f e.offset after best (T.line line).trip (min ((T.line line).count - p) Q.settings.line_scan) p
        | false ↦ resolve_in T Q f e.offset after best (λ p. e.target) (min 1 Q.settings.line_scan) 0
      ]) z) ∙ all m

  pub resolve_absent : Names e target off → b ≡ false → (r : Option (ℕ × BoardedRun)) → r ≡ resolve_in T Q f off after best (λ p. target) (min 1 Q.settings.line_scan) 0 → r ≡ resolve T Q e after best
  resolve_absent m z r er =
      er ∙ sym (ap₂ (λ (x y : ℕ). resolve_in T Q f x after best (λ p. y) (min 1 Q.settings.line_scan) 0) m.place m.trip)
      ∙ sym (ap (λ (x : Bool). elim x as (λ y. Option (ℕ × BoardedRun)) [
        | true ↦ resolve_in T Q f e.offset after best (T.line line).trip (min ((T.line line).count - p) Q.settings.line_scan) p
        | false ↦ resolve_in T Q f e.offset after best (λ p. e.target) (min 1 Q.settings.line_scan) 0
      ]) z) ∙ all m

  pub stands_listed : (from k : ℕ) → k ≡ min (line_run_count n built line - p) scan → from ≡ n.entries + line_run_first n built line + p → TripsAt (T.line line).trip p built from k
  stands_listed from k ek ef' =
      record { place = λ j l. h.entry line (p + j) u (omega (arith, min-le_left (line_run_count n built line - p) scan)) ∙ ap (λ (x : ℕ). get_or built x 0) (omega arith) }

pub resolve_outside : (T : Tables) (Q : Query) (e : Transfer) (after best : ℕ) (n : Lined) (line target off : ℕ) (r : Option (ℕ × BoardedRun)) → T.lines ≡ n.lines → line ≡ line_at T target → n.lines ≤ line → Names e target off
    → r ≡ resolve_in T Q false off after best (λ p. target) (min 1 Q.settings.line_scan) 0 → r ≡ resolve T Q e after best
resolve_outside T Q e after best n line target off r en el h m er =
    let z : line_at T e.target ≡ line = ap (line_at T) m.trip ∙ sym el in
    er ∙ sym (ap₂ (λ (x y : ℕ). resolve_in T Q false x after best (λ p. y) (min 1 Q.settings.line_scan) 0) m.place m.trip)
    ∙ resolve_past T Q e after best (omega arith)
