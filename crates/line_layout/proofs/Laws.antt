-- Laws of FIFO lines and positions, of any timetable and any lines.
use Prim.Native.Nat.{ℕ, zero, suc, ◌+◌, ◌-◌, ◌<◌, ◌≤◌}
use mathlib.Core.Path.{◌≡◌, refl, ◌∙◌, sym, ap, ap₂, subst}
use mathlib.Core.Bool.{Bool, true, false, ◌&&◌, cond}
use mathlib.Core.List.{List}
use mathlib.Core.Logic.{◌⊎◌, inl, inr, ⊎_elim}
use native.Mathlib.Nat.{add-zero, add-suc, eq-or-lt_of_le}
use native.Mathlib.Omega.{arith}
use lib.ListN.{get_or}
use lib.Dec.{leb, eqb}
use borrow.Author.Tests.{eqb-true, eqb-false, leb-true, eq-eqb, ne_eqb, le-leb}
use Rattle.loops.specs.Iter.{Hit, hit, miss, found_or, every_in}
use Rattle.loops.specs.Count.{one}
use Rattle.loops.proofs.Iter.{every_at, every_all, every_in_at}
use Rattle.loops.proofs.Count.{get_d_tab}
use Rattle.tables.specs.declared.Counts.{Counts}
use Rattle.tables.specs.declared.StopTimeRow.{StopTimeRow}
use Rattle.tables.specs.Timetable.{Timetable, time_at}
use Rattle.tables.proofs.Yes.{two}
use Rattle.line_layout.specs.Layout.{LineTrips, in_order, neighbours, fifo_line, last_place, position_in, line_trips_in, fifo_of, positions_of, fifos_of}
use Rattle.line_layout.specs.Claims.{NotLater, Unlisted, ListedLast, Listed, ListedOnce}
use Rattle.line_layout.proofs.Last.{last_is, last_none, last_found, last_missed}

-- what `in_order` says of two stop times
record InOrder (p q : StopTimeRow) : Type 0 where
  arrival : p.arrival ≤ q.arrival
  departure : p.departure ≤ q.departure
  pickup : p.pickup ≡ q.pickup
  drop_off : p.drop_off ≡ q.drop_off

in_order_lem : (p q : StopTimeRow) → in_order p q ≡ true → InOrder p q
unfolding in_order
in_order_lem p q h =
    let x = two (leb p.arrival q.arrival && leb p.departure q.departure) (eqb p.pickup q.pickup && eqb p.drop_off q.drop_off) h in
    let a = two (leb p.arrival q.arrival) (leb p.departure q.departure) x.one in
    let b = two (eqb p.pickup q.pickup) (eqb p.drop_off q.drop_off) x.two in
    record { arrival = leb-true _ _ a.one; departure = leb-true _ _ a.two; pickup = eqb-true _ _ b.one; drop_off = eqb-true _ _ b.two }

module _ (T : Timetable) where
  -- of neighbours the first is nowhere later than the second; and two of which that is true may be neighbours
  pub neighbours_say : (a b : ℕ) → neighbours T a b ≡ true → NotLater T a b
  unfolding neighbours
  neighbours_say a b h =
      let steps = every_in (λ k. in_order (time_at T a k) (time_at T b k)) 0 (T.trip a).count in
      let x = two (eqb (T.trip a).windows 0 && eqb (T.trip b).windows 0) (eqb (T.trip a).count (T.trip b).count && steps) h in
      let w = two (eqb (T.trip a).windows 0) (eqb (T.trip b).windows 0) x.one in
      let n = two (eqb (T.trip a).count (T.trip b).count) steps x.two in
      record {
        windows = eqb-true _ _ w.one;
        windows_next = eqb-true _ _ w.two;
        count = eqb-true _ _ n.one;
        arrival = λ k u. (at n.two k u).arrival;
        departure = λ k u. (at n.two k u).departure;
        pickup = λ k u. (at n.two k u).pickup;
        drop_off = λ k u. (at n.two k u).drop_off;
      }
    where
      at : every_in (λ k. in_order (time_at T a k) (time_at T b k)) 0 (T.trip a).count ≡ true → (k : ℕ) → k < (T.trip a).count → InOrder (time_at T a k) (time_at T b k)
      at e k u = in_order_lem _ _ (every_in_at (λ k. in_order (time_at T a k) (time_at T b k)) (T.trip a).count k e u)

  pub neighbours_if : (a b : ℕ) → NotLater T a b → neighbours T a b ≡ true
  unfolding neighbours in_order
  neighbours_if a b h =
      ap₂ ◌&&◌ (ap₂ ◌&&◌ (eq-eqb _ _ h.windows) (eq-eqb _ _ h.windows_next))
      (ap₂ ◌&&◌ (eq-eqb _ _ h.count)
      (every_all (λ k. in_order (time_at T a k) (time_at T b k)) 0 ((T.trip a).count - 0) (λ k l u. let v : k < (T.trip a).count = omega arith in ap₂ ◌&&◌ (ap₂ ◌&&◌ (le-leb _ _ (h.arrival k v)) (le-leb _ _ (h.departure k v))) (ap₂ ◌&&◌ (eq-eqb _ _ (h.pickup k v)) (eq-eqb _ _ (h.drop_off k v))))))

  not_later_same : (a : ℕ) → (T.trip a).windows ≡ 0 → NotLater T a a
  not_later_same a w =
      record { windows = w; windows_next = w; count = refl; arrival = λ k u. omega arith; departure = λ k u. omega arith; pickup = λ k u. refl; drop_off = λ k u. refl }

  pub not_later_trans : (a b d : ℕ) → NotLater T a b → NotLater T b d → NotLater T a d
  not_later_trans a b d x y =
      record {
        windows = x.windows;
        windows_next = y.windows_next;
        count = x.count ∙ y.count;
        arrival = λ k u. omega (arith, x.count, x.arrival k u, y.arrival k (omega (arith, x.count)));
        departure = λ k u. omega (arith, x.count, x.departure k u, y.departure k (omega (arith, x.count)));
        pickup = λ k u. x.pickup k u ∙ y.pickup k (omega (arith, x.count));
        drop_off = λ k u. x.drop_off k u ∙ y.drop_off k (omega (arith, x.count));
      }

  module _ (l : LineTrips) where
    -- the neighbours of a line of several trips
    module _ (several : l.count ≡ 1 → ⊥) (h : every_in (λ p. neighbours T (l.trip (p - 1)) (l.trip p)) 1 l.count ≡ true) where
      next : (p : ℕ) → suc p < l.count → NotLater T (l.trip p) (l.trip (suc p))
      next p u =
          let e : suc p - 1 ≡ p = omega arith in
          neighbours_say (l.trip p) (l.trip (suc p)) (ap (λ (k : ℕ). neighbours T (l.trip k) (l.trip (suc p))) (sym e) ∙ every_at (λ p. neighbours T (l.trip (p - 1)) (l.trip p)) 1 (l.count - 1) (suc p) h (omega arith) (omega arith))

      no-windows : (p : ℕ) → p < l.count → (T.trip (l.trip p)).windows ≡ 0
      no-windows zero u = (next 0 (omega (arith, several))).windows
      no-windows (suc p) u = (next p u).windows_next

      places : (p d : ℕ) → p + d < l.count → NotLater T (l.trip p) (l.trip (p + d))
      places p zero u = rw add-zero (not_later_same _ (no-windows p (omega arith)))
      places p (suc d) u = rw add-suc (not_later_trans _ _ _ (places p d (omega arith)) (next (p + d) (omega arith)))

    -- ALONG A FIFO LINE the trip at an earlier place is nowhere later than the one at a later place
    pub fifo-line : fifo_line T l ≡ true → (p q : ℕ) → p ≤ q → q < l.count → NotLater T (l.trip p) (l.trip q)
    unfolding fifo_line
    fifo-line h p q w u = go (eqb l.count 1) refl h
      where
        one-trip : (T.trip (l.trip 0)).windows ≡ 0 → p ≡ 0 → q ≡ 0 → NotLater T (l.trip p) (l.trip q)
        one-trip w e f = rw (e, f) (not_later_same _ w)

        go : (b : Bool) → eqb l.count 1 ≡ b
            → cond b (eqb (T.trip (l.trip 0)).windows 0) (every_in (λ p. neighbours T (l.trip (p - 1)) (l.trip p)) 1 l.count) ≡ true → NotLater T (l.trip p) (l.trip q)
        go true e k = let n = eqb-true l.count 1 e in one-trip (eqb-true _ 0 k) (omega arith) (omega arith)
        go false e k =
            let d : p + (q - p) ≡ q = omega arith in
            rw d at (places (eqb-false l.count 1 e) k p (q - p) (omega arith))

    -- and a line of which that is true is FIFO
    pub fifo_if : ((p q : ℕ) → p ≤ q → q < l.count → NotLater T (l.trip p) (l.trip q)) → fifo_line T l ≡ true
    unfolding fifo_line
    fifo_if h = go (eqb l.count 1) refl
      where
        go : (b : Bool) → eqb l.count 1 ≡ b → cond b (eqb (T.trip (l.trip 0)).windows 0) (every_in (λ p. neighbours T (l.trip (p - 1)) (l.trip p)) 1 l.count) ≡ true
        go true e = eq-eqb _ 0 (h 0 0 (omega arith) (omega (arith, eqb-true l.count 1 e))).windows
        go false e = every_all (λ p. neighbours T (l.trip (p - 1)) (l.trip p)) 1 (l.count - 1) (λ p w u. neighbours_if _ _ (h (p - 1) p (omega arith) (omega arith)))

-- A TRIP'S POSITION is its place where it is listed last; a trip that no line lists has 4,294,967,295
module _ (line : ℕ → LineTrips) (a : ℕ) where
  -- one line on, by what the line's search finds
  line_hit : (l p : ℕ) → last_place (line l) a ≡ hit p → position_in line (suc l) a ≡ p
  unfolding position_in
  line_hit l p e = ap (λ (h : Hit). found_or h (position_in line l a)) e

  line_miss : (l : ℕ) → last_place (line l) a ≡ miss → position_in line (suc l) a ≡ position_in line l a
  unfolding position_in
  line_miss l e = ap (λ (h : Hit). found_or h (position_in line l a)) e

  no_place : (l : ℕ) → ((p : ℕ) → p < (line l).count → (line l).trip p ≡ a → ⊥) → last_place (line l) a ≡ miss
  no_place l h = last_none (λ p. eqb ((line l).trip p) a) (line l).count (λ p u. ne_eqb _ a (h p u))

  pub position_unlisted : (lines : ℕ) → Unlisted line lines a → position_in line lines a ≡ 4294967295
  unfolding position_in
  position_unlisted zero h = refl
  position_unlisted (suc l) h =
      line_miss l (no_place l (λ p u. h.nowhere l p (omega arith) u)) ∙ position_unlisted l (record { nowhere = λ m p u. h.nowhere m p (omega arith) })

  pub position_last : (lines l p : ℕ) → ListedLast line lines a l p → position_in line lines a ≡ p
  position_last zero l p h = absurd (omega (arith, h.known))
  position_last (suc n) l p h = let q : l ≤ n = omega (arith, h.known) in ⊎_elim
      (λ (z : l ≡ n). ap (λ (k : ℕ). position_in line (suc k) a) (sym z) ∙ line_hit l p
      (last_is (λ p. eqb ((line l).trip p) a) (line l).count p h.place (eq-eqb _ a h.here) (λ j u v. ne_eqb _ a (h.after j u v))))
      (λ (z : l < n). line_miss n (no_place n (λ p u. h.later n p z (omega arith) u)) ∙ position_last n l p
      (record { known = z; place = h.place; here = h.here; after = h.after; later = λ m k u v. h.later m k u (omega arith) }))
      (eq-or-lt_of_le q)

  -- one of the two holds
  module _ (n : ℕ) (none : (p : ℕ) → p < (line n).count → (line n).trip p ≡ a → ⊥) where
    up_to : (m q : ℕ) → m ≤ n → (m < n → q < (line m).count → (line m).trip q ≡ a → ⊥) → q < (line m).count → (line m).trip q ≡ a → ⊥
    up_to m q l h = ⊎_elim (λ (z : m ≡ n). rw z (none q)) (λ (z : m < n). h z) (eq-or-lt_of_le l)

    one_more : (Listed line n a) ⊎ (Unlisted line n a) → (Listed line (suc n) a) ⊎ (Unlisted line (suc n) a)
    one_more (inl y) =
        let x = y.last in
        inl
        (record {
          at = y.at;
          place = y.place;
          last = record { known = omega (arith, x.known); place = x.place; here = x.here; after = x.after; later = λ m q u v. up_to m q (omega arith) (x.later m q u) };
        })
    one_more (inr y) = inr (record { nowhere = λ m q u. up_to m q (omega arith) (y.nowhere m q) })

  pub listed_or_not : (lines : ℕ) → (Listed line lines a) ⊎ (Unlisted line lines a)
  listed_or_not zero = inr (record { nowhere = λ l p u. absurd (omega arith) })
  listed_or_not (suc n) = go (last_place (line n) a) refl (listed_or_not n)
    where
      go : (x : Hit) → last_place (line n) a ≡ x → (Listed line n a) ⊎ (Unlisted line n a) → (Listed line (suc n) a) ⊎ (Unlisted line (suc n) a)
      go (hit p) e before =
          let f = last_found (λ p. eqb ((line n).trip p) a) (line n).count p e in
          inl
          (record {
            at = n;
            place = p;
            last = record { known = omega arith; place = f.below; here = eqb-true _ a f.passes; after = λ q u v. eqb-false _ a (f.after q u v); later = λ m q u v. absurd (omega arith) };
          })
      go miss e before = one_more n (λ p u. eqb-false _ a (last_missed (λ p. eqb ((line n).trip p) a) (line n).count p e u)) before

-- WHERE EVERY TRIP IS LISTED ONCE, in its line, its position is its place there
module _ (trips lines : ℕ) (line : ℕ → LineTrips) (line_of place_of : ℕ → ℕ) (o : ListedOnce trips lines line line_of place_of) where
  pub position_once : (a : ℕ) → a < trips → position_in line lines a ≡ place_of a
  position_once a u =
      position_last line a lines (line_of a) (place_of a)
      (record {
        known = o.known a u;
        place = o.place a u;
        here = o.here a u;
        after = λ q v w e. omega (arith, o.once_place a (line_of a) q u (o.known a u) w e);
        later = λ m q v w x e. omega (arith, o.once_line a m q u w x e);
      })

  -- so the trip stands at its position
  pub position_holds : (a : ℕ) → a < trips → (line (line_of a)).trip (position_in line lines a) ≡ a
  position_holds a u = ap (line (line_of a)).trip (position_once a u) ∙ o.here a u

  -- and of two trips of a FIFO line the one whose position is not higher is nowhere later
  pub fifo_positions : (T : Timetable) (a b : ℕ) → a < trips → b < trips → line_of a ≡ line_of b → fifo_line T (line (line_of a)) ≡ true
      → position_in line lines a ≤ position_in line lines b → NotLater T a b
  fifo_positions T a b u v e f l =
      let x : place_of a ≤ place_of b = omega (arith, position_once a u, position_once b v) in
      let y : place_of b < (line (line_of a)).count = subst (λ (k : ℕ). place_of b < (line k).count) (sym e) (o.place b v) in
      let z : (line (line_of a)).trip (place_of b) ≡ b = ap (λ (k : ℕ). (line k).trip (place_of b)) e ∙ o.here b v in
      subst (λ (k : ℕ). NotLater T k b) (o.here a u)
      (subst (λ (k : ℕ). NotLater T ((line (line_of a)).trip (place_of a)) k) z (fifo-line T (line (line_of a)) f (place_of a) (place_of b) x y))

-- what stands in the lists that the call writes
pub position_at : (c : Counts) (lines : ℕ) (runs entries : List ℕ) (a : ℕ) → a < c.trips → get_or (positions_of c lines runs entries) a 0 ≡ position_in (line_trips_in runs entries) lines a
position_at c lines runs entries a u = get_d_tab (position_in (line_trips_in runs entries) lines) c.trips a 0 u

pub flag_at : (T : Timetable) (lines : ℕ) (runs entries : List ℕ) (l : ℕ) → l < lines → get_or (fifos_of T lines runs entries) l 0 ≡ fifo_of T runs entries l
flag_at T lines runs entries l u = get_d_tab (fifo_of T runs entries) lines l 0 u

-- a flag of 1 says that the line is FIFO
pub flag_says : (T : Timetable) (runs entries : List ℕ) (l : ℕ) → fifo_of T runs entries l ≡ 1 → fifo_line T (line_trips_in runs entries l) ≡ true
flag_says T runs entries l h = go (fifo_line T (line_trips_in runs entries l)) h
  where
    go : (b : Bool) → one b ≡ 1 → b ≡ true
    go true h = refl
    go false h = absurd (omega arith)
