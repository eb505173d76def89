-- Questions 4 to 6 asked at once: the turns of the loops, and what they give together.
use Prim.Native.Nat.{ℕ, ◌+◌, ◌*◌, ◌%◌, ◌<◌, ◌≤◌}
use mathlib.Core.Path.{◌≡◌, refl, sym, ◌∙◌, ap, ap₂}
use mathlib.Core.Bool.{Bool, true, false, ◌&&◌}
use mathlib.Core.List.{List}
use native.Mathlib.Omega.{arith}
use lib.ListN.{get_or}
use lib.Dec.{ltb, leb}
use lib.Bits.{bit_or}
use borrow.Author.Tests.{lt-leb, lt-ltb, le-ltb, leb-true, leb-false}
use Rattle.loops.proofs.Most.{or_most}
use Rattle.door.specs.Door.{time_limit}
use Rattle.tables.specs.Door.{numbers_ok, ranges_ok, order_ok}
use Rattle.tables.proofs.Yes.{two}
use Rattle.departures.proofs.Yes.{listed_yes}
use Rattle.delay_rows.specs.Door.{delay_numbers, delay_ranges, delay_order}
use Rattle.query_types.specs.declared.QueryCounts.{QueryCounts}
use Rattle.query_input.specs.Lent.{delays_of, stop_runs, departure_rows}
use Rattle.query_door.specs.Door.{line_numbers, query_numbers, query_question4, mark_ranges, transfer_ranges, query_ranges, walk_ranges, query_question5, egress_order, query_question6}
use Rattle.departure_order.specs.Turn.{InTurn}
use Rattle.query_door.specs.Once.{query_ok, tables_ok, Passed}

-- THE TRANSFERS' TIMES. All bits of those passed, and one more; the test of one is that of the column
most_below : (x n : ℕ) → leb x n ≡ ltb x (n + 1)
most_below x n = go (leb x n) refl
  where
    go : (b : Bool) → leb x n ≡ b → b ≡ ltb x (n + 1)
    go true e = sym (lt-ltb x (n + 1) (omega (arith, leb-true x n e)))
    go false e = sym (le-ltb x (n + 1) (omega (arith, leb-false x n e)))

pub time_kept : (bits w x : ℕ) → w ≡ x → leb (bit_or bits w) 1048575 ≡ leb bits 1048575 && ltb x (time_limit + 1)
time_kept bits w x e = or_most 20 bits w 1048575 refl ∙ ap (λ (b : Bool). leb bits 1048575 && b) (ap (λ (y : ℕ). leb y 1048575) e ∙ most_below x 1048575)

-- THE TRANSFER RUNS. Whether those passed are inside, and all their bits
abbrev pub runs_kept : Bool → ℕ → Bool
runs_kept inside bits = inside && leb bits 2147483647

pub run_kept : (inside : Bool) (bits rows : ℕ) {more : Bool} (f l : ℕ) → rows ≤ 65536 → more ≡ inside && leb (f % 2147483648 + l % 2147483648) rows
    → runs_kept more (bit_or bits (bit_or f l)) ≡ runs_kept inside bits && leb (f + l) rows
run_kept inside bits rows f l h e =
    ap₂ ◌&&◌ e (or_most 31 bits (bit_or f l) 2147483647 refl ∙ ap (λ (b : Bool). leb bits 2147483647 && b) (or_most 31 f l 2147483647 refl))
    ∙ go inside (leb bits 2147483647) (leb f 2147483647) refl (leb l 2147483647) refl
  where
    s : ℕ
    s = f % 2147483648 + l % 2147483648

    -- a run with a number of 2^31 or more is not inside
    out : 2147483647 < f + l → (a b : Bool) → false ≡ (a && b) && leb (f + l) rows
    out g true true = sym (lt-leb (f + l) rows (omega arith))
    out g true false = refl
    out g false b = refl

    drop : (x : Bool) → x && false ≡ false
    drop true = refl
    drop false = refl

    none : (a b : Bool) → (a && leb s rows) && (b && false) ≡ false
    none a true = drop (a && leb s rows)
    none a false = drop (a && leb s rows)

    turn : (a b x : Bool) → (a && x) && (b && true) ≡ (a && b) && x
    turn true true true = refl
    turn true true false = refl
    turn true false true = refl
    turn true false false = refl
    turn false b x = refl

    go : (a b : Bool) (x : Bool) → leb f 2147483647 ≡ x → (y : Bool) → leb l 2147483647 ≡ y → (a && leb s rows) && (b && (x && y)) ≡ (a && b) && leb (f + l) rows
    go a b true p true q =
        let z : s ≡ f + l = omega (arith, leb-true f 2147483647 p, leb-true l 2147483647 q) in
        turn a b (leb s rows) ∙ ap (λ (x : ℕ). (a && b) && leb x rows) z
    go a b true p false q = none a b ∙ out (omega (arith, leb-false l 2147483647 q)) a b
    go a b false p y q = none a b ∙ out (omega (arith, leb-false f 2147483647 p)) a b

-- the test of run k, the runs from `from` on
abbrev pub inside_from : List ℕ → ℕ → ℕ → ℕ → Bool
inside_from built from rows k = leb (get_or built (from + k * 2) 0 + get_or built (from + k * 2 + 1) 0) rows

-- ALL THREE QUESTIONS
pub passed_yes : (t built transfers q : List ℕ) (n : QueryCounts) (rows : ℕ) → query_ok q n ≡ true → tables_ok t built transfers n rows ≡ true
    → InTurn t n.timetable (stop_runs built n) (departure_rows built n) n.departures → Passed t built transfers q n rows
unfolding query_ok tables_ok query_question4 query_question5 query_question6
passed_yes t built transfers q n rows h g d =
    let c = n.timetable in
    let a1 = query_numbers q n in
    let a2 = delay_numbers c.trips (delays_of q n) in
    let b1 = query_ranges q in
    let b2 = walk_ranges q n in
    let b3 = delay_ranges (delays_of q n) in
    let e1 = egress_order q n in
    let e2 = delay_order (delays_of q n) in
    let x = two (a1 && a2) ((b1 && (b2 && b3)) && (e1 && e2)) h in
    let y = two (b1 && (b2 && b3)) (e1 && e2) x.two in
    let t1 = numbers_ok t c in
    let t2 = ranges_ok t c in
    let t3 = order_ok t c in
    let l1 = line_numbers built n in
    let l2 = mark_ranges built n in
    let l3 = transfer_ranges transfers rows in
    let u = two ((t1 && t2) && t3) (l1 && (l2 && l3)) g in
    let v = two (t1 && t2) t3 u.one in
    let w = two t1 t2 v.one in
    let z = two l1 (l2 && l3) u.two in
    let o = listed_yes t c (stop_runs built n) (departure_rows built n) n.departures d.listed in
    record {
      numbers = ap₂ ◌&&◌ (ap₂ ◌&&◌ w.one z.one) (ap₂ ◌&&◌ o x.one);
      ranges = ap₂ ◌&&◌ (ap₂ ◌&&◌ w.two z.two) y.one;
      order = ap₂ ◌&&◌ (ap₂ ◌&&◌ v.two d.order) y.two;
    }
