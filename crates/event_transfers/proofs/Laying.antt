-- Laws of writing row by row.
use Prim.Native.Nat.{ℕ, suc, ◌+◌, ◌*◌, ◌-◌, ◌<◌, ◌≤◌, min}
use mathlib.Core.Path.{◌≡◌, refl, sym, ◌∙◌, ap, ap₂}
use mathlib.Core.Bool.{Bool, true, false, cond}
use mathlib.Core.List.{List, [], ◌∷◌, ◌++◌, append_assoc, flatten}
use native.Mathlib.Omega.{arith}
use lib.ListN.{length, set, take, drop, length-append, take-append-drop}
use lib.Seq.{sets-eq}
use lib.Dec.{ltb}
use borrow.Author.Tests.{ltb-true, ltb-false, lt-ltb, le-ltb, le-leb}
use Rattle.sorts.specs.Sort.{within}
use Rattle.sorts.proofs.Within.{within_length}
use Rattle.departures.specs.Packed.{un_trip, un_offset}
use Rattle.event_transfers.specs.Transfers.{runs_from}
use Rattle.event_transfers.specs.Packed.{AreaSoFar, AreaWalk, laid, lay, lay_event, lay_events, lay_row, put_row, put_run}
use Rattle.event_transfers.proofs.Lists.{within_join}

-- stores in a row
pub four : (a : List ℕ) (at p q r s : ℕ) → at + 4 ≤ length a → set (set (set (set a at p) (at + 1) q) (at + 2) r) (at + 3) s ≡ within at (at + 4) (p ∷ q ∷ r ∷ s ∷ []) a
unfolding within
four a at p q r s h =
    let e1 : at + 1 ≡ suc at = omega arith in
    let e2 : at + 2 ≡ suc (suc at) = omega arith in
    let e3 : at + 3 ≡ suc (suc (suc at)) = omega arith in
    rw (e1, e2, e3) (sets-eq (p ∷ q ∷ r ∷ s ∷ []) a at h ∙ append_assoc (take at a) (p ∷ q ∷ r ∷ s ∷ []) (drop (at + 4) a))

pub two : (a : List ℕ) (at p q : ℕ) → at + 2 ≤ length a → set (set a at p) (at + 1) q ≡ within at (at + 2) (p ∷ q ∷ []) a
unfolding within
two a at p q h =
    let e1 : at + 1 ≡ suc at = omega arith in
    rw e1 (sets-eq (p ∷ q ∷ []) a at h ∙ append_assoc (take at a) (p ∷ q ∷ []) (drop (at + 2) a))

-- one row
pub row_full : (time x : ℕ) (s : AreaSoFar) → 65536 < s.n → lay_row time x s ≡ s
unfolding lay_row
row_full time x s h = ap (λ (t : Bool). cond t s (laid (s.n + 1) (put_row time s.area s.n x))) (lt-ltb 65536 s.n h)

pub row_more : (time x : ℕ) (s : AreaSoFar) → s.n ≤ 65536 → lay_row time x s ≡ laid (s.n + 1) (put_row time s.area s.n x)
unfolding lay_row
row_more time x s h = ap (λ (t : Bool). cond t s (laid (s.n + 1) (put_row time s.area s.n x))) (le-ltb 65536 s.n h)

-- many rows
pub lay_append : (time : ℕ) (a b : List ℕ) (s : AreaSoFar) → lay time (a ++ b) s ≡ lay time b (lay time a s)
unfolding lay
lay_append time [] b s = refl
lay_append time (x ∷ a) b s = lay_append time a b (lay_row time x s)

pub lay_full : (time : ℕ) (l : List ℕ) (s : AreaSoFar) → 65536 < s.n → lay time l s ≡ s
unfolding lay
lay_full time [] s h = refl
lay_full time (x ∷ l) s h = ap (lay time l) (row_full time x s h) ∙ lay_full time l s h

pub lay_n : (time : ℕ) (l : List ℕ) (s : AreaSoFar) → s.n ≤ 65537 → (lay time l s).n ≡ min (s.n + length l) 65537
unfolding lay
lay_n time [] s h = omega arith
lay_n time (x ∷ l) s h = go (ltb 65536 s.n) refl (lay_n time l (lay_row time x s))
  where
    go : (t : Bool) → ltb 65536 s.n ≡ t → ((lay_row time x s).n ≤ 65537 → (lay time l (lay_row time x s)).n ≡ min ((lay_row time x s).n + length l) 65537)
        → (lay time l (lay_row time x s)).n ≡ min (s.n + suc (length l)) 65537
    go true e later =
        let u = ltb-true 65536 s.n e in
        let q : (lay_row time x s).n ≡ s.n = ap (λ (w : AreaSoFar). w.n) (row_full time x s u) in
        omega (arith, u, q, later (omega (arith, q)))
    go false e later =
        let u = ltb-false 65536 s.n e in
        let q : (lay_row time x s).n ≡ s.n + 1 = ap (λ (w : AreaSoFar). w.n) (row_more time x s u) in
        omega (arith, u, q, later (omega (arith, u, q)))

-- the words of rows held as numbers
unfoldable pub key_words : ℕ → List ℕ → List ℕ
key_words time [] = []
key_words time (x ∷ l) = un_trip x ∷ un_offset x ∷ time ∷ 0 ∷ key_words time l

put_fits : (time : ℕ) (a : List ℕ) (n x : ℕ) → n * 4 + 4 ≤ length a → put_row time a n x ≡ within (n * 4) (n * 4 + 4) (un_trip x ∷ un_offset x ∷ time ∷ 0 ∷ []) a
unfolding put_row
put_fits time a n x h = simp (le-leb (n * 4 + 4) (length a) h)

within_none : (a e : ℕ) (l : List ℕ) → a ≡ e → within a e [] l ≡ l
unfolding within
within_none a e l h = ap (λ (i : ℕ). take a l ++ drop i l) (sym h) ∙ take-append-drop a l

-- WHERE THERE IS SPACE, the rows stand one after the other, and the rest of the area stays
pub lay_area : (time : ℕ) (l : List ℕ) (n : ℕ) (a : List ℕ) → n + length l ≤ 65536 → (n + length l) * 4 ≤ length a
    → lay time l (laid n a) ≡ laid (n + length l) (within (n * 4) ((n + length l) * 4) (key_words time l) a)
unfolding lay key_words
lay_area time [] n a h r = ap₂ laid (omega arith) (sym (within_none (n * 4) ((n + 0) * 4) a (omega arith)))
lay_area time (x ∷ l) n a h r =
    ap (lay time l) (row_more time x (laid n a) (omega arith) ∙ ap (laid (n + 1)) (put_fits time a n x (omega arith)))
    ∙ lay_area time l (n + 1) (within (n * 4) (n * 4 + 4) row a) (omega arith) (rw size (omega arith))
    ∙ ap₂ laid (omega arith) (ap₂ (λ (i j : ℕ). within i j (key_words time l) (within (n * 4) (n * 4 + 4) row a)) (omega arith) (omega arith)
    ∙ within_join (n * 4) (n * 4 + 4) ((n + suc (length l)) * 4) row (key_words time l) a (omega arith) (omega arith) r (omega arith))
  where
    row : List ℕ
    row = un_trip x ∷ un_offset x ∷ time ∷ 0 ∷ []

    size : length (within (n * 4) (n * 4 + 4) row a) ≡ length a
    size = within_length (n * 4) (n * 4 + 4) row a (omega arith) (omega arith) (omega arith)

-- OVER THE EVENTS: what is counted and written is what the rows of all of them give
pub events_laid : (time e : ℕ) (ls : List (List ℕ)) (w : AreaWalk) → laid (lay_events time e ls w).n (lay_events time e ls w).area ≡ lay time (flatten ls) (laid w.n w.area)
unfolding lay_events lay_event flatten lay
events_laid time e [] w = refl
events_laid time e (l ∷ ls) w =
    events_laid time (e + 1) ls (lay_event time e l w) ∙ sym (lay_append time l (flatten ls) (laid w.n w.area))

pub events_n : (time e : ℕ) (ls : List (List ℕ)) (w : AreaWalk) → w.n ≤ 65537 → (lay_events time e ls w).n ≡ min (w.n + length (flatten ls)) 65537
events_n time e ls w h = ap (λ (s : AreaSoFar). s.n) (events_laid time e ls w) ∙ lay_n time (flatten ls) (laid w.n w.area) h

pub events_append : (time e : ℕ) (a b : List (List ℕ)) (w : AreaWalk) → lay_events time e (a ++ b) w ≡ lay_events time (e + length a) b (lay_events time e a w)
unfolding lay_events
events_append time e [] b w = ap (λ (i : ℕ). lay_events time i b w) (omega arith)
events_append time e (l ∷ a) b w =
    events_append time (e + 1) a b (lay_event time e l w)
    ∙ ap (λ (i : ℕ). lay_events time i b (lay_events time (e + 1) a (lay_event time e l w))) (omega arith)

run_fits : (v : List ℕ) (e n m : ℕ) → e * 2 + 2 ≤ length v → put_run v e n m ≡ within (e * 2) (e * 2 + 2) (n ∷ m ∷ []) v
unfolding put_run
run_fits v e n m h = simp (le-leb (e * 2 + 2) (length v) h)

event_n : (time e : ℕ) (l : List ℕ) (w : AreaWalk) → (lay_event time e l w).n ≡ (lay time l (laid w.n w.area)).n
unfolding lay_event
event_n time e l w = refl

event_evs : (time e : ℕ) (l : List ℕ) (w : AreaWalk) → (lay_event time e l w).evs ≡ put_run w.evs e w.n ((lay time l (laid w.n w.area)).n - w.n)
unfolding lay_event
event_evs time e l w = refl

-- and each event's run stands in its place
pub events_runs : (time e : ℕ) (ls : List (List ℕ)) (w : AreaWalk) → w.n + length (flatten ls) ≤ 65536 → (e + length ls) * 2 ≤ length w.evs
    → (lay_events time e ls w).evs ≡ within (e * 2) ((e + length ls) * 2) (runs_from w.n ls) w.evs
unfolding lay_events flatten runs_from
events_runs time e [] w h r = sym (within_none (e * 2) ((e + 0) * 2) w.evs (omega arith))
events_runs time e (l ∷ ls) w h r =
    events_runs time (e + 1) ls (lay_event time e l w) (omega (arith, count, joined)) (rw (runs, size) (omega arith))
    ∙ ap₂ (λ (i : ℕ) (v : List ℕ). within ((e + 1) * 2) ((e + 1 + length ls) * 2) (runs_from i ls) v) count runs
    ∙ ap₂ (λ (i j : ℕ). within i j (runs_from (w.n + length l) ls) (within (e * 2) (e * 2 + 2) row w.evs)) (omega arith) (omega arith)
    ∙ within_join (e * 2) (e * 2 + 2) ((e + suc (length ls)) * 2) row (runs_from (w.n + length l) ls) w.evs (omega arith) (omega arith) r (omega arith)
  where
    row : List ℕ
    row = w.n ∷ length l ∷ []

    joined : length (l ++ flatten ls) ≡ length l + length (flatten ls)
    joined = length-append l (flatten ls)

    counted : (lay time l (laid w.n w.area)).n ≡ w.n + length l
    counted = omega (arith, lay_n time l (laid w.n w.area) (omega (arith, joined)), joined)

    count : (lay_event time e l w).n ≡ w.n + length l
    count = event_n time e l w ∙ counted

    few : (lay time l (laid w.n w.area)).n - w.n ≡ length l
    few = omega (arith, counted)

    runs : (lay_event time e l w).evs ≡ within (e * 2) (e * 2 + 2) row w.evs
    runs = event_evs time e l w ∙ ap (put_run w.evs e w.n) few ∙ run_fits w.evs e w.n (length l) (omega arith)

    size : length (within (e * 2) (e * 2 + 2) row w.evs) ≡ length w.evs
    size = within_length (e * 2) (e * 2 + 2) row w.evs (omega arith) (omega arith) (omega arith)
