-- THE LAWS of the transfers, over any timetable, and of the call (document 01, item 8).
use Prim.Native.Nat.{ℕ, zero, suc, ◌+◌, ◌*◌, ◌-◌, ◌<◌, ◌≤◌}
use mathlib.Core.Path.{◌≡◌, refl, sym, ◌∙◌, ap, ap₂}
use mathlib.Core.Bool.{Bool, true, false, not, cond}
use mathlib.Core.List.{List, [], ◌∷◌, ◌++◌, flatten, Memᴰ}
use mathlib.Core.Logic.{⊎_elim}
use native.Mathlib.Nat.{eq-or-lt_of_le}
use native.Mathlib.Omega.{arith}
use lib.ListN.{length, get_or, take, drop, length-append, length-drop, length-take, get_or-append}
use lib.Seq.{drop-append-add, ext_get_or, get_or-append-add, get_or-drop, get_or-take, take-append_seam}
use lib.Dec.{leb, eqb}
use borrow.Author.Tests.{eq-eqb, eqb-false, eqb-true, ne_eqb, not-true}
use Rattle.loops.specs.Count.{tab, tab_from}
use Rattle.loops.proofs.Count.{get_d_tab, length_tab_from}
use Rattle.sorts.specs.Sort.{sort_by}
use Rattle.sorts.specs.Orders.{All, keep, nil}
use Rattle.sorts.proofs.Orders.{sort-all}
use Rattle.tables.specs.Tables.{count_of}
use Rattle.tables.specs.Timetable.{Timetable, timetable, time_at}
use Rattle.departures.specs.declared.DepartureRow.{DepartureRow}
use Rattle.departures.specs.Departures.{row_departure, run_at, run_first}
use Rattle.departures.proofs.All.{all_tab}
use Rattle.door.specs.declared.Answer.{Answer}
use Rattle.door.specs.Door.{refusal, success}
use Rattle.event_transfers.specs.Transfers.{Input, Transfer, all_transfers, built_transfers, departures_of_line, events_before, events_of, first_not_before, runs_from, transfer_at, transfer_to, transfers_at, transfers_of, transfer_words}
use Rattle.transfers_call.specs.Call.{TransfersAdmitted, TransferAreas, TransferLent, TransfersOutcome, area_with, input_of, transfers_outcome, transfers_outcome_of, room_ok, transfers_settle, transfers_settled, transfers_verdict, written}
use Rattle.event_transfers.proofs.Lists.{all_both, all_flatten, all_imp, all_keep, all_kept, all_take, length_keep}
use Rattle.transfers_call.proofs.Firsts.{Climbs, Earliest, all_members, climbs, earliest, none, picked}
use Rattle.transfers_call.proofs.Asking.{admitted}
use Rattle.transfers_call.proofs.Written.{Room, events_length, room_yes}

-- the departures listed at an event's stop, and when its riders are ready
abbrev pub listed_there : Input → ℕ → ℕ → List DepartureRow
listed_there x trip off = x.listed (time_at x.timetable trip off).stop

abbrev pub ready_at : Input → ℕ → ℕ → ℕ
ready_at x trip off = (time_at x.timetable trip off).arrival + x.time

abbrev pub departs : Input → DepartureRow → ℕ
departs x = row_departure x.timetable

-- WHAT A TRANSFER IS: its target departs at the event's stop, is of the line, departs not before arrival + transfer time,
-- is the earliest such of its line and, of equal ones, the first in the list; it is not the same trip
pub record TransferTo (x : Input) (trip off line : ℕ) (r : DepartureRow) : Type 0 where
  pub listed : Memᴰ r (listed_there x trip off)
  pub own : x.line_of r.trip ≡ line
  pub ready : ready_at x trip off ≤ departs x r
  pub earliest : All (λ q. x.line_of q.trip ≡ line → ready_at x trip off ≤ departs x q → departs x r ≤ departs x q) (listed_there x trip off)
  pub order : take 1 (keep (λ q. eqb (departs x q) (departs x r)) (keep (λ q. eqb (x.line_of q.trip) line) (listed_there x trip off))) ≡ r ∷ []
  pub other : r.trip ≡ trip → ⊥

abbrev of_line : Input → ℕ → DepartureRow → Bool
of_line x line r = eqb (x.line_of r.trip) line

abbrev Listed : Input → ℕ → ℕ → ℕ → DepartureRow → Type 0
Listed x trip off line r = Memᴰ r (listed_there x trip off) × (of_line x line r ≡ true)

abbrev Found : Input → ℕ → ℕ → ℕ → DepartureRow → Type 0
Found x trip off line = Earliest (departs x) (of_line x line) (ready_at x trip off) (listed_there x trip off)

found_listed : (x : Input) (trip off line : ℕ) → All (Listed x trip off line) (first_not_before x (time_at x.timetable trip off).stop line (ready_at x trip off))
unfolding first_not_before departures_of_line
found_listed x trip off line =
    all_take (Listed x trip off line) 1 (keep (λ r. leb (ready_at x trip off) (departs x r)) (sort_by (departs x) (keep (of_line x line) (listed_there x trip off))))
    (all_kept (Listed x trip off line) (λ r. leb (ready_at x trip off) (departs x r)) (sort_by (departs x) (keep (of_line x line) (listed_there x trip off)))
    (sort-all (departs x) (keep (of_line x line) (listed_there x trip off))
    (all_keep (λ r. Memᴰ r (listed_there x trip off)) (of_line x line) (listed_there x trip off) (all_members (listed_there x trip off)))))

found_earliest : (x : Input) (trip off line : ℕ) → All (Found x trip off line) (first_not_before x (time_at x.timetable trip off).stop line (ready_at x trip off))
unfolding first_not_before departures_of_line
found_earliest x trip off line = earliest (departs x) (of_line x line) (ready_at x trip off) (listed_there x trip off)

pub transfer_is : (x : Input) (trip off line : ℕ) → All (TransferTo x trip off line) (transfer_to x trip off line)
unfolding transfer_to
transfer_is x trip off line =
    all_imp (λ r. (Listed x trip off line r × Found x trip off line r) × (not (eqb r.trip trip) ≡ true)) (TransferTo x trip off line)
    (λ r h. record {
      listed = h.0.0.0;
      own = eqb-true (x.line_of r.trip) line h.0.0.1;
      ready = h.0.1.ready;
      earliest =
          all_imp (λ q. of_line x line q ≡ true → ready_at x trip off ≤ departs x q → departs x r ≤ departs x q)
          (λ q. x.line_of q.trip ≡ line → ready_at x trip off ≤ departs x q → departs x r ≤ departs x q) (λ q k e u. k (eq-eqb (x.line_of q.trip) line e) u) (listed_there x trip off) h.0.1.least;
      order = h.0.1.order;
      other = eqb-false r.trip trip (not-true (eqb r.trip trip) h.1);
    })
    (keep (λ r. not (eqb r.trip trip)) found)
    (all_keep (λ r. Listed x trip off line r × Found x trip off line r) (λ r. not (eqb r.trip trip)) found
    (all_both (Listed x trip off line) (Found x trip off line) found (found_listed x trip off line) (found_earliest x trip off line)))
  where
    found : List DepartureRow
    found = first_not_before x (time_at x.timetable trip off).stop line (ready_at x trip off)

-- at most one to a line
pub transfer_one : (x : Input) (trip off line : ℕ) → length (transfer_to x trip off line) ≤ 1
unfolding transfer_to first_not_before
transfer_one x trip off line =
    let late = keep (λ r. leb (ready_at x trip off) (departs x r)) (departures_of_line x (time_at x.timetable trip off).stop line) in
    omega (arith, length_keep (λ r. not (eqb r.trip trip)) (take 1 late), length-take 1 late)

-- THE TRANSFERS OF AN EVENT. None where drop-off is 1:
pub barred : (x : Input) (trip off : ℕ) → (time_at x.timetable trip off).drop_off ≡ 1 → transfers_of x trip off ≡ []
unfolding transfers_of
barred x trip off e = ap (λ (t : Bool). cond t [] (flatten (tab (transfer_to x trip off) x.lines))) (eq-eqb (time_at x.timetable trip off).drop_off 1 e)

open_is : (x : Input) (trip off : ℕ) → ((time_at x.timetable trip off).drop_off ≡ 1 → ⊥) → transfers_of x trip off ≡ flatten (tab (transfer_to x trip off) x.lines)
unfolding transfers_of
open_is x trip off e = ap (λ (t : Bool). cond t [] (flatten (tab (transfer_to x trip off) x.lines))) (ne_eqb (time_at x.timetable trip off).drop_off 1 e)

own_line : (x : Input) (trip off line : ℕ) → All (λ r. x.line_of r.trip ≡ line) (transfer_to x trip off line)
own_line x trip off line = all_imp (TransferTo x trip off line) (λ r. x.line_of r.trip ≡ line) (λ r h. h.own) (transfer_to x trip off line) (transfer_is x trip off line)

-- elsewhere those to each line are its transfer
pub to-line : (x : Input) (trip off line : ℕ) → ((time_at x.timetable trip off).drop_off ≡ 1 → ⊥) → line < x.lines → keep (λ r. eqb (x.line_of r.trip) line) (transfers_of x trip off) ≡ transfer_to x trip off line
to-line x trip off line e h =
    ap (keep (λ r. eqb (x.line_of r.trip) line)) (open_is x trip off e)
    ∙ picked (λ r. x.line_of r.trip) (transfer_to x trip off) (transfer_one x trip off) (own_line x trip off) line 0 x.lines (omega arith) (omega arith)

-- and each is such a transfer, to its own line
pub transfers_are : (x : Input) (trip off : ℕ) → All (λ r. TransferTo x trip off (x.line_of r.trip) r) (transfers_of x trip off)
unfolding transfers_of
transfers_are x trip off = go (eqb (time_at x.timetable trip off).drop_off 1)
  where
    line : (l : ℕ) → All (λ r. TransferTo x trip off (x.line_of r.trip) r) (transfer_to x trip off l)
    line l = all_imp (TransferTo x trip off l) (λ r. TransferTo x trip off (x.line_of r.trip) r) (λ r h. rw h.own h) (transfer_to x trip off l) (transfer_is x trip off l)

    go : (b : Bool) → All (λ r. TransferTo x trip off (x.line_of r.trip) r) (cond b [] (flatten (tab (transfer_to x trip off) x.lines)))
    go true = nil
    go false =
        all_flatten (λ r. TransferTo x trip off (x.line_of r.trip) r) (tab (transfer_to x trip off) x.lines)
        (all_tab (All (λ r. TransferTo x trip off (x.line_of r.trip) r)) (transfer_to x trip off) 0 x.lines (λ l u v. line l))

-- LINES STRICTLY RISE within an event
pub lines_rise : (x : Input) (trip off : ℕ) → Climbs (λ r. x.line_of r.trip) (transfers_of x trip off)
unfolding transfers_of
lines_rise x trip off = go (eqb (time_at x.timetable trip off).drop_off 1)
  where
    go : (b : Bool) → Climbs (λ r. x.line_of r.trip) (cond b [] (flatten (tab (transfer_to x trip off) x.lines)))
    go true = none
    go false = climbs (λ r. x.line_of r.trip) (transfer_to x trip off) (transfer_one x trip off) (own_line x trip off) 0 x.lines

-- THE EVENTS stand trip by trip, offset by offset
next_events : (T : Timetable) (i : ℕ) → events_before T (suc i) ≡ events_before T i + (T.trip i).count
unfolding events_before
next_events T i = refl

no_events : (T : Timetable) → events_before T 0 ≡ 0
unfolding events_before
no_events T = refl

events_grow : (T : Timetable) (i k : ℕ) → events_before T i ≤ events_before T (i + k)
unfolding events_before
events_grow T i zero = let e : i + 0 ≡ i = omega arith in rw e (omega arith)
events_grow T i (suc k) = let e : i + suc k ≡ suc (i + k) = omega arith in rw e (omega (arith, events_grow T i k))

event_from : {A : Type 0} (T : Timetable) (f : ℕ → ℕ → A) (d : A) (i n trip off : ℕ) → i ≤ trip → trip < i + n → off < (T.trip trip).count
    → get_or (flatten (tab_from (λ k. tab (f k) (T.trip k).count) i n)) (events_before T trip + off - events_before T i) d ≡ f trip off
unfolding flatten tab_from
event_from T f d i zero trip off h u k = absurd (omega arith)
event_from {A} T f d i (suc n) trip off h u k =
    ⊎_elim (λ (q : i ≡ trip). here q) (λ (q : i < trip). later q (event_from T f d (suc i) n trip off q (omega arith) k)) (eq-or-lt_of_le h)
  where
    rest : List A
    rest = flatten (tab_from (λ k. tab (f k) (T.trip k).count) (suc i) n)

    size : length (tab (f i) (T.trip i).count) ≡ (T.trip i).count
    size = length_tab_from (f i) 0 (T.trip i).count

    here : i ≡ trip → get_or (tab (f i) (T.trip i).count ++ rest) (events_before T trip + off - events_before T i) d ≡ f trip off
    here q =
        let e = ap (events_before T) q in
        let z : events_before T trip + off - events_before T i ≡ off = omega (arith, e) in
        let m = ap (λ (k : ℕ). (T.trip k).count) q in
        ap (λ (j : ℕ). get_or (tab (f i) (T.trip i).count ++ rest) j d) z
        ∙ get_or-append (tab (f i) (T.trip i).count) rest d off (omega (arith, size, m))
        ∙ get_d_tab (f i) (T.trip i).count off d (omega (arith, m))
        ∙ ap (λ (j : ℕ). f j off) q

    later : i < trip → get_or rest (events_before T trip + off - events_before T (suc i)) d ≡ f trip off
        → get_or (tab (f i) (T.trip i).count ++ rest) (events_before T trip + off - events_before T i) d ≡ f trip off
    later q ih =
        let w : suc i + (trip - suc i) ≡ trip = omega arith in
        let g : events_before T (suc i) ≤ events_before T trip = rw w at (events_grow T (suc i) (trip - suc i)) in
        let s : events_before T (suc i) ≡ events_before T i + (T.trip i).count = next_events T i in
        let z : events_before T trip + off - events_before T i ≡ length (tab (f i) (T.trip i).count) + (events_before T trip + off - events_before T (suc i)) = omega (arith, size, g, s) in
        ap (λ (j : ℕ). get_or (tab (f i) (T.trip i).count ++ rest) j d) z
        ∙ get_or-append-add (tab (f i) (T.trip i).count) rest (events_before T trip + off - events_before T (suc i)) d
        ∙ ih

pub event_number : (x : Input) (trip off : ℕ) → trip < x.timetable.trips → off < (x.timetable.trip trip).count
    → get_or (events_of x) (events_before x.timetable trip + off) [] ≡ built_transfers x trip off
unfolding events_of
event_number x trip off h k =
    let b : events_before x.timetable 0 ≡ 0 = no_events x.timetable in
    let z : events_before x.timetable trip + off ≡ events_before x.timetable trip + off - events_before x.timetable 0 = omega (arith, b) in
    ap (λ (j : ℕ). get_or (flatten (tab (λ k. tab (built_transfers x k) (x.timetable.trip k).count) x.timetable.trips)) j []) z
    ∙ event_from x.timetable (built_transfers x) [] 0 x.timetable.trips trip off (omega arith) (omega arith) k

pub event_below : (x : Input) (trip off : ℕ) → trip < x.timetable.trips → off < (x.timetable.trip trip).count → events_before x.timetable trip + off < length (events_of x)
event_below x trip off h k =
    let w : suc trip + (x.timetable.trips - suc trip) ≡ x.timetable.trips = omega arith in
    let g : events_before x.timetable (suc trip) ≤ events_before x.timetable x.timetable.trips = rw w at (events_grow x.timetable (suc trip) (x.timetable.trips - suc trip)) in
    omega (arith, g, next_events x.timetable trip, events_length x)

-- THE RUN of event e: how many transfers the events before it have, and how many it has; those are its rows
pub run-first : {A : Type 0} (n : ℕ) (ls : List (List A)) (e : ℕ) → e < length ls → get_or (runs_from n ls) (e * 2) 0 ≡ n + length (flatten (take e ls))
unfolding runs_from flatten
run-first n [] e h = absurd (omega arith)
run-first n (l ∷ ls) zero h = omega arith
run-first n (l ∷ ls) (suc e) h =
    let z : suc e * 2 ≡ suc (suc (e * 2)) = omega arith in
    ap (λ (j : ℕ). get_or (n ∷ length l ∷ runs_from (n + length l) ls) j 0) z
    ∙ run-first (n + length l) ls e (omega arith)
    ∙ omega (arith, length-append l (flatten (take e ls)))

pub run_count : {A : Type 0} (n : ℕ) (ls : List (List A)) (e : ℕ) → e < length ls → get_or (runs_from n ls) (e * 2 + 1) 0 ≡ length (get_or ls e [])
unfolding runs_from
run_count n [] e h = absurd (omega arith)
run_count n (l ∷ ls) zero h = refl
run_count n (l ∷ ls) (suc e) h =
    let z : suc e * 2 + 1 ≡ suc (suc (e * 2 + 1)) = omega arith in
    ap (λ (j : ℕ). get_or (n ∷ length l ∷ runs_from (n + length l) ls) j 0) z ∙ run_count (n + length l) ls e (omega arith)

pub run_rows : {A : Type 0} (ls : List (List A)) (e : ℕ) → e < length ls → take (length (get_or ls e [])) (drop (length (flatten (take e ls))) (flatten ls)) ≡ get_or ls e []
unfolding flatten
run_rows [] e h = absurd (omega arith)
run_rows (l ∷ ls) zero h = take-append_seam l (flatten ls)
run_rows {A} (l ∷ ls) (suc e) h =
    ap (λ (j : ℕ). take (length (get_or ls e [])) (drop j (l ++ flatten ls))) (length-append l (flatten (take e ls)))
    ∙ ap (take (length (get_or ls e []))) (drop-append-add l (flatten ls) (length (flatten (take e ls))))
    ∙ run_rows ls e (omega arith)

pub run_inside : {A : Type 0} (ls : List (List A)) (e : ℕ) → e < length ls → length (flatten (take e ls)) + length (get_or ls e []) ≤ length (flatten ls)
unfolding flatten
run_inside [] e h = absurd (omega arith)
run_inside (l ∷ ls) zero h = omega (arith, length-append l (flatten ls))
run_inside (l ∷ ls) (suc e) h = omega (arith, run_inside ls e (omega arith), length-append l (flatten ls), length-append l (flatten (take e ls)))

-- TRANSFER k of the area is transfer k of all
pub length_words : (l : List Transfer) → length (transfer_words l) ≡ length l * 4
unfolding transfer_words
length_words [] = refl
length_words (r ∷ l) = omega (arith, length_words l)

words_at : (l : List Transfer) (d : Transfer) (k j : ℕ) → k < length l → get_or (transfer_words l) (k * 4 + j) 0 ≡ get_or (transfer_words (get_or l k d ∷ drop (suc k) l)) j 0
unfolding transfer_words
words_at [] d k j h = absurd (omega arith)
words_at (r ∷ l) d zero j h = let z : 0 * 4 + j ≡ j = omega arith in ap (λ (i : ℕ). get_or (r.target ∷ r.offset ∷ r.time ∷ r.pattern ∷ transfer_words l) i 0) z
words_at (r ∷ l) d (suc k) j h =
    let z : suc k * 4 + j ≡ suc (suc (suc (suc (k * 4 + j)))) = omega arith in
    ap (λ (i : ℕ). get_or (r.target ∷ r.offset ∷ r.time ∷ r.pattern ∷ transfer_words l) i 0) z ∙ words_at l d k j (omega arith)

pub area_words : (x : Input) (area : List ℕ) (d : Transfer) (k : ℕ) → k < length (all_transfers x) → transfer_at (area_with x area) k ≡ get_or (all_transfers x) k d
unfolding area_with transfer_words
area_words x area d k h =
    let z : k * 4 ≡ k * 4 + 0 = omega arith in
    let a = ap (λ (i : ℕ). get_or (transfer_words (all_transfers x) ++ drop (length (all_transfers x) * 4) area) i 0) z ∙ word 0 (omega arith) in
    let b = word 1 (omega arith) in
    let e = word 2 (omega arith) in
    let f = word 3 (omega arith) in
    simp (a, b, e, f)
  where
    word : (j : ℕ) → j < 4 → get_or (transfer_words (all_transfers x) ++ drop (length (all_transfers x) * 4) area) (k * 4 + j) 0 ≡ get_or (transfer_words (get_or (all_transfers x) k d ∷ drop (suc k) (all_transfers x))) j 0
    word j u =
        get_or-append (transfer_words (all_transfers x)) (drop (length (all_transfers x) * 4) area) 0 (k * 4 + j) (omega (arith, length_words (all_transfers x)))
        ∙ words_at (all_transfers x) d k j h

-- THE AREA past the last transfer keeps its words, and its length
pub area_kept : (x : Input) (area : List ℕ) (i : ℕ) → length (all_transfers x) * 4 ≤ i → get_or (area_with x area) i 0 ≡ get_or area i 0
unfolding area_with
area_kept x area i h =
    let m = length_words (all_transfers x) in
    let z : i ≡ length (transfer_words (all_transfers x)) + (i - length (all_transfers x) * 4) = omega arith in
    let y : length (all_transfers x) * 4 + (i - length (all_transfers x) * 4) ≡ i = omega arith in
    ap (λ (j : ℕ). get_or (transfer_words (all_transfers x) ++ drop (length (all_transfers x) * 4) area) j 0) z
    ∙ get_or-append-add (transfer_words (all_transfers x)) (drop (length (all_transfers x) * 4) area) (i - length (all_transfers x) * 4) 0
    ∙ get_or-drop (length (all_transfers x) * 4) area (i - length (all_transfers x) * 4) 0
    ∙ ap (λ (j : ℕ). get_or area j 0) y

pub area_length : (x : Input) (area : List ℕ) → length (all_transfers x) * 4 ≤ length area → length (area_with x area) ≡ length area
unfolding area_with
area_length x area h =
    omega (arith, length-append (transfer_words (all_transfers x)) (drop (length (all_transfers x) * 4) area), length_words (all_transfers x), length-drop (length (all_transfers x) * 4) area)

-- AN EVENT'S RUN, read out of the area, is its transfers
read_part : {A : Type 0} (l : List A) (d : A) (f : ℕ → A) (a n : ℕ) → a + n ≤ length l → ((k : ℕ) → k < n → f k ≡ get_or l (a + k) d) → tab f n ≡ take n (drop a l)
read_part l d f a n h e =
    let p = length_tab_from f 0 n in
    let q = length-take n (drop a l) in
    let r = length-drop a l in
    ext_get_or d (tab f n) (take n (drop a l)) (omega arith)
    (λ k u. let v : k < n = omega arith in get_d_tab f n k d v ∙ e k v ∙ sym (get_or-take n (drop a l) k d v ∙ get_or-drop a l k d))

pub run_transfers : (x : Input) (area : List ℕ) (trip off : ℕ) → trip < x.timetable.trips → off < (x.timetable.trip trip).count
    → transfers_at (area_with x area) (run_at (runs_from 0 (events_of x)) (events_before x.timetable trip + off)) ≡ built_transfers x trip off
run_transfers x area trip off h k =
    let e = events_before x.timetable trip + off in
    let b = event_below x trip off h k in
    let d : Transfer = record { target = 0; offset = 0; time = 0; pattern = 0 } in
    let first : run_first (runs_from 0 (events_of x)) e ≡ length (flatten (take e (events_of x))) = run-first 0 (events_of x) e b ∙ omega arith in
    let room = run_inside (events_of x) e b in
    ap₂ (λ (i n : ℕ). tab (λ j. transfer_at (area_with x area) (i + j)) n) first (run_count 0 (events_of x) e b)
    ∙ read_part (all_transfers x) d (λ j. transfer_at (area_with x area) (length (flatten (take e (events_of x))) + j)) (length (flatten (take e (events_of x)))) (length (get_or (events_of x) e [])) room
    (λ j u. area_words x area d (length (flatten (take e (events_of x))) + j) (omega arith))
    ∙ run_rows (events_of x) e b
    ∙ event_number x trip off h k

-- THE OUTCOME. Answered: the questions' facts hold, the transfers are counted, they fit, and they are written.
pub record Answered (x : TransferLent) (s : TransferAreas) (n : ℕ) : Type 0 where
  pub facts : TransfersAdmitted x (length s.transfer_runs)
  pub counted : n ≡ length (all_transfers (input_of x))
  pub room : Room (length (all_transfers (input_of x))) (length s.area)
  pub areas : (transfers_outcome x s).areas ≡ written (input_of x) s

answered_by : (x : TransferLent) (s : TransferAreas) (n v : ℕ) → transfers_verdict x (length s.transfer_runs) ≡ v → (transfers_settle v (input_of x) s).answer ≡ success n → Answered x s n
unfolding transfers_settled
answered_by x s n zero e h = go (room_ok (length (all_transfers (input_of x))) (length s.area)) refl
  where
    picks : Bool → TransfersOutcome
    picks b = cond b (transfers_outcome_of (success (length (all_transfers (input_of x)))) (written (input_of x) s)) (transfers_outcome_of (refusal 7) s)

    go : (b : Bool) → room_ok (length (all_transfers (input_of x))) (length s.area) ≡ b → Answered x s n
    go true q =
        let z : success (length (all_transfers (input_of x))) ≡ success n = sym (ap (λ (b : Bool). (picks b).answer) q) ∙ h in
        let y : length (all_transfers (input_of x)) ≡ n = ap (λ (a : Answer). a.value) z in
        record {
          facts = admitted x (length s.transfer_runs) e;
          counted = sym y;
          room = room_yes (length (all_transfers (input_of x))) (length s.area) q;
          areas = ap (λ (v : ℕ). (transfers_settle v (input_of x) s).areas) e ∙ ap (λ (b : Bool). (picks b).areas) q;
        }
    go false q =
        let z : refusal 7 ≡ success n = sym (ap (λ (b : Bool). (picks b).answer) q) ∙ h in
        let y : ◌≡◌ {A = ℕ} 7 0 = ap (λ (a : Answer). a.code) z in
        absurd (omega arith)
answered_by x s n (suc v) e h = let y : ◌≡◌ {A = ℕ} (suc v) 0 = ap (λ (a : Answer). a.code) h in absurd (omega arith)

-- refused: both slices are as they came
refused_by : (x : Input) (s : TransferAreas) (v : ℕ) → ((transfers_settle v x s).answer.code ≡ 0 → ⊥) → (transfers_settle v x s).areas ≡ s
unfolding transfers_settled
refused_by x s zero h = go (room_ok (length (all_transfers x)) (length s.area)) refl
  where
    picks : Bool → TransfersOutcome
    picks b = cond b (transfers_outcome_of (success (length (all_transfers x))) (written x s)) (transfers_outcome_of (refusal 7) s)

    go : (b : Bool) → room_ok (length (all_transfers x)) (length s.area) ≡ b → (picks (room_ok (length (all_transfers x)) (length s.area))).areas ≡ s
    go true q = absurd (h (ap (λ (b : Bool). (picks b).answer.code) q))
    go false q = ap (λ (b : Bool). (picks b).areas) q
refused_by x s (suc v) h = refl

module _ (x : TransferLent) (s : TransferAreas) (n : ℕ) where
  pub answered : (transfers_outcome x s).answer ≡ success n → Answered x s n
  answered h = answered_by x s n (transfers_verdict x (length s.transfer_runs)) refl h

  pub refused_kept : ((transfers_outcome x s).answer.code ≡ 0 → ⊥) → (transfers_outcome x s).areas ≡ s
  refused_kept h = refused_by (input_of x) s (transfers_verdict x (length s.transfer_runs)) h

  -- AFTER A SUCCESS the run and the area say of every event its transfers
  pub answered_transfers : (transfers_outcome x s).answer ≡ success n → (trip off : ℕ) → trip < x.c.trips → off < count_of x.t x.c trip
      → transfers_at (transfers_outcome x s).areas.area (run_at (transfers_outcome x s).areas.transfer_runs (events_before (timetable x.t x.c) trip + off)) ≡ built_transfers (input_of x) trip off
  answered_transfers h trip off u v =
      ap (λ (a : TransferAreas). transfers_at a.area (run_at a.transfer_runs (events_before (timetable x.t x.c) trip + off))) (answered h).areas
      ∙ run_transfers (input_of x) s.area trip off u v
