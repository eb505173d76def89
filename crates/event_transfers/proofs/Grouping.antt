-- The departures of a stop, sorted by line and departure: one line after the other.
use Prim.Native.Nat.{ℕ, zero, suc, ◌+◌, ◌*◌, ◌-◌, ◌<◌, ◌≤◌, min}
use mathlib.Core.Path.{◌≡◌, refl, sym, ◌∙◌, ap, ap₂}
use mathlib.Core.Bool.{Bool, true, false, not, cond}
use mathlib.Core.List.{List, [], ◌∷◌, ◌++◌, append-nil, flatten}
use mathlib.Core.Logic.{⊎_elim}
use native.Mathlib.Nat.{eq-or-lt_of_le}
use native.Mathlib.Omega.{arith}
use lib.ListN.{length, get_or, take, drop, length-append, length-take, length-drop, take-append-drop, drop_of_length-le}
use lib.Seq.{get_or-take, get_or-drop, drop-drop}
use lib.Dec.{leb, eqb}
use borrow.Author.Tests.{leb-true, leb-false, le-leb, lt-leb, eq-eqb, ne_eqb}
use Rattle.loops.specs.Count.{one, tab}
use Rattle.loops.specs.Order.{Halved}
use Rattle.loops.proofs.Search.{split}
use Rattle.sorts.specs.Sort.{hi}
use Rattle.sorts.specs.Orders.{keep}
use Rattle.departures.specs.Packed.{un_trip}
use Rattle.event_transfers.specs.Packed.{Group, Keys, AreaSoFar, LineEnd, LineEnds, Stretch, dep_x, lay, lay_row, line_x, targets, to_group}
use Rattle.event_transfers.proofs.Laying.{lay_append}
use Rattle.event_transfers.proofs.Lists.{first_kept, flatten_none, flatten_one, keep_append, keep_no, keep_none, keep_yes, length_keep}

-- parts of sorted numbers are sorted
pub keys_drop : (v : List ℕ) (k : ℕ) → Keys v → Keys (drop k v)
keys_drop v k h =
    record {
      rising = record { rising = λ i j l u. rw (get_or-drop k v i 0, get_or-drop k v j 0) (h.rising.rising (k + i) (k + j) (omega arith) (omega (arith, length-drop k v))) };
      fits = λ i u. rw (get_or-drop k v i 0) (h.fits (k + i) (omega (arith, length-drop k v)));
    }

pub keys_take : (v : List ℕ) (k : ℕ) → Keys v → Keys (take k v)
keys_take v k h =
    record {
      rising = record { rising = λ i j l u. let n = length-take k v in rw (get_or-take k v i 0 (omega arith), get_or-take k v j 0 (omega arith)) (h.rising.rising i j l (omega arith)) };
      fits = λ i u. let n = length-take k v in rw (get_or-take k v i 0 (omega arith)) (h.fits i (omega arith));
    }

-- line and departure of a number
pub line_hi : (x : ℕ) → hi x ≡ line_x x * 1048576 + dep_x x
unfolding hi line_x dep_x
line_hi x = omega arith

dep_below : (x : ℕ) → dep_x x < 1048576
unfolding dep_x
dep_below x = omega arith

-- within a line the search's test is that of the departure
pub same_test : (line w x : ℕ) → line_x x ≡ line → leb (line * 1048576 + w) (hi x) ≡ leb w (dep_x x)
same_test line w x e = go (leb w (dep_x x)) refl
  where
    go : (t : Bool) → leb w (dep_x x) ≡ t → leb (line * 1048576 + w) (hi x) ≡ t
    go true h = le-leb (line * 1048576 + w) (hi x) (omega (arith, leb-true w (dep_x x) h, line_hi x))
    go false h = lt-leb (line * 1048576 + w) (hi x) (omega (arith, leb-false w (dep_x x) h, line_hi x))

line_le : (a b : ℕ) → hi a ≤ hi b → line_x a ≤ line_x b
line_le a b h = omega (arith, line_hi a, line_hi b, dep_below a, dep_below b)

-- how many are of a number's line: of the last number, before another line, one more than of the next
here : (v : List ℕ) (i j : ℕ) → j < 1 → line_x (get_or v (i + j) 0) ≡ line_x (get_or v i 0)
here v i j h = let z : i + j ≡ i = omega arith in ap (λ (k : ℕ). line_x (get_or v k 0)) z

pub stretch_last : (v : List ℕ) (i : ℕ) → length v ≤ i + 1 → Stretch v i 1
stretch_last v i h = record { some = omega arith; same = λ j u l. here v i j u; next = λ l e. omega arith }

pub stretch_one : (v : List ℕ) (i : ℕ) → (line_x (get_or v i 0) ≡ line_x (get_or v (i + 1) 0) → ⊥) → Stretch v i 1
stretch_one v i h = record { some = omega arith; same = λ j u l. here v i j u; next = λ l e. h (sym e) }

pub stretch_more : (v : List ℕ) (i left : ℕ) → line_x (get_or v i 0) ≡ line_x (get_or v (i + 1) 0) → Stretch v (i + 1) left → Stretch v i (left + 1)
stretch_more v i left e s = record { some = omega arith; same = same; next = next }
  where
    same : (j : ℕ) → j < left + 1 → i + j < length v → line_x (get_or v (i + j) 0) ≡ line_x (get_or v i 0)
    same zero u l = here v i 0 (omega arith)
    same (suc j) u l =
        let z : i + suc j ≡ i + 1 + j = omega arith in
        ap (λ (k : ℕ). line_x (get_or v k 0)) z ∙ s.same j (omega arith) (omega arith) ∙ sym e

    next : i + (left + 1) < length v → line_x (get_or v (i + (left + 1)) 0) ≡ line_x (get_or v i 0) → ⊥
    next l q =
        let z : i + 1 + left ≡ i + (left + 1) = omega arith in
        s.next (omega arith) (ap (λ (k : ℕ). line_x (get_or v k 0)) z ∙ q ∙ e)

-- how many, beside each number of a part
pub lines_part : (v ends : List ℕ) (a n : ℕ) → LineEnds v ends → a + n ≤ length v → LineEnds (take n (drop a v)) (take n (drop a ends))
lines_part v ends a n h u = record { size = omega (arith, size v, size ends, h.size); at = part }
  where
    size : (l : List ℕ) → length (take n (drop a l)) ≡ min n (length l - a)
    size l = length-take n (drop a l) ∙ ap (min n) (length-drop a l)

    at : (l : List ℕ) (i : ℕ) → i < n → get_or (take n (drop a l)) i 0 ≡ get_or l (a + i) 0
    at l i k = get_or-take n (drop a l) i 0 k ∙ get_or-drop a l i 0

    moved : (i e : ℕ) → i < length (take n (drop a v)) → Stretch v (a + i) e → Stretch (take n (drop a v)) i e
    moved i e k s =
        record {
          some = s.some;
          same = λ j p q.
              let z : a + (i + j) ≡ a + i + j = omega arith in
              ap line_x (at v (i + j) (omega (arith, size v))) ∙ ap (λ (m : ℕ). line_x (get_or v m 0)) z ∙ s.same j p (omega (arith, size v)) ∙ ap line_x (sym (at v i (omega (arith, size v))));
          next = λ p q.
              let z : a + i + e ≡ a + (i + e) = omega arith in
              s.next (omega (arith, size v)) (ap (λ (m : ℕ). line_x (get_or v m 0)) z ∙ ap line_x (sym (at v (i + e) (omega (arith, size v)))) ∙ q ∙ ap line_x (at v i (omega (arith, size v))));
        }

    part : (i : ℕ) → i < length (take n (drop a v)) → Stretch (take n (drop a v)) i (get_or (take n (drop a ends)) i 0)
    part i k = rw (at ends i (omega (arith, size v))) (moved i (get_or ends (a + i) 0) k (h.at (a + i) (omega (arith, size v))))

-- WHERE A LINE ENDS in a stop's run: with the run, or where the number beside it says
module _ (run : List ℕ) (k e : ℕ) (h : Keys run) (s : Stretch run k e) (u : k < length run) where
  same_from : (r : ℕ) → r ≤ e → k + r ≤ length run → (i : ℕ) → i < r → line_x (get_or (drop k run) i 0) ≡ line_x (get_or (drop k run) 0 0)
  same_from r l v i p =
      let z : k ≡ k + 0 = omega arith in
      ap line_x (get_or-drop k run i 0) ∙ s.same i (omega arith) (omega arith) ∙ ap (λ (m : ℕ). line_x (get_or run m 0)) z ∙ ap line_x (sym (get_or-drop k run 0 0))

  ends_run : length run - k ≤ e → LineEnd (drop k run) (length run - k)
  ends_run l =
      record {
        some = omega arith;
        inside = omega (arith, length-drop k run);
        same = same_from (length run - k) l (omega arith);
        later = λ i p q. absurd (omega (arith, length-drop k run));
      }

  ends_before : e < length run - k → LineEnd (drop k run) e
  ends_before l =
      record {
        some = s.some;
        inside = omega (arith, length-drop k run);
        same = same_from e (omega arith) (omega arith);
        later = λ i p q. omega (arith, ap line_x (get_or-drop k run i 0), first, beyond i p (omega (arith, length-drop k run)), past);
      }
    where
      first : line_x (get_or (drop k run) 0 0) ≡ line_x (get_or run k 0)
      first = let z : k + 0 ≡ k = omega arith in ap line_x (get_or-drop k run 0 0) ∙ ap (λ (m : ℕ). line_x (get_or run m 0)) z

      beyond : (i : ℕ) → e ≤ i → k + i < length run → line_x (get_or run (k + e) 0) ≤ line_x (get_or run (k + i) 0)
      beyond i p q = line_le (get_or run (k + e) 0) (get_or run (k + i) 0) (h.rising.rising (k + e) (k + i) (omega arith) q)

      past : line_x (get_or run k 0) < line_x (get_or run (k + e) 0)
      past =
          ⊎_elim (λ (q : line_x (get_or run k 0) ≡ line_x (get_or run (k + e) 0)). absurd (s.next (omega arith) (sym q))) (λ (q : line_x (get_or run k 0) < line_x (get_or run (k + e) 0)). q)
          (eq-or-lt_of_le (line_le (get_or run k 0) (get_or run (k + e) 0) (h.rising.rising k (k + e) (omega arith) (omega arith))))

  pub ends_min : (r : ℕ) → r ≡ min e (length run - k) → LineEnd (drop k run) r
  ends_min r q =
      ⊎_elim
      (λ (l : e < length run - k). let z : r ≡ e = omega arith in rw z (ends_before l))
      (λ (l : length run - k ≤ e). let z : r ≡ length run - k = omega arith in rw z (ends_run l))
      (split e (length run - k))

-- one line's departures
pub group_none : (g : List ℕ) (ti w line p : ℕ) → line ≡ line_x (get_or g 0 0) → Group g → Halved (λ i. leb (line * 1048576 + w) (hi (get_or g i 0))) (length g) p p → length g ≤ p → to_group g ti w ≡ []
unfolding to_group
group_none g ti w line p e k h u =
    ap (λ (m : List ℕ). keep (λ x. not (eqb (un_trip x) ti)) (take 1 m))
    (keep_no (λ x. leb w (dep_x x)) 0 g (λ i v. sym (same_test line w (get_or g i 0) (k.same i v ∙ sym e)) ∙ h.below i (omega arith)))
    ∙ keep_none (λ x. not (eqb (un_trip x) ti))

pub group_first : (g : List ℕ) (ti w line p : ℕ) → line ≡ line_x (get_or g 0 0) → Group g → Halved (λ i. leb (line * 1048576 + w) (hi (get_or g i 0))) (length g) p p → p < length g
    → to_group g ti w ≡ keep (λ x. not (eqb (un_trip x) ti)) (get_or g p 0 ∷ [])
unfolding to_group
group_first g ti w line p e k h u =
    ap (keep (λ x. not (eqb (un_trip x) ti)))
    (first_kept (λ x. leb w (dep_x x)) 0 g p u
    (λ i v. sym (same_test line w (get_or g i 0) (k.same i (omega arith) ∙ sym e)) ∙ h.below i v)
    (sym (same_test line w (get_or g p 0) (k.same p u ∙ sym e)) ∙ h.above p (omega arith) u))

group_nil : (ti w : ℕ) → to_group [] ti w ≡ []
unfolding to_group
group_nil ti w = ap (λ (m : List ℕ). keep (λ x. not (eqb (un_trip x) ti)) (take 1 m)) (keep_none (λ x. leb w (dep_x x))) ∙ keep_none (λ x. not (eqb (un_trip x) ti))

pub targets_nil : (ti w : ℕ) → targets [] ti w ≡ []
unfolding targets
targets_nil ti w = flatten_none (λ l. to_group (keep (λ x. eqb (line_x x) l) []) ti w) 0 4096 (λ l u. ap (λ (m : List ℕ). to_group m ti w) (keep_none (λ x. eqb (line_x x) l)) ∙ group_nil ti w)

-- THE LINES of a stop: the first one's transfer, then those to the others
pub targets_turn : (v : List ℕ) (ti w r : ℕ) → Keys v → LineEnd v r → targets v ti w ≡ to_group (take r v) ti w ++ targets (drop r v) ti w
unfolding targets
targets_turn v ti w r k h =
    flatten_one (pick v) (pick (drop r v)) line 0 4096 (omega arith) (omega (arith, k.fits 0 (omega (arith, h.some, h.inside)))) before none after
    ∙ ap (λ (m : List ℕ). to_group m ti w ++ flatten (tab (pick (drop r v)) 4096)) own
  where
    line : ℕ
    line = line_x (get_or v 0 0)

    is : ℕ → ℕ → Bool
    is l x = eqb (line_x x) l

    pick : List ℕ → ℕ → List ℕ
    pick m l = to_group (keep (is l) m) ti w

    halves : (l : ℕ) → keep (is l) v ≡ keep (is l) (take r v) ++ keep (is l) (drop r v)
    halves l = ap (keep (is l)) (sym (take-append-drop r v)) ∙ keep_append (is l) (take r v) (drop r v)

    front_no : (l : ℕ) → (line ≡ l → ⊥) → keep (is l) (take r v) ≡ []
    front_no l ne =
        keep_no (is l) 0 (take r v) (λ i u. let n = length-take r v in ne_eqb _ l (λ e. ne (sym (h.same i (omega arith)) ∙ ap line_x (sym (get_or-take r v i 0 (omega arith))) ∙ e)))

    back_no : (l : ℕ) → l ≤ line → keep (is l) (drop r v) ≡ []
    back_no l u =
        keep_no (is l) 0 (drop r v) (λ i x. let n = length-drop r v in
        ne_eqb _ l (λ e. omega (arith, h.later (r + i) (omega arith) (omega arith), ap line_x (get_or-drop r v i 0), e)))

    own : keep (is line) v ≡ take r v
    own =
        halves line
        ∙ ap₂ ◌++◌ (keep_yes (is line) 0 (take r v) (λ i u. let n = length-take r v in eq-eqb _ line (ap line_x (get_or-take r v i 0 (omega arith)) ∙ h.same i (omega arith)))) (back_no line (omega arith))
        ∙ append-nil (take r v)

    before : (l : ℕ) → l < line → pick v l ≡ []
    before l u =
        ap (λ (m : List ℕ). to_group m ti w) (halves l ∙ ap₂ ◌++◌ (front_no l (λ e. omega arith)) (back_no l (omega arith)))
        ∙ group_nil ti w

    none : (l : ℕ) → l ≤ line → pick (drop r v) l ≡ []
    none l u = ap (λ (m : List ℕ). to_group m ti w) (back_no l u) ∙ group_nil ti w

    after : (l : ℕ) → line < l → pick v l ≡ pick (drop r v) l
    after l u = ap (λ (m : List ℕ). to_group m ti w) (halves l ∙ ap (λ (m : List ℕ). m ++ keep (is l) (drop r v)) (front_no l (λ e. omega arith)))

-- the three ways out of the transfer to one line
module _ (time ti w : ℕ) (g : List ℕ) (line p : ℕ) (s : AreaSoFar) (e : line ≡ line_x (get_or g 0 0)) (k : Group g) (h : Halved (λ i. leb (line * 1048576 + w) (hi (get_or g i 0))) (length g) p p) where
  pub line_none : length g ≤ p → s ≡ lay time (to_group g ti w) s
  unfolding lay
  line_none u = sym (ap (λ (l : List ℕ). lay time l s) (group_none g ti w line p e k h u))

  pub line_same : p < length g → un_trip (get_or g p 0) ≡ ti → s ≡ lay time (to_group g ti w) s
  unfolding lay keep
  line_same u q =
      sym (ap (λ (l : List ℕ). lay time l s) (group_first g ti w line p e k h u
      ∙ ap (λ (t : Bool). cond (not t) (get_or g p 0 ∷ []) []) (eq-eqb (un_trip (get_or g p 0)) ti q)))

  pub line_row : p < length g → (un_trip (get_or g p 0) ≡ ti → ⊥) → lay_row time (get_or g p 0) s ≡ lay time (to_group g ti w) s
  unfolding lay keep
  line_row u q =
      sym (ap (λ (l : List ℕ). lay time l s) (group_first g ti w line p e k h u
      ∙ ap (λ (t : Bool). cond (not t) (get_or g p 0 ∷ []) []) (ne_eqb (un_trip (get_or g p 0)) ti q)))

-- A turn over the lines: the next line, what is left; and the end.
module _ (run : List ℕ) (k r : ℕ) (h : Keys run) (e : LineEnd (drop k run) r) where
  pub line_inside : k < length run → k + r ≤ length run
  line_inside u = omega (arith, e.inside, length-drop k run)

  pub line_group : Group (take (k + r - k) (drop k run))
  line_group = rw back (record { some = omega (arith, e.some, e.inside, size); keys = keys_take (drop k run) r (keys_drop run k h); same = same })
    where
      back : k + r - k ≡ r
      back = omega arith

      size : length (take r (drop k run)) ≡ min r (length (drop k run))
      size = length-take r (drop k run)

      same : (i : ℕ) → i < length (take r (drop k run)) → line_x (get_or (take r (drop k run)) i 0) ≡ line_x (get_or (take r (drop k run)) 0 0)
      same i v =
          ap line_x (get_or-take r (drop k run) i 0 (omega (arith, size)))
          ∙ e.same i (omega (arith, size))
          ∙ ap line_x (sym (get_or-take r (drop k run) 0 0 e.some))

  pub lines_again : (time ti w : ℕ) {whole : AreaSoFar} (s : AreaSoFar) {s' : AreaSoFar} → whole ≡ lay time (targets (drop k run) ti w) s
      → s' ≡ lay time (to_group (take (k + r - k) (drop k run)) ti w) s → whole ≡ lay time (targets (drop (k + r) run) ti w) s'
  lines_again time ti w {whole} s {s'} inv q =
      inv
      ∙ ap (λ (l : List ℕ). lay time l s) (targets_turn (drop k run) ti w r (keys_drop run k h) e)
      ∙ lay_append time (to_group (take r (drop k run)) ti w) (targets (drop r (drop k run)) ti w) s
      ∙ ap₂ (λ (v : List ℕ) (x : AreaSoFar). lay time (targets v ti w) x) (drop-drop r k run)
      (ap (λ (m : ℕ). lay time (to_group (take m (drop k run)) ti w) s) back ∙ sym q)
    where
      back : r ≡ k + r - k
      back = omega arith

pub lines_left : (time ti w k : ℕ) (run : List ℕ) {whole s : AreaSoFar} → whole ≡ lay time (targets (drop k run) ti w) s → length run ≤ k → s ≡ whole
unfolding lay
lines_left time ti w k run {whole} {s} inv h =
    sym (inv ∙ ap (λ (l : List ℕ). lay time l s) (ap (λ (v : List ℕ). targets v ti w) (drop_of_length-le run h) ∙ targets_nil ti w))

-- HOW MANY AT MOST: to one line at most one, and none where its last departure is before w
late : (g : List ℕ) (w : ℕ) → Group g → dep_x (get_or g (length g - 1) 0) < w → (i : ℕ) → i < length g → leb w (dep_x (get_or g i 0)) ≡ false
late g w k h i u =
    lt-leb w (dep_x (get_or g i 0))
    (omega (arith, h, k.keys.rising.rising i (length g - 1) (omega arith) (omega arith), line_hi (get_or g i 0), line_hi (get_or g (length g - 1) 0), k.same i u, k.same (length g - 1) (omega arith)))

group_most : (g : List ℕ) (ti w : ℕ) → Group g → length (to_group g ti w) ≤ one (leb w (dep_x (get_or g (length g - 1) 0)))
unfolding to_group
group_most g ti w k = go (leb w (dep_x (get_or g (length g - 1) 0))) refl
  where
    go : (b : Bool) → leb w (dep_x (get_or g (length g - 1) 0)) ≡ b → length (keep (λ x. not (eqb (un_trip x) ti)) (take 1 (keep (λ x. leb w (dep_x x)) g))) ≤ one b
    go true e = omega (arith, length_keep (λ x. not (eqb (un_trip x) ti)) (take 1 (keep (λ x. leb w (dep_x x)) g)), length-take 1 (keep (λ x. leb w (dep_x x)) g))
    go false e =
        let z = keep_no (λ x. leb w (dep_x x)) 0 g (late g w k (leb-false w (dep_x (get_or g (length g - 1) 0)) e)) in
        rw (z, keep_none (λ x. not (eqb (un_trip x) ti))) (omega arith)

pub after_again : (run : List ℕ) (w n k r x : ℕ) → Keys run → LineEnd (drop k run) r → x ≡ one (leb w (dep_x (get_or run (k + r - 1) 0)))
    → ((ti : ℕ) → length (targets run ti w) ≤ n + length (targets (drop k run) ti w)) → (ti : ℕ) → length (targets run ti w) ≤ n + x + length (targets (drop (k + r) run) ti w)
after_again run w n k r x h e q inv ti =
    omega (arith, inv ti, q, last, group_most (take r (drop k run)) ti w group, ap length (targets_turn (drop k run) ti w r (keys_drop run k h) e), length-append (to_group (take r (drop k run)) ti w) (targets (drop r (drop k run)) ti w), ap (λ (v : List ℕ). length (targets v ti w)) (drop-drop r k run))
  where
    back : k + r - k ≡ r
    back = omega arith

    size : length (take r (drop k run)) ≡ r
    size = omega (arith, length-take r (drop k run), e.inside)

    group : Group (take r (drop k run))
    group = rw back at (line_group run k r h e)

    last : one (leb w (dep_x (get_or (take r (drop k run)) (length (take r (drop k run)) - 1) 0))) ≡ one (leb w (dep_x (get_or run (k + r - 1) 0)))
    last =
        let z : k + (r - 1) ≡ k + r - 1 = omega (arith, e.some) in
        ap (λ (m : ℕ). one (leb w (dep_x (get_or (take r (drop k run)) (m - 1) 0)))) size
        ∙ ap (λ (m : ℕ). one (leb w (dep_x m))) (get_or-take r (drop k run) (r - 1) 0 (omega (arith, e.some)) ∙ get_or-drop k run (r - 1) 0)
        ∙ ap (λ (m : ℕ). one (leb w (dep_x (get_or run m 0)))) z

pub after_left : (run : List ℕ) (w n k : ℕ) → ((ti : ℕ) → length (targets run ti w) ≤ n + length (targets (drop k run) ti w)) → length run ≤ k → (ti : ℕ) → length (targets run ti w) ≤ n
after_left run w n k inv h ti =
    omega (arith, inv ti, ap length (ap (λ (v : List ℕ). targets v ti w) (drop_of_length-le run h) ∙ targets_nil ti w))
