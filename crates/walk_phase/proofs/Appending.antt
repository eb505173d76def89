-- Stops put behind the list. Assumes nothing.
use Prim.Native.Nat.{ℕ, suc, ◌+◌, ◌*◌, ◌≤◌, ◌<◌}
use mathlib.Core.Path.{◌≡◌, refl, sym, ap, ap₂, ◌∙◌}
use mathlib.Core.Bool.{Bool, true, false, cond}
use mathlib.Core.List.{List, [], ◌∷◌, ◌++◌, append-nil, append_assoc}
use native.Mathlib.Omega.{arith}
use native.Mathlib.Numerals.{add-one}
use lib.ListN.{length, get_or, set, take, drop, length-append, length-drop}
use lib.Seq.{take-suc, get_or-drop}
use lib.Dec.{eqb}
use borrow.Author.Tests.{eq-eqb, ne_eqb}
use Rattle.sorts.specs.Orders.{keep}
use Rattle.event_transfers.proofs.Lists.{keep_append}
use Rattle.model.specs.Tables.{Tables, Query}
use Rattle.model.specs.Search.{stamped}
use Rattle.query_types.specs.declared.Lay.{Lay}
use Rattle.search_state.specs.Part.{part}
use Rattle.search_state.specs.Places.{WorkSized, StopsListed, stamps_of, other_at}
use Rattle.search_state.proofs.Part.{part_at, part_above, part_more, part_length}
use Rattle.search_state.proofs.Marking.{same_refl, same_then, same-list}
use Rattle.walk_phase.specs.Lists.{bearing, Appended}
use Rattle.search_state.proofs.Lists.{same_other, other_kept}

keep_one : (p : ℕ → Bool) (s : ℕ) (b : Bool) → p s ≡ b → keep p (s ∷ []) ≡ cond b (s ∷ []) []
unfolding keep
keep_one p s b e = ap (λ (z : Bool). cond z (s ∷ []) []) e

keep_short : (p : ℕ → Bool) (l : List ℕ) → length (keep p l) ≤ length l
unfolding keep
keep_short p [] = omega arith
keep_short p (x ∷ l) = go (p x) (keep_short p l)
  where
    go : (b : Bool) → length (keep p l) ≤ length l → length (cond b (x ∷ keep p l) (keep p l)) ≤ suc (length l)
    go true h = omega arith
    go false h = omega arith

-- the model's stops that bear a stamp
pub stamped_is : (T : Tables) (Q : Query) (stamp : ℕ) (ss xs : List ℕ) → stamped T Q stamp ss xs ≡ keep (λ s. eqb (get_or ss s 0) stamp) xs
unfolding stamped keep
stamped_is T Q stamp ss [] = refl
stamped_is T Q stamp ss (x ∷ xs) = go (eqb (get_or ss x 0) stamp) (stamped_is T Q stamp ss xs)
  where
    go : (b : Bool) → stamped T Q stamp ss xs ≡ keep (λ s. eqb (get_or ss s 0) stamp) xs
        → elim b [ true ↦ x ∷ stamped T Q stamp ss xs | false ↦ stamped T Q stamp ss xs ] ≡ cond b (x ∷ keep (λ s. eqb (get_or ss s 0) stamp) xs) (keep (λ s. eqb (get_or ss s 0) stamp) xs)
    go true e = ap (λ (l : List ℕ). x ∷ l) e
    go false e = e

module _ (lay : Lay) (w : List ℕ) (ok : WorkSized lay (length w)) (stamp s count : ℕ) (h : s < lay.stops) where
  -- it does not bear the stamp
  pub append_none : (get_or w (lay.stops + s) 0 ≡ stamp → ⊥) → Appended lay w w count count (bearing lay stamp w (s ∷ []))
  append_none e =
      let k : bearing lay stamp w (s ∷ []) ≡ [] =
      keep_one (λ z. eqb (get_or (stamps_of lay w) z 0) stamp) s false (ne_eqb _ _ (λ y. e (sym (part_at w lay.stops lay.stops s h) ∙ y))) in
      rw k (record {
        earliest = refl;
        stamps = refl;
        reached = sym (append-nil (part w lay.list count));
        counted = omega arith;
        seg_reach = refl;
        same = same_refl lay w;
      })

  -- it does
  pub append_more : get_or w (lay.stops + s) 0 ≡ stamp → count < lay.stops + 64 → Appended lay w (set w (lay.list + count) s) count (count + 1) (bearing lay stamp w (s ∷ []))
  append_more e room =
      let k : bearing lay stamp w (s ∷ []) ≡ s ∷ [] =
      keep_one (λ z. eqb (get_or (stamps_of lay w) z 0) stamp) s true (eq-eqb _ _ (part_at w lay.stops lay.stops s h ∙ e)) in
      rw k (record {
        earliest = part_above w 0 lay.stops (lay.list + count) s (omega (arith, ok.first));
        stamps = part_above w lay.stops lay.stops (lay.list + count) s (omega (arith, ok.first));
        reached = part_more w lay.list count s (omega (arith, ok.words, ok.fits, room));
        counted = omega arith;
        seg_reach = part_above w (lay.stops * 2) lay.trips (lay.list + count) s (omega (arith, ok.first));
        same = same-list lay w ok count s room;
      })

-- none yet
pub append_start : (lay : Lay) (w : List ℕ) (stamp count : ℕ) → Appended lay w w count count (bearing lay stamp w (part w lay.other 0))
unfolding part keep
append_start lay w stamp count =
    record {
      earliest = refl;
      stamps = refl;
      reached = sym (append-nil (part w lay.list count));
      counted = omega arith;
      seg_reach = refl;
      same = same_refl lay w;
    }

part_next : (w : List ℕ) (a n : ℕ) → a + n < length w → part w a (n + 1) ≡ part w a n ++ (get_or w (a + n) 0 ∷ [])
unfolding part
part_next w a n h = rw (add-one n) (take-suc (drop a w) n 0 (simp length-drop (omega arith)) ∙ ap (λ (z : ℕ). take n (drop a w) ++ (z ∷ [])) (get_or-drop a w n 0))

-- one stop of the other list more
pub append_turn : {lay : Lay} {w₀ w w' : List ℕ} {n latest : ℕ} (stamp count k k' i s : ℕ) → WorkSized lay (length w₀) → StopsListed lay w₀ n latest
    → Appended lay w₀ w count k (bearing lay stamp w₀ (part w₀ lay.other i)) → Appended lay w w' k k' (bearing lay stamp w (s ∷ [])) → s ≡ other_at lay w i → i < n
    → Appended lay w₀ w' count k' (bearing lay stamp w₀ (part w₀ lay.other (i + 1)))
append_turn {lay} {w₀} {w} {w'} {n} stamp count k k' i s ok p x y e h =
    let z : s ≡ other_at lay w₀ i = e ∙ other_kept i (same_other x.same) (omega (arith, p.few)) in
    let more : bearing lay stamp w₀ (part w₀ lay.other i) ++ bearing lay stamp w (s ∷ []) ≡ bearing lay stamp w₀ (part w₀ lay.other (i + 1)) =
    ap₂ (λ (ss : List ℕ) (a : ℕ). bearing lay stamp w₀ (part w₀ lay.other i) ++ keep (λ q. eqb (get_or ss q 0) stamp) (a ∷ [])) x.stamps z
    ∙ sym (keep_append (λ q. eqb (get_or (stamps_of lay w₀) q 0) stamp) (part w₀ lay.other i) (other_at lay w₀ i ∷ []))
    ∙ ap (bearing lay stamp w₀) (sym (part_next w₀ lay.other i (omega (arith, p.few, ok.other_fits, ok.words)))) in
    let all : Appended lay w₀ w' count k' (bearing lay stamp w₀ (part w₀ lay.other i) ++ bearing lay stamp w (s ∷ [])) = record {
      earliest = y.earliest ∙ x.earliest;
      stamps = y.stamps ∙ x.stamps;
      reached = y.reached ∙ ap (λ (l : List ℕ). l ++ bearing lay stamp w (s ∷ [])) x.reached ∙ append_assoc (part w₀ lay.list count) (bearing lay stamp w₀ (part w₀ lay.other i)) (bearing lay stamp w (s ∷ []));
      counted = y.counted ∙ simp length-append (omega (arith, x.counted));
      seg_reach = y.seg_reach ∙ x.seg_reach;
      same = same_then x.same y.same;
    } in
    rw more at all

-- no more than were looked at
pub append_most : {lay : Lay} {w₀ w : List ℕ} (stamp count k i : ℕ) → WorkSized lay (length w₀) → Appended lay w₀ w count k (bearing lay stamp w₀ (part w₀ lay.other i))
    → i ≤ lay.stops + 64 → k ≤ count + i
append_most {lay} {w₀} stamp count k i ok x h =
    omega (
      arith,
      x.counted,
      keep_short (λ q. eqb (get_or (stamps_of lay w₀) q 0) stamp) (part w₀ lay.other i),
      part_length w₀ lay.other i (omega (arith, h, ok.other_fits, ok.words)),
    )

-- the next stop is one of the table's, and the working numbers are as many as before
pub append_stop : {lay : Lay} {w₀ w : List ℕ} {n latest count k : ℕ} {more : List ℕ} (i : ℕ) → StopsListed lay w₀ n latest → Appended lay w₀ w count k more → i < n → other_at lay w i < lay.stops
append_stop i p x h = rw (other_kept i (same_other x.same) (omega (arith, p.few))) (p.inside i h)

pub append_sized : {lay : Lay} {w₀ w : List ℕ} {count k : ℕ} {more : List ℕ} → WorkSized lay (length w₀) → Appended lay w₀ w count k more → WorkSized lay (length w)
append_sized ok x = rw x.same.size ok
