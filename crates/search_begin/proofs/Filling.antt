-- A slice filled number by number; the state of a new query; the egress table row by row. Assumes nothing.
use Prim.Native.Nat.{ℕ, suc, ◌+◌, ◌*◌, ◌-◌, ◌≤◌, ◌<◌}
use mathlib.Core.Path.{◌≡◌, refl, sym, ap, ◌∙◌}
use mathlib.Core.Bool.{Bool, true, false}
use mathlib.Core.List.{List, [], ◌∷◌}
use native.Mathlib.Omega.{arith}
use lib.ListN.{length, get_or, set, replicate, length-set, length-replicate, get_or-replicate}
use lib.Seq.{get_or-set_same, get_or-set_other}
use lib.Ieee.{Float, nan}
use borrow.Author.Tests.{eq-eqb, ne_eqb}
use Rattle.loops.specs.Count.{tab_from}
use Rattle.loops.proofs.Count.{tab_ext}
use Rattle.label.specs.declared.Label.TheVariants.{Empty}
use Rattle.label.specs.Label.{no_distance, label_row, row_of}
use Rattle.label.specs.Table.{loaded}
use Rattle.model.specs.Tables.{never, is_egress, egress_walk}
use Rattle.query_types.specs.declared.Lay.{Lay}
use Rattle.search_state.specs.Part.{part}
use Rattle.search_state.specs.Places.{WorkSized, egress_word}
use Rattle.query_types.specs.Layout.{rest_at}
use Rattle.search_state.specs.View.{memory, Written, labels_of, queue_of}
use Rattle.words.specs.Filled.{Filled}
use Rattle.search_begin.specs.Fill.{new_head, Fresh, egress_row_from, egress_of, EgressRows, Egressed}
use Rattle.words.proofs.Filling.{same_or}
use Rattle.search_state.proofs.Part.{tab_one, part_same}
use Rattle.words.proofs.Filling.{zero_at}

-- zeros are empty labels
no_label : (l : List ℕ) (m : List Float) (k : ℕ) → get_or l (8 * k) 0 ≡ 0 → loaded l m k ≡ Empty
unfolding loaded
no_label l m k e = rw e refl

pub no_labels : (l : List ℕ) (m : List Float) (n : ℕ) → l ≡ replicate (n * 8) 0 → labels_of l m n ≡ replicate n Empty
unfolding labels_of
no_labels l m n e =
    tab_ext (loaded l m) (λ k. Empty) n (λ k u. no_label l m k (ap (λ (x : List ℕ). get_or x (8 * k) 0) e ∙ get_or-replicate (n * 8) (8 * k) 0 0 (omega (arith, u))))
    ∙ tab_one Empty 0 n

none_of : (w : List ℕ) (a : ℕ) → part w a 0 ≡ []
unfolding part
none_of w a = refl

-- and each is the row of an empty label
pub no_row : (l : List ℕ) (m : List Float) (n : ℕ) → l ≡ replicate (n * 8) 0 → m ≡ replicate n no_distance → Written n l m
no_row l m n e f =
    record {
      row = λ k h.
          let z : (i : ℕ) → get_or l i 0 ≡ 0 = λ i. ap (λ (x : List ℕ). get_or x i 0) e ∙ zero_at (n * 8) i in
          let y : get_or m k nan ≡ no_distance = ap (λ (x : List Float). get_or x k nan) f ∙ get_or-replicate n k no_distance nan h in
          (λ i. label_row (z (8 * k) i) (z (8 * k + 1) i) (z (8 * k + 2) i) (z (8 * k + 3) i) (z (8 * k + 4) i) (z (8 * k + 5) i) (z (8 * k + 6) i) (z (8 * k + 7) i) (y i))
          ∙ ap row_of (sym (no_label l m k (z (8 * k))));
    }

-- TbrScratch::new
module _ (lay : Lay) (w w1 w2 w3 l : List ℕ) (m : List Float) (ok : WorkSized lay (length w)) (z : w1 ≡ replicate (length w) 0)
    (f : Filled 0 lay.stops never w1 w2) (g : Filled (lay.stops * 2) (lay.stops * 2 + lay.trips) never w2 w3) (e : l ≡ replicate (lay.stops * 104) 0)
    (d : m ≡ replicate (lay.stops * 13) no_distance) where
  zeros : (i : ℕ) → get_or w1 i 0 ≡ 0
  zeros i = ap (λ (x : List ℕ). get_or x i 0) z ∙ zero_at (length w) i

  long : length w3 ≡ length w
  long = g.size ∙ f.size ∙ ap length z ∙ length-replicate (length w) 0

  pub fresh : Fresh lay (memory w3 l m new_head)
  unfolding queue_of tab_from
  fresh =
      record {
        head = refl;
        view = λ T Q s t q.
            let n : lay.stops * 13 * 8 ≡ lay.stops * 104 = omega arith in
            rw (s, t) (λ i. record {
              labels = no_labels l m (lay.stops * 13) (rw n e) i;
              earliest = part_same w3 0 lay.stops never (omega (arith, long, ok.words)) (λ k u. g.below (0 + k) (omega (arith, u)) ∙ f.inside (0 + k) (omega arith) (omega (arith, u))) i;
              best = never;
              stop_stamp = part_same w3 lay.stops lay.stops 0 (omega (arith, long, ok.words))
                  (λ k u. g.below (lay.stops + k) (omega (arith, u)) ∙ f.above (lay.stops + k) (omega arith) ∙ zeros (lay.stops + k)) i;
              reached = none_of w3 lay.list i;
              seg_queue = [];
              seg_reach = part_same w3 (lay.stops * 2) lay.trips never (omega (arith, long, ok.words)) (λ k u. g.inside (lay.stops * 2 + k) (omega arith) (omega (arith, u))) i;
            });
        zero = λ i u. g.above i u ∙ f.above i (omega (arith, u)) ∙ zeros i;
        written = let n : lay.stops * 13 * 8 ≡ lay.stops * 104 = omega arith in no_row l m (lay.stops * 13) (rw n e) d;
      }

-- THE EGRESS TABLE. Cleared, it holds none
pub egress_none : (lay : Lay) (w w' : List ℕ) → Filled (rest_at lay) (rest_at lay + lay.stops) 0 w w' → Egressed [] lay w' w'
unfolding is_egress
egress_none lay w w' f =
    record {
      table = record { at = λ s h. f.inside (rest_at lay + s) (omega arith) (omega (arith, h)) };
      walks = record { small = λ s h. omega (arith, f.inside (rest_at lay + s) (omega arith) (omega (arith, h))) };
      size = refl;
      below = λ i u. refl;
      above = λ i u. refl;
    }

pub egress_from : (lay : Lay) (w w' w'' : List ℕ) (es : List (ℕ × ℕ)) → Filled (rest_at lay) (rest_at lay + lay.stops) 0 w w' → Egressed es lay w' w'' → Egressed es lay w w''
egress_from lay w w' w'' es f p =
    record {
      table = p.table;
      walks = p.walks;
      size = p.size ∙ f.size;
      below = λ i u. p.below i u ∙ f.below i u;
      above = λ i u. p.above i u ∙ f.above i u;
    }

-- the first egress stop, and any other
egress_here : (es : List (ℕ × ℕ)) (s d x : ℕ) → s ≡ x → egress_word (is_egress ((s, d) ∷ es) x) (egress_walk ((s, d) ∷ es) x) ≡ d + 1
unfolding is_egress egress_walk
egress_here es s d x e = ap (λ (b : Bool). egress_word (elim b [ true ↦ true | false ↦ is_egress es x ]) (elim b [ true ↦ d | false ↦ egress_walk es x ])) (eq-eqb s x e)

egress_there : (es : List (ℕ × ℕ)) (s d x : ℕ) → (s ≡ x → ⊥) → egress_word (is_egress ((s, d) ∷ es) x) (egress_walk ((s, d) ∷ es) x) ≡ egress_word (is_egress es x) (egress_walk es x)
unfolding is_egress egress_walk
egress_there es s d x n = ap (λ (b : Bool). egress_word (elim b [ true ↦ true | false ↦ is_egress es x ]) (elim b [ true ↦ d | false ↦ egress_walk es x ])) (ne_eqb s x n)

-- a row put before the others wins
pub egress_more : (lay : Lay) (w w' : List ℕ) (es : List (ℕ × ℕ)) (s d : ℕ) → Egressed es lay w w' → s < lay.stops → d ≤ 1048575 → rest_at lay + lay.stops ≤ length w
    → Egressed ((s, d) ∷ es) lay w (set w' (rest_at lay + s) (d + 1))
egress_more lay w w' es s d p h l r =
    record {
      table = record {
        at = λ x u. same_or s x
            (λ e. rw (← e) here ∙ sym (egress_here es s d x e))
            (λ n. other x n ∙ p.table.at x u ∙ sym (egress_there es s d x n));
      };
      walks = record {
        small = λ x u. same_or s x
            (λ e. rw (← e) (omega (arith, here, l)))
            (λ n. omega (arith, other x n, p.walks.small x u));
      };
      size = length-set w' (rest_at lay + s) (d + 1) ∙ p.size;
      below = λ i u. get_or-set_other w' (rest_at lay + s) i (d + 1) 0 (λ e. omega (arith, e, u)) ∙ p.below i u;
      above = λ i u. get_or-set_other w' (rest_at lay + s) i (d + 1) 0 (λ e. omega (arith, e, u, h)) ∙ p.above i u;
    }
  where
    here : get_or (set w' (rest_at lay + s) (d + 1)) (rest_at lay + s) 0 ≡ d + 1
    here = get_or-set_same w' (rest_at lay + s) (d + 1) 0 (omega (arith, p.size, h, r))

    other : (x : ℕ) → (s ≡ x → ⊥) → get_or (set w' (rest_at lay + s) (d + 1)) (rest_at lay + x) 0 ≡ get_or w' (rest_at lay + x) 0
    other x n = get_or-set_other w' (rest_at lay + s) (rest_at lay + x) (d + 1) 0 (λ e. n (omega (arith, e)))

-- the rows from k on, and one before them
pub rows_end : (q : List ℕ) (first n : ℕ) → tab_from (egress_row_from q first) n (n - n) ≡ []
unfolding tab_from
rows_end q first n = let e : n - n ≡ 0 = omega arith in rw e refl

pub rows_more : (q : List ℕ) (first k n : ℕ) → 0 < k → k ≤ n
    → tab_from (egress_row_from q first) (k - 1) (n - (k - 1)) ≡ egress_row_from q first (k - 1) ∷ tab_from (egress_row_from q first) k (n - k)
unfolding tab_from
rows_more q first k n h l =
    let e : n - (k - 1) ≡ suc (n - k) = omega arith in
    let f : suc (k - 1) ≡ k = omega arith in
    rw (e, tab_from, f) refl

pub all_rows : (q : List ℕ) (first k n : ℕ) → k ≤ 0 → egress_of q first n ≡ tab_from (egress_row_from q first) k (n - k)
unfolding egress_of
all_rows q first k n h =
    let e : k ≡ 0 = omega arith in
    let f : n - 0 ≡ n = omega arith in
    rw (e, f) refl

-- one turn of the loop over the rows
pub egress_again : (lay : Lay) (q : List ℕ) (first k n : ℕ) (w w' w'' : List ℕ) → EgressRows lay q first n → rest_at lay + lay.stops ≤ length w → 0 < k → k ≤ n
    → Egressed (tab_from (egress_row_from q first) k (n - k)) lay w w'
    → w'' ≡ set w' (rest_at lay + get_or q (first + 2 * (k - 1)) 0) (get_or q (first + 2 * (k - 1) + 1) 0 + 1)
    → Egressed (tab_from (egress_row_from q first) (k - 1) (n - (k - 1))) lay w w''
egress_again lay q first k n w w' w'' ok r l h p e =
    let u : k - 1 < n = omega arith in
    rw (rows_more q first k n l h, e)
    (egress_more lay w w' (tab_from (egress_row_from q first) k (n - k)) (get_or q (first + 2 * (k - 1)) 0) (get_or q (first + 2 * (k - 1) + 1) 0) p (ok.stop (k - 1) u) (ok.walk (k - 1) u) r)

pub sized_same : {lay : Lay} {m n : ℕ} → WorkSized lay m → n ≡ m → WorkSized lay n
sized_same ok e = rw e ok
