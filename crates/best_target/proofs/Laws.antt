-- The least totals over egress rows, one by one.
use Prim.Native.Nat.{ℕ, zero, suc, ◌+◌, ◌*◌, ◌-◌, ◌/◌, ◌<◌, ◌≤◌}
use mathlib.Core.Path.{◌≡◌, refl, ap, ap₂, sym, ◌∙◌}
use mathlib.Core.Bool.{Bool, true, false, cond, ◌&&◌}
use mathlib.Core.List.{List, [], ◌∷◌, ◌++◌, append-nil, append_assoc}
use native.Mathlib.Omega.{arith}
use native.Mathlib.Numerals.{add-one}
use native.Mathlib.Nat.{add-zero, zero-add}
use Rattle.loops.proofs.Count.{tab_ext}
use lib.ListN.{length, get_or, set, replicate, length-set}
use lib.Seq.{get_or-set_same, get_or-set_other}
use lib.Dec.{ltb, leb, eqb}
use borrow.Author.Tests.{lt-ltb, le-ltb, eq-eqb, ne_eqb}
use Rattle.loops.specs.Count.{tab_from}
use Rattle.model.specs.Tables.{never, Tables, Query}
use Rattle.model.specs.Search.{Arrivals, at, reached_by, best_target, row_target, candidates_from}
use Rattle.label.specs.declared.Label.TheVariants.{Empty}
use Rattle.label.specs.Table.{record_of}
use Rattle.best_target.specs.declared.Target.{Target}
use Rattle.best_target.specs.Totals.{target_of, better, with_stop, with_reach, candidate_at, candidates_in, ZeroFrom, CandidatePut}
use Rattle.arc_flags.specs.Flags.{egress_row_at, egress_rows}
use Rattle.words.proofs.Filling.{zero_at}

pub better_less : (b : ℕ × ℕ) (total stop : ℕ) → total < b.0 → (total, stop) ≡ better b total stop
better_less b total stop h = sym (ap (λ (x : Bool). cond x (total, stop) b) (lt-ltb total b.0 h))

pub better_not : (b : ℕ × ℕ) (total stop : ℕ) → b.0 ≤ total → b ≡ better b total stop
better_not b total stop h = sym (ap (λ (x : Bool). cond x (total, stop) b) (le-ltb total b.0 h))

pub stop_never : (b : ℕ × ℕ) (v stop walk : ℕ) → v ≡ never → b ≡ with_stop b v stop walk
stop_never b v stop walk h = sym (ap (λ (x : Bool). cond x b (better b (v + walk) stop)) (eq-eqb v never h))

pub stop_reached : (b r : ℕ × ℕ) (v stop walk : ℕ) → (v ≡ never → ⊥) → r ≡ better b (v + walk) stop → r ≡ with_stop b v stop walk
stop_reached b r v stop walk h e = e ∙ sym (ap (λ (x : Bool). cond x b (better b (v + walk) stop)) (ne_eqb v never h))

module _ (T : Tables) (Q : Query) (a : Arrivals) (egress : List ℕ) (n : ℕ) where
  best_turn : (e : ℕ × ℕ) (es : List (ℕ × ℕ)) (b : ℕ × ℕ) → best_target T Q a (e ∷ es) b ≡ best_target T Q a es (with_stop b (at a e.0) e.0 e.1)
  unfolding best_target
  best_turn e es b = go (eqb (at a e.0) never) (ltb (at a e.0 + e.1) b.0)
    where
      go : (x y : Bool) → elim x [ true ↦ best_target T Q a es b | false ↦ elim y [ true ↦ best_target T Q a es (at a e.0 + e.1, e.0) | false ↦ best_target T Q a es b ] ]
          ≡ best_target T Q a es (cond x b (cond y (at a e.0 + e.1, e.0) b))
      go true y = refl
      go false true = refl
      go false false = refl

  abbrev pub best_ahead : ℕ → ℕ × ℕ → ℕ × ℕ
  best_ahead i b = best_target T Q a (tab_from (egress_row_at egress) i (n - i)) b

  pub best_first : (b : ℕ × ℕ) → n ≡ length egress / 2 → best_target T Q a (egress_rows egress) b ≡ best_ahead 0 b
  best_first b e = ap (λ (m : ℕ). best_target T Q a (tab_from (egress_row_at egress) 0 m) b) (omega arith)

  pub best_step : (i v : ℕ) (b b' : ℕ × ℕ) → i < n → v ≡ at a (get_or egress (i * 2) 0) → b' ≡ with_stop b v (get_or egress (i * 2) 0) (get_or egress (i * 2 + 1) 0) → best_ahead i b ≡ best_ahead (i + 1) b'
  unfolding tab_from
  best_step i v b b' h ev eb =
      let e : n - i ≡ suc (n - (i + 1)) = omega arith in
      ap (λ (m : ℕ). best_target T Q a (tab_from (egress_row_at egress) i m) b) e ∙ best_turn (egress_row_at egress i) (tab_from (egress_row_at egress) (suc i) (n - (i + 1))) b
      ∙ ap₂ (λ (j : ℕ) (x : ℕ × ℕ). best_target T Q a (tab_from (egress_row_at egress) j (n - (i + 1))) x) (sym (add-one i))
      (sym (eb ∙ ap (λ (x : ℕ). with_stop b x (get_or egress (i * 2) 0) (get_or egress (i * 2 + 1) 0)) ev))

  pub best_end : (i : ℕ) (b : ℕ × ℕ) → n ≤ i → b ≡ best_ahead i b
  unfolding best_target tab_from
  best_end i b h = let e : n - i ≡ 0 = omega arith in sym (ap (λ (m : ℕ). best_target T Q a (tab_from (egress_row_at egress) i m) b) e)

pub reach_none : (b : ℕ × ℕ) (x stop walk : ℕ) → x ≡ 0 → b ≡ with_reach b x stop walk
reach_none b x stop walk e = sym (ap (λ (y : ℕ). with_reach b y stop walk) e)

pub reach_some : (b r : ℕ × ℕ) (x stop walk : ℕ) → (x ≡ 0 → ⊥) → r ≡ better b (x - 1 + walk) stop → r ≡ with_reach b x stop walk
reach_some b r x stop walk h e =
    let z : x ≡ suc (x - 1) = omega arith in
    e ∙ sym (ap (λ (y : ℕ). with_reach b y stop walk) z)

module _ (T : Tables) (Q : Query) (a : Arrivals) (row : ℕ) (egress : List ℕ) (n : ℕ) where
  abbrev reach : ℕ → ℕ
  reach s = reached_by (get_or a.labels (record_of s row) Empty)

  row_turn : (e : ℕ × ℕ) (es : List (ℕ × ℕ)) (b : ℕ × ℕ) → row_target T Q a row (e ∷ es) b ≡ row_target T Q a row es (with_reach b (reach e.0) e.0 e.1)
  unfolding row_target
  row_turn e es b = go (reach e.0)
    where
      pick : (v : ℕ) (y : Bool) → elim y [ true ↦ row_target T Q a row es (v + e.1, e.0) | false ↦ row_target T Q a row es b ] ≡ row_target T Q a row es (cond y (v + e.1, e.0) b)
      pick v true = refl
      pick v false = refl

      go : (x : ℕ) → elim x [ zero ↦ row_target T Q a row es b | suc v ↦ elim (ltb (v + e.1) b.0) [ true ↦ row_target T Q a row es (v + e.1, e.0) | false ↦ row_target T Q a row es b ] ]
          ≡ row_target T Q a row es (with_reach b x e.0 e.1)
      go zero = refl
      go (suc v) = pick v (ltb (v + e.1) b.0)

  abbrev pub row_ahead : ℕ → ℕ × ℕ → ℕ × ℕ
  row_ahead i b = row_target T Q a row (tab_from (egress_row_at egress) i (n - i)) b

  pub row_first : (b : ℕ × ℕ) → n ≡ length egress / 2 → row_target T Q a row (egress_rows egress) b ≡ row_ahead 0 b
  row_first b e = ap (λ (m : ℕ). row_target T Q a row (tab_from (egress_row_at egress) 0 m) b) (omega arith)

  pub row_step : (i x : ℕ) (b b' : ℕ × ℕ) → i < n → x ≡ reach (get_or egress (i * 2) 0) → b' ≡ with_reach b x (get_or egress (i * 2) 0) (get_or egress (i * 2 + 1) 0) → row_ahead i b ≡ row_ahead (i + 1) b'
  unfolding tab_from
  row_step i x b b' h ev eb =
      let e : n - i ≡ suc (n - (i + 1)) = omega arith in
      ap (λ (m : ℕ). row_target T Q a row (tab_from (egress_row_at egress) i m) b) e ∙ row_turn (egress_row_at egress i) (tab_from (egress_row_at egress) (suc i) (n - (i + 1))) b
      ∙ ap₂ (λ (j : ℕ) (y : ℕ × ℕ). row_target T Q a row (tab_from (egress_row_at egress) j (n - (i + 1))) y) (sym (add-one i))
      (sym (eb ∙ ap (λ (y : ℕ). with_reach b y (get_or egress (i * 2) 0) (get_or egress (i * 2 + 1) 0)) ev))

  pub row_end : (i : ℕ) (b : ℕ × ℕ) → n ≤ i → b ≡ row_ahead i b
  unfolding row_target tab_from
  row_end i b h = let e : n - i ≡ 0 = omega arith in sym (ap (λ (m : ℕ). row_target T Q a row (tab_from (egress_row_at egress) i m) b) e)

-- the candidates in memory: one more, at the end
pub tab_more : {A : Type 0} (f : ℕ → A) (i n : ℕ) → tab_from f i (suc n) ≡ tab_from f i n ++ (f (i + n) ∷ [])
unfolding tab_from
tab_more f i zero = ap (λ (x : ℕ). f x ∷ []) (sym (add-zero i))
tab_more f i (suc n) = ap (λ (l : List _). f i ∷ l) (tab_more f (suc i) n ∙ ap (λ (x : ℕ). tab_from f (suc i) n ++ (f x ∷ [])) (omega arith))

get_d_end : (l : List ℕ) (i : ℕ) → length l ≤ i → get_or l i 0 ≡ 0
get_d_end [] i h = refl
get_d_end (x ∷ l) zero h = absurd (omega arith)
get_d_end (x ∷ l) (suc i) h = get_d_end l i (omega arith)

-- all zero
pub zeroed : {out : List ℕ} (n : ℕ) → out ≡ replicate n 0 → ZeroFrom out 0
zeroed n e = record { zeros = λ i h. ap (λ (l : List ℕ). get_or l i 0) e ∙ zero_at n i }

pub put_is : (old : List ℕ) (m total stop row : ℕ) → m * 3 + 3 ≤ length old → CandidatePut old (set (set (set old (m * 3) total) (m * 3 + 1) stop) (m * 3 + 2) row) m total stop row
put_is old m total stop row h =
    let a : List ℕ = set old (m * 3) total in
    let b : List ℕ = set a (m * 3 + 1) stop in
    let other : (i : ℕ) → (i ≡ m * 3 → ⊥) → (i ≡ m * 3 + 1 → ⊥) → (i ≡ m * 3 + 2 → ⊥) → get_or (set b (m * 3 + 2) row) i 0 ≡ get_or old i 0
    = λ i p q r. get_or-set_other b (m * 3 + 2) i row 0 r ∙ get_or-set_other a (m * 3 + 1) i stop 0 q ∙ get_or-set_other old (m * 3) i total 0 p in
    let x : get_or (set b (m * 3 + 2) row) (m * 3) 0 ≡ total
    = get_or-set_other b (m * 3 + 2) (m * 3) row 0 (λ z. omega arith) ∙ get_or-set_other a (m * 3 + 1) (m * 3) stop 0 (λ z. omega arith) ∙ get_or-set_same old (m * 3) total 0 (omega arith) in
    let y : get_or (set b (m * 3 + 2) row) (m * 3 + 1) 0 ≡ stop
    = get_or-set_other b (m * 3 + 2) (m * 3 + 1) row 0 (λ z. omega arith) ∙ get_or-set_same a (m * 3 + 1) stop 0 (simp length-set (omega arith)) in
    let w : get_or (set b (m * 3 + 2) row) (m * 3 + 2) 0 ≡ row = get_or-set_same b (m * 3 + 2) row 0 (simp length-set (omega arith)) in
    record {
      size = simp length-set;
      here = rw (x, y, w) refl;
      before = λ i l. other i (λ z. omega arith) (λ z. omega arith) (λ z. omega arith);
      after = λ i l. other i (λ z. omega arith) (λ z. omega arith) (λ z. omega arith);
    }

pub put_more : (old new : List ℕ) (m total stop row : ℕ) → CandidatePut old new m total stop row → candidates_in new (m + 1) ≡ candidates_in old m ++ ((total, stop, row) ∷ [])
put_more old new m total stop row h =
    let z : (k : ℕ) → k < m → candidate_at new k ≡ candidate_at old k
    = λ k l. rw (h.before (k * 3) (omega arith), h.before (k * 3 + 1) (omega arith), h.before (k * 3 + 2) (omega arith)) refl in
    ap (candidates_in new) (add-one m) ∙ tab_more (candidate_at new) 0 m
    ∙ ap₂ (λ (l : List (ℕ × ℕ × ℕ)) (x : ℕ × ℕ × ℕ). l ++ (x ∷ [])) (tab_ext (candidate_at new) (candidate_at old) m z) (ap (candidate_at new) (zero-add m) ∙ h.here)

pub put_zeros : (old new : List ℕ) (m total stop row : ℕ) → CandidatePut old new m total stop row → ZeroFrom old m → ZeroFrom new (m + 1)
put_zeros old new m total stop row h z = record { zeros = λ i l. h.after i (omega arith) ∙ z.zeros i (omega arith) }

-- the rows one by one
module _ (T : Tables) (Q : Query) (a : Arrivals) (top n : ℕ) where
  abbrev pub rows_ahead : ℕ → ℕ → List (ℕ × ℕ × ℕ)
  rows_ahead r last = candidates_from T Q a top (n - r) r last

  rows_turn : (k r last : ℕ) (b : ℕ × ℕ) (x : Bool) → row_target T Q a r Q.egress (never, never) ≡ b → (ltb b.0 last && leb b.0 (top + Q.settings.candidate_slack)) ≡ x
      → candidates_from T Q a top (suc k) r last ≡ elim x [ true ↦ (b.0, b.1, r) ∷ candidates_from T Q a top k (suc r) b.0 | false ↦ candidates_from T Q a top k (suc r) last ]
  unfolding candidates_from
  rows_turn k r last b x eb ex =
      ap (λ (y : ℕ × ℕ). elim (ltb y.0 last && leb y.0 (top + Q.settings.candidate_slack)) as (λ z. List (ℕ × ℕ × ℕ)) [ true ↦ (y.0, y.1, r) ∷ candidates_from T Q a top k (suc r) y.0 | false ↦ candidates_from T Q a top k (suc r) last ]) eb
      ∙ ap (λ (y : Bool). elim y as (λ z. List (ℕ × ℕ × ℕ)) [ true ↦ (b.0, b.1, r) ∷ candidates_from T Q a top k (suc r) b.0 | false ↦ candidates_from T Q a top k (suc r) last ]) ex

  module _ (r last slack : ℕ) (b : Target) (egress : List ℕ) (x : Bool) (h : r < n) (ee : Q.egress ≡ egress_rows egress) (es : Q.settings.candidate_slack ≡ slack)
      (eb : target_of b ≡ row_target T Q a r (egress_rows egress) (never, never)) (ex : x ≡ (ltb b.total last && leb b.total (top + slack))) where
    whole : rows_ahead r last ≡ elim x [ true ↦ (b.total, b.stop, r) ∷ rows_ahead (r + 1) b.total | false ↦ rows_ahead (r + 1) last ]
    whole =
        let e : n - r ≡ suc (n - (r + 1)) = omega arith in
        ap (λ (m : ℕ). candidates_from T Q a top m r last) e
        ∙ rows_turn (n - (r + 1)) r last (target_of b) x (ap (λ (l : List (ℕ × ℕ)). row_target T Q a r l (never, never)) ee ∙ sym eb) (ap (λ (y : ℕ). ltb b.total last && leb b.total (top + y)) es ∙ sym ex)
        ∙ ap (λ (j : ℕ). elim x as (λ z. List (ℕ × ℕ × ℕ)) [ true ↦ (b.total, b.stop, r) ∷ candidates_from T Q a top (n - (r + 1)) j b.total | false ↦ candidates_from T Q a top (n - (r + 1)) j last ]) (sym (add-one r))

    pub rows_take : x ≡ true → rows_ahead r last ≡ (b.total, b.stop, r) ∷ rows_ahead (r + 1) b.total
    rows_take z = whole ∙ ap (λ (y : Bool). elim y as (λ z. List (ℕ × ℕ × ℕ)) [ true ↦ (b.total, b.stop, r) ∷ rows_ahead (r + 1) b.total | false ↦ rows_ahead (r + 1) last ]) z

    pub rows_pass : x ≡ false → rows_ahead r last ≡ rows_ahead (r + 1) last
    rows_pass z = whole ∙ ap (λ (y : Bool). elim y as (λ z. List (ℕ × ℕ × ℕ)) [ true ↦ (b.total, b.stop, r) ∷ rows_ahead (r + 1) b.total | false ↦ rows_ahead (r + 1) last ]) z

  pub rows_end : (r last : ℕ) (l : List (ℕ × ℕ × ℕ)) → n ≤ r → l ≡ l ++ rows_ahead r last
  unfolding candidates_from
  rows_end r last l h = let e : n - r ≡ 0 = omega arith in sym (ap (λ (m : ℕ). l ++ candidates_from T Q a top m r last) e ∙ append-nil l)

  pub rows_begin : (last : ℕ) → candidates_from T Q a top n 0 last ≡ rows_ahead 0 last
  rows_begin last = let e : n ≡ n - 0 = omega arith in ap (λ (m : ℕ). candidates_from T Q a top m 0 last) e

  pub rows_put : (old new : List ℕ) (m total stop row r last : ℕ) (whole : List (ℕ × ℕ × ℕ)) → CandidatePut old new m total stop row → whole ≡ candidates_in old m ++ ((total, stop, row) ∷ rows_ahead r last)
      → whole ≡ candidates_in new (m + 1) ++ rows_ahead r last
  rows_put old new m total stop row r last whole h e =
      e ∙ sym (append_assoc (candidates_in old m) ((total, stop, row) ∷ []) (rows_ahead r last)) ∙ ap (λ (l : List (ℕ × ℕ × ℕ)). l ++ rows_ahead r last) (sym (put_more old new m total stop row h))
