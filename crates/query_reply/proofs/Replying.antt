-- The reply and the candidate rows, by what the totals found.
use Prim.Native.Nat.{ℕ, zero, suc, ◌+◌, ◌*◌, ◌-◌, ◌≤◌, ◌<◌}
use mathlib.Core.Path.{◌≡◌, refl, sym, ap, ap₂, subst, ◌∙◌}
use mathlib.Core.Bool.{Bool, true, false}
use mathlib.Core.List.{List, [], ◌∷◌, ◌++◌}
use native.Mathlib.Omega.{arith}
use lib.ListN.{length, get_or, drop, replicate, length-drop, length-replicate, get_or-replicate}
use lib.Seq.{drop-cons, get_or-drop, ext_get_or}
use lib.Ieee.{Float}
use borrow.Author.Tests.{eq-eqb, ne_eqb}
use Rattle.loops.specs.Count.{tab_from}
use Rattle.loops.proofs.Count.{length_tab_from}
use Rattle.walk_time.specs.Walk.{round_count}
use Rattle.walk_time.proofs.Laws.{rounds_most}
use Rattle.model.specs.Tables.{Tables, Query, rounds_of, never}
use Rattle.model.specs.Search.{Arrivals, best_target, candidates_from}
use Rattle.arc_flags.specs.Flags.{egress_rows}
use Rattle.best_target.specs.Totals.{EgressOk, candidate_at, candidates_in, ZeroFrom}
use Rattle.query_types.specs.declared.QueryCounts.{QueryCounts}
use Rattle.query_input.specs.Lent.{egress_part}
use Rattle.query_reply.specs.declared.Reply.{Reply}
use Rattle.query_reply.specs.Outcome.{reply, candidate_words, candidate_rows}
use Rattle.query_reply.specs.Finish.{Ending, AnswerAgrees, best_of, chosen_of, Replied}

-- the candidates from the i-th on, and what follows them
words_from : (out : List ℕ) (i m : ℕ) → (i + m) * 3 ≤ length out → drop (i * 3) out ≡ candidate_words (tab_from (candidate_at out) i m) ++ drop ((i + m) * 3) out
unfolding tab_from candidate_words
words_from out i zero h = let z : i * 3 ≡ (i + 0) * 3 = omega arith in ap (λ (k : ℕ). drop k out) z
words_from out i (suc m) h =
    let a : suc (i * 3) ≡ i * 3 + 1 = omega arith in
    let b : suc (i * 3 + 1) ≡ i * 3 + 2 = omega arith in
    let e : suc (i * 3 + 2) ≡ suc i * 3 = omega arith in
    let z : (suc i + m) * 3 ≡ (i + suc m) * 3 = omega arith in
    drop-cons out (i * 3) 0 (omega arith)
    ∙ ap (λ (l : List ℕ). get_or out (i * 3) 0 ∷ l) (ap (λ (k : ℕ). drop k out) a ∙ drop-cons out (i * 3 + 1) 0 (omega arith)
    ∙ ap (λ (l : List ℕ). get_or out (i * 3 + 1) 0 ∷ l) (ap (λ (k : ℕ). drop k out) b ∙ drop-cons out (i * 3 + 2) 0 (omega arith)
    ∙ ap (λ (l : List ℕ). get_or out (i * 3 + 2) 0 ∷ l) (ap (λ (k : ℕ). drop k out) e ∙ words_from out (suc i) m (omega arith)
    ∙ ap (λ (k : ℕ). candidate_words (tab_from (candidate_at out) (suc i) m) ++ drop k out) z)))

zeros_from : (out : List ℕ) (m : ℕ) → length out ≡ 39 → ZeroFrom out m → drop (m * 3) out ≡ replicate (39 - m * 3) 0
zeros_from out m e Z =
    ext_get_or 0 (drop (m * 3) out) (replicate (39 - m * 3) 0) (simp (length-drop, length-replicate) (ap (λ (k : ℕ). k - m * 3) e))
    (λ i h. get_or-drop (m * 3) out i 0 ∙ Z.zeros (m * 3 + i) (omega arith) ∙ sym (get_or-replicate (39 - m * 3) i 0 0 (omega (arith, length-drop (m * 3) out))))

-- the candidate rows are the candidates in them
pub rows_are : (out : List ℕ) (m : ℕ) → length out ≡ 39 → m ≤ 13 → ZeroFrom out m → out ≡ candidate_rows (candidates_in out m)
rows_are out m e h Z =
    let z : (0 + m) * 3 ≡ m * 3 = omega arith in
    words_from out 0 m (omega arith)
    ∙ ap (λ (l : List ℕ). candidate_words (candidates_in out m) ++ l)
    (ap (λ (k : ℕ). drop k out) z ∙ zeros_from out m e Z ∙ ap (λ (k : ℕ). replicate (39 - k * 3) 0) (sym (length_tab_from (candidate_at out) 0 m)))

module _ (T : Tables) (Q : Query) (a : Arrivals) where
  replied : (b : ℕ × ℕ) (cs : List (ℕ × ℕ × ℕ)) {r : Reply} {rows : List ℕ} → b ≡ best_of T Q a → cs ≡ chosen_of T Q a → r ≡ reply 0 b.0 b.1 (length cs) → rows ≡ candidate_rows cs
      → Replied T Q a r rows
  replied b cs eb ec er es =
      record {
        reply_is = er ∙ ap₂ (λ (y : ℕ × ℕ) (z : List (ℕ × ℕ × ℕ)). reply 0 y.0 y.1 (length z)) eb ec;
        rows_are = es ∙ ap candidate_rows ec;
      }

  abbrev by_test : Bool → List (ℕ × ℕ × ℕ)
  by_test t = elim t as (λ w. List (ℕ × ℕ × ℕ)) [ true ↦ [] | false ↦ candidates_from T Q a (best_of T Q a).0 (suc (rounds_of Q)) 0 never ]

  module _ {n : QueryCounts} {q work labels : List ℕ} {distances : List Float} (g : AnswerAgrees T Q a n q work labels distances) where
    best_is : (b : ℕ × ℕ) (egress : List ℕ) → egress ≡ egress_part q n → b ≡ best_target T Q a (egress_rows egress) (never, never) → b ≡ best_of T Q a
    best_is b egress ee e = e ∙ ap (λ (l : List (ℕ × ℕ)). best_target T Q a l (never, never)) (ap egress_rows ee ∙ sym g.egress)

    -- "no way"
    pub no_way : (b : ℕ × ℕ) (egress rows rows' : List ℕ) → egress ≡ egress_part q n → b ≡ best_target T Q a (egress_rows egress) (never, never) → b.0 ≡ never
        → length rows ≡ 39 → rows' ≡ replicate (length rows) 0 → Replied T Q a (reply 0 b.0 b.1 0) rows'
    unfolding candidate_words
    no_way b egress rows rows' ee e n el er =
        let eb = best_is b egress ee e in
        replied b [] eb
        (sym (ap by_test (eq-eqb (best_of T Q a).0 never (ap (λ (y : ℕ × ℕ). y.0) (sym eb) ∙ n))))
        refl (er ∙ ap (λ (k : ℕ). replicate k 0) el)

    pub some_way : (b : ℕ × ℕ) (egress rows : List ℕ) (rounds m : ℕ) → egress ≡ egress_part q n → b ≡ best_target T Q a (egress_rows egress) (never, never) → (b.0 ≡ never → ⊥)
        → rounds ≡ rounds_of Q → length rows ≡ 39 → m ≤ 13 → ZeroFrom rows m → candidates_in rows m ≡ candidates_from T Q a b.0 (suc rounds) 0 never
        → Replied T Q a (reply 0 b.0 b.1 m) rows
    some_way b egress rows rounds m ee e ne er el h Z ec =
        let eb = best_is b egress ee e in
        let top : b.0 ≡ (best_of T Q a).0 = ap (λ (y : ℕ × ℕ). y.0) eb in
        replied b (candidates_in rows m) eb
        (ec ∙ ap₂ (λ (y k : ℕ). candidates_from T Q a y (suc k) 0 never) top er
        ∙ sym (ap by_test (ne_eqb (best_of T Q a).0 never (λ z. ne (top ∙ z)))))
        (ap (reply 0 b.0 b.1) (sym (length_tab_from (candidate_at rows) 0 m)))
        (rows_are rows m el h Z)

-- the egress rows, as a part of the query's numbers
pub egress_in : {n : QueryCounts} {q work labels egress : List ℕ} {distances : List Float} → Ending n q work labels distances → egress ≡ egress_part q n
    → EgressOk n.timetable.stops egress
egress_in {n} E e = subst (λ (l : List ℕ). EgressOk n.timetable.stops l) (sym e) E.egress

pub rounds_below : (wanted transfers rounds : ℕ) → rounds ≡ round_count wanted transfers → rounds < 13
rounds_below wanted transfers rounds e = omega (arith, rounds_most wanted transfers)
