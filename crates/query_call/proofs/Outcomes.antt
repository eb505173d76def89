-- The outcome of a call from its verdict: refused, or admitted and finished. Assumes nothing.
use Prim.Native.Nat.{ℕ, zero, suc, ◌/◌, ◌<◌}
use mathlib.Core.Path.{◌≡◌, refl, sym, ap, ap₂, ◌∙◌}
use mathlib.Core.Bool.{Bool, true, false}
use mathlib.Core.List.{List}
use native.Mathlib.Omega.{arith}
use lib.ListN.{length}
use lib.Ieee.{Float}
use Rattle.model.specs.Search.{SearchAnswer, search_answer, run_tbr, query}
use Rattle.query_types.specs.declared.Head.{Head}
use Rattle.search_state.specs.View.{memory}
use Rattle.search_state.proofs.Labels.{labels_are}
use Rattle.query_input.specs.Lent.{Lent, tables_of, query_of}
use Rattle.query_door.specs.Door.{query_verdict}
use Rattle.query_input.specs.Sane.{Admitted}
use Rattle.query_types.specs.Layout.{lay_of}
use Rattle.rounds.specs.Rounds.{Ended}
use Rattle.query_reply.specs.declared.Reply.{Reply}
use Rattle.query_reply.specs.Outcome.{QueryAreas, query_areas, QueryOutcome, reply, query_lengths, cleared, overflown, answered, query_settled, queue_full}
use Rattle.door.specs.declared.Refusal.{Refusal}
use Rattle.door.specs.Door.{number_of}
use Rattle.door.proofs.Laws.{number_above}
use Rattle.query_call.specs.declared.Mode.{Mode}
use Rattle.query_call.specs.declared.Mode.TheVariants.{RunTbr, Query}
use Rattle.query_call.specs.Call.{run_tbr_outcome, query_outcome}
use Rattle.query_call.specs.Parts.{outcome_by, mode_by, answer_by}
use Rattle.query_reply.specs.Finish.{query_outcome_of, Finished, left}
use Rattle.query_reply.proofs.Ends.{agrees}

-- a refusal by questions 1 to 6
pub refused_is : (mode : Mode) (x : Lent) (s : QueryAreas) (q : Refusal) {code : ℕ} → code ≡ number_of q → number_of q ≡ query_verdict x (query_lengths s) → query_outcome_of (reply code 0 0 0) s ≡ outcome_by mode x s
unfolding run_tbr_outcome query_outcome
refused_is mode x s q {code} f e = go mode code (f ∙ e) (omega (arith, number_above q))
  where
    go : (mode : Mode) (code : ℕ) → code ≡ query_verdict x (query_lengths s) → 0 < code → query_outcome_of (reply code 0 0 0) s ≡ outcome_by mode x s
    go mode zero e h = absurd (omega arith)
    go RunTbr (suc k) e h = ap (λ (v : ℕ). query_settled v (queue_full (run_tbr (tables_of x) (query_of x)) s) (run_tbr (tables_of x) (query_of x)) s) e
    go Query (suc k) e h = ap (λ (v : ℕ). query_settled v (queue_full (query (tables_of x) (query_of x)) s) (query (tables_of x) (query_of x)) s) e

-- admitted
pub admitted_is : (mode : Mode) (x : Lent) (s : QueryAreas) {o : QueryOutcome} → 0 ≡ query_verdict x (query_lengths s)
    → o ≡ query_settled 0 (queue_full (answer_by mode x) s) (answer_by mode x) s → o ≡ outcome_by mode x s
unfolding run_tbr_outcome query_outcome run_tbr query
admitted_is RunTbr x s e h = h ∙ ap (λ (v : ℕ). query_settled v (queue_full (answer_by RunTbr x) s) (answer_by RunTbr x) s) e
admitted_is Query x s e h = h ∙ ap (λ (v : ℕ). query_settled v (queue_full (answer_by Query x) s) (answer_by Query x) s) e

-- the areas that the rounds leave are as long as they came
pub record SameSizes (s s₁ : QueryAreas) : Type 0 where
  pub labels : length s₁.labels ≡ length s.labels
  pub label_distances : length s₁.label_distances ≡ length s.label_distances
  pub work : length s₁.work ≡ length s.work
  pub queue_a : length s₁.queue_a ≡ length s.queue_a
  pub queue_b : length s₁.queue_b ≡ length s.queue_b
  pub candidates : s₁.candidates ≡ s.candidates

overflown_same : (s s₁ : QueryAreas) → SameSizes s s₁ → overflown s₁ ≡ overflown s
overflown_same s s₁ e =
    rw (e.labels, e.label_distances, e.work, e.queue_a, e.queue_b, e.candidates) refl

module _ (x : Lent) (mode : Mode) (s : QueryAreas) {s₁ s' : QueryAreas} {h : Head} {r : Reply} (A : Admitted x (query_lengths s))
    (E : Ended x (mode_by mode x) (length s.queue_a / 4) (lay_of x.n) (memory s₁.work s₁.labels s₁.label_distances h))
    (e : SameSizes s s₁) (F : Finished x.n x.q h.full s₁ s' r) where
  abbrev a : SearchAnswer
  a = answer_by mode x

  full_is : h.full ≡ queue_full a s
  unfolding search_answer
  full_is = E.full

  over : h.full ≡ true → query_outcome_of r s' ≡ query_settled 0 (queue_full a s) a s
  over f = F.over f ∙ overflown_same s s₁ e ∙ ap (λ (b : Bool). query_settled 0 b a s) (sym f ∙ full_is)

  given : h.full ≡ false → query_outcome_of r s' ≡ answered a s
  unfolding search_answer
  given f =
      let R = F.replied f _ _ _ (agrees x (query_lengths s) A (mode_by mode x) (length s.queue_a / 4) s₁.work s₁.labels s₁.label_distances h E f) in
      let L = labels_are E.written (omega (arith, E.sized.rows)) E.sized.metres _ (E.labels f) in
      ap₂ query_outcome_of R.reply_is (F.rest f ∙ areas_same L.0 L.1 R.rows_are)
    where
      areas_same : {ls : List ℕ} {ds : List Float} {rows : List ℕ} → s₁.labels ≡ ls → s₁.label_distances ≡ ds → s'.candidates ≡ rows
          → left s₁ s'.candidates ≡ query_areas ls ds (cleared s.work) (cleared s.queue_a) (cleared s.queue_b) rows
      areas_same el ed er = rw (el, ed, er, e.work, e.queue_a, e.queue_b) refl

  pub finished : query_outcome_of r s' ≡ query_settled 0 (queue_full a s) a s
  finished = go h.full refl
    where
      go : (b : Bool) → h.full ≡ b → query_outcome_of r s' ≡ query_settled 0 (queue_full a s) a s
      go true f = over f
      go false f = given f ∙ ap (λ (b : Bool). query_settled 0 b a s) (sym f ∙ full_is)
