-- The exported queries are made for a screen: question 15 first, then the call's own outcome. Assumes nothing.
use Prim.Native.Nat.{ℕ, zero, suc}
use mathlib.Core.Path.{◌≡◌, refl, sym, ap, ◌∙◌}
use mathlib.Core.Bool.{Bool, true, false}
use native.Mathlib.Omega.{arith}
use lib.ListN.{length}
use Rattle.door.specs.Door.{ask}
use Rattle.door.specs.Settings.{settings_ok}
use Rattle.tally.proofs.Laws.{the_screen}
use Rattle.model.specs.Search.{SearchAnswer}
use Rattle.model.specs.Promise.{TripTimes}
use Rattle.query_types.specs.declared.Lengths.{Lengths}
use Rattle.query_input.specs.Lent.{Lent, transfer_rows}
use Rattle.query_door.specs.Door.{query_verdict, query_question1, query_question2, query_question3, query_question4, query_question5, query_question6}
use Rattle.query_reply.specs.Outcome.{QueryAreas, QueryOutcome, query_lengths, query_settled, queue_full, refused}
use Rattle.query_call.specs.Call.{run_tbr_outcome, query_outcome}
use Rattle.promise.specs.Claims.{PromiseKept, call_for, ScreenMet}
use Rattle.promise.specs.Demands.{lent_answer, rust_answer_of}

-- no question of a query's door has the number 15
none_is_15 : (b₁ b₂ b₃ b₄ b₅ b₆ b₇ : Bool) → ask 1 b₁ (ask 14 b₂ (ask 2 b₃ (ask 3 b₄ (ask 4 b₅ (ask 5 b₆ (ask 6 b₇ 0)))))) ≡ 15 → ⊥
none_is_15 false b₂ b₃ b₄ b₅ b₆ b₇ e = omega arith
none_is_15 true false b₃ b₄ b₅ b₆ b₇ e = omega arith
none_is_15 true true false b₄ b₅ b₆ b₇ e = omega arith
none_is_15 true true true false b₅ b₆ b₇ e = omega arith
none_is_15 true true true true false b₆ b₇ e = omega arith
none_is_15 true true true true true false b₇ e = omega arith
none_is_15 true true true true true true false e = omega arith
none_is_15 true true true true true true true e = omega arith

verdict_not_15 : (x : Lent) (l : Lengths) → query_verdict x l ≡ 15 → ⊥
unfolding query_verdict
verdict_not_15 x l =
    let rows : ℕ = transfer_rows x.n (length x.transfers) in
    none_is_15 (query_question1 x.n) (settings_ok x.n.settings)
    (query_question2 x.t x.n (length x.built) (length x.patterns) (length x.distances) (length x.q) l)
    (query_question3 x.t x.built x.n rows) (query_question4 x.t x.built x.q x.n)
    (query_question5 x.t x.built x.transfers x.q x.n rows) (query_question6 x.t x.built x.q x.n)

settled_not_15 : (v : ℕ) (b : Bool) (a : SearchAnswer) (s : QueryAreas) → ((v ≡ 15) → ⊥) → (query_settled v b a s).reply.code ≡ 15 → ⊥
settled_not_15 zero true a s d e = omega arith
settled_not_15 zero false a s d e = omega arith
settled_not_15 (suc k) b a s d e = d e

-- A CALL whose outcome is settled by the verdict and question 8
module _ (x : Lent) (o : QueryAreas → QueryOutcome) (a : SearchAnswer) (is : (s : QueryAreas) → o s ≡ query_settled (query_verdict x (query_lengths s)) (queue_full a s) a s) where
  not_15 : (s : QueryAreas) → (o s).reply.code ≡ 15 → ⊥
  not_15 s e =
      settled_not_15 (query_verdict x (query_lengths s)) (queue_full a s) a s (verdict_not_15 x (query_lengths s))
      (sym (ap (λ (y : QueryOutcome). y.reply.code) (is s)) ∙ e)

  kept_for : (screen : ℕ) (s : QueryAreas) (W : TripTimes) → call_for screen o s ≡ o s → PromiseKept x s o a W → PromiseKept x s (call_for screen o) a W
  kept_for screen s W e k =
      record { code = ap (λ (y : QueryOutcome). y.reply.code) e ∙ k.code; answer = e ∙ k.answer; demand3 = k.demand3; pareto = k.pareto }

  screened : ScreenMet x o a
  screened =
      let laws = the_screen (λ (y : QueryOutcome). y.reply.code) in
      record {
        no_screen = λ screen s h. laws.no_screen screen (refused 15 s) (o s) h;
        valid = λ screen s h. laws.valid screen (refused 15 s) (o s) h;
        only_15 = not_15;
        own_answer = λ screen s e. laws.answered screen (refused 15 s) (o s) refl e;
        kept = λ screen s W h k. kept_for screen s W (laws.valid screen (refused 15 s) (o s) h) k;
      }

pub screen_query : (x : Lent) → ScreenMet x (query_outcome x) (lent_answer x)
unfolding query_outcome
screen_query x = screened x (query_outcome x) (lent_answer x) (λ s. refl)

pub screen_rust : (x : Lent) → ScreenMet x (run_tbr_outcome x) (rust_answer_of x)
unfolding run_tbr_outcome
screen_rust x = screened x (run_tbr_outcome x) (rust_answer_of x) (λ s. refl)
